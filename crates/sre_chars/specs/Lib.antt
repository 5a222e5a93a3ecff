pub mod Categories
pub mod Errors
pub mod Lists
pub mod Numbers
pub mod Tables
pub mod Texts
