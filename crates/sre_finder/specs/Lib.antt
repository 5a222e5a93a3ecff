pub mod Views
pub mod Finders
pub mod Spans
pub mod FinderIters
pub mod Kepts
pub mod SpanIters
pub mod Terms
