-- The words from elsewhere which contracts and definitions of this crate name.
pub use Rattle.regex_compile.specs.Implements.{HasPaths, Implements}
pub use Rattle.regex_hir.specs.Meaning.{cat_all, meaning}
pub use Rattle.regex_hir.specs.Re.{Re}
pub use Rattle.regex_nfa.specs.declared.nfa.Nfa.{Nfa}
