-- The words and the laws from elsewhere, and the words of specs/, which proofs of this crate name.
pub use Rattle.std.proofs.Common.{Bor, IfSome, List, None, Option, Some, ap, arith, length, map, refl, rules, subst}
pub use Rattle.std.proofs.Common.{sym, ◌-◌, ◌<◌, ◌∙◌, ◌≡◌, ◌≤◌, ℕ}
pub use Rattle.regex_dfa.specs.Search.{IsLeast, end_from}
pub use Rattle.regex_hir.specs.Re.{Trace, accept, attempt}
pub use Rattle.regex_nfa.specs.Paths.{Accepts}
pub use Rattle.sre_automata.specs.Told.{Contains, ContainsAny, EndsAt, IsBetween, NoneBetween, NoneLeft, NoneUpTo}
pub use Rattle.sre_automata.specs.Terms.{HasPaths, Implements, Nfa, Re, cat_all, meaning}
