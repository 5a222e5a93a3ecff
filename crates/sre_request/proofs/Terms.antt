-- The words and the laws from elsewhere, and the words of specs/, which proofs of this crate name.
pub use Rattle.std.proofs.Common.{IfSome, List, None, Option, Some, ap, arith, false, nat_eq, not, refl, rules, subst}
pub use Rattle.std.proofs.Common.{suc, sym, true, zero, ◌&&◌, ◌+◌, ◌-◌, ◌<◌, ◌∙◌, ◌≡◌, ◌≢◌, ◌≤◌, ℕ}
pub use Rattle.sre_code.specs.declared.code.Code.{Code}
pub use Rattle.sre_model.proofs.OneCharacter.{one_item_takes, set_stands, set_test_end}
pub use Rattle.sre_model.specs.LeadingRuns.{Counted}
pub use Rattle.sre_request.specs.Runs.{run_of}
pub use Rattle.sre_request.specs.Terms.{Fold, SetStands, SreOpcode, StringCursor, Table, Word, contains, folded, holds}
pub use Rattle.sre_request.specs.Terms.{is_member, items_of}
