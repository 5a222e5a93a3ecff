-- The words and the laws from elsewhere, and the words of specs/, which proofs of this crate name.
pub use Rattle.std.proofs.Common.{Bool, List, None, Option, Some, [], ap, arith, cond, drop, false, is_some, length}
pub use Rattle.std.proofs.Common.{length-append, length-drop, map, min, nat_eq, nat_le, nat_lt, refl, reverse}
pub use Rattle.std.proofs.Common.{slice_index, slice_index_or, subst, suc, sym, take, true, zero, ◌%◌, ◌*◌, ◌++◌, ◌+◌}
pub use Rattle.std.proofs.Common.{◌-◌, ◌/◌, ◌<◌, ◌↔◌, ◌∙◌, ◌∷◌, ◌≡◌, ◌≢◌, ◌≤◌, ℕ}
pub use Rattle.std.proofs.Math.Seq.{drop-append_seam, drop-cons, drop-length, take-append_seam}
pub use Rattle.std.proofs.lemmas.Bool.{and_parts}
pub use Rattle.std.proofs.lemmas.Bool.Decides.{nat_tests}
pub use Rattle.std.proofs.lemmas.List.{append_assoc, get_or_default, reverse-reverse}
pub use Rattle.std.proofs.lemmas.Result.{IfErr-weaker, IfOk-weaker, err_from_is_err_and}
pub use Rattle.std.specs.List.{All}
pub use Rattle.sre_model.specs.Tree.{Empty, Only, Or, Plain, Then, Tree}
pub use Rattle.sre_emit.specs.Emitting.{BadPart, HasTree, HaveAlternatives, HaveTrees, Item, LawfulSet, LawfulTree}
pub use Rattle.sre_emit.specs.Emitting.{Memory, Part, TooDeep, Wrote, all, capped, has_alternatives, has_literals_alone}
pub use Rattle.sre_emit.specs.Emitting.{in_order, item_has_alternatives, item_of, items_depth, leading, packed}
pub use Rattle.sre_emit.specs.Emitting.{parts_depth, set_item_of, spread, tree_of, width}
