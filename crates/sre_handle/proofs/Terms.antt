-- The words and the laws from elsewhere, and the words of specs/, which proofs of this crate name.
pub use Rattle.std.proofs.Common.{List, T, [], ap, lit<, refl, subst, sym, true, ◌&&◌, ◌++◌, ◌∷◌, ◌≡◌, ℕ}
pub use Rattle.std.proofs.alloc.Calls.{Goes-blank}
pub use Rattle.std.proofs.cell.Inside.{Good, one}
pub use Rattle.std.proofs.impls.GlobalAllocator.TheImpl.Met.{passed}
pub use Rattle.std.proofs.raw_atomic.Walks.{leaves, proved_at}
pub use Rattle.std.specs.contracts.impls.GlobalAllocator.TheImpl.{dict, ghosts}
pub use Rattle.std.specs.declared.option.Option.{Option}
pub use Rattle.std.specs.declared.option.Option.TheVariants.{None, Some}
pub use Rattle.sre_chars.specs.Tables.{Table}
pub use Rattle.sre_finder.specs.Kepts.{Suits}
pub use base.Fml.{fex, flft, ftrue}
pub use base.Fraction.{full_share}
pub use base.Logic.{SProp, emp, ent, id⊢}
pub use contract.BorrowLft.{◌⊑◌, ⊑_static}
pub use contract.Lifetimes.{Lfts}
pub use contract.Monad.{fact, fact_i}
pub use contract.Running.{tables}
pub use denote.Exit.{no, yes}
pub use denote.Laws.{Is, shows}
pub use denote.Param.{arg, bounded, layout, layouts, param}
pub use denote.Param.Laws.{arg_laws, param_laws}
pub use denote.Param.NoDrop.{glues}
pub use denote.RattleType.{RattleType, owns}
pub use denote.RawPtr.{Ptr, RawPtr, block_ptr, null_ptr, ptr_val}
pub use denote.Shadow.{makes_shadow}
pub use denote.Signature.{plain, types_at}
pub use denote.Steps.{heard, nothing, only, peeks}
pub use denote.Struct.Struct.{Struct}
pub use denote.Triple.Call.{calls_at, calls_at_last}
pub use denote.Triple.Clauses.{Lasts, lasts}
pub use denote.Triple.Entry.{alive}
pub use denote.Triple.Spec.{triple_of}
pub use denote.Triple.Table.{framed}
pub use denote.Triple.Walked.{Goes-dropped, Stays, stay_dropped, walk_of}
pub use mir.MapTy.{inst_fn}
pub use mir.Syntax.{Dict, a_type, dcons, dnil, impl, tcons, tnil, ty_ptr}
pub use mir.Val.{Val, WT, has_ty, of_list, vcons, vnil, vstruct, vunit}
pub use prog.Wp.{WpFn}
pub use seplogic.Ra.Ura.{Ura}
pub use types.ByLocal.{alloc_all, env, free_all, get, get_in, lands_as, lands_last, look_at, pass_all, sets}
pub use types.Logic.{Logic, sem}
pub use types.Part.{agg, sub, whole}
pub use types.Run.{and_then, blocks, enter, exec, first, fld, lit, no_more, of_opd, returns, stop, unit_lit}
pub use types.Tokens.{lft_new}
pub use Rattle.sre_handle.specs.Heap.{heap_box}
pub use Rattle.sre_handle.specs.Slots.{held}
