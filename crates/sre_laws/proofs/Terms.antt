-- The words and the laws from elsewhere, and the words of specs/, which proofs of this crate name.
pub use Rattle.sre_engine.specs.Codes.{items_of, words_of}
pub use Rattle.sre_engine.specs.Found.{Asked}
pub use Rattle.sre_engine.specs.Grammar.{ReadsItem, Whole, behind_block}
pub use Rattle.sre_engine.specs.Remembered.{IsRemembered, kept_positions, step_bound}
pub use Rattle.sre_engine.specs.Requests.{asked_of, code_of, end_of, start_of}
pub use Rattle.sre_engine.specs.StepBounds.{IsStepBound, IsWindow}
pub use Rattle.sre_laws.specs.TwoRuns.{words_of_two_runs}
