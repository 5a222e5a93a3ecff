-- Why no bytecode is written: the numbers of the causes.
-- Public clauses rest on it.
use Rattle.std.specs.Prelude.{ℕ}
pub use Rattle.sre_emit.specs.declared.error.EmitError.{EmitError}
pub use Rattle.sre_emit.specs.declared.error.EmitError.TheVariants.{Memory, TooLong, TooDeep, BadPart}

abbrev pub emit_error_number : EmitError → ℕ
emit_error_number Memory = 1
emit_error_number TooLong = 2
emit_error_number TooDeep = 3
emit_error_number BadPart = 4
