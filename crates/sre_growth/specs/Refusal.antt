-- What others may see of the seal: the fact that an allocation failed, and that it has one proof.
-- Public clauses rest on it.
pub use Rattle.sre_refusal_seal.specs.Seal.{Refused, one_refused}
