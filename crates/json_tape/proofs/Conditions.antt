-- Conditions that hold.
pub use Rattle.std.proofs.lemmas.Bool.{and_parts as both, or_parts as neither}
