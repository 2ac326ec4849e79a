use Rattle.std.proofs.Common.{◌∙◌, inl, inr, sym}
use Rattle.ink_path.proofs.Reading.{no_path}
use Rattle.ink_path.proofs.path.read_path.Goals as goal

pub returns-then-not-is_path-clause-err : goal.returns-then-not-is_path-clause-err
returns-then-not-is_path-clause-err c = inr (c.at_root.ensures, no_path _ (sym c.is_path.ensures ∙ c.if-not-is_path.true))

pub returns-in-Err-clause-err : goal.returns-in-Err-clause-err
returns-in-Err-clause-err c = inl (c.at_root-in-Err.ensures, sym c.is_path.ensures ∙ c.if-not-is_path.false)
