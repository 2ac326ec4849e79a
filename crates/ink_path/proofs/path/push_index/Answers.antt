use Rattle.std.proofs.Common.{arith}
use Rattle.std.proofs.lemmas.Result.{err_from_is_err_and, on_err_weaker}
use Rattle.ink_path.proofs.Writing.{index_written}
use Rattle.ink_path.proofs.path.push_index.Goals as goal

pub returns-in_err-digits-clause-memory : goal.returns-in_err-digits-clause-memory
returns-in_err-digits-clause-memory c =
    let p = err_from_is_err_and c.from_residual.result c.from_residual.ensures.1 in
    rw p.1 (index_written c.args.index (omega (arith, c.ranges.index.fits)))

pub returns-clause-memory : goal.returns-clause-memory
returns-clause-memory c = on_err_weaker c.push_str.result (λ _. index_written c.args.index (omega (arith, c.ranges.index.fits))) c.push_str.ensures.full
