use Rattle.std.proofs.lemmas.Result.{err_from_is_err_and}
use Rattle.ink_path.proofs.Writing.{dots_written, part_written, texts_written}
use Rattle.ink_path.proofs.path.push_parts.Goals as goal

pub loop-index-preserved : goal.loop-index-preserved
loop-index-preserved c =
    part_written c.args.parts.now c.loop-index.index c.index-parts-index.result _ _ _ _ c.loop-index-test.true c.index-parts-index.is c.loop-index.invariant
    c.in_ok-push_dot.ensures.text c.in_ok-push_part.ensures.text

pub returns-in_err-push_dot-clause-memory : goal.returns-in_err-push_dot-clause-memory
returns-in_err-push_dot-clause-memory c =
    let p = err_from_is_err_and c.from_residual.result c.from_residual.ensures.1 in
    rw p.1 (dots_written c.args.parts.now c.loop-index.index c.loop-index-test.true c.in_err-push_dot.ensures.memory)

pub returns-in_err-push_part-clause-memory : goal.returns-in_err-push_part-clause-memory
returns-in_err-push_part-clause-memory c =
    let p = err_from_is_err_and c.from_residual-in_err-push_part.result c.from_residual-in_err-push_part.ensures.1 in
    rw p.1 (texts_written c.args.parts.now c.loop-index.index c.index-parts-index.result c.loop-index-test.true c.index-parts-index.is c.in_err-push_part.ensures.memory)
