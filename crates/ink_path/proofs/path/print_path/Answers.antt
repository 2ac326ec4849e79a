use Rattle.std.proofs.Common.{◌≢◌, [], map, subst}
use Rattle.std.proofs.lemmas.Result.{err_from_is_err_and}
use Rattle.ink_model.specs.Text.Bytes.{joined}
use Rattle.ink_model.specs.Story.Path.{part_text}
use Rattle.ink_path.proofs.Back.{reads_back}
use Rattle.ink_path.proofs.Writing.{relative_written, text_written}
use Rattle.ink_path.proofs.path.print_path.Goals as goal

pub returns-in_err-push-clause-reads_back : goal.returns-in_err-push-clause-reads_back
returns-in_err-push-clause-reads_back c = reads_back c.args.path.now

pub returns-in_err-push_parts-clause-reads_back : goal.returns-in_err-push_parts-clause-reads_back
returns-in_err-push_parts-clause-reads_back c = reads_back c.args.path.now

pub returns-clause-reads_back : goal.returns-clause-reads_back
returns-clause-reads_back c = reads_back c.args.path.now

pub returns-in_err-push-clause-memory : goal.returns-in_err-push-clause-memory
returns-in_err-push-clause-memory c =
    let p = err_from_is_err_and c.from_residual.result c.from_residual.ensures.1 in
    rw p.1 (relative_written c.args.path.now.relative (joined 46 (map part_text c.args.path.now.parts)) c.if-path.true)

pub returns-in_err-push_parts-clause-memory : goal.returns-in_err-push_parts-clause-memory
returns-in_err-push_parts-clause-memory c =
    let p = err_from_is_err_and c.from_residual-in_err-push_parts.result c.from_residual-in_err-push_parts.ensures.1 in
    let path = c.args.path.now in
    let some = subst (λ ps. joined 46 (map part_text ps) ≢ []) c.as_slice.ensures c.in_err-push_parts.ensures.memory in
    rw p.1 (text_written path.relative (joined 46 (map part_text path.parts)) some)
