use Rattle.std.proofs.Common.{◌-◌, ◌++◌, length, drop, ap, ◌∙◌, List}
use Rattle.std.proofs.lemmas.List.{take-append-drop}
use Rattle.std.proofs.lemmas.Result.{on_err_weaker}
use Rattle.ink_model.specs.Run.Configuration.{Section}
use Rattle.ink_out.proofs.opened.note_below.Goals as goal

pub returns-clause-err : goal.returns-clause-err
returns-clause-err c =
    let below = length c.args.sections.now - 1 in
    on_err_weaker c.note.result (λ same. (same.0, ap (λ (s : List Section). s ++ drop below c.args.sections.now) same.1 ∙ take-append-drop below c.args.sections.now)) c.note.ensures.err
