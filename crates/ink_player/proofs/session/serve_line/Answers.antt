use Rattle.std.proofs.Common.{◌<◌, ◌≡◌, length, Ok, Err, sym, vec_len, arith}
use Rattle.std.proofs.lemmas.Bool.{eqb-false, eqb-true}
use Rattle.ink_model.specs.declared.limits.TheConstants.{MAX_LINE}
use Rattle.ink_player.proofs.Endings.{ends_not, ends_once}
use Rattle.ink_player.proofs.Sessions.{no_last, no_line, none_left, whole_unserved, last_unserved, last_served, answers_as}
use Rattle.ink_player.proofs.Failures.{unfailed, unwritten}
use Rattle.ink_player.proofs.session.serve_line.Goals as goal

pub returns-in-Err-clause-next : goal.returns-in-Err-clause-next
returns-in-Err-clause-next g c = no_line g.F.TurnFn.log g.F.TurnFn.refusals g.O.Watcher.state _ _ _ _ _ _ _ c.in-Err.ensures.bound c.bounds.ensures _ c.in-Err.fault c.in-Err.ensures.gives

pub returns-in-Err-answer_line-clause-next : goal.returns-in-Err-answer_line-clause-next
returns-in-Err-answer_line-clause-next g c =
    whole_unserved g.F.TurnFn.log g.F.TurnFn.refusals g.O.Watcher.state _ _ _ _ _ _ _ c.in-Ok.ensures.bound c.bounds.ensures _ _ c.in-Whole.line.items _ c.in-Err-answer_line.fault (rw c.in-Whole.is at c.in-Ok.ensures.gives)
    (answers_as g.F.TurnFn.log g.F.TurnFn.refusals g.O.Watcher.state _ _ _ _ _ _ _ _ (Err c.in-Err-answer_line.fault) c.deref.ensures.value c.in-Err-answer_line.ensures.answers)

pub returns-in-Err-answer_line-2-clause-next : goal.returns-in-Err-answer_line-2-clause-next
returns-in-Err-answer_line-2-clause-next g c =
    let some : 0 < length c.in-Last.line.items = omega (arith, eqb-false (vec_len c.in-Last.line) 0 (sym c.if-is_empty.ensures), c.in-Last.line.ok.0) in
    last_unserved g.F.TurnFn.log g.F.TurnFn.refusals g.O.Watcher.state _ _ _ _ _ _ _ c.in-Ok.ensures.bound c.bounds.ensures _ _ c.in-Last.line.items _ c.in-Err-answer_line-2.fault (rw c.in-Last.is at c.in-Ok.ensures.gives) some
    (answers_as g.F.TurnFn.log g.F.TurnFn.refusals g.O.Watcher.state _ _ _ _ _ _ _ _ (Err c.in-Err-answer_line-2.fault) c.deref-in-Last.ensures.value c.in-Err-answer_line-2.ensures.answers)

pub returns-in_default-answer_line-clause-next : goal.returns-in_default-answer_line-clause-next
returns-in_default-answer_line-clause-next g c =
    let some : 0 < length c.in-Last.line.items = omega (arith, eqb-false (vec_len c.in-Last.line) 0 (sym c.if-is_empty.ensures), c.in-Last.line.ok.0) in
    last_served g.F.TurnFn.log g.F.TurnFn.refusals g.O.Watcher.state _ _ _ _ _ _ _ c.in-Ok.ensures.bound c.bounds.ensures _ _ c.in-Last.line.items _ (rw c.in-Last.is at c.in-Ok.ensures.gives) some
    (answers_as g.F.TurnFn.log g.F.TurnFn.refusals g.O.Watcher.state _ _ _ _ _ _ _ _ (Ok tt) c.deref-in-Last.ensures.value c.in_default-answer_line.ensures.answers)

pub returns-then-is_empty-clause-next : goal.returns-then-is_empty-clause-next
returns-then-is_empty-clause-next g c =
    let none : length c.in-Last.line.items ≡ 0 = omega (arith, eqb-true (vec_len c.in-Last.line) 0 (sym c.if-is_empty.ensures), c.in-Last.line.ok.0) in
    no_last g.F.TurnFn.log g.F.TurnFn.refusals g.O.Watcher.state _ _ _ _ _ _ _ c.in-Ok.ensures.bound c.bounds.ensures _ c.in-Last.line.items (rw c.in-Last.is at c.in-Ok.ensures.gives) (none_left c.in-Last.line.items none)

-- ---- how often the source was at its end

pub returns-in-Err-clause-ends : goal.returns-in-Err-clause-ends
returns-in-Err-clause-ends g c = ends_not c.in-Err.fault _ _ c.in-Err.ensures.ends

pub returns-in-Err-answer_line-clause-ends : goal.returns-in-Err-answer_line-clause-ends
returns-in-Err-answer_line-clause-ends g c = ends_not c.in-Err-answer_line.fault _ _ (rw c.in-Whole.is at c.in-Ok.ensures.ends)

pub returns-in-Err-answer_line-2-clause-ends : goal.returns-in-Err-answer_line-2-clause-ends
returns-in-Err-answer_line-2-clause-ends g c =
    ends_once g.F.TurnFn.log g.F.TurnFn.refusals g.O.Watcher.state _ _ _ _ _ _ _ c.in-Err-answer_line-2.fault _ _ c.in-Err-answer_line-2.ensures.answers (rw c.in-Last.is at c.in-Ok.ensures.ends)

pub returns-in_default-answer_line-clause-ends : goal.returns-in_default-answer_line-clause-ends
returns-in_default-answer_line-clause-ends g c = rw c.in-Last.is at c.in-Ok.ensures.ends

pub returns-then-is_empty-clause-ends : goal.returns-then-is_empty-clause-ends
returns-then-is_empty-clause-ends g c = rw c.in-Last.is at c.in-Ok.ensures.ends

-- ---- whose failure it was

pub returns-in-Err-clause-sink : goal.returns-in-Err-clause-sink
returns-in-Err-clause-sink g c = unwritten _ _ _ _ MAX_LINE c.in-Err.fault _ _ c.in-Err.ensures.gives

pub returns-in-Err-answer_line-clause-source : goal.returns-in-Err-answer_line-clause-source
returns-in-Err-answer_line-clause-source g c =
    unfailed g.F.TurnFn.log g.F.TurnFn.refusals g.O.Watcher.state _ _ _ _ _ _ _ c.in-Err-answer_line.fault _ _ _ _ c.in-Err-answer_line.ensures.answers c.in-Ok.ensures.cause c.in-Ok.ensures.name

pub returns-in-Err-answer_line-2-clause-source : goal.returns-in-Err-answer_line-2-clause-source
returns-in-Err-answer_line-2-clause-source g c =
    unfailed g.F.TurnFn.log g.F.TurnFn.refusals g.O.Watcher.state _ _ _ _ _ _ _ c.in-Err-answer_line-2.fault _ _ _ _ c.in-Err-answer_line-2.ensures.answers c.in-Ok.ensures.cause c.in-Ok.ensures.name
