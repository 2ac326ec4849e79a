use Rattle.std.proofs.Common.{◌≡◌, ◌+◌, ℕ, Bool, List, Result, Ok, Err, IfOk, [], reverse, take}
use Rattle.std.proofs.lemmas.List.{take_all}
use Rattle.ink_out.proofs.Common.{text_before, Mark, shown_as, Start, Walk}
use Rattle.ink_out.specs.Walks.{Walks}
use Rattle.ink_out.proofs.Starting.{leads_from, marks_before, next_mark}
use Rattle.ink_out.proofs.walk.shown_text.Goals as goal

pub loop-at-preserved : goal.loop-at-preserved
loop-at-preserved c =
    let at = c.loop-at.at in
    let marks = c.args.marks.now in
    let next = next_mark marks at c.index-marks-at.result c.loop-at-test.true c.index-marks-at.is in
    let leads = rw next at (leads_from c.args.enters.now marks (at + 1) c.requires.starts) in
    rw next (c.in_ok-add.ensures c.args.cleans c.args.enters.now.starts.items (reverse (take at marks)) (marks_before marks at c.loop-at-test.true) leads c.loop-at.invariant)

-- what is told of each walk holds of this one
finished : {E : Type 0} (r : Result (List ℕ) E) (cleans : Bool) (starts : List Start) (before : List Mark) (w : Walk) → IfOk r (λ text. (cleans : Bool) (starts : List Start) (before : List Mark) → Walks cleans starts before w → text ≡ shown_as cleans (text_before before []))
    → Walks cleans starts before w → IfOk r (λ text. text ≡ shown_as cleans (text_before before []))
finished (Ok text) cleans starts before w told walks = told cleans starts before walks
finished (Err e) cleans starts before w told walks = tt

pub returns : goal.returns
returns c =
    let marks = c.args.marks.now in
    let all = take_all c.loop-at.at marks c.loop-at-test.false in
    rw all at (finished c.finish.result c.args.cleans c.args.enters.now.starts.items (reverse (take c.loop-at.at marks)) c.loop-at.walk c.finish.ensures c.loop-at.invariant)

pub loop-at-init : goal.loop-at-init
loop-at-init c = c.new-walk.ensures c.args.cleans c.args.enters.now.starts.items c.new.ensures c.unpassed.ensures
