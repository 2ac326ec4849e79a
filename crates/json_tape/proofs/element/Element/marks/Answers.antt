use Rattle.std.proofs.Common.{◌∙◌, ap}
use Rattle.json_tape.proofs.Common.{get, get_member}
use Rattle.json_tape.proofs.Elements.{get_nothing, unmarked}
use Rattle.json_tape.proofs.element.Element.marks.Goals as goal

pub returns-in_default : goal.returns-in_default
returns-in_default c j h name none = get_nothing name j (c.in_default.ensures j h)

pub loop-name-init : goal.loop-name-init
loop-name-init c j h =
    let all = c.in-Some.ensures j h in
    (all.0, all.2, λ name none. ap (get name) all.1)

pub loop-name-preserved : goal.loop-name-preserved
loop-name-preserved c j h =
    let now = c.loop-name.invariant j h in
    let next = c.in-Some-next.ensures.value now.0 now.1 in (
      next.1,
      next.4,
      λ name none.
          let kept = unmarked _ _ name _ c.mark.ensures.within c.mark.ensures.marked none in
          now.2 name kept.1 ∙ ap (get_member name) next.2 ∙ kept.0 next.0 next.1,
    )

pub returns : goal.returns
returns c j h name none =
    let now = c.loop-name.invariant j h in
    let over = c.in_default-next.ensures.value now.0 now.1 in
    now.2 name none ∙ ap (get_member name) over
