use Rattle.std.proofs.Common.{refl, sym, ap, ◌∙◌}
use Rattle.json_tape.proofs.Common.{objects_rise}
use Rattle.json_tape.proofs.Rise.{object_rises, no_object_rises}
use Rattle.json_tape.proofs.element.Element.objects_rise.Goals as goal
use Rattle.json_tape.proofs.element.Element.objects_rise.Goals.{in-Object+else-not-names_rise, in_default}

pub returns-then-not-names_rise : goal.returns-then-not-names_rise
returns-then-not-names_rise c =
    let here = object_rises c.self.inside.tape.now c.loop-at.at c.in-Object.field-0 c.node.result c.names_rise.result c.node.ensures.token c.in-Object.is c.node.ensures.link c.names_rise.ensures in
    sym (c.loop-at.invariant ∙ here ∙ rw c.if-not-names_rise.true refl)

pub loop-at-preserved : goal.loop-at-preserved
loop-at-preserved c = elim c.match-node.branch [
  | in-Object+else-not-names_rise w ↦
      let here = object_rises c.self.inside.tape.now c.loop-at.at w.in-Object.field-0 c.node.result w.names_rise.result c.node.ensures.token w.in-Object.is c.node.ensures.link w.names_rise.ensures in
      c.loop-at.invariant ∙ here ∙ rw w.if-not-names_rise.false refl
  | in_default w ↦ c.loop-at.invariant ∙ ap objects_rise c.node.ensures.token ∙ no_object_rises c.node.result _ w.in_default.not-Object
]
