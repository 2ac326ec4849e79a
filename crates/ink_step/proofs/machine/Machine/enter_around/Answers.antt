use Rattle.std.proofs.Common.{ap, if◌then◌else◌, sym}
use Rattle.ink_step.proofs.Common.{stood_of, entering_around, config_of}
use Rattle.ink_tree.specs.Nodes.{story_tree}
use Rattle.ink_step.proofs.machine.Machine.enter_around.Goals as goal

pub returns-in-Some-clause-mark : goal.returns-in-Some-clause-mark
returns-in-Some-clause-mark c = ap (λ o. record (stood_of c.args.self.now) { counts = o }) c.enter_landed.ensures.mark

pub returns-in_default-clause-ok : goal.returns-in_default-clause-ok
returns-in_default-clause-ok c =
    let s = story_tree c.args.tree.now in
    let old = config_of s c.args.self.now in
    sym (ap (λ b. if b then entering_around s old else old) c.if-enters.false)
