use Rattle.std.proofs.Common.{◌∙◌, sym}
use Rattle.ink_flows.proofs.Mapped.{there_seen}
use Rattle.ink_step.specs.Standing.{flow_of}
use Rattle.ink_step.proofs.machine.Machine.has_flow.Goals as goal

pub returns : goal.returns
returns c = λ s. c.contains.ensures ∙ sym (there_seen (flow_of s) c.args.name.now c.args.self.now.aside)
