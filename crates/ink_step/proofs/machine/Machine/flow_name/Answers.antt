use Rattle.std.proofs.Common.{◌∙◌, sym}
use Rattle.ink_flows.proofs.Mapped.{current_seen}
use Rattle.ink_step.specs.Standing.{flow_of}
use Rattle.ink_step.proofs.machine.Machine.flow_name.Goals as goal

pub returns : goal.returns
returns c = λ s. c.current_name.ensures ∙ sym (current_seen (flow_of s) c.args.self.now.aside)
