use Rattle.std.proofs.Common.{◌∙◌, sym}
use Rattle.ink_flows.proofs.Mapped.{length_seen}
use Rattle.ink_step.specs.Standing.{flow_of}
use Rattle.ink_step.proofs.machine.Machine.flow_count.Goals as goal

pub returns : goal.returns
returns c = λ s. c.len.ensures ∙ sym (length_seen (flow_of s) c.args.self.now.aside)
