use Rattle.std.proofs.Common.{◌≡◌, ℕ, List, IfOk, subst, sym}
use Rattle.ink_flows.proofs.Mapped.{names_seen}
use Rattle.ink_step.specs.Standing.{flow_of}
use Rattle.ink_step.proofs.machine.Machine.flows.Goals as goal

pub returns : goal.returns
returns c = λ s. subst (λ (ns : List (List ℕ)). IfOk c.names.result (λ found. found ≡ ns)) (sym (names_seen (flow_of s) c.args.self.now.aside)) c.names.ensures
