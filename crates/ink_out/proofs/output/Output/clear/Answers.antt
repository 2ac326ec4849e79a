use Rattle.ink_out.specs.Undo.{output_back, output_stood}
use Rattle.ink_out.proofs.output.Output.clear.Goals as goal
use Rattle.ink_trail.proofs.Undoing.{stood-trails}

pub returns-then-is_marked-clause-stood : goal.returns-then-is_marked-clause-stood
unfolding output_stood
returns-then-is_marked-clause-stood c = stood-trails output_back c.clear_marked.ensures.trail
