use Rattle.ink_spelling.proofs.Unnumbered.{read_rests}
use Rattle.ink_spelling.proofs.layout.read_saved.Goals as goal

pub returns-in-Object-clause-rests : goal.returns-in-Object-clause-rests
returns-in-Object-clause-rests g c = read_rests (g.J.Json.members c.in-Object.members) c.read_members.result c.read_members.ensures.saved
