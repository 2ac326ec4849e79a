use Rattle.ink_reader.proofs.Common.{view, Saves}
use Rattle.ink_reader.proofs.Tellings.{path-tells}
use Rattle.ink_reader.proofs.whereabouts.next_path.Goals as goal

pub returns-in-Ok : goal.returns-in-Ok
returns-in-Ok g c = (Saves (view c.in-Ok.save), path-tells (view c.in-Ok.save) c.flow_path.result c.flow_path.ensures, c.in-Ok.ensures)
