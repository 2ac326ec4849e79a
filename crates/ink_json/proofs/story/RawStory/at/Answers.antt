use Rattle.std.proofs.Common.{refl}
use Rattle.ink_json.proofs.Downward.{root_stands}
use Rattle.ink_json.specs.Story.{tree}
use Rattle.ink_json.proofs.Narrow.{width_at}
use Rattle.ink_json.proofs.story.RawStory.at.Goals as goal

pub loop-part-init : goal.loop-part-init
loop-part-init c = record { stands = root_stands c.args.self.now.nodes c.args.self.now.listed; same = refl }

pub returns-in_err-here-clause-width : goal.returns-in_err-here-clause-width
returns-in_err-here-clause-width c = width_at (tree c.args.self.now) c.args.parts.now c.args.self.now.narrow

pub returns-clause-width : goal.returns-clause-width
returns-clause-width c = width_at (tree c.args.self.now) c.args.parts.now c.args.self.now.narrow
