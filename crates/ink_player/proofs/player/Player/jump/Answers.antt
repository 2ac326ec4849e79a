use Rattle.std.proofs.Common.{sym}
use Rattle.ink_check.specs.Standing.{story_tree}
use Rattle.ink_player.proofs.Standing.{stands-jumped}
use Rattle.ink_player.proofs.player.Player.jump.Goals as goal

pub returns-clause-does : goal.returns-clause-does
returns-clause-does g c = rw (sym c.self.view_is) (c.jump.ensures.does c.self.inside.desk.next)

pub invariant_of-self : goal.invariant_of-self
invariant_of-self g c =
    stands-jumped (story_tree c.self.inside.story) c.self.inside.machine c.jump.new.machine c.self.inside.desk.events c.self.inside.broken _ c.self.invariant c.jump.ensures.mark
    c.args.path.now (c.jump.ensures.does 0)
