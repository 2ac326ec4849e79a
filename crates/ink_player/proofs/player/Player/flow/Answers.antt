use Rattle.std.proofs.Common.{refl, sym}
use Rattle.ink_check.specs.Standing.{story_tree}
use Rattle.ink_model.specs.Protocol.Command as command
use Rattle.ink_player.proofs.Standing.{stands-after}
use Rattle.ink_player.proofs.player.Player.flow.Goals as goal

pub returns-clause-does : goal.returns-clause-does
returns-clause-does g c = rw (sym c.self.view_is) (c.go_to_flow.ensures.does c.self.inside.desk.next)

pub invariant_of-self : goal.invariant_of-self
invariant_of-self g c =
    stands-after (story_tree c.self.inside.story) c.self.inside.machine c.go_to_flow.new.machine c.self.inside.desk.events c.self.inside.broken _ c.self.invariant c.go_to_flow.ensures.mark
    (command.Flow c.args.name.now) (refl, c.go_to_flow.ensures.does 0)
