use Rattle.std.proofs.Common.{refl, sym}
use Rattle.ink_check.specs.Standing.{story_tree}
use Rattle.ink_model.specs.Protocol.Command as command
use Rattle.ink_player.proofs.Standing.{stands-after}
use Rattle.ink_player.proofs.player.Player.drop_flow.Goals as goal

pub returns-clause-does : goal.returns-clause-does
returns-clause-does g c = rw (sym c.self.view_is) (c.drop_flow.ensures.does (story_tree c.self.inside.story) c.self.inside.desk.next)

pub invariant_of-self : goal.invariant_of-self
invariant_of-self g c =
    let s = story_tree c.self.inside.story in
    stands-after s c.self.inside.machine c.drop_flow.new.machine c.self.inside.desk.events c.self.inside.broken _ c.self.invariant c.drop_flow.ensures.mark
    (command.Drop c.args.name.now) (refl, c.drop_flow.ensures.does s 0)
