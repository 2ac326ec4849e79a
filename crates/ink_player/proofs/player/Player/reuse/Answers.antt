use Rattle.std.proofs.Common.{subst, sym}
use Rattle.ink_player.proofs.Common.{story_tree, Stands}
use Rattle.ink_player.proofs.player.Player.reuse.Goals as goal

pub invariant_of-self : goal.invariant_of-self
invariant_of-self g c = subst (Stands (story_tree c.self.inside.story) c.self.inside.desk.events c.self.inside.broken) (sym c.reuse.ensures.same) c.self.invariant
