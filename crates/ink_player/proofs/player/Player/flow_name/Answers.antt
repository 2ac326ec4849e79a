use Rattle.std.proofs.Common.{◌∙◌, ap}
use Rattle.ink_player.proofs.Common.{story_tree, state_of}
use Rattle.ink_model.specs.Run.Flows.{current_name}
use Rattle.ink_player.proofs.player.Player.flow_name.Goals as goal

pub returns : goal.returns
returns g c = c.flow_name.ensures (story_tree c.self.inside.story) ∙ ap (λ q. current_name (state_of q).aside) c.self.view_is
