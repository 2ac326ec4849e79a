use Rattle.std.proofs.Common.{◌∙◌, Ok, ap, inl}
use Rattle.ink_player.proofs.Common.{story_tree, state_of}
use Rattle.ink_model.specs.Variables.Named.{names}
use Rattle.ink_player.proofs.player.Player.flows.Goals as goal

pub returns-in-Ok : goal.returns-in-Ok
returns-in-Ok g c = inl (ap (λ ns. Ok ns) (c.in-Ok.ensures (story_tree c.self.inside.story) ∙ ap (λ q. names (state_of q).aside) c.self.view_is))
