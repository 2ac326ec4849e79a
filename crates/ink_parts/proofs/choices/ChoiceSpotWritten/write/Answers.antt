use Rattle.ink_model.specs.Run.Configuration.{map_choice}
use Rattle.ink_tree.specs.Nodes.{place_of, story_tree}
use Rattle.ink_parts.proofs.Arrays.{object_made}
use Rattle.ink_parts.specs.Written.{choice_members}
use Rattle.ink_parts.proofs.choices.ChoiceSpotWritten.write.Goals as goal

pub returns : goal.returns
returns c = object_made (choice_members (map_choice (place_of (story_tree c.args.tree.now)) c.args.self.now)) _ _ c.new-members.ensures.empty c.in_ok-add_choice.ensures
