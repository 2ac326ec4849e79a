use Rattle.std.proofs.Common.{◌∙◌, ap}
use Rattle.ink_parts.proofs.Common.{Data, place_of, story_tree}
use Rattle.ink_model.specs.Run.Configuration.{ChoiceOf, map_choice}
use Rattle.ink_model.specs.Save.Spelling.{choice_data, list_data}
use Rattle.ink_tree.specs.declared.spot.Spot.{Spot}
use Rattle.ink_parts.proofs.Texts.{value_as}
use Rattle.ink_parts.proofs.Arrays.{list_over}
use Rattle.ink_parts.proofs.choices.ChoicesSpotWritten.put.Goals as goal

pub returns : goal.returns
returns c =
    let s = story_tree c.args.tree.now in
    let spelled : ChoiceOf Spot → Data = λ x. choice_data (map_choice (place_of s) x) in
    value_as c.put_list.result _ _ _ _
    (ap (list_data spelled) c.as_slice.ensures ∙ list_over choice_data (map_choice (place_of s)) c.args.self.now.items) c.put_list.ensures
