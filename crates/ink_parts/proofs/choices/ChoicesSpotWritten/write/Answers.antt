use Rattle.std.proofs.Common.{◌≡◌, ◌∙◌, IfOk, ap, subst}
use Rattle.ink_parts.proofs.Common.{Data, view, place_of, story_tree}
use Rattle.ink_model.specs.Run.Configuration.{ChoiceOf, map_choice}
use Rattle.ink_model.specs.Save.Spelling.{choice_data, list_data}
use Rattle.ink_tree.specs.declared.spot.Spot.{Spot}
use Rattle.ink_parts.proofs.Arrays.{list_over}
use Rattle.ink_parts.proofs.choices.ChoicesSpotWritten.write.Goals as goal

pub returns : goal.returns
returns c =
    let s = story_tree c.args.tree.now in
    let spelled : ChoiceOf Spot → Data = λ x. choice_data (map_choice (place_of s) x) in
    subst (λ q. IfOk c.write_list.result (λ json. view json ≡ q))
    (ap (list_data spelled) c.as_slice.ensures ∙ list_over choice_data (map_choice (place_of s)) c.args.self.now.items) c.write_list.ensures
