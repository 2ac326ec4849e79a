use Rattle.std.proofs.Common.{ap, ◌∙◌}
use Rattle.json_tape.specs.Value.{json_data}
use Rattle.ink_model.specs.Story.Grammar.{is_blank_object}
use Rattle.ink_json.proofs.Blank.{blank_is}
use Rattle.ink_json.proofs.reading.has_no_lists.Goals as goal

pub returns-in-Some : goal.returns-in-Some
returns-in-Some c = c.is_blank.ensures ∙ blank_is (json_data c.in-Some.lists) ∙ ap is_blank_object c.in-Some.ensures
