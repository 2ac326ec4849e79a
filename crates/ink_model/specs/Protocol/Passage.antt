-- What a running command answers of the configuration in which it ends (docs/PROTOCOL.md, "Answers").
use Rattle.std.specs.Prelude.{List, [], ◌∷◌, Bool, true, false, not, ◌&&◌, ◌||◌}
use Rattle.ink_model.specs.Choices.Making.{has_any}
use Rattle.ink_model.specs.Protocol.Turns.{open_choices}
use Rattle.ink_model.specs.Run.Configuration.{Configuration, ChoiceOf, can_go_on}
use Rattle.ink_model.specs.Text.Clean.{clean}
use Rattle.ink_model.specs.Text.Mark.{tags}
use Rattle.ink_model.specs.Text.Shown.{shown_text, shows_more}
use Rattle.ink_model.specs.declared.passage.Passage.{Passage}
use Rattle.ink_model.specs.declared.place.Part.{Part}

abbrev pub has_none : List (ChoiceOf (List Part)) → Bool
has_none [] = true
has_none (choice ∷ choices) = false

-- flow has stopped, with no choice of any kind, and neither `done` nor `end` stopped it
abbrev pub is_loose : Configuration → Bool
is_loose c = not (can_go_on c) && (has_none c.flow.choices && not c.flow.safe)

unfoldable pub passage : Configuration → Passage
passage c = record {
  text = clean (shown_text c.page.line);
  tags = tags c.page.line;
  choices = open_choices c;
  events = [];
  more = can_go_on c;
  loose = is_loose c;
}

-- the passage is made in memory: a text is shown, and not blanks alone, there is a tag, or there is a choice to choose
abbrev pub passage_asks : Configuration → Bool
passage_asks c = shows_more c.page.line || (has_any (tags c.page.line) || has_any (open_choices c))
