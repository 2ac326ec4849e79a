-- What is said on the line of a configuration (docs/TEXT.md).
use Rattle.std.specs.Prelude.{Bool, ◌||◌}
use Rattle.ink_look.specs.declared.said.Said.{Said}
use Rattle.ink_model.specs.Choices.Making.{has_any}
use Rattle.ink_model.specs.Text.Clean.{clean}
use Rattle.ink_model.specs.Run.Configuration.{Configuration}
use Rattle.ink_model.specs.Text.Mark.{tags}
use Rattle.ink_model.specs.Text.Shown.{shown_text, shows_more}

unfoldable pub said : Configuration → Said
said c = record { text = clean (shown_text c.page.line); tags = tags c.page.line }

-- it is made in memory: a text is shown, and not blanks alone, or there is a tag
abbrev pub said_asks : Configuration → Bool
said_asks c = shows_more c.page.line || has_any (tags c.page.line)
