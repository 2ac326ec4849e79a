-- What the next step writes, by where flow is (docs/RUNNING.md, "Lines").
use Rattle.std.specs.Prelude.{Bool, false, not, ◌&&◌, Option, Some, option_and_then}
use Rattle.std.specs.List.{list_any}
use Rattle.ink_model.specs.Text.Bytes.{is_white}
use Rattle.ink_model.specs.Run.Configuration.{Configuration, current_place}
use Rattle.ink_model.specs.Text.Output.{is_line}
use Rattle.ink_model.specs.Story.Tree.{StoryTree, at}
use Rattle.ink_model.specs.declared.content.Leaf.{Leaf}
use Rattle.ink_model.specs.declared.content.Leaf.TheVariants as leaves
use Rattle.ink_model.specs.Story.View.{leaf_in}

-- a text of more than white
abbrev pub is_worded : Option Leaf → Bool
is_worded (Some (leaves.Text t)) = list_any (λ c. not (is_white c)) t
is_worded l = false

-- Flow is at such a text, which is written into the line: outside evaluation, and with no string or tag open.
abbrev pub writes_words : StoryTree → Configuration → Bool
writes_words s c = not c.flow.threads.thread.frame.evaluating && (is_line c.page.sections && is_worded (option_and_then (λ p. leaf_in (at s p)) (current_place c)))
