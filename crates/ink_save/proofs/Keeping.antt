-- What a save keeps of a machine.
use Rattle.std.proofs.Common.{◌≡◌, ◌∙◌, ap, ℕ, List, Some, Result, Ok, Err, IfOk}
use Rattle.serde_json.specs.Written.{compact_text}
use Rattle.ink_flows.specs.Standing.{aside_of, flow_of}
use Rattle.ink_model.specs.Protocol.Command.{json_of}
use Rattle.ink_model.specs.Run.Flows.{Game}
use Rattle.ink_model.specs.Text.Output.{empty_page}
use Rattle.ink_model.specs.Save.Reads.{Stands}
use Rattle.ink_model.specs.Save.Spelling.{spelling}
use Rattle.ink_model.specs.Story.Tree.{StoryTree}
use Rattle.ink_parts.specs.Parts.{kept_as}
use Rattle.ink_parts.specs.declared.kept.Kept.{Kept}
use Rattle.ink_sound.proofs.Orderly.{spelled_back}
use Rattle.ink_sound.specs.Kept.{StoryFits}
use Rattle.ink_step.specs.Parts.{config_of_parts}
use Rattle.ink_step.specs.Standing.{aside_in, config_of, game_of, shared_of}
use Rattle.ink_step.specs.declared.machine.Machine.{Machine}
use Rattle.ink_step.specs.declared.parts.Parts.{Parts}

-- its spelling is that of the machine's game, whatever is being written
pub kept_game : (s : StoryTree) (m : Machine) (parts : Parts) (kept : Kept) (t : StoryTree)
    → kept_as t kept ≡ record { now = record { flow = flow_of t parts.flow.now; shared = shared_of t parts.shared.now; page = empty_page }; aside = aside_of t parts.aside.now }
    → t ≡ s → config_of_parts s parts ≡ config_of s m → parts.aside.now ≡ aside_in m → spelling (kept_as t kept) ≡ spelling (game_of s m)
kept_game s m parts kept t is same config aside =
    ap spelling is
    ∙ ap (λ r. spelling (record { now = record { flow = flow_of r parts.flow.now; shared = shared_of r parts.shared.now; page = empty_page }; aside = aside_of r parts.aside.now })) same
    ∙ ap (λ c. spelling (record { now = c; aside = aside_of s parts.aside.now })) config
    ∙ ap (λ rows. spelling (record { now = config_of s m; aside = aside_of s rows })) aside

-- the text of a game that stands is read back as its spelling
pub read_again : {E : Type 0} (s : StoryTree) → StoryFits s → (g : Game) → Stands s g → (r : Result (List ℕ) E) → IfOk r (λ text. text ≡ compact_text (spelling g))
    → IfOk r (λ text. json_of text ≡ Some (spelling g))
read_again s story g stands (Ok text) is = ap json_of is ∙ spelled_back s story g stands
read_again s story g stands (Err e) is = tt
