-- What is kept reads as where the story stands.
use Rattle.std.proofs.Common.{◌≡◌, ◌⊎◌, ℕ, List, Option, Some, inl, inr}
use Rattle.ink_reader.proofs.Common.{Data, State, StoryTree}
use Rattle.serde_json.specs.Written.{compact_text}
use Rattle.ink_player.specs.Saving.{ReadsAsState}
use Rattle.ink_reader.specs.Kept.{KeptAs}

pub kept-saved : (s : StoryTree) (now : State) (old new : Option (Option (List ℕ))) (text : List ℕ) → ((new ≡ old) ⊎ (new ≡ Some (Some text)))
    → ((j : Data) × (text ≡ compact_text j) × ReadsAsState s j now) → KeptAs s now old new
kept-saved s now old new text (inl same) reads = inl same
kept-saved s now old new text (inr kept) reads = inr (text, kept, reads)
