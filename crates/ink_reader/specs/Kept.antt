-- Where saves are kept (docs/READER.md, "Saves").
use Rattle.std.specs.Prelude.{◌≡◌, ◌⊎◌, ℕ, List, ◌++◌, Option, None, Some, Result, Ok, Err, option_map, string_bytes, String, ⊤}
use Rattle.std.specs.Global.{Global}
use Rattle.std.specs.Option.{option_to_list}
use Rattle.serde_json.specs.Data.{Data}
use Rattle.serde_json.specs.Written.{compact_text}
use Rattle.ink_model.specs.Protocol.State.{State}
use Rattle.ink_model.specs.Story.Tree.{StoryTree}
use Rattle.ink_page.specs.Typed as asks
use Rattle.ink_page.specs.Typed.{Asked}
use Rattle.ink_player.specs.Saving.{ReadsAsState}

-- A save is kept in the place of the one before; or that one stands. Where it is not known what is kept, it stays unknown.
abbrev pub KeepsSave : {E : Type 0} → Option (Option (List ℕ)) → Option (Option (List ℕ)) → List ℕ → Result (Unit {0}) E → Type 0
KeepsSave None new save result = new ≡ None
KeepsSave (Some old) new save (Ok u) = new ≡ Some (Some save)
KeepsSave (Some old) new save (Err e) = new ≡ Some old

-- what a shelf hands out, as text
abbrev pub text_of : {E : Type 0} → Result (Option (String Global)) E → Result (Option (List ℕ)) E
text_of (Ok save) = Ok (option_map string_bytes save)
text_of (Err e) = Err e

-- what is kept is handed out, or it is said that it cannot be
abbrev pub Fetches : {E : Type 0} → Option (Option (List ℕ)) → Result (Option (List ℕ)) E → Type 0
Fetches None answer = ⊤
Fetches (Some kept) (Ok save) = save ≡ kept
Fetches (Some kept) (Err e) = ⊤

-- the text of a save that reads as where the story stands now, or none
abbrev pub IsPlace : StoryTree → State → Option (List ℕ) → Type 0
IsPlace s now None = ⊤
IsPlace s now (Some text) = (j : Data) × (text ≡ compact_text j) × ReadsAsState s j now

-- What is kept is what was, or the text of a save that reads as where the story stands now.
abbrev pub KeptAs : StoryTree → State → Option (Option (List ℕ)) → Option (Option (List ℕ)) → Type 0
KeptAs s now old new = (new ≡ old) ⊎ ((text : List ℕ) × (new ≡ Some (Some text)) × IsPlace s now (Some text))

-- What is noted of where the story stands is what was, or where it stands now.
abbrev pub StandsAt : StoryTree → State → Option (List ℕ) → Option (List ℕ) → Type 0
StandsAt s now old new = (new ≡ old) ⊎ IsPlace s now new

-- the places before each choice are those that were, or also the one where the story stood
abbrev pub Noted : List (List ℕ) → Option (List ℕ) → List (List ℕ) → Type 0
Noted before here new = (new ≡ before) ⊎ (new ≡ before ++ option_to_list here)

-- after what was typed: going back takes the last one of them at most
abbrev pub Notes : Asked → List (List ℕ) → Option (List ℕ) → List (List ℕ) → Type 0
Notes asks.Back before here new = (last : Option (List ℕ)) × (before ≡ new ++ option_to_list last)
Notes asked before here new = Noted before here new
