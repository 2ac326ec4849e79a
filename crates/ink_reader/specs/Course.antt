-- What a reading does for what is typed (docs/READER.md, "What is typed").
use Rattle.std.specs.Prelude.{◌≡◌, ◌⊎◌, ℕ, zero, suc, List, [], ◌∷◌, ◌++◌, Bool, true, false, MatchBool, Option, Some, None, is_some, Result, Ok, Err}
use Rattle.std.specs.Option.{option_to_list}
use Rattle.serde_json.specs.Data.{Data}
use Rattle.serde_json.specs.Read.{read}
use Rattle.serde_json.specs.Written.{compact_text}
use Rattle.ink_model.specs.Protocol.Answer.{Reply, Acts, Breaks, Refuses, Saves, Tells}
use Rattle.ink_model.specs.Protocol.Command as command
use Rattle.ink_model.specs.Protocol.Command.{Command}
use Rattle.ink_model.specs.declared.fault.Refusal.TheVariants as refusal
use Rattle.ink_page.specs.Typed as asks
use Rattle.ink_page.specs.Typed.{Asked}
use Rattle.ink_reader.specs.Deeds.{Deed, Fetches, Gives, Goes, Keeps, Offers, Says}
use Rattle.ink_reader.specs.Whereabouts.{path_of}
use Rattle.ink_reader.specs.Notices.{Word, BadSave, Began, FirstPlace, Help, LastLacks, NoSave, NotRead, NotWritten, PlaceLacks, PlaceUntold, Refused, Saved, Stopped, Unclear}
use Rattle.ink_reader.specs.declared.past.Past.{Past}
use Rattle.ink_reader.specs.declared.shelf.NotKept.{NotKept}
use Rattle.ink_reader.specs.declared.telling.Told.{Told}
use Rattle.ink_reader.specs.declared.telling.Told.TheVariants as told

-- the texts of saves: from before each choice, and of where the story stands now, if that is noted
pub record Places : Type 0 where
  pub before : List (List ℕ)
  pub here : Option (List ℕ)

abbrev pub places_of : Past → Places
places_of past = record { before = past.before.items; here = past.here }

-- ---- keeping a save

-- what is said where a save that was asked for is kept, and where it is not
abbrev pub saving_told : Result (Unit {0}) NotKept → List Deed
saving_told (Ok u) = Says Saved ∷ []
saving_told (Err cause) = Says (NotWritten cause) ∷ []

-- the same where the reading saves by itself
abbrev pub unsaved_told : Result (Unit {0}) NotKept → List Deed
unsaved_told (Ok u) = []
unsaved_told (Err cause) = Says (NotWritten cause) ∷ []

-- the reading saves by itself, if it is to
abbrev pub SavesItself : Bool → List ℕ → List Deed → Type 0
SavesItself false text ds = ds ≡ []
SavesItself true text ds = (answer : Result (Unit {0}) NotKept) × (ds ≡ Keeps text answer ∷ unsaved_told answer)

-- ---- telling

-- how a story ends, if no line comes behind one that has a loose end, or none
abbrev pub end_behind : Bool → Told
end_behind true = told.LooseEnd
end_behind false = told.Stop

-- where a line began, if it began at a place
abbrev pub place_told : Option (List ℕ) → List Deed
place_told None = []
place_told (Some path) = Says (Began path) ∷ []

-- It is said where a line began, by the save from before it; or that there was no memory to tell.
abbrev pub TellsPlace : Reply → List Deed → Type 0
TellsPlace (Saves j) ds = (ds ≡ place_told (path_of j)) ⊎ (ds ≡ Says PlaceUntold ∷ [])
TellsPlace reply ds = ds ≡ Says PlaceUntold ∷ []

-- What comes behind this answer to `continue`, if that is no passage: where it is a fault, it is said where its line began.
abbrev pub IsBreak : Reply → Reply → List Deed → Type 0
IsBreak place (Breaks f events) ds = TellsPlace place ds
IsBreak place reply ds = ds ≡ []

-- While flow can go on, the place is saved and a line is told, up to an answer that is none. It ends so, where it would have ended
-- so before them.
abbrev pub IsTold : Told → List Deed → Told → Type 0
IsTold how (Goes false ∷ ds) end = (ds ≡ []) × (end ≡ how)
IsTold how (Goes true ∷ Gives command.Save place ∷ Gives command.Continue (Tells p) ∷ ds) end = IsTold (end_behind p.loose) ds end
IsTold how (Goes true ∷ Gives command.Save place ∷ Gives command.Continue reply ∷ ds) end = IsBreak place reply ds × (end ≡ told.Break)
IsTold how ds end = ⊥

-- where there are choices, the place is noted, and saved
abbrev pub IsNoted : Bool → List Deed → Option (List ℕ) → Type 0
IsNoted saves (Gives command.Save (Saves j) ∷ ds) here = (here ≡ Some (compact_text j)) × SavesItself saves (compact_text j) ds
IsNoted saves (Gives command.Save (Refuses r) ∷ ds) here = (here ≡ None) × (ds ≡ Says PlaceLacks ∷ [])
IsNoted saves ds here = ⊥

-- where lines ended so, choices are shown; or how the story ends; or why they are not there
abbrev pub IsStop : Bool → Told → List Deed → Option (List ℕ) → Type 0
IsStop saves told.Break ds here = (ds ≡ []) × (here ≡ None)
IsStop saves end (Offers (Ok (choice ∷ choices)) ∷ ds) here = IsNoted saves ds here
IsStop saves end (Offers (Ok []) ∷ ds) here = (ds ≡ Says (Stopped end) ∷ []) × (here ≡ None)
IsStop saves end (Offers (Err r) ∷ ds) here = (ds ≡ Says (Refused r) ∷ []) × (here ≡ None)
IsStop saves end ds here = ⊥

-- the story is told from where it stands to its next stop
pub record IsTelling (saves : Bool) (ds : List Deed) (here : Option (List ℕ)) : Type 0 where
  pub lines : List Deed
  pub end : Told
  pub rest : List Deed
  pub whole : ds ≡ lines ++ rest
  pub told : IsTold told.Stop lines end
  pub stop : IsStop saves end rest here

-- It goes on from where it stood: if that is a place that was noted, it comes behind those before choices; or there is no memory for
-- that, and it is said.
abbrev pub GoesOn : Bool → Places → List Deed → Places → Type 0
GoesOn saves old ds new = ((new.before ≡ old.before ++ option_to_list old.here) × IsTelling saves ds new.here)
    ⊎ ((is_some old.here ≡ true) × (rest : List Deed) × (ds ≡ Says LastLacks ∷ rest) × (new.before ≡ old.before) × IsTelling saves rest new.here)

-- ---- what is typed

-- whether a command was done that tells of events
abbrev pub acts : Reply → Bool
acts (Acts events) = true
acts reply = false

-- A command is given. Where it is done, this comes behind it; where it is not, nothing, and the places stay.
abbrev pub Then : Command → (List Deed → Type 0) → Type 0 → List Deed → Type 0
Then k Behind Stays ds = (reply : Reply) × (rest : List Deed) × (ds ≡ Gives k reply ∷ rest) × MatchBool (acts reply) (Behind rest) ((rest ≡ []) × Stays)

-- why the value of a save's text is not loaded: there is none, or that memory was refused
abbrev pub IsUnread : List ℕ → Word → Type 0
IsUnread text word = ((read text ≡ None) × (word ≡ BadSave)) ⊎ (word ≡ Refused refusal.OutOfMemory)

-- the value of a save's text is loaded, or it is said why not
abbrev pub Loads : List ℕ → (List Deed → Type 0) → Type 0 → List Deed → Type 0
Loads text Behind Stays ds = ((j : Data) × (read text ≡ Some j) × Then (command.Load (Some j)) Behind Stays ds)
    ⊎ ((word : Word) × IsUnread text word × (ds ≡ Says word ∷ []) × Stays)

-- from 1
abbrev pub IsChoice : Bool → Places → ℕ → List Deed → Places → Type 0
IsChoice saves old zero ds new = (ds ≡ Says (Refused refusal.NotAChoice) ∷ []) × (new ≡ old)
IsChoice saves old (suc n) ds new = Then (command.Choose n) (λ rest. GoesOn saves old rest new) (new ≡ old) ds

abbrev pub IsSaving : List Deed → Type 0
IsSaving (Gives command.Save (Saves j) ∷ ds) = (answer : Result (Unit {0}) NotKept) × (ds ≡ Keeps (compact_text j) answer ∷ saving_told answer)
IsSaving (Gives command.Save (Refuses r) ∷ ds) = ds ≡ Says (Refused r) ∷ []
IsSaving ds = ⊥

abbrev pub IsLoading : Bool → Places → List Deed → Places → Type 0
IsLoading saves old (Fetches (Ok (Some text)) ∷ ds) new = Loads text (λ rest. GoesOn saves old rest new) (new ≡ old) ds
IsLoading saves old (Fetches (Ok None) ∷ ds) new = (ds ≡ Says NoSave ∷ []) × (new ≡ old)
IsLoading saves old (Fetches (Err cause) ∷ ds) new = (ds ≡ Says (NotRead cause) ∷ []) × (new ≡ old)
IsLoading saves old ds new = ⊥

-- whether `load` gave events alone: the story stands where the save stands, and is not broken
abbrev pub has_loaded : List Deed → Bool
has_loaded (Fetches answer ∷ Gives k reply ∷ ds) = acts reply
has_loaded ds = false

-- the last place is taken away where the story stands there then
abbrev pub IsBack : Bool → Places → List Deed → Places → Type 0
IsBack saves old ds new = ((old.before ≡ []) × (ds ≡ Says FirstPlace ∷ []) × (new ≡ old))
    ⊎ ((earlier : List (List ℕ)) × (text : List ℕ) × (old.before ≡ earlier ++ text ∷ [])
    × Loads text (λ rest. (new.before ≡ earlier) × IsTelling saves rest new.here) (new ≡ old) ds)

abbrev pub IsCourse : Bool → Places → Asked → List Deed → Places → Type 0
IsCourse saves old (asks.Choice number) ds new = IsChoice saves old number ds new
IsCourse saves old asks.Save ds new = IsSaving ds × (new ≡ old)
IsCourse saves old asks.Load ds new = IsLoading saves old ds new
IsCourse saves old asks.Back ds new = IsBack saves old ds new
IsCourse saves old asks.Restart ds new = Then command.Restart (λ rest. GoesOn saves old rest new) (new ≡ old) ds
IsCourse saves old (asks.Variable name) ds new = ((reply : Reply) × (ds ≡ Gives (command.Get name) reply ∷ [])) × (new ≡ old)
IsCourse saves old asks.Help ds new = (ds ≡ Says Help ∷ []) × (new ≡ old)
IsCourse saves old asks.Quit ds new = (ds ≡ []) × (new ≡ old)
IsCourse saves old asks.Unclear ds new = (ds ≡ Says Unclear ∷ []) × (new ≡ old)

-- the reading begins: the story is told from where it stands
abbrev pub IsBeginning : Bool → Places → List Deed → Places → Type 0
IsBeginning saves old ds new = (new.before ≡ old.before) × IsTelling saves ds new.here

-- it ends: where the reading saves by itself, and the story stands at a choice that is noted, that is saved
abbrev pub EndsAt : Bool → Option (List ℕ) → List Deed → Type 0
EndsAt saves None ds = ds ≡ []
EndsAt false (Some place) ds = ds ≡ []
EndsAt true (Some place) (Gives command.Save (Saves j) ∷ ds) = SavesItself true (compact_text j) ds
EndsAt true (Some place) (Gives command.Save (Refuses r) ∷ ds) = ds ≡ Says (Refused r) ∷ []
EndsAt true (Some place) ds = ⊥

abbrev pub IsEnding : Bool → Places → List Deed → Places → Type 0
IsEnding saves old ds new = EndsAt saves old.here ds × (new ≡ old)

-- ---- to its end, or not

-- What was done is what comes before some rest of it. Where all went well there is no rest, and these are the places then.
pub record UpTo (well : Bool) (Course : List Deed → Places → Type 0) (ds : List Deed) (new : Places) : Type 0 where
  pub rest : List Deed
  pub end : Places
  pub course : Course (ds ++ rest) end
  pub whole : well ≡ true → (rest ≡ []) × (end ≡ new)
