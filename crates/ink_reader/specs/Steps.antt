-- What comes of a part of a course, where the code has a function for it.
use Rattle.std.specs.Prelude.{◌≡◌, ◌⊎◌, ℕ, List, [], ◌∷◌, ◌++◌, Bool, true, false, Option, None, Some, Result, Ok, Err}
use Rattle.ink_model.specs.Protocol.Answer.{Reply, Breaks, Tells}
use Rattle.ink_model.specs.declared.fault.Refusal.{Refusal}
use Rattle.ink_model.specs.declared.passage.Shown.{Shown}
use Rattle.ink_reader.specs.Course.{IsTold, IsUnread, end_behind, place_told}
use Rattle.ink_reader.specs.Deeds.{Deed, Offers, Says}
use Rattle.ink_reader.specs.Notices.{Word, FirstPlace, NoSave, NotRead, PlaceUntold, Refused, Stopped}
use Rattle.ink_reader.specs.declared.shelf.NotKept.{NotKept}
use Rattle.ink_reader.specs.declared.telling.Told.{Told}
use Rattle.ink_reader.specs.declared.telling.Told.TheVariants as told

-- how a story ends, if no line comes behind this answer to `continue`
abbrev pub end_after : Reply → Told
end_after (Tells p) = end_behind p.loose
end_after reply = told.Break

-- what is said of where a line began, by its path, or where that was not found
abbrev pub whereabouts_told : {E : Type 0} → Result (Option (List ℕ)) E → List Deed
whereabouts_told (Ok path) = place_told path
whereabouts_told (Err e) = Says PlaceUntold ∷ []

-- what is said behind this answer to `continue`
abbrev pub break_told : {E : Type 0} → Reply → Result (Option (List ℕ)) E → List Deed
break_told (Breaks f events) place = whereabouts_told place
break_told reply place = []

-- lines were told to their end, or what comes before some rest of them
abbrev pub ToldBy : {E : Type 0} → Result Told E → List Deed → Type 0
ToldBy (Ok end) ds = IsTold told.Stop ds end
ToldBy (Err e) ds = (rest : List Deed) × (end : Told) × IsTold told.Stop (ds ++ rest) end

-- what is told where lines ended so: the choices, or how the story ends, or why they are not there
abbrev pub stop_told : Told → Result (List Shown) Refusal → List Deed
stop_told how (Ok (choice ∷ choices)) = Offers (Ok (choice ∷ choices)) ∷ []
stop_told how (Ok []) = Offers (Ok []) ∷ Says (Stopped how) ∷ []
stop_told how (Err r) = Offers (Err r) ∷ Says (Refused r) ∷ []

-- whether there are choices
abbrev pub are_offered : Result (List Shown) Refusal → Bool
are_offered (Ok (choice ∷ choices)) = true
are_offered (Ok []) = false
are_offered (Err r) = false

-- why a shelf that handed out this gave no save to load
abbrev pub IsMissing : Result (Option (List ℕ)) NotKept → Word → Type 0
IsMissing (Ok (Some text)) word = IsUnread text word
IsMissing (Ok None) word = word ≡ NoSave
IsMissing (Err cause) word = word ≡ NotRead cause

-- why there is no place to go back to
abbrev pub NoPlace : List (List ℕ) → Word → Type 0
NoPlace before word = ((before ≡ []) × (word ≡ FirstPlace)) ⊎ ((earlier : List (List ℕ)) × (text : List ℕ) × (before ≡ earlier ++ text ∷ []) × IsUnread text word)
