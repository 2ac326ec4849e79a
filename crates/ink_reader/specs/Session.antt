-- What a reading does for the lines that are typed, one after another (docs/READER.md).
use Rattle.std.specs.Prelude.{◌≡◌, ℕ, List, [], ◌∷◌, ◌++◌, Bool, true, false, MatchBool, Option, Some, None, Result, Ok, Err, bytes_eq, codes}
use Rattle.std.specs.Str.{trim}
use Rattle.ink_page.specs.Typed as asks
use Rattle.ink_page.specs.Typed.{Asked, typed}
use Rattle.ink_reader.specs.Course.{IsBeginning, IsCourse, IsEnding, IsLoading, Places, has_loaded}
use Rattle.ink_reader.specs.Deeds.{Deed, Asks, Fetches, Says}
use Rattle.ink_reader.specs.Notices.{Offer}

-- ---- lines

-- The next line is typed; none at the end. Where it is not known what comes, it stays unknown.
abbrev pub IsNext : Option (List (List ℕ)) → Option (List ℕ) → Option (List (List ℕ)) → Type 0
IsNext None line new = new ≡ None
IsNext (Some []) line new = (line ≡ None) × (new ≡ Some [])
IsNext (Some (next ∷ lines)) line new = (line ≡ Some next) × (new ≡ Some lines)

-- it is handed out, or that fails
abbrev pub Hands : {E : Type 0} → Option (List (List ℕ)) → Result (Option (List ℕ)) E → Option (List (List ℕ)) → Type 0
Hands old (Ok line) new = IsNext old line new
Hands old (Err e) new = new ≡ old

abbrev pub AreNext : Option (List (List ℕ)) → List (Option (List ℕ)) → Option (List (List ℕ)) → Type 0
AreNext old [] new = new ≡ old
AreNext old (line ∷ lines) new = (mid : Option (List (List ℕ))) × IsNext old line mid × AreNext mid lines new

-- what a line asks for; the end of them quits
abbrev pub asked_for : Option (List ℕ) → Asked
asked_for None = asks.Quit
asked_for (Some line) = typed line

abbrev pub quits : Asked → Bool
quits asks.Quit = true
quits asked = false

-- ---- their courses

-- what was asked for is done, or the reading ends
abbrev pub Follows : Bool → Places → Asked → List Deed → Places → Type 0
Follows saves old asked ds new = MatchBool (quits asked) (IsEnding saves old ds new) (IsCourse saves old asked ds new)

-- A line is asked for, and what it asks for is done: so one after another, up to one that quits.
abbrev pub IsReading : Bool → Places → List (Option (List ℕ)) → List Deed → Places → Type 0
IsReading saves old (line ∷ lines) (Asks ∷ ds) new = MatchBool (quits (asked_for line))
    ((lines ≡ []) × IsEnding saves old ds new)
    ((first : List Deed) × (rest : List Deed) × (mid : Places) × (ds ≡ first ++ rest) × IsCourse saves old (asked_for line) first mid × IsReading saves mid lines rest new)
IsReading saves old lines ds new = ⊥

-- ---- how it begins

-- the story is told from where it stands, and then lines are read
abbrev pub Begins : Bool → Places → List (Option (List ℕ)) → List Deed → Places → Type 0
Begins saves old lines ds new = (first : List Deed) × (rest : List Deed) × (mid : Places) × (ds ≡ first ++ rest) × IsBeginning saves old first mid × IsReading saves mid lines rest new

-- The save is loaded, and then lines are read. Where it is not, or a watcher that is told of it finds no memory, the story is told from
-- where it stands, and the reading saves no more by itself.
abbrev pub Resumes : Bool → Places → List (Option (List ℕ)) → List Deed → Places → Type 0
Resumes saves old lines ds new = (first : List Deed) × (rest : List Deed) × (mid : Places) × (ds ≡ first ++ rest) × IsLoading saves old first mid
    × MatchBool (has_loaded first) (IsReading saves mid lines rest new) (Begins false mid lines rest new)

-- whether a line says that a save is not wanted
abbrev pub declines : List ℕ → Bool
declines line = bytes_eq (trim line) (codes "n")

abbrev pub Starts : Bool → Bool → Places → List (Option (List ℕ)) → List Deed → Places → Type 0
Starts declined saves old lines ds new = MatchBool declined (Begins saves old lines ds new) (Resumes saves old lines ds new)

-- It is asked whether to go on with a save. At the end of the lines there is no reading.
abbrev pub IsOffer : Bool → Places → List (Option (List ℕ)) → List Deed → Places → Type 0
IsOffer saves old (None ∷ lines) (Says Offer ∷ Asks ∷ ds) new = (lines ≡ []) × (ds ≡ []) × (new ≡ old)
IsOffer saves old (Some line ∷ lines) (Says Offer ∷ Asks ∷ ds) new = Starts (declines line) saves old lines ds new
IsOffer saves old lines ds new = ⊥

-- the whole of it
abbrev pub IsSession : Bool → Places → List (Option (List ℕ)) → List Deed → Places → Type 0
IsSession saves old lines (Fetches (Ok None) ∷ ds) new = Begins saves old lines ds new
IsSession saves old lines (Fetches answer ∷ ds) new = IsOffer saves old lines ds new
IsSession saves old lines ds new = ⊥

-- ---- to its end, or not

-- What was typed and done is what comes before some rest of it. Where all went well there is no rest, and these are the places
-- then.
pub record ReadTo (well : Bool) (Reading : List (Option (List ℕ)) → List Deed → Places → Type 0) (lines : List (Option (List ℕ))) (ds : List Deed) (new : Places) : Type 0 where
  pub others : List (Option (List ℕ))
  pub rest : List Deed
  pub end : Places
  pub reading : Reading (lines ++ others) (ds ++ rest) end
  pub whole : well ≡ true → (others ≡ []) × (rest ≡ []) × (end ≡ new)

-- of a part of it: behind it lines are read, or it ended, or failed
abbrev pub ReadBy : {E : Type 0} → Result Bool E → (List (Option (List ℕ)) → List Deed → Places → Type 0) → Bool → List (Option (List ℕ)) → List Deed → Places → Type 0
ReadBy (Ok true) Reading saves lines ds new =
    (others : List (Option (List ℕ))) (rest : List Deed) (end : Places) → IsReading saves new others rest end → Reading (lines ++ others) (ds ++ rest) end
ReadBy (Ok false) Reading saves lines ds new = Reading lines ds new
ReadBy (Err e) Reading saves lines ds new = (others : List (Option (List ℕ))) × (rest : List Deed) × (end : Places) × Reading (lines ++ others) (ds ++ rest) end
