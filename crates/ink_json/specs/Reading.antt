-- What reading functions return, beside the definition of the story that bytes spell.
use Rattle.std.specs.Prelude.{◌≡◌, ◌⊎◌, ℕ, ◌+◌, ◌-◌, ◌*◌, ◌%◌, ◌^◌, drop, List, [], ◌∷◌, length, Bool, true, false, not, ◌&&◌, nat_lt, bytes_eq, Option, option_map, is_some, if◌then◌else◌, Result, Ok, Err}
use Rattle.std.specs.Borrow.{Bor}
use Rattle.std.specs.BTreeSet.{contains_by}
use Rattle.std.specs.Cmp.Lexicographic.{slice_cmp}
use Rattle.std.specs.List.{list_any}
use Rattle.std.specs.Ordering.{nat_cmp, ordering_then}
use Rattle.std.specs.declared.cmp.Ordering.{Ordering}
use Rattle.std.specs.Str.{is_utf8}
use Rattle.serde_json.specs.Data.{Data}
use Rattle.serde_json.specs.Find.{as_array}
use Rattle.ink_model.specs.Text.Bytes.{is_filled}
use Rattle.ink_model.specs.Story.Grammar.{here, under, unmarked, is_last, are_flags, is_name, member_of, name_key, name_of, own_of, flags_key, faults}
use Rattle.ink_json.specs.declared.names.Given.{Given}
use Rattle.ink_json.specs.declared.own.Label.{Label}
use Rattle.ink_model.specs.declared.limits.TheConstants.{MAX_STORY}
use Rattle.ink_model.specs.declared.fault.Cause.{Cause}
use Rattle.ink_model.specs.declared.fault.Cause.TheVariants.{Shape}
use Rattle.ink_model.specs.declared.fault.Cause.TheVariants as cause
use Rattle.ink_model.specs.declared.fault.Failure.{Failure}
use Rattle.ink_model.specs.declared.fault.Failure.TheVariants.{OutOfMemory, Refused}
use Rattle.ink_model.specs.declared.fault.ReadRefusal.{ReadRefusal}
use Rattle.ink_model.specs.declared.place.Part.{Part}
use Rattle.ink_model.specs.declared.version.InkVersion.{InkVersion}

-- there is a byte, and all are text
abbrev pub is_parsable : List ℕ → Bool
is_parsable bytes = is_utf8 bytes && is_filled bytes

-- The bytes are parsed as JSON, which takes memory: they are within the limit, and those behind the byte order mark are text.
abbrev pub is_parsed : List ℕ → Bool
is_parsed bytes = not (nat_lt MAX_STORY (length bytes)) && is_parsable (unmarked bytes)

-- a place is not the very place
abbrev pub has_parts : List Part → Bool
has_parts [] = false
has_parts (p ∷ ps) = true

-- What is read takes memory: content does, and the place of a refusal below. A refusal at the very place takes none.
abbrev pub takes_memory : {A : Type 0} → Result A ReadRefusal → Bool
takes_memory (Ok a) = true
takes_memory (Err r) = has_parts r.place

-- a failure is that of the definition; or memory was refused, where it may be
abbrev pub FailsOr : {A : Type 0} → Bool → Failure ReadRefusal → Result A ReadRefusal → Type 0
FailsOr may OutOfMemory read = may ≡ true
FailsOr may (Refused r) read = read ≡ Err r

-- what a function returned, seen by view, is what the definition reads; or memory was refused, where it may be
abbrev pub ReadsOr : {X A : Type 0} → Bool → (X → A) → Result X (Failure ReadRefusal) → Result A ReadRefusal → Type 0
ReadsOr may view (Ok x) read = read ≡ Ok (view x)
ReadsOr may view (Err e) read = FailsOr may e read

-- the same, where memory may be refused for what takes it
abbrev pub Fails : {A : Type 0} → Failure ReadRefusal → Result A ReadRefusal → Type 0
Fails e read = FailsOr (takes_memory read) e read

abbrev pub Reads : {X A : Type 0} → (X → A) → Result X (Failure ReadRefusal) → Result A ReadRefusal → Type 0
Reads view result read = ReadsOr (takes_memory read) view result read

-- Bytes are refused, as the rule refuses them; or memory was refused, where they are parsed.
abbrev pub IsRefusedBy : {A : Type 0} → Result A ReadRefusal → List ℕ → ReadRefusal → Type 0
IsRefusedBy rule bytes r = ((r ≡ here cause.OutOfMemory) × (is_parsed bytes ≡ true)) ⊎ (rule ≡ Err r)

-- a failure is the first of the faults, or memory was refused
abbrev pub IsFirst : Failure ReadRefusal → List ReadRefusal → Type 0
IsFirst OutOfMemory faults = Unit {0}
IsFirst (Refused r) [] = ⊥
IsFirst (Refused r) (f ∷ faults) = f ≡ r

-- the second failure is the first one, found under a part, for which memory may be refused
abbrev pub IsUnder : Part → Failure ReadRefusal → Failure ReadRefusal → Type 0
IsUnder p e OutOfMemory = Unit {0}
IsUnder p OutOfMemory (Refused q) = ⊥
IsUnder p (Refused r) (Refused q) = q ≡ under p r

-- what is wrong with something is wrong at its very place
abbrev pub placed : {A : Type 0} → Result A Cause → Result A ReadRefusal
placed (Ok a) = Ok a
placed (Err c) = Err (here c)

-- bytes behind a number, as a number of 64 bits
abbrev pub number_before : ℕ → List ℕ → ℕ
number_before n [] = n
number_before n (b ∷ bs) = number_before (((n * 256) % 2 ^ 64 + b) % 2 ^ 64) bs

-- the last eight bytes of a name, as a number
abbrev pub ending : List ℕ → ℕ
ending name = number_before 0 (drop (length name - 8) name)

-- how names stand to one another, behind the numbers of their last bytes
abbrev pub name_order : ℕ × Bor (List ℕ) → ℕ × Bor (List ℕ) → Ordering
name_order a b = ordering_then (nat_cmp a.0 b.0) (slice_cmp nat_cmp a.1.now b.1.now)

-- the names given are those of a list
abbrev pub Holds : Given → List (List ℕ) → Type 0
Holds given taken = (q : Bor (List ℕ)) → contains_by (name_order (ending q.now, q)) given.names ≡ list_any (λ n. bytes_eq q.now n) taken

-- what content says of its own name: whether what it gives for one is a text, and the name
abbrev pub IsLabel : Label → Data → Type 0
IsLabel l d = (l.sound ≡ is_name (member_of name_key (own_of d))) × (option_map (λ n. n.now) l.name ≡ name_of d)

-- a container's last element is one, and gives no flags but such
abbrev pub is_whole : Option Data → Bool
is_whole last = is_last last && are_flags (member_of flags_key last)

-- what is wrong with what stands at a key
abbrev pub faults_named : InkVersion → ℕ → Bool → Data → List ReadRefusal
faults_named version nesting misnamed d = if is_some (as_array d) then faults version nesting misnamed d else here Shape ∷ []
