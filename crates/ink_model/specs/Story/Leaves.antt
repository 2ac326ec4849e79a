-- The leaves that JSON spells, and what is wrong with those that it does not (docs/STORY_FORMAT.md, "Content").
use Rattle.std.specs.Prelude.{ℕ, zero, suc, ◌^◌, ℤ, pos, negsuc, List, [], ◌∷◌, ◌++◌, length, Bool, false, ◌||◌, ◌==◌, codes, nat_lt, if◌then◌else◌, Option, Some, None, option_and_then, is_some, unwrap_or, Result, Ok, Err}
use Rattle.std.specs.Option.{ok_or}
use Rattle.serde_json.specs.Data.{Data, null, boolean, number, string, array, object}
use Rattle.serde_json.specs.Find.{get, as_bool, as_str, as_number, as_u64, as_integer}
use Rattle.ink_model.specs.Story.Word.{word}
use Rattle.ink_model.specs.declared.content.Destination.{Destination}
use Rattle.ink_model.specs.declared.content.Destination.TheVariants as destination
use Rattle.ink_model.specs.declared.content.Leaf.{Leaf}
use Rattle.ink_model.specs.declared.content.Leaf.TheVariants as leaves
use Rattle.ink_model.specs.declared.fault.Cause.{Cause}
use Rattle.ink_model.specs.declared.fault.Cause.TheVariants.{Shape, Unsupported, Limit}
use Rattle.ink_model.specs.declared.limits.TheConstants.{MAX_TEXT}
use Rattle.ink_model.specs.declared.version.InkVersion.{InkVersion}
use Rattle.ink_model.specs.declared.version.InkVersion.TheVariants.{V20, V21}

-- ---- texts and numbers

-- a text's first byte, `^`, says that the rest is written as it stands
abbrev pub written_leaf : List ℕ → Option (Result Leaf Cause)
written_leaf [] = None
written_leaf (c ∷ cs) = if c == 94 then Some (if nat_lt MAX_TEXT (length cs) then Err Limit else Ok (leaves.Text cs)) else None

unfoldable pub string_leaf : List ℕ → Result Leaf Cause
string_leaf s = unwrap_or (written_leaf s) (ok_or (word s) Unsupported)

-- the integers of 32 bits
abbrev pub is_small : ℤ → Bool
is_small (pos n) = nat_lt n (2 ^ 31)
is_small (negsuc n) = nat_lt n (2 ^ 31)

abbrev pub integer_leaf : Option ℤ → Result Leaf Cause
integer_leaf None = Err Unsupported
integer_leaf (Some z) = if is_small z then Ok (leaves.Int z) else Err Limit

-- ---- options of objects

-- an option that is absent is off
abbrev pub switch : Option Data → Option Bool
switch None = Some false
switch (Some d) = as_bool d

-- a number, where it is whole and not below 0
abbrev pub whole : Option Data → Option ℕ
whole d = option_and_then as_u64 (option_and_then as_number d)

abbrev pub whole_or : ℕ → Option Data → Option ℕ
whole_or n None = Some n
whole_or n (Some d) = whole (Some d)

-- the frame of a pointer, -1 where it is absent
abbrev pub frame_option : Option Data → Option ℤ
frame_option None = Some (negsuc 0)
frame_option (Some d) = option_and_then as_integer (as_number d)

-- ---- objects, by their head

abbrev pub leading_to : Bool → List ℕ → Destination
leading_to by_variable t = if by_variable then destination.Variable t else destination.Path t

-- a divert, a call or a tunnel
abbrev pub jump_leaf : (Destination → Bool → Leaf) → Option (List ℕ) → Option Bool → Option Bool → Result Leaf Cause
jump_leaf make (Some t) (Some by_variable) (Some conditional) = Ok (make (leading_to by_variable t) conditional)
jump_leaf make t by_variable conditional = Err Shape

abbrev pub read_jump : (Destination → Bool → Leaf) → Data → Data → Result Leaf Cause
read_jump make d v = jump_leaf make (as_str v) (switch (get (codes "var") d)) (switch (get (codes "c") d))

-- a call of an external function with so many arguments
abbrev pub external_leaf : Option (List ℕ) → Option ℕ → Option Bool → Result Leaf Cause
external_leaf (Some name) (Some n) (Some conditional) = if nat_lt n (2 ^ 31) then Ok (leaves.External name n conditional) else Err Limit
external_leaf name n conditional = Err Shape

abbrev pub read_external : Data → Data → Result Leaf Cause
read_external d v = external_leaf (as_str v) (whole_or 0 (get (codes "exArgs") d)) (switch (get (codes "c") d))

-- frames are -1, 0 and above
abbrev pub pointer_frame : ℤ → Result ℤ Cause
pointer_frame (pos n) = if nat_lt n (2 ^ 31) then Ok (pos n) else Err Limit
pointer_frame (negsuc zero) = Ok (negsuc 0)
pointer_frame (negsuc (suc n)) = Err Shape

abbrev pub pointer_to : List ℕ → Result ℤ Cause → Result Leaf Cause
pointer_to name (Ok frame) = Ok (leaves.Pointer name frame)
pointer_to name (Err cause) = Err cause

abbrev pub pointer_leaf : Option (List ℕ) → Option ℤ → Result Leaf Cause
pointer_leaf (Some name) (Some frame) = pointer_to name (pointer_frame frame)
pointer_leaf name frame = Err Shape

abbrev pub read_pointer : Data → Data → Result Leaf Cause
read_pointer d v = pointer_leaf (as_str v) (frame_option (get (codes "ci") d))

-- a variable is declared, or assigned where `re` is on
abbrev pub store_leaf : (List ℕ → Leaf) → (List ℕ → Leaf) → Option (List ℕ) → Option Bool → Result Leaf Cause
store_leaf declare assign (Some name) (Some again) = Ok (if again then assign name else declare name)
store_leaf declare assign name again = Err Shape

abbrev pub read_store : (List ℕ → Leaf) → (List ℕ → Leaf) → Data → Data → Result Leaf Cause
read_store declare assign d v = store_leaf declare assign (as_str v) (switch (get (codes "re") d))

-- flags of a choice are below 32, and 16 where they are absent
abbrev pub choice_leaf : Option (List ℕ) → Option ℕ → Result Leaf Cause
choice_leaf (Some t) (Some flags) = if nat_lt flags 32 then Ok (leaves.Choice t flags) else Err Shape
choice_leaf t flags = Err Shape

abbrev pub read_choice : Data → Data → Result Leaf Cause
read_choice d v = choice_leaf (as_str v) (whole_or 16 (get (codes "flg") d))

-- what has a name or a path alone
abbrev pub plain_leaf : (List ℕ → Leaf) → Option (List ℕ) → Result Leaf Cause
plain_leaf make None = Err Shape
plain_leaf make (Some t) = Ok (make t)

abbrev pub read_plain : (List ℕ → Leaf) → Data → Data → Result Leaf Cause
read_plain make d v = plain_leaf make (as_str v)

-- a tag by its text, which is within the limit
abbrev pub tag_leaf : Option (List ℕ) → Result Leaf Cause
tag_leaf None = Err Shape
tag_leaf (Some t) = if nat_lt MAX_TEXT (length t) then Err Limit else Ok (leaves.Tag t)

abbrev pub read_tag : Data → Data → Result Leaf Cause
read_tag d v = tag_leaf (as_str v)

-- what an object is by a head, where it has that
abbrev pub under_head : (Data → Data → Result Leaf Cause) → Data → Option Data → List (Result Leaf Cause)
under_head read d None = []
under_head read d (Some v) = read d v ∷ []

abbrev pub by_head : List ℕ → (Data → Data → Result Leaf Cause) → Data → List (Result Leaf Cause)
by_head k read d = under_head read d (get k d)

unfoldable pub jump_readings : Data → List (Result Leaf Cause)
jump_readings d = by_head (codes "->") (read_jump leaves.Divert) d ++ by_head (codes "f()") (read_jump leaves.Call) d
    ++ by_head (codes "->t->") (read_jump leaves.Tunnel) d ++ by_head (codes "x()") read_external d ++ by_head (codes "*") read_choice d

unfoldable pub value_readings : Data → List (Result Leaf Cause)
value_readings d = by_head (codes "^->") (read_plain leaves.Target) d ++ by_head (codes "^var") read_pointer d
    ++ by_head (codes "VAR?") (read_plain leaves.Variable) d ++ by_head (codes "CNT?") (read_plain leaves.Count) d ++ by_head (codes "#") read_tag d

unfoldable pub store_readings : Data → List (Result Leaf Cause)
store_readings d = by_head (codes "VAR=") (read_store leaves.Declare leaves.Assign) d
    ++ by_head (codes "temp=") (read_store leaves.DeclareTemp leaves.AssignTemp) d

-- an object has exactly one head
abbrev pub sole : List (Result Leaf Cause) → Result Leaf Cause
sole [] = Err Shape
sole (r ∷ []) = r
sole (r ∷ q ∷ rs) = Err Shape

-- the heads that ink has in a version beyond what is supported
abbrev pub is_beyond : InkVersion → Data → Bool
is_beyond V20 d = is_some (get (codes "list") d)
is_beyond V21 d = is_some (get (codes "list") d) || is_some (get (codes "#") d)

unfoldable pub object_leaf : InkVersion → Data → Result Leaf Cause
object_leaf version d = if is_beyond version d then Err Unsupported else sole (jump_readings d ++ (value_readings d ++ store_readings d))

-- the leaf that JSON spells in a story of this version
abbrev pub leaf_of : InkVersion → Data → Result Leaf Cause
leaf_of version null = Err Shape
leaf_of version (boolean b) = Ok (leaves.Bool b)
leaf_of version (number n) = integer_leaf (as_integer n)
leaf_of version (string s) = string_leaf s
leaf_of version (array ds) = Err Shape
leaf_of version (object ms) = object_leaf version (object ms)
