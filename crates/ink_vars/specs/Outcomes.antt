-- What calls on variables do, by what the rules give.
use Rattle.std.specs.Borrow.{Bor}
use Rattle.std.specs.Prelude.{◌≡◌, ◌≤◌, ℕ, ℤ, pos, List, Bool, true, false, not, ◌&&◌, Option, Some, None, is_some, Result, Ok, Err, is_ok}
use Rattle.ink_model.specs.Flow.Frames.{ThreadOf}
use Rattle.ink_model.specs.Memory.Refusals.{ByRule, LacksMemory, holds_memory}
use Rattle.ink_model.specs.Variables.Store.{Values}
use Rattle.ink_model.specs.Flow.Threads.{frame_count}
use Rattle.ink_model.specs.Memory.Variables.{is_pointer, is_there}
use Rattle.ink_model.specs.Variables.Access.{assign, assign_at, chain_end, held, named, on_pointer, with_declared, with_held}
use Rattle.ink_model.specs.declared.fault.Fault.{Fault}
use Rattle.ink_model.specs.declared.scope.Scope.{Scope}
use Rattle.ink_model.specs.declared.value.Value.{Value}
use Rattle.ink_model.specs.declared.value.Value.TheVariants.{Int}
use Rattle.ink_vars.specs.declared.places.Name.{Name}
use Rattle.ink_vars.specs.declared.places.Name.TheVariants.{Given, Pointed}
use Rattle.ink_vars.specs.declared.places.Variable.{Variable}

-- the text of a variable's name
abbrev pub name_of : Name → List ℕ
name_of (Given name number) = name.now
name_of (Pointed name index) = name

-- the number that it was given with
abbrev pub number_of_name : Name → Option ℕ
number_of_name (Given name number) = number
number_of_name (Pointed name index) = None

-- A call hands out what the rule gives, or has the rule's fault. Where there is no fault and it asks for memory, it may be refused that.
abbrev pub HandsOut : {A : Type 0} → Bool → Result A Fault → Result A Fault → Type 0
HandsOut asks rule result = ByRule (LacksMemory (is_ok rule && asks)) (λ a b. b ≡ a) (λ why. why) rule result

-- what a variable is read as, without a copy; nothing reads 0
abbrev pub looked : Result (Option (Bor Value)) Fault → Result Value Fault
looked (Ok (Some v)) = Ok v.now
looked (Ok None) = Ok (Int (pos 0))
looked (Err f) = Err f

-- ---- where memory is asked for

-- a copy of what is handed out
abbrev pub copy_asks : Result Value Fault → Bool
copy_asks (Ok v) = holds_memory v
copy_asks (Err f) = false

-- A call hands out a copy of the value that the rule gives, or the rule's fault.
abbrev pub Copies : Result Value Fault → Result Value Fault → Type 0
Copies rule result = HandsOut (copy_asks rule) rule result

module _ {P : Type 0} (globals : Values) (thread : ThreadOf P) where
  -- ---- what is there to be read

  -- the value at the end of a chain, where its frame has it
  abbrev pub found_at : Option (ℤ × List ℕ) → Option Value
  found_at None = None
  found_at (Some p) = held globals thread p.0 p.1

  -- the value of a name, or that at the end of its pointer's chain
  abbrev pub found : List ℕ → Option Value
  found name = on_pointer (named globals thread name) (λ frame to. found_at (chain_end globals thread frame to)) (named globals thread name)

  -- ---- what is written to

  -- a variable by the number of its frame and its name
  abbrev pub held_by : Variable → Option Value
  held_by x = held globals thread (pos x.frame) (name_of x.name)

  abbrev pub with_variable : Variable → Value → Values × ThreadOf P
  with_variable x v = with_held globals thread (pos x.frame) (name_of x.name) v

  -- a variable that is new
  abbrev pub writing_asks : Variable → Bool
  writing_asks x = not (is_some (held_by x))

  -- A call tells the variable that a rule writes with a value, which is there, or has the rule's fault. Where a pointer is followed,
  -- the name that it leads to gets one more owner, which may be refused.
  abbrev pub Writes : Bool → Value → Result (Values × ThreadOf P) Fault → Result Variable Fault → Type 0
  Writes follows v rule result = ByRule (LacksMemory (is_ok rule && follows))
      (λ new x. (x.frame ≤ frame_count thread) × (is_some (held_by x) ≡ true) × (new ≡ with_variable x v)) (λ why. why) rule result

  -- assigning to a name writes it
  abbrev pub LeadsTo : List ℕ → Result Variable Fault → Type 0
  LeadsTo name result = (v : Value) → Writes (is_pointer (named globals thread name)) v (assign globals thread name v) result

  -- assigning to a pointer does, by the end of its chain
  abbrev pub LeadsInto : Option (ℤ × List ℕ) → Result Variable Fault → Type 0
  LeadsInto end result = (v : Value) → Writes true v (assign_at globals thread v end) result

  -- Declaring a name in a scope writes this variable.
  abbrev pub Declares : Scope → List ℕ → Variable → Type 0
  Declares scope name x =
      (is_some (held_by x) ≡ is_there globals thread scope name) × ((v : Value) → with_declared globals thread scope name v ≡ with_variable x v)
