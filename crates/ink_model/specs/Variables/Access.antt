-- Variables, and what pointers lead to (docs/VARIABLES.md).
use Rattle.std.specs.Prelude.{ℕ, ◌+◌, ℤ, pos, negsuc, zero, suc, List, Bool, false, nat_lt, if◌then◌else◌, Option, Some, None, is_some, unwrap_or, Result, Ok, Err}
use Rattle.std.specs.Option.{option_or}
use Rattle.ink_model.specs.Flow.Frames.{ThreadOf}
use Rattle.ink_model.specs.Flow.Threads.{frame_count, temp_in, with_temp}
use Rattle.ink_model.specs.Variables.Rows.{name_order, row}
use Rattle.ink_model.specs.Variables.Store.{Values, stored, store}
use Rattle.ink_model.specs.declared.fault.Fault.{Fault}
use Rattle.ink_model.specs.declared.fault.Fault.TheVariants.{BadPointer, NoTemp}
use Rattle.ink_model.specs.declared.scope.Scope.{Scope}
use Rattle.ink_model.specs.declared.scope.Scope.TheVariants.{Global, Temporary}
use Rattle.ink_model.specs.declared.value.Value.{Value}
use Rattle.ink_model.specs.declared.value.Value.TheVariants.{Int, Pointer}

-- what is to be done with a pointer, or else
abbrev pub on_pointer : {X : Type 0} → Option Value → (ℤ → List ℕ → X) → X → X
on_pointer (Some (Pointer frame name)) so otherwise = so frame name
on_pointer v so otherwise = otherwise

-- the pointer that is kept of a chain with this end
abbrev pub kept_pointer : Option (ℤ × List ℕ) → Result Value Fault
kept_pointer None = Err BadPointer
kept_pointer (Some p) = Ok (Pointer p.0 p.1)

module _ {P : Type 0} (globals : Values) (thread : ThreadOf P) where
  -- ---- where names and pointers lead

  -- the value of a name alone: that of the global, or else that of the top frame's temporary
  abbrev pub named : List ℕ → Option Value
  named name = option_or (stored name globals) (row name_order name thread.frame.temps)

  -- the value of a name in the frame of a number, which is 0 for the globals
  abbrev pub held : ℤ → List ℕ → Option Value
  held (pos zero) name = stored name globals
  held (pos (suc n)) name = temp_in (suc n) name thread
  held (negsuc n) name = None

  -- there is that global, or that frame, whether it has the name or not
  abbrev pub stands : ℤ → List ℕ → Bool
  stands (pos zero) name = is_some (stored name globals)
  stands (pos (suc n)) name = nat_lt n (frame_count thread)
  stands (negsuc n) name = false

  -- the last pointer of a chain that begins with this one; none where it has more than so many
  abbrev pub last_pointer : ℕ → ℤ → List ℕ → Option (ℤ × List ℕ)
  last_pointer zero frame name = None
  last_pointer (suc n) frame name = on_pointer (held frame name) (last_pointer n) (Some (frame, name))

  -- a chain has at most one pointer more than there are frames
  abbrev pub chain_end : ℤ → List ℕ → Option (ℤ × List ℕ)
  chain_end frame name = last_pointer (frame_count thread + 1) frame name

  -- ---- reading

  -- what a pointer leads to is read as 0 where the frame lacks the name
  abbrev pub value_at : Option (ℤ × List ℕ) → Result Value Fault
  value_at None = Err BadPointer
  value_at (Some p) = if stands p.0 p.1 then Ok (unwrap_or (held p.0 p.1) (Int (pos 0))) else Err BadPointer

  abbrev pub value_of : Option Value → Result Value Fault
  value_of v = on_pointer v (λ frame name. value_at (chain_end frame name)) (Ok (unwrap_or v (Int (pos 0))))

  -- a name that nothing has reads 0
  abbrev pub read : List ℕ → Result Value Fault
  read name = value_of (named name)

  -- ---- assigning

  abbrev pub with_held : ℤ → List ℕ → Value → Values × ThreadOf P
  with_held (pos zero) name v = (store name v globals, thread)
  with_held (pos (suc n)) name v = (globals, with_temp (suc n) name v thread)
  with_held (negsuc n) name v = (globals, thread)

  abbrev pub with_named : List ℕ → Value → Values × ThreadOf P
  with_named name v = if is_some (stored name globals)
      then (store name v globals, thread) else (globals, with_temp (frame_count thread) name v thread)

  abbrev pub assign_at : Value → Option (ℤ × List ℕ) → Result (Values × ThreadOf P) Fault
  assign_at v None = Err BadPointer
  assign_at v (Some p) = if stands p.0 p.1
      then (if is_some (held p.0 p.1) then Ok (with_held p.0 p.1 v) else Err NoTemp) else Err BadPointer

  -- what has the name, or what the pointer that it holds leads to, gets the value
  abbrev pub assign : List ℕ → Value → Result (Values × ThreadOf P) Fault
  assign name v = on_pointer (named name) (λ frame to. assign_at v (chain_end frame to))
      (if is_some (named name) then Ok (with_named name v) else Err NoTemp)

  -- ---- declaring

  -- of a pointer the last of its chain is kept, wherever that leads
  abbrev pub kept : Value → Result Value Fault
  kept v = on_pointer (Some v) (λ frame name. kept_pointer (chain_end frame name)) (Ok v)

  abbrev pub with_declared : Scope → List ℕ → Value → Values × ThreadOf P
  with_declared Global name v = (store name v globals, thread)
  with_declared Temporary name v = (globals, with_temp (frame_count thread) name v thread)

  abbrev pub declared : Scope → List ℕ → Result Value Fault → Result (Values × ThreadOf P) Fault
  declared scope name (Ok v) = Ok (with_declared scope name v)
  declared scope name (Err f) = Err f

  abbrev pub declare : Scope → List ℕ → Value → Result (Values × ThreadOf P) Fault
  declare scope name v = declared scope name (kept v)

-- ---- pointers that are pushed

-- A pointer whose frame is not known leads to the top frame where that has the name, and else to the globals.
abbrev pub point : {P : Type 0} → ThreadOf P → ℤ → List ℕ → Value
point thread (pos n) name = Pointer (pos n) name
point thread (negsuc n) name =
    Pointer (if is_some (row name_order name thread.frame.temps) then pos (frame_count thread) else pos 0) name
