-- Where variables ask for memory (docs/RUNNING.md, "Out of memory").
use Rattle.std.specs.Prelude.{ℕ, List, Bool, true, false, not, ◌&&◌, ◌||◌, Option, Some, None, is_ok, is_some}
use Rattle.ink_model.specs.Flow.Frames.{ThreadOf}
use Rattle.ink_model.specs.Variables.Access.{assign, declare, named, on_pointer}
use Rattle.ink_model.specs.Variables.Rows.{name_order, row}
use Rattle.ink_model.specs.Variables.Store.{Values, stored}
use Rattle.ink_model.specs.declared.scope.Scope.{Scope}
use Rattle.ink_model.specs.declared.scope.Scope.TheVariants.{Global, Temporary}
use Rattle.ink_model.specs.declared.value.Value.{Value}

-- what a pointer leads to is one more owner of its name
abbrev pub is_pointer : Option Value → Bool
is_pointer v = on_pointer v (λ frame name. true) false

module _ {P : Type 0} (globals : Values) (thread : ThreadOf P) where
  -- there is a variable of that name where one is declared
  abbrev pub is_there : Scope → List ℕ → Bool
  is_there Global name = is_some (stored name globals)
  is_there Temporary name = is_some (row name_order name thread.frame.temps)

  -- a variable that is new
  abbrev pub setting_asks : Scope → List ℕ → Bool
  setting_asks scope name = not (is_there scope name)

  -- a pointer that is kept, or what is set
  abbrev pub declare_asks : Scope → List ℕ → Value → Bool
  declare_asks scope name v = is_ok (declare globals thread scope name v) && (is_pointer (Some v) || setting_asks scope name)

  -- a pointer that is followed; what is set is there
  abbrev pub assign_asks : List ℕ → Value → Bool
  assign_asks name v = is_ok (assign globals thread name v) && is_pointer (named globals thread name)

-- what is popped is asked about; where nothing is there to be popped, nothing is asked
abbrev pub on_popped : Option (Value × List Value) → (Value → Bool) → Bool
on_popped None asks = false
on_popped (Some r) asks = asks r.0
