-- What temporaries and frames held, put back.
use Rattle.std.specs.Prelude.{ℕ, zero, suc, [], ◌∷◌, remove, Bool, Option, Some, None}
use Rattle.ink_model.specs.Flow.Frames.{FrameOf}
use Rattle.ink_model.specs.Variables.Store.{Values}
use Rattle.ink_model.specs.declared.value.Value.{Value}

-- another value in the row at an index
abbrev pub value_at : ℕ → Value → Values → Values
value_at i v [] = []
value_at zero v (r ∷ rs) = (r.0, v) ∷ rs
value_at (suc i) v (r ∷ rs) = r ∷ value_at i v rs

-- the row at an index holds what it held; where that was nothing it goes
abbrev pub temps_back : ℕ → Option Value → Values → Values
temps_back i None rows = remove rows i
temps_back i (Some v) rows = value_at i v rows

module _ {P : Type 0} where
  abbrev pub with_fresh : Bool → FrameOf P → FrameOf P
  with_fresh b f = record f { fresh = b }

  abbrev pub temp_back : ℕ → Option Value → FrameOf P → FrameOf P
  temp_back i o f = record f { temps = temps_back i o f.temps }
