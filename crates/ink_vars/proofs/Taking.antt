-- What is put back of globals.
use Rattle.std.proofs.Common.{◌≡◌, ◌∙◌, Option, ◌≤◌, ◌<◌, ℕ, suc, List, [], ◌∷◌, None, Some, ap, arith, bytes_eq, false, true, Bool, if◌then◌else◌, length, refl}
use Rattle.ink_vars.proofs.Common.{set_value_at, Values, store, stored, Value, global_index, but_last}
use Rattle.ink_vars.proofs.Naming.{store_new}
use Rattle.ink_vars.proofs.Numbers.{number_there}
use Rattle.ink_trail.proofs.Ending.{but_last-snoc}

-- a new global comes last
pub added : (name : List ℕ) (v : Value) (rows : Values) → stored name rows ≡ None → but_last (store name v rows) ≡ rows
added name v [] h = refl
added name v (e ∷ rows) h = ap but_last (store_new name v (e ∷ rows) h) ∙ but_last-snoc (e ∷ rows) (name, v)

-- ---- by the number of a name

-- a value that is written at the number of a name that is there
pub written_over : (name : List ℕ) (v : Value) (rows : Values) → global_index name rows < length rows → set_value_at rows (global_index name rows) v ≡ store name v rows
written_over name v [] h = absurd (omega (arith, h))
written_over name v (e ∷ rows) h = by (bytes_eq name e.0) h (written_over name v rows)
  where
    by : (b : Bool) → (if b then 0 else suc (global_index name rows)) < suc (length rows) → (global_index name rows < length rows → set_value_at rows (global_index name rows) v ≡ store name v rows)
        → set_value_at (e ∷ rows) (if b then 0 else suc (global_index name rows)) v ≡ (if b then (e.0, v) ∷ rows else e ∷ store name v rows)
    by true k on = refl
    by false k on = ap (λ rest. e ∷ rest) (on (omega (arith, k)))

-- what is put back at the number of a name is what it was
pub was_there : (name : List ℕ) (v w : Value) (rows : Values) → global_index name rows < length rows → set_value_at (set_value_at rows (global_index name rows) v) (global_index name rows) w ≡ rows
    → Some w ≡ stored name rows
was_there name v w [] h back = absurd (omega (arith, h))
was_there name v w (e ∷ rows) h back = by (bytes_eq name e.0) h back (was_there name v w rows)
  where
    by : (b : Bool) → (if b then 0 else suc (global_index name rows)) < suc (length rows)
        → set_value_at (set_value_at (e ∷ rows) (if b then 0 else suc (global_index name rows)) v) (if b then 0 else suc (global_index name rows)) w ≡ e ∷ rows
        → (global_index name rows < length rows → set_value_at (set_value_at rows (global_index name rows) v) (global_index name rows) w ≡ rows → Some w ≡ stored name rows)
        → Some w ≡ (if b then Some e.1 else stored name rows)
    by true k back on =
        let head : (e.0, w) ≡ e = cc in
        ap (λ p. Some p.1) head
    by false k back on = on (omega (arith, k)) (cc)

-- a name whose number is no global's is not there
pub absent_past : (name : List ℕ) (rows : Values) → length rows ≤ global_index name rows → stored name rows ≡ None
absent_past name rows h = by (stored name rows) refl
  where
    by : (o : Option Value) → stored name rows ≡ o → stored name rows ≡ None
    by None is = is
    by (Some v) is = absurd (omega (arith, h, number_there name rows v is))

-- a new global is one more
pub one_longer : (name : List ℕ) (v : Value) (rows : Values) → stored name rows ≡ None → length (store name v rows) ≡ suc (length rows)
one_longer name v [] h = refl
one_longer name v (e ∷ rows) h = by (bytes_eq name e.0) h (one_longer name v rows)
  where
    by : (b : Bool) → (if b then Some e.1 else stored name rows) ≡ None → (stored name rows ≡ None → length (store name v rows) ≡ suc (length rows))
        → length (if b then (e.0, v) ∷ rows else e ∷ store name v rows) ≡ suc (suc (length rows))
    by true k on = absurd (cc)
    by false k on = ap suc (on k)
