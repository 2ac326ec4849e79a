-- The values at the top of a stack.
use Rattle.std.proofs.Common.{◌≡◌, ◌≢◌, ◌∙◌, ◌⊎◌, ◌==◌, get_or, Vec, Global, vec_len, slice_get, slice_set, Bool, ℕ, ℤ, zero, suc, ◌+◌, ◌-◌, ◌<◌, ◌≤◌, true, false, ap, sym, subst, refl, inl, inr, List, [], ◌∷◌, ◌++◌, length, take, drop, Option, Some, None, option_map, option_and_then, Result, Ok, Err, arith}
use Rattle.std.proofs.Math.Seq.{append_snoc, drop-length, take-length, take-suc-set}
use Rattle.std.proofs.lemmas.List.{append-nil, drop-append-le, length-drop, length-set, length-take, take-append-le, take_all}
use Rattle.std.specs.Option.{ok_or, option_to_list}
use Rattle.std.specs.Result.{IfErr, IfOk, OnErr}
use Rattle.std.proofs.lemmas.Bool.{true_from_ne_false, true≢false}
use Rattle.std.proofs.lemmas.Bool.Decides.{Decides-eqb}
use Rattle.ink_model.specs.Memory.Asks.{operator_asks}
use Rattle.ink_model.specs.Values.Joining.{makes_text}
use Rattle.ink_model.specs.Memory.Refusals.{Gives}
use Rattle.ink_model.specs.Values.Operator.{apply, of_numbers, takes}
use Rattle.ink_model.specs.Values.Stack.{applied, applied_to, on_top, popped, taken}
use Rattle.ink_model.specs.Memory.Variables.{on_popped}
use Rattle.ink_value.specs.Stack.{with_top}
use Rattle.ink_model.specs.declared.fault.Fault.{Fault}
use Rattle.ink_model.specs.declared.fault.Fault.TheVariants.{OutOfMemory, StackEmpty}
use Rattle.ink_model.specs.declared.operator.Op.{Op}
use Rattle.ink_model.specs.declared.operator.Op.TheVariants as op
use Rattle.ink_model.specs.declared.value.Value.{Value}
use Rattle.ink_value.proofs.Operands.{operand_number, two_values}
use Rattle.ink_value.specs.Standing.{number_of}

pub top_of : (vs : List Value) (v : Value) → popped (vs ++ v ∷ []) ≡ Some (v, vs)
top_of [] v = refl
top_of (w ∷ []) v = refl
top_of (w ∷ x ∷ vs) v = ap (option_map (λ r. (r.0, w ∷ r.1))) (top_of (x ∷ vs) v)

popped_under : (w : Value) (r : Option (Value × List Value)) (asks : Value → Bool) → on_popped (option_map (λ t. (t.0, w ∷ t.1)) r) asks ≡ on_popped r asks
popped_under w None asks = refl
popped_under w (Some t) asks = refl

-- what is asked about the value on top
pub top_asks : (vs : List Value) (v : Value) (asks : Value → Bool) → slice_get vs (length vs - 1) ≡ Some v → on_popped (popped vs) asks ≡ asks v
top_asks [] v asks h = absurd (cc)
top_asks (w ∷ []) v asks h = let same : w ≡ v = cc in ap asks same
top_asks (w ∷ x ∷ vs) v asks h =
    let more : length (w ∷ x ∷ vs) - 1 ≡ suc (length (x ∷ vs) - 1) = omega arith in
    popped_under w (popped (x ∷ vs)) asks ∙ top_asks (x ∷ vs) v asks (ap (slice_get (w ∷ x ∷ vs)) (sym more) ∙ h)

-- some values have one on top
top_in : (vs : List Value) (n : ℕ) → length vs ≡ suc n → (us : List Value) × (v : Value) × (vs ≡ us ++ v ∷ []) × (length us ≡ n)
top_in [] n h = absurd (cc)
top_in (v ∷ []) n h = ([], v, refl, omega arith)
top_in (v ∷ w ∷ vs) n h =
    let r = top_in (w ∷ vs) (length vs) refl in
    (v ∷ r.0, r.1, ap (λ xs. v ∷ xs) r.2, omega (arith, r.3))

pub taken_at : (n : ℕ) (vs above : List Value) (below : ℕ) → length vs ≡ below + n → taken n vs above ≡ Some (drop below vs ++ above, take below vs)
taken_at zero vs above below h =
    let e : below ≡ length vs = omega arith in
    rw (e, drop-length vs, take-length vs) refl
taken_at (suc n) vs above below h =
    let r = top_in vs (below + n) (omega arith) in
    let us = r.0 in
    let v = r.1 in
    let within : below ≤ length us = omega (arith, r.3) in
    let seam : Some (drop below us ++ v ∷ above, take below us) ≡ Some (drop below (us ++ v ∷ []) ++ above, take below (us ++ v ∷ [])) =
    rw (drop-append-le below us (v ∷ []) within, take-append-le below us (v ∷ []) within, append_snoc (drop below us) v above) refl in
    subst (λ xs. taken (suc n) xs above ≡ Some (drop below xs ++ above, take below xs)) (sym r.2)
    (ap (option_and_then (λ t. taken n t.1 (t.0 ∷ above))) (top_of us v) ∙ taken_at n us (v ∷ above) below r.3 ∙ seam)

pub taken_short : (n : ℕ) (vs above : List Value) → length vs < n → taken n vs above ≡ None
taken_short zero vs above h = absurd (omega arith)
taken_short (suc n) [] above h = refl
taken_short (suc n) (w ∷ ws) above h =
    let r = top_in (w ∷ ws) (length ws) refl in
    let few : length r.0 < n = omega (arith, r.3) in
    subst (λ xs. taken (suc n) xs above ≡ None) (sym r.2)
    (ap (option_and_then (λ t. taken n t.1 (t.0 ∷ above))) (top_of r.0 r.1) ∙ taken_short n r.0 (r.1 ∷ above) few)

-- ---- an operator on the values on top

on_top_fails : (below : List Value) (r : Result Value Fault) (f : Fault) → Gives {A = Value} (Err f) r → Gives {A = List Value} (Err f) (on_top below r)
on_top_fails below (Ok v) f h = elim h [
  | inl short ↦ inl (short.0, refl)
  | inr same ↦ absurd (cc)
]
on_top_fails below (Err g) f h = elim h [
  | inl short ↦ inl short
  | inr same ↦ inr (let e : g ≡ f = cc in ap Err e)
]

pub too_few : (o : Op) (vs : List Value) → length vs < takes o → applied o vs ≡ Err StackEmpty
too_few o vs few = ap (applied_to o) (taken_short (takes o) vs [] few)

module _ (o : Op) (vs : List Value) (below : ℕ) (enough : length vs ≡ below + takes o) (xs : List Value) (same : xs ≡ vs) where
  -- the operands, as a slice of the stack
  slice : take (length xs - below) (drop below xs) ≡ drop below vs
  slice = rw (← length-drop below xs, take-length (drop below xs), same) refl

  operands : taken (takes o) vs [] ≡ Some (take (length xs - below) (drop below xs), take below vs)
  operands = taken_at (takes o) vs [] below enough ∙ ap (λ ys. Some (ys, take below vs)) (append-nil (drop below vs) ∙ sym slice)

  applied_at : applied o vs ≡ on_top (take below vs) (apply o (take (length xs - below) (drop below xs)))
  applied_at = ap (applied_to o) operands

  pub makes : (v : Value) → apply o (take (length xs - below) (drop below xs)) ≡ Ok v → applied o vs ≡ Ok (take below vs ++ v ∷ [])
  makes v h = applied_at ∙ ap (on_top (take below vs)) h

  pub makes_none : (f : Fault) → Gives (Err f) (apply o (take (length xs - below) (drop below xs))) → Gives {A = List Value} (Err f) (applied o vs)
  makes_none f h = subst (λ r. Gives {A = List Value} (Err f) r) (sym applied_at) (on_top_fails (take below vs) _ f h)

  pub asks : makes_text o (take (length xs - below) (drop below xs)) ≢ false → operator_asks o (taken (takes o) vs []) ≡ true
  asks h = ap (operator_asks o) operands ∙ true_from_ne_false _ h

-- ---- an operator on two values on top that count for numbers

two_taken : (vs xs : List Value) (below : ℕ) (v w : Value) → xs ≡ vs → length vs ≡ below + 2 → take (length xs - below) (drop below xs) ≡ v ∷ w ∷ []
    → taken 2 vs [] ≡ Some (v ∷ w ∷ [], take (length vs - 2) vs)
two_taken vs xs below v w same enough two =
    let all : take (length xs - below) (drop below xs) ≡ drop below vs = rw (← length-drop below xs, take-length (drop below xs), same) refl in
    let at : below ≡ length vs - 2 = omega (arith, enough) in
    taken_at 2 vs [] below enough ∙ ap (λ ys. Some (ys ++ [], take below vs)) (sym all ∙ two) ∙ ap (λ n. Some (v ∷ w ∷ [], take n vs)) at

-- two values at their places in the slice
at_places : (vs xs : List Value) (below : ℕ) (v w d e : Value) → xs ≡ vs → length vs ≡ below + 2 → v ≡ get_or (take (length xs - below) (drop below xs)) 0 d
    → w ≡ get_or (take (length xs - below) (drop below xs)) 1 e → take (length xs - below) (drop below xs) ≡ v ∷ w ∷ []
at_places vs xs below v w d e same enough p q =
    two_values (take (length xs - below) (drop below xs)) v w d e
    (omega (arith, length-take (length xs - below) (drop below xs), length-drop below xs, ap length same, enough)) p q

-- what makes something of two numbers takes two values
takes_two : (o : Op) (x y : ℤ) (v : Value) → of_numbers o x y ≡ Ok v → takes o ≡ 2
takes_two op.Negate x y v h = absurd (cc)
takes_two op.Not x y v h = absurd (cc)
takes_two op.Floor x y v h = absurd (cc)
takes_two op.Ceiling x y v h = absurd (cc)
takes_two op.Int x y v h = absurd (cc)
takes_two o x y v h = refl

pub numbers_make : (vs xs : List Value) (below : ℕ) (v w : Value) (x y : ℤ) → xs ≡ vs → length vs ≡ below + 2 → take (length xs - below) (drop below xs) ≡ v ∷ w ∷ []
    → number_of v ≡ Some x → number_of w ≡ Some y → (o : Op) (made : Value) → of_numbers o x y ≡ Ok made → applied o vs ≡ Ok (take (length vs - 2) vs ++ made ∷ [])
unfolding apply
numbers_make vs xs below v w x y same enough two is_x is_y o made h =
    let makes : apply o (v ∷ w ∷ []) ≡ Ok made = rw (operand_number v x is_x, operand_number w y is_y) h in
    ap (λ n. applied_to o (taken n vs [])) (takes_two o x y made h) ∙ ap (applied_to o) (two_taken vs xs below v w same enough two) ∙ ap (on_top (take (length vs - 2) vs)) makes

pub numbers_at : (vs xs : List Value) (below : ℕ) (v w d e : Value) (x y : ℤ) → xs ≡ vs → length vs ≡ below + 2 → v ≡ get_or (take (length xs - below) (drop below xs)) 0 d
    → w ≡ get_or (take (length xs - below) (drop below xs)) 1 e → number_of v ≡ Some x → number_of w ≡ Some y
    → (o : Op) (made : Value) → of_numbers o x y ≡ Ok made → applied o vs ≡ Ok (take (length vs - 2) vs ++ made ∷ [])
numbers_at vs xs below v w d e x y same enough p q is_x is_y =
    numbers_make vs xs below v w x y same enough (at_places vs xs below v w d e same enough p q) is_x is_y

-- the last value in another's place
pub last_put : (vs : List Value) (n : ℕ) (v : Value) → length vs ≡ suc n → slice_set vs n v ≡ take n vs ++ v ∷ []
last_put vs n v long =
    sym (take_all (suc n) (slice_set vs n v) (omega (arith, length-set vs n v, long))) ∙ take-suc-set vs n v (omega (arith, long))

-- ---- another value in the place of the one on top

with_top_under : (w v : Value) (r : Option (Value × List Value)) → with_top v (option_map (λ t. (t.0, w ∷ t.1)) r) ≡ option_map (λ us. w ∷ us) (with_top v r)
with_top_under w v None = refl
with_top_under w v (Some t) = refl

pub top_set : (vs : List Value) (n : ℕ) (v : Value) → length vs ≡ suc n → Some (slice_set vs n v) ≡ with_top v (popped vs)
top_set [] n v h = absurd (cc)
top_set (w ∷ []) zero v h = refl
top_set (w ∷ []) (suc n) v h = absurd (omega arith)
top_set (w ∷ x ∷ vs) zero v h = absurd (omega arith)
top_set (w ∷ x ∷ vs) (suc n) v h = ap (option_map (λ us. w ∷ us)) (top_set (x ∷ vs) n v (omega arith)) ∙ sym (with_top_under w v (popped (x ∷ vs)))

pub last_set : (vs : List Value) (v : Value) → 0 < length vs → Some (slice_set vs (length vs - 1) v) ≡ with_top v (popped vs)
last_set vs v h = top_set vs (length vs - 1) v (omega arith)

pub top_put : (vs : List Value) (v : Value) → 0 < length vs → Some (take (length vs - 1) vs ++ v ∷ []) ≡ with_top v (popped vs)
top_put vs v h = ap Some (sym (last_put vs (length vs - 1) v (omega arith))) ∙ last_set vs v h

-- ---- how many there are

-- there are so many, as they are counted
pub counted : (n k below : ℕ) (items : Vec Value Global) (vs : List Value) → n ≡ vec_len items → items.items ≡ vs → (k ≤ n) × (below ≡ n - k) → length vs ≡ below + k
counted n k below items vs count same found = omega (arith, count, items.ok.0, ap length same, found.0, found.1)

-- there are some, or none, as the test of the list told
pub some_of : (b : Bool) (items : Vec Value Global) (vs : List Value) → b ≡ (vec_len items == 0) → b ≡ false → items.items ≡ vs → 0 < length vs
some_of b items vs told is same =
    let some : vec_len items ≢ 0 = λ none. true≢false (sym ((Decides-eqb (vec_len items) 0).1 none) ∙ sym told ∙ is) in
    omega (arith, some, items.ok.0, ap length same)

pub none_of : (b : Bool) (items : Vec Value Global) (vs : List Value) → b ≡ (vec_len items == 0) → b ≡ true → items.items ≡ vs → popped vs ≡ None
none_of b items vs told is same =
    let none : vec_len items ≡ 0 = (Decides-eqb (vec_len items) 0).0 (sym told ∙ is) in
    empty vs (omega (arith, none, items.ok.0, ap length same))
  where
    empty : (us : List Value) → length us ≡ 0 → popped us ≡ None
    empty [] h = refl
    empty (u ∷ us) h = absurd (cc)

-- an operator takes one or two
pub few_taken : (o : Op) → (0 < takes o) × (takes o ≤ 2)
few_taken op.Negate = (omega arith, omega arith)
few_taken op.Not = (omega arith, omega arith)
few_taken op.Floor = (omega arith, omega arith)
few_taken op.Ceiling = (omega arith, omega arith)
few_taken op.Int = (omega arith, omega arith)
few_taken o = (omega arith, omega arith)

-- ---- a value that is popped, where there is one

pub pop_gives : (o : Option Value) (r : Result Value Fault) (old new : List Value) → r ≡ ok_or o StackEmpty → old ≡ new ++ option_to_list o
    → IfOk r (λ v. old ≡ new ++ v ∷ []) × OnErr r (new ≡ old) × IfErr r (λ f. (f ≡ StackEmpty) ⊎ (f ≡ OutOfMemory)) × (r ≡ Err OutOfMemory → ⊥)
pop_gives None r old new is was = rw is (tt, sym (was ∙ append-nil new), inl refl, λ e. absurd (cc))
pop_gives (Some v) r old new is was = rw is (was, tt, tt, λ e. absurd (cc))
