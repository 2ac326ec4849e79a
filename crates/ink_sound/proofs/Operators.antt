-- What operators make of values fits, whatever the values are.
use Rattle.std.proofs.Common.{◌≡◌, refl, arith, ℕ, zero, suc, ◌+◌, ◌≤◌, lit≤, ℤ, List, [], ◌∷◌, ◌++◌, length, length-append, true, false, Some, None, Ok, Err, IsTrue}
use Rattle.ink_sound.proofs.Common.{cond_both, fits_text, is_small, StoryTree, Path, Value, EffectFits, FieldsFit, Finds, Gives, StackFits, ValueFits, Each}
use Rattle.ink_model.specs.Run.Effect.{Fields, Moves}
use Rattle.ink_model.specs.Values.Operator.{Operand, number, words, target, Operands, numbers, texts, targets, unlike, apply, both, operand, can_divide, of_numbers, of_one, of_targets, of_texts, of_two, takes}
use Rattle.ink_model.specs.Values.Stack.{applied, applied_to, on_top, popped, taken}
use Rattle.ink_model.specs.Run.Step.Evaluation.{operate}
use Rattle.ink_model.specs.declared.operator.Op.{Op}
use Rattle.ink_model.specs.declared.operator.Op.TheVariants as op
use Rattle.ink_model.specs.declared.value.Value.TheVariants.{Int, Bool as Truth}
use Rattle.ink_sound.proofs.Ints.{div_small, rem_small, wrapped}
use Rattle.ink_sound.proofs.Values.{TakenFits, each_one, finds_of, on_finds, or_fault_fits, popped_fits}

module _ (s : StoryTree) where
  -- ---- what is made

  of_numbers_fits : (o : Op) (x y : ℤ) → is_small x ≡ true → is_small y ≡ true → Gives (ValueFits s) (of_numbers o x y)
  of_numbers_fits op.Add x y h k = search wrapped
  of_numbers_fits op.Subtract x y h k = search wrapped
  of_numbers_fits op.Multiply x y h k = search wrapped
  of_numbers_fits op.Divide x y h k = cond_both (can_divide x y) _ _ (Gives (ValueFits s)) (div_small x y h) (λ _. tt)
  of_numbers_fits op.Remainder x y h k = cond_both (can_divide x y) _ _ (Gives (ValueFits s)) (λ _. rem_small x y h) (λ _. tt)
  of_numbers_fits op.Min x y h k = cond_both _ y x (λ z. is_small z ≡ true) (λ _. k) (λ _. h)
  of_numbers_fits op.Max x y h k = cond_both _ x y (λ z. is_small z ≡ true) (λ _. h) (λ _. k)
  of_numbers_fits o x y h k = tt

  of_texts_fits : (o : Op) (a b : List ℕ) → Gives (ValueFits s) (of_texts o a b)
  of_texts_fits op.Add a b = cond_both (fits_text (a ++ b)) _ _ (Gives (ValueFits s)) (λ e. e) (λ _. tt)
  of_texts_fits o a b = tt

  of_targets_fits : (o : Op) (p q : Path) → Gives (ValueFits s) (of_targets o p q)
  of_targets_fits op.Equal p q = tt
  of_targets_fits o p q = tt

  -- numbers have 32 bits
  abbrev OperandFits : Operand → Type 0
  OperandFits (number z t) = IsTrue (is_small z)
  OperandFits a = Unit {0}

  abbrev OperandsFit : Operands → Type 0
  OperandsFit (numbers x y) = IsTrue (is_small x) × IsTrue (is_small y)
  OperandsFit a = Unit {0}

  operand_fits : (v : Value) → ValueFits s v → OperandFits (operand v)
  operand_fits (Int z) h = h
  operand_fits (Truth true) h = refl
  operand_fits (Truth false) h = refl
  operand_fits v h = tt

  both_fit : (a b : Operand) → OperandFits a → OperandFits b → OperandsFit (both a b)
  both_fit (number x t) (number y u) h k = (h, k)
  both_fit (words t) (words u) h k = tt
  both_fit (target p) (target q) h k = tt
  both_fit a b h k = tt

  of_one_fits : (o : Op) (a : Operand) → OperandFits a → Gives (ValueFits s) (of_one o a)
  of_one_fits op.Negate (number x t) h = search wrapped
  of_one_fits op.Floor (number x t) h = h
  of_one_fits op.Ceiling (number x t) h = h
  of_one_fits op.Int (number x t) h = h
  of_one_fits o (number x t) h = tt
  of_one_fits o a h = tt

  of_two_fits : (o : Op) (a : Operands) → OperandsFit a → Gives (ValueFits s) (of_two o a)
  of_two_fits o (numbers x y) h = of_numbers_fits o x y h.0 h.1
  of_two_fits o (texts a b) h = of_texts_fits o a b
  of_two_fits o (targets p q) h = of_targets_fits o p q
  of_two_fits o unlike h = tt

  pub apply_fits : (o : Op) (vs : List Value) → Each (ValueFits s) vs → Gives (ValueFits s) (apply o vs)
  unfolding apply
  apply_fits o [] h = tt
  apply_fits o (v ∷ []) h = of_one_fits o (operand v) (operand_fits v h.0)
  apply_fits o (v ∷ w ∷ []) h = of_two_fits o (both (operand v) (operand w)) (both_fit (operand v) (operand w) (operand_fits v h.0) (operand_fits w h.1.0))
  apply_fits o (v ∷ w ∷ x ∷ vs) h = tt

  -- ---- on the stack

  takes_some : (o : Op) → 1 ≤ takes o
  takes_some op.Negate = lit≤ tt
  takes_some o = lit≤ tt

  -- so many values were taken off these, and these are left
  record AllTaken (n : ℕ) (vs : List Value) (r : List Value × List Value) : Type 0 where
    taken_all : Each (ValueFits s) r.0
    left : Each (ValueFits s) r.1
    less : length r.1 + n ≡ length vs

  taken_fits : (n : ℕ) (vs above : List Value) → Each (ValueFits s) vs → Each (ValueFits s) above → Finds (AllTaken n vs) (taken n vs above)
  taken_fits zero vs above h k = record { taken_all = k; left = h; less = omega arith }
  taken_fits (suc n) vs above h k = on_finds (TakenFits s vs) (AllTaken (suc n) vs) (popped vs) _ (popped_fits s vs h)
      (λ r t. finds_of (AllTaken n r.1) (AllTaken (suc n) vs) (taken n r.1 (r.0 ∷ above)) (taken_fits n r.1 (r.0 ∷ above) t.left (t.value, k))
      (λ q on. record { taken_all = on.taken_all; left = on.left; less = omega (arith, t.less, on.less) }))

  pub applied_fits : (o : Op) (vs : List Value) → StackFits s vs → Gives (StackFits s) (applied o vs)
  applied_fits o vs h = (elim (taken (takes o) vs []) as (λ r. Finds (AllTaken (takes o) vs) r → Gives (StackFits s) (applied_to o r)) [
    | None ↦ λ k. tt
    | Some r ↦ λ k. (elim (apply o r.0) as (λ made. Gives (ValueFits s) made → Gives (StackFits s) (on_top r.1 made)) [
      | Err f ↦ λ g. tt
      | Ok v ↦ λ g. record { each = each_one (ValueFits s) r.1 v k.left g; few = rw (length-append r.1 (v ∷ [])) (omega (arith, k.less, h.few, takes_some o)) }
    ]) (apply_fits o r.0 k.taken_all)
  ]) (taken_fits (takes o) vs [] h.each tt)

  pub operate_fits : (o : Op) (f : Fields) → FieldsFit s f → EffectFits s (operate o f)
  operate_fits o f h =
      or_fault_fits s (StackFits s) (applied o f.stack) (λ vs. Moves (record f { stack = vs })) (applied_fits o f.stack h.stack)
      (λ vs k. record { stack = k; globals = h.globals; page = h.page })
