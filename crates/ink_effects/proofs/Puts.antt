-- A value that is put in the place of those on top of a stack.
use Rattle.std.proofs.Common.{◌≡◌, ◌∙◌, ◌+◌, ◌-◌, ◌<◌, ◌≤◌, ap, sym, subst, refl, arith, ◌&&◌, ℕ, suc, List, [], ◌∷◌, ◌++◌, length, drop, take, get_or, length-append, nat_le, nat_lt, if◌then◌else◌, Bool, true, false, not, Option, Some, None, option_map, Result, Ok, Err}
use Rattle.std.proofs.lemmas.Bool.{le-leb, leb-true, lt-ltb}
use Rattle.std.proofs.lemmas.List.{take_all, take_more}
use Rattle.ink_model.specs.Choices.Making.{has_any}
use Rattle.ink_effects.proofs.Common.{Fields, Moves, Fails, or_fault, pushing, Page, popped, pushed, Values, StoryTree, Fault, OutOfMemory, TooDeep, Given, MAX_STACK, Value, Performs, fields, moving}
use Rattle.ink_model.specs.Host.Bindings.{fits_given, value_given}
use Rattle.ink_model.specs.Memory.Refusals.{Leaves, given_asks, holds_memory}
use Rattle.ink_model.specs.Run.Step.Host.{answering, arguments_on}
use Rattle.ink_model.specs.declared.value.Value.TheVariants.{Void}
use Rattle.ink_value.specs.Stack.{with_top}
use Rattle.ink_effects.proofs.Effects.{operated}
use Rattle.ink_effects.proofs.Bools.{or_more}
use Rattle.ink_effects.proofs.Tops.{top_taken}

-- what lies on top, and what lies below it
pub parts_of : (n : ℕ) (vs over left : List Value) → arguments_on n vs ≡ Some (over, left) → (over ≡ drop (length vs - n) vs) × (left ≡ take (length vs - n) vs) × (nat_le n (length vs) ≡ true)
parts_of n vs over left there = by (nat_le n (length vs)) there
  where
    some_same : (a b : List Value × List Value) → Some a ≡ Some b → a ≡ b
    some_same a b h = cc

    by : (b : Bool) → (let r : Option (List Value × List Value) = if b then Some (drop (length vs - n) vs, take (length vs - n) vs) else None in r ≡ Some (over, left)) → (over ≡ drop (length vs - n) vs) × (left ≡ take (length vs - n) vs) × (b ≡ true)
    by true h = let same = some_same _ _ h in (sym (ap (λ r. r.0) same), sym (ap (λ r. r.1) same), refl)
    by false h = absurd (cc)

-- one more lies on top
module _ (n : ℕ) (vs over left mid : List Value) (enough : suc n ≤ length vs) (there : arguments_on (suc n) vs ≡ Some (over, left)) (dropped : option_map (λ r. r.1) (arguments_on n vs) ≡ Some mid) where
  mid_is : mid ≡ take (length vs - n) vs
  mid_is = by (nat_le n (length vs)) dropped
    where
      by : (b : Bool) → (let r : Option (List Value × List Value) = if b then Some (drop (length vs - n) vs, take (length vs - n) vs) else None in option_map (λ p. p.1) r ≡ Some mid) → mid ≡ take (length vs - n) vs
      by true h = cc
      by false h = absurd (cc)

  abbrev pub top : Value
  top = get_or vs (length vs - suc n) Void

  pub one_over : popped mid ≡ Some (top, left)
  one_over =
      let within : length vs - suc n < length vs = omega arith in
      let next : length vs - n ≡ (length vs - suc n) + 1 = omega arith in
      top_taken mid left top (mid_is ∙ ap (λ k. take k vs) next ∙ take_more vs (length vs - suc n) Void within ∙ ap (λ us. us ++ top ∷ []) (sym (parts_of (suc n) vs over left there).1))

  abbrev put_top : Value → List Value → Type 0
  put_top v new = Some new ≡ with_top v (popped mid)

  pub put_there : (v : Value) (new : List Value) (u : Unit {0}) → put_top v new → length new ≤ MAX_STACK → Leaves (pushed v left) left new (Ok u)
  put_there v new u put within = (by (nat_lt (length left) MAX_STACK) refl, tt)
    where
      is : new ≡ left ++ v ∷ []
      is = let set : Some new ≡ Some (left ++ v ∷ []) = put ∙ ap (with_top v) one_over in cc

      room : length left < MAX_STACK
      room = omega (arith, within, ap length is, length-append left (v ∷ []))

      by : (b : Bool) → nat_lt (length left) MAX_STACK ≡ b → (if b then Ok (left ++ v ∷ []) else Err TooDeep) ≡ Ok new
      by true h = ap Ok (sym is)
      by false h = absurd (let true_too : nat_lt (length left) MAX_STACK ≡ true = lt-ltb (length left) MAX_STACK room in cc)

-- where one more may be taken, a value lies on top
pub top_there : (count below : ℕ) (vs mid : List Value) → count ≤ length vs → (1 ≤ count) × (below ≡ count - 1) → option_map (λ r. r.1) (arguments_on below vs) ≡ Some mid → popped mid ≡ None → ⊥
top_there count below vs mid enough more dropped none =
    let within : suc below ≤ length vs = omega (arith, enough, more.0, more.1) in
    let parts : Option (List Value × List Value) = Some (drop (length vs - suc below) vs, take (length vs - suc below) vs) in
    let there : arguments_on (suc below) vs ≡ parts = ap (λ (b : Bool). if b then parts else None) (le-leb (suc below) (length vs) within) in
    let some = one_over below vs _ _ mid within there dropped in
    absurd (cc)

-- the value on top goes
pub one_dropped : (vs new : List Value) → option_map (λ r. r.1) (arguments_on 1 vs) ≡ Some new → option_map (λ r. r.1) (popped vs) ≡ Some new
one_dropped vs new dropped = ap (option_map (λ r. r.1)) (one_over 0 vs (drop (length vs - 1) vs) new vs within there whole_of)
  where
    by : (b : Bool) → (let r : Option (List Value × List Value) = if b then Some (drop (length vs - 1) vs, take (length vs - 1) vs) else None in option_map (λ p. p.1) r ≡ Some new)
        → (b ≡ true) × (take (length vs - 1) vs ≡ new)
    by true h = (refl, cc)
    by false h = absurd (cc)

    parts : (nat_le 1 (length vs) ≡ true) × (take (length vs - 1) vs ≡ new)
    parts = by (nat_le 1 (length vs)) dropped

    within : 1 ≤ length vs
    within = leb-true 1 (length vs) parts.0

    there : arguments_on 1 vs ≡ Some (drop (length vs - 1) vs, new)
    there =
        let r : Option (List Value × List Value) = Some (drop (length vs - 1) vs, take (length vs - 1) vs) in
        ap (λ (b : Bool). if b then r else None) parts.0 ∙ ap (λ us. Some (drop (length vs - 1) vs, us)) parts.1

    whole_of : option_map (λ r. r.1) (arguments_on 0 vs) ≡ Some vs
    whole_of =
        let r : Option (List Value × List Value) = Some (drop (length vs - 0) vs, take (length vs - 0) vs) in
        ap (λ (b : Bool). option_map (λ p. p.1) (if b then r else None)) (le-leb 0 (length vs) (omega arith)) ∙ ap Some (take_all (length vs - 0) vs (omega arith))

pub put_over_it : (count below : ℕ) (vs over left mid new : List Value) (v : Value) (u : Unit {0}) → count ≤ length vs → (1 ≤ count) × (below ≡ count - 1)
    → option_map (λ r. r.1) (arguments_on below vs) ≡ Some mid → Some new ≡ with_top v (popped mid) → length new ≤ MAX_STACK → arguments_on count vs ≡ Some (over, left)
    → Leaves (pushed v left) left new (Ok u)
put_over_it count below vs over left mid new v u enough more dropped put within there =
    let within_it : suc below ≤ length vs = omega (arith, enough, more.0, more.1) in
    let same : count ≡ suc below = omega (arith, more.0, more.1) in
    put_there below vs over left mid within_it (ap (λ n. arguments_on n vs) (sym same) ∙ there) dropped v new u put within

-- what was given, in the place of the arguments
pub answers_it : (s : StoryTree) (arguments left new : List Value) (evaluating : Bool) (fresh : Option ℕ) (page : Page) (globals : Values) (g : Given) (v : Value) (result : Result (Unit {0}) Fault)
    → v ≡ value_given g → fits_given g ≡ true → Leaves (pushed v left) left new result → (result ≡ Err OutOfMemory → (not (has_any arguments) && nat_lt (length left) MAX_STACK) ≡ true)
    → let f = fields evaluating fresh left page globals in Performs s (given_asks arguments f (Some g)) (answering (Some g) f) (fields evaluating fresh new page globals) (moving result)
answers_it s arguments left new evaluating fresh page globals g v result is fits put memory =
    let asks : Bool = given_asks arguments (fields evaluating fresh left page globals) (Some g) in
    let with_stack : List Value → Fields = λ vs. fields evaluating fresh vs page globals in
    let done : Performs s asks (or_fault (pushed v left) (λ vs. Moves (with_stack vs))) (with_stack new) (moving result) =
    operated asks (pushed v left) with_stack left new result put (λ short. or_more (holds_memory (value_given g)) _ (memory short)) s in
    subst (λ (b : Bool). Performs s asks (if b then pushing (value_given g) (with_stack left) else Fails TooDeep) (with_stack new) (moving result)) (sym fits)
    (subst (λ w. Performs s asks (pushing w (with_stack left)) (with_stack new) (moving result)) is done)
