-- There is room for what is put back of the stack.
use Rattle.std.proofs.Common.{◌≡◌, ◌∙◌, ◌≤◌, ◌<◌, ◌-◌, ℕ, List, [], ◌∷◌, ◌++◌, length, take, false, is_some, Option, Some, None, Ok, Err, Vec, Global, vec_capacity, vec_len, ap, arith, subst, sym}
use Rattle.std.proofs.lemmas.List.{length-append, length-take, take-take}
use Rattle.ink_model.specs.declared.limits.TheConstants.{MAX_STACK}
use Rattle.ink_model.specs.declared.value.Value.{Value}
use Rattle.ink_trail.proofs.Ending.{but_last-snoc}
use Rattle.ink_trail.proofs.Staying.{stays-more, stays-now, stays-with}
use Rattle.ink_trail.specs.Undo.{KeepsTrail, TrailView, Undo, but_last, trail_of, with_pair}
use Rattle.ink_value.specs.Undo.{Held, StaysHeld, same_room, stack_back}
use Rattle.ink_value.specs.declared.undo.StackPair.{StackPair}
use Rattle.ink_value.specs.declared.undo.StackPair.TheVariants.{Popped, Pushed, Replaced}

pub held-more : (r s : ℕ) (es : List StackPair) (vs : List Value) → r ≤ s → StaysHeld r es vs → StaysHeld s es vs
held-more r s es vs more h =
    stays-more stack_back same_room Held (λ a b. a ≤ b) (λ a b d m k. (k.0, omega (arith, m, k.1))) (λ e a b m. m) r s es vs more h

pub held-now : (r : ℕ) (es : List StackPair) (vs : List Value) → StaysHeld r es vs → Held r vs
held-now r es vs h = stays-now stack_back same_room Held r es vs h

-- with a pair more
pub held-with : (e : StackPair) (n : ℕ) (was is : List Value) (u : Option (Undo StackPair)) (r s : ℕ) → stack_back e is ≡ was → Held s is → r ≤ s
    → StaysHeld r (trail_of u) was → StaysHeld s (trail_of (with_pair e n u)) is
held-with e n was is u r s same held more h = stays-with stack_back same_room Held e n was is u s same held (held-more r s (trail_of u) was more h)

-- what becomes of the list and of the trail
pub held-as : (r s : ℕ) (u v : Option (Undo StackPair)) (vs ws : List Value) → v ≡ u → ws ≡ vs → r ≤ s → StaysHeld r (trail_of u) vs → StaysHeld s (trail_of v) ws
held-as r s u v vs ws undo same more h =
    subst (λ w. StaysHeld s (trail_of v) w) (sym same) (subst (λ (w : Option (Undo StackPair)). StaysHeld s (trail_of w) vs) (sym undo) (held-more r s (trail_of u) vs more h))

-- ---- one change

pub pushed_back : (vs ws : List Value) (v : Value) → ws ≡ vs ++ v ∷ [] → stack_back Pushed ws ≡ vs
pushed_back vs ws v h = ap but_last h ∙ but_last-snoc vs v

pub replaced_back : (vs us ws : List Value) (v w : Value) → vs ≡ us ++ w ∷ [] → ws ≡ us ++ v ∷ [] → stack_back (Replaced w) ws ≡ vs
replaced_back vs us ws v w was is = ap (λ xs. xs ++ w ∷ []) (ap but_last is ∙ but_last-snoc us v) ∙ sym was

-- ---- the stack after a call

-- what succeeded did not fail
pub succeeded : {A F : Type 0} (a : A) (f : F) → Ok a ≡ Err f → ⊥
succeeded a f e = absurd (cc)

-- it is within the limit where what is put back is
pub is_held : (items : Vec Value Global) (es : List StackPair) → StaysHeld (vec_capacity items) es items.items → (vec_len items ≤ MAX_STACK) × StaysHeld (vec_capacity items) es items.items
is_held items es h = let now : Held (vec_capacity items) items.items = held-now (vec_capacity items) es items.items h in (omega (arith, items.ok.0, now.0), h)

alone : (room : ℕ) (u : Option (Undo StackPair)) (vs : List Value) → is_some u ≡ false → Held room vs → StaysHeld room (trail_of u) vs
alone room None vs none h = h
alone room (Some u) vs none h = absurd (cc)

-- while no mark stands
pub is_alone : (items : Vec Value Global) (u : Option (Undo StackPair)) → is_some u ≡ false → vec_len items ≤ MAX_STACK
    → (vec_len items ≤ MAX_STACK) × StaysHeld (vec_capacity items) (trail_of u) items.items
is_alone items u none few = (few, alone (vec_capacity items) u items.items none (omega (arith, few), omega arith))

pub is_popped : (old new : Vec Value Global) (v : Value) (u w : Option (Undo StackPair)) → old.items ≡ new.items ++ v ∷ [] → vec_capacity new ≡ vec_capacity old
    → w ≡ with_pair (Popped v) 1 u → StaysHeld (vec_capacity old) (trail_of u) old.items → (vec_len new ≤ MAX_STACK) × StaysHeld (vec_capacity new) (trail_of w) new.items
is_popped old new v u w was room noted h =
    let now : Held (vec_capacity old) old.items = held-now (vec_capacity old) (trail_of u) old.items h in
    let more = ap length was ∙ length-append new.items (v ∷ []) in
    rw noted (is_held new _ (held-with (Popped v) 1 old.items new.items u (vec_capacity old) (vec_capacity new) (sym was)
    (omega (arith, more, now.0), omega (arith, more, room, now.1)) (omega (arith, room)) h))

pub same_trail : (t u : TrailView StackPair) → u ≡ t → KeepsTrail t u
same_trail t u same = (ap (λ v. v.undo) same, omega (arith, ap (λ v. v.room) same))

-- ---- values on top that go while a mark stands

-- so many are left
pub left_over : (vs us : List Value) (n k m below : ℕ) → n ≡ length vs → k ≡ n → m ≡ length us → below < length vs → us ≡ take (n - (k - below - 1)) vs → m - 1 ≡ below
left_over vs us n k m below long same short there was =
    let left : length us ≡ length (take (n - (k - below - 1)) vs) = ap length was in
    omega (arith, left, length-take (n - (k - below - 1)) vs)

pub another_on : (vs us ws : List Value) (v : Value) (n k m below : ℕ) → n ≡ length vs → k ≡ n → m ≡ length us → below < length vs → us ≡ take (n - (k - below - 1)) vs
    → ws ≡ take (m - 1) us ++ v ∷ [] → ws ≡ take below vs ++ v ∷ []
another_on vs us ws v n k m below long same short there was is =
    let over : m - 1 ≡ below = left_over vs us n k m below long same short there was in
    is ∙ ap (λ xs. xs ++ v ∷ []) (ap (λ i. take i us) over ∙ ap (take below) was ∙ take-take below (n - (k - below - 1)) vs (omega arith))

-- a value more is held where there was room for it
pub is_pushed : (old roomy new : Vec Value Global) (v : Value) (u w : Option (Undo StackPair)) → roomy.items ≡ old.items → vec_capacity old ≤ vec_capacity roomy
    → vec_len old < MAX_STACK → vec_len roomy < vec_capacity roomy → new.items ≡ roomy.items ++ v ∷ [] → vec_capacity new ≡ vec_capacity roomy → w ≡ with_pair Pushed 1 u
    → StaysHeld (vec_capacity old) (trail_of u) old.items → (vec_len new ≤ MAX_STACK) × StaysHeld (vec_capacity new) (trail_of w) new.items
is_pushed old roomy new v u w same more few room pushed as_roomy noted h =
    let items = pushed ∙ ap (λ vs. vs ++ v ∷ []) same in
    let longer = ap length items ∙ length-append old.items (v ∷ []) in
    let within : length new.items ≤ MAX_STACK = omega (arith, longer, few, old.ok.0) in
    let fits : length new.items ≤ vec_capacity new = omega (arith, longer, room, as_roomy, old.ok.0, roomy.ok.0, ap length same) in
    rw noted (is_held new _ (held-with Pushed 1 old.items new.items u (vec_capacity old) (vec_capacity new) (pushed_back old.items new.items v items) (within, fits)
    (omega (arith, more, as_roomy)) h))
