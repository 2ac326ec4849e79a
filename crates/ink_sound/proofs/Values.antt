-- Values that fit, on a stack and as they are made.
use Rattle.std.proofs.Common.{◌≡◌, ap, refl, arith, suc, List, [], ◌∷◌, ◌++◌, length, length-append, nat_lt, Option, Some, None, option_and_then, Result, Ok, Err}
use Rattle.ink_sound.proofs.Common.{cond_both, nat_tests, StoryTree, Fault, Value, EffectFits, FieldsFit, Finds, Gives, StackFits, ValueFits, Each, option_map, option_or, popped, pushed}
use Rattle.ink_model.specs.Run.Effect.{Effect, Fields, Moves, or_else, or_fault, popping, pushing}
use Rattle.ink_model.specs.declared.fault.Fault.TheVariants.{StackEmpty}
use Rattle.ink_model.specs.declared.limits.TheConstants.{MAX_STACK}

-- ---- lists

module _ {X : Type 0} (P : X → Type 0) where
  pub each_append : (xs ys : List X) → Each P xs → Each P ys → Each P (xs ++ ys)
  each_append [] ys h k = k
  each_append (x ∷ xs) ys h k = (h.0, each_append xs ys h.1 k)

  pub each_of : (Q : X → Type 0) → ((x : X) → P x → Q x) → (xs : List X) → Each P xs → Each Q xs
  each_of Q k [] h = tt
  each_of Q k (x ∷ xs) h = (k x h.0, each_of Q k xs h.1)

  pub each_one : (xs : List X) (x : X) → Each P xs → P x → Each P (xs ++ x ∷ [])
  each_one xs x h k = each_append xs (x ∷ []) h (k, tt)

-- ---- results

pub or_fault_fits : {A : Type 0} (s : StoryTree) (P : A → Type 0) (r : Result A Fault) (so : A → Effect)
    → Gives P r → ((a : A) → P a → EffectFits s (so a)) → EffectFits s (or_fault r so)
or_fault_fits s P (Ok a) so h k = k a h
or_fault_fits s P (Err f) so h k = tt

pub or_else_fits : {A : Type 0} (s : StoryTree) (P : A → Type 0) (f : Fault) (o : Option A) (so : A → Effect)
    → Finds P o → ((a : A) → P a → EffectFits s (so a)) → EffectFits s (or_else f o so)
or_else_fits s P f (Some a) so h k = k a h
or_else_fits s P f None so h k = tt

-- ---- options

abbrev pub Any : {A : Type 0} → A → Type 0
Any a = Unit {0}

pub any_finds : {A : Type 0} (o : Option A) → Finds Any o
any_finds (Some a) = tt
any_finds None = tt

pub map_found : {A B : Type 0} (Q : B → Type 0) (o : Option A) (so : A → B) → ((a : A) → o ≡ Some a → Q (so a)) → Finds Q (option_map so o)
map_found Q None so k = tt
map_found Q (Some a) so k = k a refl

module _ {A : Type 0} (P : A → Type 0) where
  pub or_finds : (o p : Option A) → Finds P o → Finds P p → Finds P (option_or o p)
  or_finds None p h k = k
  or_finds (Some a) p h k = h

  pub finds_of : (Q : A → Type 0) (o : Option A) → Finds P o → ((a : A) → P a → Q a) → Finds Q o
  finds_of Q None h k = tt
  finds_of Q (Some a) h k = k a h

  pub map_finds : {B : Type 0} (Q : B → Type 0) (o : Option A) (so : A → B) → Finds P o → ((a : A) → P a → Q (so a)) → Finds Q (option_map so o)
  map_finds Q None so h k = tt
  map_finds Q (Some a) so h k = k a h

  pub on_finds : {B : Type 0} (Q : B → Type 0) (o : Option A) (so : A → Option B) → Finds P o → ((a : A) → P a → Finds Q (so a)) → Finds Q (option_and_then so o)
  on_finds Q None so h k = tt
  on_finds Q (Some a) so h k = k a h

-- ---- the stack

pub pushed_fits : (s : StoryTree) (v : Value) (vs : List Value) → ValueFits s v → StackFits s vs → Gives (StackFits s) (pushed v vs)
pushed_fits s v vs h k = cond_both (nat_lt (length vs) MAX_STACK) _ _ (Gives (StackFits s))
    (λ e. record { each = each_one (ValueFits s) vs v k.each h; few = rw (length-append vs (v ∷ [])) (grind (arith, nat_tests, e)) }) (λ _. tt)

-- what was taken off a stack, and what is left
pub record TakenFits (s : StoryTree) (vs : List Value) (r : Value × List Value) : Type 0 where
  pub value : ValueFits s r.0
  pub left : Each (ValueFits s) r.1
  pub less : suc (length r.1) ≡ length vs

pub popped_fits : (s : StoryTree) (vs : List Value) → Each (ValueFits s) vs → Finds (TakenFits s vs) (popped vs)
popped_fits s [] h = tt
popped_fits s (v ∷ []) h = record { value = h.0; left = tt; less = refl }
popped_fits s (v ∷ w ∷ vs) h = map_finds (TakenFits s (w ∷ vs)) (TakenFits s (v ∷ w ∷ vs)) (popped (w ∷ vs)) _ (popped_fits s (w ∷ vs) h.1)
    (λ r k. record { value = k.value; left = (h.0, k.left); less = ap suc k.less })

pub popping_fits : (s : StoryTree) (f : Fields) (so : Value → Fields → Effect) → FieldsFit s f
    → ((v : Value) (left : Fields) → ValueFits s v → FieldsFit s left → EffectFits s (so v left)) → EffectFits s (popping f so)
popping_fits s f so h k =
    or_else_fits s (TakenFits s f.stack) StackEmpty (popped f.stack) (λ r. so r.0 (record f { stack = r.1 })) (popped_fits s f.stack h.stack.each)
    (λ r t. k r.0 (record f { stack = r.1 }) t.value
    (record { stack = record { each = t.left; few = omega (arith, t.less, h.stack.few) }; globals = h.globals; page = h.page }))

pub pushing_fits : (s : StoryTree) (v : Value) (f : Fields) → ValueFits s v → FieldsFit s f → EffectFits s (pushing v f)
pushing_fits s v f h k =
    or_fault_fits s (StackFits s) (pushed v f.stack) (λ vs. Moves (record f { stack = vs })) (pushed_fits s v f.stack h k.stack)
    (λ vs t. record { stack = t; globals = k.globals; page = k.page })
