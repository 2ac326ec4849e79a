-- Whether a call of an external function asks a turn function, by what its name is bound to.
use Rattle.std.proofs.Common.{◌≡◌, ◌∙◌, ◌&&◌, ◌-◌, ap, sym, refl, subst, ℕ, List, [], ◌∷◌, ◌++◌, length, drop, take, Bool, true, false, if◌then◌else◌, nat_le, Option, Some, None, option_map, Result, Ok, Err}
use Rattle.std.proofs.Math.Nat.{le_refl, sub_self}
use Rattle.std.proofs.lemmas.Bool.{le-leb}
use Rattle.std.specs.List.{list_all}
use Rattle.ink_host.specs.Desk.{Rows, at, bound_by, kind_of}
use Rattle.ink_host.specs.declared.objects.Bound.{Bound as Function}
use Rattle.ink_host.specs.declared.objects.Bound.TheVariants as bound
use Rattle.ink_host.specs.declared.objects.FnKind.TheVariants as kind
use Rattle.ink_model.specs.Memory.Asks.{binding_asks, takes_arguments}
use Rattle.ink_effects.proofs.Common.{Fields, Moves, Fails, popped, StoryTree, Fault, Given, Value, Performs, Transfer}
use Rattle.ink_model.specs.Host.Bindings.{Binding, pure_function, turn_function}
use Rattle.ink_model.specs.Run.Step.Diverts.{condition, leaving_fields, truth_on}
use Rattle.ink_model.specs.Run.Step.Host.{Acts, Suspends, CallEffect, arguments_of, arguments_on, ask_pure, call_bound, fall_back, has_string, is_argument, or_fails}
use Rattle.ink_model.specs.Values.Value.{is_true}
use Rattle.ink_model.specs.declared.fault.Fault.TheVariants.{BadOperands, UnsafeInString}
use Rattle.ink_model.specs.declared.host.Event.{Event}
use Rattle.ink_effects.specs.External.{PerformsCall, is_asking, is_true_of}
use Rattle.ink_effects.proofs.Externals.{bound_none, bound_pure, bound_turn, pure_there}
use Rattle.ink_effects.proofs.Tops.{top_of}

-- ---- conditions

module _ (so : Fields → CallEffect) where
  abbrev pub where_so : Result (Bool × Fields) Fault → CallEffect
  where_so x = or_fails x (λ r. if r.0 then so r.1 else Acts (Moves r.1))

  -- what does not ask under any condition
  where_unasked : ((g : Fields) → is_asking (so g) ≡ false) → (x : Result (Bool × Fields) Fault) → is_asking (where_so x) ≡ false
  where_unasked never (Ok r) = by r.0
    where
      by : (b : Bool) → is_asking (if b then so r.1 else Acts (Moves r.1)) ≡ false
      by true = never r.1
      by false = refl
  where_unasked never (Err f) = refl

  -- under a condition that is on top
  where_asked : (x : Result Bool Fault) (left : Fields) → is_asking (where_so (leaving_fields left x)) ≡ (is_true_of x && is_asking (so left))
  where_asked (Ok true) left = refl
  where_asked (Ok false) left = refl
  where_asked (Err f) left = refl

-- ---- what is bound

-- a call asks only where a turn function is bound
abbrev pub is_turn : Option Binding → Bool
is_turn None = false
is_turn (Some turn_function) = true
is_turn (Some (pure_function answers)) = false

module _ (s : StoryTree) (name : List ℕ) (n : ℕ) where
  bound_unasked : (o : Option Binding) (f : Fields) → is_turn o ≡ false → is_asking (call_bound s o name n f) ≡ false
  bound_unasked None f h = refl
  bound_unasked (Some turn_function) f h = absurd (cc)
  bound_unasked (Some (pure_function answers)) f h = refl

  pub unasked : (o : Option Binding) (conditional : Bool) (f : Fields) → is_turn o ≡ false → is_asking (where_so (call_bound s o name n) (condition conditional f)) ≡ false
  unasked o conditional f h = where_unasked (call_bound s o name n) (λ g. bound_unasked o g h) (condition conditional f)

  abbrev with_taken : Result (List Value × Fields) Fault → CallEffect
  with_taken x = or_fails x (λ r. Suspends name r.0 r.1)

  abbrev in_section : Bool → Fields → CallEffect
  in_section b g = if b then Acts (Fails UnsafeInString) else with_taken (arguments_of (arguments_on n g.stack) g)

  -- no string is open
  module _ (f : Fields) (safe : has_string f.page.sections ≡ false) where
    asking_with : (t : Option (List Value × List Value)) → is_asking (with_taken (arguments_of t f)) ≡ takes_arguments t
    asking_with None = refl
    asking_with (Some r) = by (list_all is_argument r.0)
      where
        by : (b : Bool) → is_asking (with_taken (if b then Ok (r.0, record f { stack = r.1 }) else Err BadOperands)) ≡ b
        by true = refl
        by false = refl

    bound_asks : is_asking (call_bound s (Some turn_function) name n f) ≡ takes_arguments (arguments_on n f.stack)
    bound_asks = ap (λ b. is_asking (in_section b f)) safe ∙ asking_with (arguments_on n f.stack)

    -- the arguments decide, where no condition does
    pub straight : (vs : List Value) (wanted : Bool) → vs ≡ f.stack → wanted ≡ takes_arguments (arguments_on n vs) → wanted ≡ is_asking (where_so (call_bound s (Some turn_function) name n) (condition false f))
    straight vs wanted same h = h ∙ ap (λ us. takes_arguments (arguments_on n us)) same ∙ sym bound_asks

  -- the condition on top and the arguments below it decide
  module _ (f : Fields) (safe : has_string f.page.sections ≡ false) (vs : List Value) (same : vs ≡ f.stack) (v : Value) (left : List Value) (is : vs ≡ left ++ v ∷ [])
      (truth : Bool) (wanted : truth ≡ is_true_of (is_true v)) where
    abbrev wanted_on : Option (Value × List Value) → Bool
    wanted_on t = is_asking (where_so (call_bound s (Some turn_function) name n) (truth_on t f))

    under : wanted_on (popped f.stack) ≡ (truth && takes_arguments (arguments_on n left))
    under = ap wanted_on (ap popped (sym same ∙ is) ∙ top_of left v) ∙ where_asked (call_bound s (Some turn_function) name n) (is_true v) (record f { stack = left })
        ∙ ap (λ b. is_true_of (is_true v) && b) (bound_asks (record f { stack = left }) safe) ∙ ap (λ b. b && takes_arguments (arguments_on n left)) (sym wanted)

    pub under_true : truth ≡ true → (taken : Bool) → taken ≡ takes_arguments (arguments_on n left) → taken ≡ is_asking (where_so (call_bound s (Some turn_function) name n) (condition true f))
    under_true h taken fit = fit ∙ ap (λ b. b && takes_arguments (arguments_on n left)) (sym h) ∙ sym under

    pub under_false : truth ≡ false → truth ≡ is_asking (where_so (call_bound s (Some turn_function) name n) (condition true f))
    under_false h = h ∙ ap (λ b. b && takes_arguments (arguments_on n left)) (sym h) ∙ sym under

-- ---- at a desk

module _ {P T : Type 0} (meaning : P → List Value → Option Given) (rows : Rows (Function P T)) (s : StoryTree) (name : List ℕ) (n : ℕ) (conditional : Bool) (f : Fields) where
  abbrev Asking : Option Binding → Bool
  Asking o = is_asking (where_so (call_bound s o name n) (condition conditional f))

  pub none_asks : None ≡ option_map kind_of (at name rows) → false ≡ Asking (bound_by meaning rows name)
  none_asks h = sym (ap Asking (bound_none meaning name rows h) ∙ unasked s name n None conditional f refl)

  pub pure_asks : Some kind.Pure ≡ option_map kind_of (at name rows) → false ≡ Asking (bound_by meaning rows name)
  pure_asks h = let p = pure_there meaning name rows h in
      sym (ap Asking (bound_pure meaning name rows p.0 p.1) ∙ unasked s name n (Some (pure_function (meaning p.0))) conditional f refl)

  pub turn_asks : Some kind.Turn ≡ option_map kind_of (at name rows) → (wanted : Bool) → wanted ≡ Asking (Some turn_function) → wanted ≡ Asking (bound_by meaning rows name)
  turn_asks h wanted is = is ∙ sym (ap Asking (bound_turn meaning name rows h))

  -- ---- a call, by what is bound there

  module _ (from : ℕ) (new : Fields) (r : Result Transfer Fault) where
    abbrev Called_by : Option Binding → List Event → Type 0
    Called_by o es = PerformsCall s from (binding_asks o n f) (call_bound s o name n f) es new r

    pub none_called : None ≡ option_map kind_of (at name rows) → Performs s false (fall_back s name f) new r → Called_by (bound_by meaning rows name) []
    none_called h p = subst (λ o. Called_by o []) (sym (bound_none meaning name rows h)) (refl, p)

    pub pure_called : (q : P) → at name rows ≡ Some (bound.Pure q)
        → Performs s (binding_asks (Some (pure_function (meaning q))) n f) (ask_pure (meaning q) n f) new r → Called_by (bound_by meaning rows name) []
    pure_called q h p = subst (λ o. Called_by o []) (sym (bound_pure meaning name rows q h)) (refl, p)

    pub turn_called : Some kind.Turn ≡ option_map kind_of (at name rows) → (es : List Event) → Called_by (Some turn_function) es → Called_by (bound_by meaning rows name) es
    turn_called h es p = subst (λ o. Called_by o es) (sym (bound_turn meaning name rows h)) p

-- ---- the whole stack is lent

whole : (vs : List Value) → arguments_on (length vs) vs ≡ Some (vs, [])
whole vs = by (nat_le (length vs) (length vs)) (length vs - length vs) (le-leb (length vs) (length vs) (le_refl (length vs))) (sub_self (length vs))
  where
    by : (b : Bool) (n : ℕ) → b ≡ true → n ≡ 0 → ◌≡◌ {A = Option (List Value × List Value)} (if b then Some (drop n vs, take n vs) else None) (Some (vs, []))
    by true n is none = ap (λ k. Some (drop k vs, take k vs)) none
    by false n is none = absurd (cc)

pub lent_whole : (n : ℕ) (vs us : List Value) → n ≡ length vs → Some us ≡ option_map (λ r. r.0) (arguments_on n vs) → us ≡ vs
lent_whole n vs us is h = some_same us vs (h ∙ ap (λ k. option_map (λ r. r.0) (arguments_on k vs)) is ∙ ap (option_map (λ r. r.0)) (whole vs))
  where
    some_same : (a b : List Value) → Some a ≡ Some b → a ≡ b
    some_same a b e = cc
