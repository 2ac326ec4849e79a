-- Calls of external functions: what they ask, and what they come to.
use Rattle.std.proofs.Common.{◌≤◌, arith, length, ◌≡◌, ◌∙◌, ◌⊎◌, ◌&&◌, ap, sym, refl, subst, inl, inr, ℕ, List, [], ◌∷◌, Bool, true, false, not, if◌then◌else◌, Option, Some, None, option_map, Result, Ok, Err}
use Rattle.std.proofs.lemmas.List.{append-nil}
use Rattle.std.specs.List.{list_all}
use Rattle.ink_host.specs.Desk.{DeskView, Grew, Rows, at, binding, bound_by, kind_of, pure_of}
use Rattle.ink_host.proofs.Laws.{at-each, grew-none}
use Rattle.ink_host.specs.declared.objects.Bound.{Bound as Bind}
use Rattle.ink_host.specs.declared.objects.Bound.TheVariants as bound
use Rattle.ink_host.specs.declared.objects.Called.{Called}
use Rattle.ink_host.specs.declared.objects.FnKind.TheVariants as kind
use Rattle.ink_host.specs.declared.objects.Seen.{Seen}
use Rattle.ink_model.specs.Memory.Asks.{binding_asks, so_where, takes_arguments}
use Rattle.ink_model.specs.Run.Effect.{Effect, Fields, Landing as Goal, Calls, Fails, Moves, or_else, or_fault}
use Rattle.ink_model.specs.Host.Events.{calls}
use Rattle.ink_model.specs.Host.Bindings.{Binding, pure_function, shares, turn_function}
use Rattle.ink_effects.proofs.Common.{given_asks, popped, StoryTree, Fault, Given, Part, Value, Performs, Transfer, node_place, place_of, Spot}
use Rattle.ink_model.specs.Run.Place.{knot, landed}
use Rattle.ink_model.specs.Run.Step.Diverts.{condition, leaving_fields, truth_on}
use Rattle.ink_model.specs.Values.Value.{is_true}
use Rattle.ink_model.specs.Run.Step.Host.{Acts, Suspends, CallEffect, answering, arguments_of, arguments_on, arguments_taken, ask_pure, call_bound, fall_back, has_string, is_argument, or_fails}
use Rattle.ink_model.specs.declared.fault.Fault.TheVariants.{BadOperands, HostRefused, OutOfMemory, Unbound, UnsafeInString}
use Rattle.ink_model.specs.declared.frame.FrameKind.TheVariants.{Function}
use Rattle.ink_model.specs.declared.host.Event.{Event}
use Rattle.ink_model.specs.declared.host.Event.TheVariants as event
use Rattle.ink_model.specs.declared.host.Given.TheVariants.{Text}
use Rattle.ink_effects.specs.External.{PerformsCall, lent_arguments, lent_of, made_call}
use Rattle.ink_stack.specs.declared.frame.CallKind.TheVariants as call
use Rattle.ink_effects.specs.declared.transfer.Transfer.TheVariants as transfer
use Rattle.ink_effects.proofs.Effects.{performs_where, short}
use Rattle.ink_tree.specs.declared.spot.NodeId.{NodeId}

-- ---- what a name is bound to

module _ {P T : Type 0} (meaning : P → List Value → Option Given) (name : List ℕ) (rows : Rows (Bind P T)) where
  bound_at : (o : Option (Bind P T)) → at name rows ≡ o → bound_by meaning rows name ≡ option_map (binding meaning) (option_map pure_of o)
  bound_at o h = ap (option_map (binding meaning)) (at-each (λ n b. pure_of b) name rows ∙ ap (option_map pure_of) h)

  turn_in : (o : Option (Bind P T)) → Some kind.Turn ≡ option_map kind_of o → (t : T) × (o ≡ Some (bound.Turn t))
  turn_in (Some (bound.Turn t)) h = (t, refl)
  turn_in o h = absurd (cc)

  pure_in : (o : Option (Bind P T)) → Some kind.Pure ≡ option_map kind_of o → (p : P) × (o ≡ Some (bound.Pure p))
  pure_in (Some (bound.Pure p)) h = (p, refl)
  pure_in o h = absurd (cc)

  none_in : (o : Option (Bind P T)) → None ≡ option_map kind_of o → o ≡ None
  none_in (Some b) h = absurd (cc)
  none_in None h = refl

  pub turn_there : Some kind.Turn ≡ option_map kind_of (at name rows) → (t : T) × (at name rows ≡ Some (bound.Turn t))
  turn_there h = turn_in (at name rows) h

  pub pure_there : Some kind.Pure ≡ option_map kind_of (at name rows) → (p : P) × (at name rows ≡ Some (bound.Pure p))
  pure_there h = pure_in (at name rows) h

  pub bound_none : None ≡ option_map kind_of (at name rows) → bound_by meaning rows name ≡ None
  bound_none h = bound_at None (none_in (at name rows) h)

  pub bound_turn : Some kind.Turn ≡ option_map kind_of (at name rows) → bound_by meaning rows name ≡ Some turn_function
  bound_turn h = let t = turn_there h in bound_at (Some (bound.Turn t.0)) t.1

  pub bound_pure : (p : P) → at name rows ≡ Some (bound.Pure p) → bound_by meaning rows name ≡ Some (pure_function (meaning p))
  bound_pure p h = bound_at (Some (bound.Pure p)) h

-- ---- arguments

-- the arguments that were lent, and what is left
pub lent : (o : Option (List Value × List Value)) (vs : List Value) → Ok vs ≡ lent_of o → (left : List Value) × (o ≡ Some (vs, left)) × (list_all is_argument vs ≡ true)
lent None vs h = absurd (cc)
lent (Some r) vs h = by (list_all is_argument r.0) refl h
  where
    by : (b : Bool) → list_all is_argument r.0 ≡ b → Ok vs ≡ (if b then Ok r.0 else Err BadOperands) → (left : List Value) × (Some r ≡ Some (vs, left)) × (list_all is_argument vs ≡ true)
    by true fits h = let same : vs ≡ r.0 = cc in (r.1, ap (λ us. Some (us, r.1)) (sym same), ap (list_all is_argument) same ∙ fits)
    by false fits h = absurd (cc)

module _ (n : ℕ) (f : Fields) where
  abbrev of_kinds : List Value × List Value → Bool → Result (List Value × Fields) Fault
  of_kinds r b = if b then Ok (r.0, record f { stack = r.1 }) else Err BadOperands

  -- none are lent, which is a fault
  unlent : (fault : Fault) → Err fault ≡ lent_arguments n f.stack → arguments_taken n f ≡ Err fault
  unlent fault h = by (arguments_on n f.stack) h
    where
      by_kinds : (r : List Value × List Value) (b : Bool) → Err fault ≡ (if b then Ok r.0 else Err BadOperands) → of_kinds r b ≡ Err fault
      by_kinds r true h = absurd (cc)
      by_kinds r false h = cc

      by : (o : Option (List Value × List Value)) → Err fault ≡ lent_of o → arguments_of o f ≡ Err fault
      by None h = cc
      by (Some r) h = by_kinds r (list_all is_argument r.0) h

  module _ (vs left : List Value) (there : arguments_on n f.stack ≡ Some (vs, left)) (fits : list_all is_argument vs ≡ true) where
    taken : arguments_taken n f ≡ Ok (vs, record f { stack = left })
    taken = ap (λ o. arguments_of o f) there ∙ ap (of_kinds (vs, left)) fits

    taken_asks : takes_arguments (arguments_on n f.stack) ≡ true
    taken_asks = ap takes_arguments there ∙ fits

-- ---- calls that make none

module _ (s : StoryTree) (n : ℕ) (asks : Bool) (new : Fields) where
  pub uncalled_fault : (e : CallEffect) (f : Fault) → e ≡ Acts (Fails f) → PerformsCall s n asks e [] new (Err f)
  uncalled_fault e f is = subst (λ d. PerformsCall s n asks d [] new (Err f)) (sym is) (refl, inl refl)

-- ---- a call with its condition

module _ (s : StoryTree) (n : ℕ) (o : Option Binding) (name : List ℕ) (k : ℕ) (x : Result (Bool × Fields) Fault) where
  abbrev Conditional : Result (Bool × Fields) Fault → List Event → Fields → Result Transfer Fault → Type 0
  Conditional y es last r = PerformsCall s n (so_where y (binding_asks o k)) (or_fails y (λ r. if r.0 then call_bound s o name k r.1 else Acts (Moves r.1))) es last r

  pub where_wanted : (b : Bool) (new : Fields) → b ≡ true → Ok (b, new) ≡ x → (es : List Event) (last : Fields) (r : Result Transfer Fault)
      → PerformsCall s n (binding_asks o k new) (call_bound s o name k new) es last r → Conditional x es last r
  where_wanted b new is wanted es last r h = subst (λ y. Conditional y es last r) wanted (subst (λ w. Conditional (Ok (w, new)) es last r) (sym is) h)

  pub where_unwanted : (b : Bool) (new : Fields) → b ≡ false → Ok (b, new) ≡ x → Conditional x [] new (Ok transfer.Next)
  where_unwanted b new is wanted = subst (λ y. Conditional y [] new (Ok transfer.Next)) wanted (subst (λ w. Conditional (Ok (w, new)) [] new (Ok transfer.Next)) (sym is) (refl, refl))

  pub where_fault : (f : Fault) (new : Fields) → Err f ≡ x → Conditional x [] new (Err f)
  where_fault f new wanted = subst (λ y. Conditional y [] new (Err f)) wanted (refl, inl refl)

-- what is left where a value is popped is no longer
Below : List Value → Option (Value × List Value) → Type 0
Below vs None = Unit {0}
Below vs (Some r) = length r.1 ≤ length vs

popped_below : (vs : List Value) → Below vs (popped vs)
unfolding Below
popped_below [] = tt
popped_below (v ∷ []) = omega arith
popped_below (v ∷ w ∷ vs) = on (popped (w ∷ vs)) (popped_below (w ∷ vs))
  where
    on : (o : Option (Value × List Value)) → Below (w ∷ vs) o → Below (v ∷ w ∷ vs) (option_map (λ r. (r.0, v ∷ r.1)) o)
    on None h = tt
    on (Some r) h = omega (arith, h)

ok_same : (x y : Bool × Fields) → ◌≡◌ {A = Result (Bool × Fields) Fault} (Ok x) (Ok y) → x ≡ y
ok_same x y h = cc

-- a condition leaves no more than there was
pub condition_below : (conditional : Bool) (b : Bool) (f new : Fields) → Ok (b, new) ≡ condition conditional f → length new.stack ≤ length f.stack
unfolding Below
condition_below true b f new h = on (popped f.stack) (popped_below f.stack) h
  where
    known : (r : Value × List Value) (x : Result Bool Fault) → Ok (b, new) ≡ leaving_fields (record f { stack = r.1 }) x → new.stack ≡ r.1
    known r (Ok t) h = ap (λ p. p.1.stack) (ok_same (b, new) (t, record f { stack = r.1 }) h)
    known r (Err g) h = absurd (cc)

    on : (o : Option (Value × List Value)) → Below f.stack o → Ok (b, new) ≡ truth_on o f → length new.stack ≤ length f.stack
    on None k h = absurd (cc)
    on (Some r) k h = omega (arith, k, ap length (known r (is_true r.0) h))
condition_below false b f new h =
    omega (arith, ap (λ p. length p.1.stack) (ok_same (b, new) (true, f) h))

-- ---- calls of turn functions

module _ (s : StoryTree) (n : ℕ) (name : List ℕ) (k : ℕ) (f : Fields) where
  abbrev Turned : List Event → Fields → Result Transfer Fault → Type 0
  Turned es new r = PerformsCall s n (binding_asks (Some turn_function) k f) (call_bound s (Some turn_function) name k f) es new r

  abbrev with_taken : Result (List Value × Fields) Fault → CallEffect
  with_taken x = or_fails x (λ r. Suspends name r.0 r.1)

  abbrev of_string : Bool → CallEffect
  of_string b = if b then Acts (Fails UnsafeInString) else with_taken (arguments_taken k f)

  pub unsafe_turn : has_string f.page.sections ≡ true → (new : Fields) → Turned [] new (Err UnsafeInString)
  unsafe_turn h new = uncalled_fault s n _ new _ UnsafeInString (ap of_string h)

  module _ (safe : has_string f.page.sections ≡ false) where
    pub unlent_turn : (fault : Fault) → Err fault ≡ lent_arguments k f.stack → (new : Fields) → Turned [] new (Err fault)
    unlent_turn fault h new = uncalled_fault s n _ new _ fault (ap of_string safe ∙ ap with_taken (unlent k f fault h))

    module _ (vs left : List Value) (there : arguments_on k f.stack ≡ Some (vs, left)) (fits : list_all is_argument vs ≡ true) where
      asked : call_bound s (Some turn_function) name k f ≡ Suspends name vs (record f { stack = left })
      asked = ap of_string safe ∙ ap with_taken (taken k f vs left there fits)

      asks_memory : binding_asks (Some turn_function) k f ≡ true
      asks_memory = ap (λ b. not b && takes_arguments (arguments_on k f.stack)) safe ∙ taken_asks k f vs left there fits

      made_turn : (gave : Option Given) (es : List Event) (new : Fields) (t : Result Transfer Fault) → es ≡ calls n (made_call name vs gave ∷ [])
          → Performs s (given_asks vs (record f { stack = left }) gave) (answering gave (record f { stack = left })) new t → Turned es new t
      made_turn gave es new t is h = subst (λ e. PerformsCall s n (binding_asks (Some turn_function) k f) e es new t) (sym asked) (inl (gave, is, h))

      short_turn : (es : List Event) (new : Fields) → es ≡ [] → Turned es new (Err OutOfMemory)
      short_turn es new is = subst (λ e. PerformsCall s n (binding_asks (Some turn_function) k f) e es new (Err OutOfMemory)) (sym asked) (inr (is, (refl, asks_memory)))

-- a pure function gave an answer
pub pure_gave : (s : StoryTree) (k : ℕ) (f new : Fields) (vs : List Value) (lends : Ok vs ≡ lent_arguments k f.stack) (so : List Value → Option Given) (given : Given) (t : Result Transfer Fault) → so vs ≡ Some given
    → ((left : List Value) → arguments_on k f.stack ≡ Some (vs, left) → Performs s (given_asks vs (record f { stack = left }) (Some given)) (answering (Some given) (record f { stack = left })) new t)
    → Performs s (takes_arguments (arguments_on k f.stack)) (ask_pure so k f) new t
pure_gave s k f new vs lends so given t gave h =
    let l = lent (arguments_on k f.stack) vs lends in
    let goes : Result (List Value × Fields) Fault → Effect = λ x. or_fault x (λ r. answering (so r.0) r.1) in
    let on = performs_where s _ true (λ _. refl) _ new t (h l.0 l.1) in
    subst (λ a. Performs s a (goes (arguments_taken k f)) new t) (sym (taken_asks k f vs l.0 l.1 l.2))
    (subst (λ e. Performs s true e new t) (sym (ap goes (taken k f vs l.0 l.1 l.2) ∙ ap (λ o. answering o (record f { stack = l.0 })) gave)) on)

-- ---- what the desk tells of a call

module _ (s : StoryTree) (name : List ℕ) (k : ℕ) (f new : Fields) (safe : has_string f.page.sections ≡ false) (vs : List Value) (lends : Ok vs ≡ lent_arguments k f.stack) where
  abbrev left : List Value
  left = (lent (arguments_on k f.stack) vs lends).0

  pub there : arguments_on k f.stack ≡ Some (vs, left)
  there = (lent (arguments_on k f.stack) vs lends).1

  fits : list_all is_argument vs ≡ true
  fits = (lent (arguments_on k f.stack) vs lends).2

  module _ {P T W : Type 0} (turn_log : T → List Called) (watch_log : W → List Seen) (a b : DeskView P T W) where
    abbrev Calls_it : Result Transfer Fault → Type 0
    Calls_it t = (es : List Event) × Grew turn_log watch_log a es b × Turned s a.next name k f es new t

    -- a copy of a text asks for memory
    text_asks : (g : Given) → shares g → given_asks vs (record f { stack = left }) (Some g) ≡ true
    text_asks (Text t) h = refl
    text_asks g h = absurd h

    pub turn_gave : (given : Given) → Grew turn_log watch_log a (event.Call name vs (Some given) a.next ∷ []) b → (t : Result Transfer Fault)
        → Performs s (given_asks vs (record f { stack = left }) (Some given)) (answering (Some given) (record f { stack = left })) new t → Calls_it t
    turn_gave given grew t h = (event.Call name vs (Some given) a.next ∷ [], grew, made_turn s a.next name k f safe vs left there fits (Some given) _ new t refl h)

    turn_refused : Grew turn_log watch_log a (event.Call name vs None a.next ∷ []) b → Calls_it (Err HostRefused)
    turn_refused grew = (event.Call name vs None a.next ∷ [], grew, made_turn s a.next name k f safe vs left there fits None _ new (Err HostRefused) refl (inl refl))

    -- memory was refused: before the call, to the function itself, or to a further owner of what it gave
    abbrev pub Short : Type 0 → Type 0
    Short Refused = (b ≡ a) ⊎ ((Grew turn_log watch_log a [] b × Refused) ⊎ ((g : Given) × shares g × Grew turn_log watch_log a (event.Call name vs (Some g) a.next ∷ []) b))

    turn_short : {Refused : Type 0} → Short Refused → Calls_it (Err OutOfMemory)
    turn_short m = elim m [
      | inl same ↦ ([], subst (λ d. Grew turn_log watch_log a [] d) (sym same) (grew-none turn_log watch_log a), short_turn s a.next name k f safe vs left there fits [] new refl)
      | inr called ↦ elim called [
        | inl none ↦ ([], none.0, short_turn s a.next name k f safe vs left there fits [] new refl)
        | inr one ↦ (
          event.Call name vs (Some one.0) a.next ∷ [],
          one.2,
          made_turn s a.next name k f safe vs left there fits (Some one.0) _ new (Err OutOfMemory) refl (short s _ new _ (text_asks one.0 one.1)),
        )
      ]
    ]

    pub turn_failed : {Refused : Type 0} (fault : Fault) → (fault ≡ HostRefused → Grew turn_log watch_log a (event.Call name vs None a.next ∷ []) b)
        → (fault ≡ OutOfMemory → Short Refused) → (fault ≡ HostRefused) ⊎ (fault ≡ OutOfMemory) → Calls_it (Err fault)
    turn_failed fault refused memory which = elim which [
      | inl is ↦ subst (λ x. Calls_it (Err x)) (sym is) (turn_refused (refused is))
      | inr is ↦ subst (λ x. Calls_it (Err x)) (sym is) (turn_short (memory is))
    ]

-- ---- knots in place of functions

module _ (s t : StoryTree) (same : t ≡ s) (name : List ℕ) (f : Fields) where
  falls_on : (r : Result Transfer Fault) → Performs t false (fall_back t name f) f r → Performs s false (fall_back s name f) f r
  falls_on r h = subst (λ x. Performs x false (fall_back x name f) f r) same h

  abbrev to_knot : List Part → Effect
  to_knot p = Calls Function (record { place = landed t p; enters = true }) f

  pub no_knot : None ≡ knot name t → Performs s false (fall_back s name f) f (Err Unbound)
  no_knot h = falls_on (Err Unbound) (subst (λ o. Performs t false (or_else Unbound o to_knot) f (Err Unbound)) h (inl refl))

  abbrev entering : List Part → Goal
  entering p = record { place = p; enters = true }

  pub knot_there : (holder : NodeId) (to : Spot) → Some (node_place t holder) ≡ knot name t → place_of t to ≡ landed t (place_of t (record { holder = holder; index = None }))
      → Performs s false (fall_back s name f) f (Ok (transfer.Call call.Function (record { place = to; enters = true })))
  knot_there holder to h lands = falls_on _ (subst (λ o. Performs t false (or_else Unbound o to_knot) f (Ok (transfer.Call call.Function (record { place = to; enters = true })))) h
      (refl, ap entering (sym (lands ∙ ap (landed t) (append-nil (node_place t holder)))), refl))
