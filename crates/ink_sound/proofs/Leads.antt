-- The effects of diverts, calls and returns; what calls of external functions come to, and what a host answers.
use Rattle.std.proofs.Common.{◌≢◌, arith, List, Bool, true, false, if◌then◌else◌, Option, Some, None, option_map, Ok, Err, ◌≡◌, ℕ, suc, ◌-◌, nat_le, ◌∷◌, length, take, Result}
use Rattle.ink_sound.proofs.Common.{cond_both, lands, Values, StoryTree, FrameKind, Base, Tunnel, Part, Value, Fault, Given, ok_or, popped, is_true, Destination, AnyPlace, PlaceFits, StackFits, ValueFits, Each, list_all}
use Rattle.ink_model.specs.Run.Effect.{Context, Effect, Fields, Landing, Moves, Lands, Calls, Returns}
use Rattle.ink_model.specs.Run.Move.{place_to}
use Rattle.ink_model.specs.Run.Step.Calls.{call, call_to, return_landing, return_function, return_tunnel}
use Rattle.ink_model.specs.Run.Step.Diverts.{condition, divert, divert_to, landing_by, leaving_fields, led_by, led_to, truth_on, where_true}
use Rattle.ink_model.specs.Variables.Access.{read}
use Rattle.ink_model.specs.declared.content.Destination.TheVariants as destination
use Rattle.ink_model.specs.declared.fault.Fault.TheVariants.{BadTarget, Unbound}
use Rattle.ink_model.specs.declared.value.Value.TheVariants as value
use Rattle.ink_sound.specs.Kept.{EffectFits, FieldsFit, Finds, Gives, CallFits}
use Rattle.ink_sound.proofs.Places.{Stands, lands_fits, led_fits, knot_fits, landed_fits}
use Rattle.ink_sound.proofs.Values.{TakenFits, map_finds, or_fault_fits, popped_fits, popping_fits, or_else_fits, pushing_fits}
use Rattle.std.proofs.lemmas.List.{length-take}
use Rattle.ink_model.specs.Host.Bindings.{Binding, Bound, turn_function, pure_function, fits_given, value_given}
use Rattle.ink_model.specs.Run.Place.{knot}
use Rattle.ink_model.specs.Run.Step.Host.{CallEffect, answering, arguments_of, arguments_on, arguments_taken, call_bound, call_external, has_string, is_argument, or_fails}
use Rattle.ink_model.specs.declared.host.Given.TheVariants as given

module _ (s : StoryTree) where
  -- ---- conditions

  abbrev pub LeavesFields : {A : Type 0} → A × Fields → Type 0
  LeavesFields r = FieldsFit s r.1

  truth_fits : (f : Fields) (o : Option (Value × List Value)) → FieldsFit s f → Finds (TakenFits s f.stack) o → Gives LeavesFields (truth_on o f)
  truth_fits f None h k = tt
  truth_fits f (Some r) h k = elim (is_true r.0) as (λ t. Gives LeavesFields (leaving_fields (record f { stack = r.1 }) t))
      [ Ok b ↦ record { stack = record { each = k.left; few = omega (arith, k.less, h.stack.few) }; globals = h.globals; page = h.page } | Err g ↦ tt ]

  pub condition_fits : (conditional : Bool) (f : Fields) → FieldsFit s f → Gives LeavesFields (condition conditional f)
  condition_fits true f h = truth_fits f (popped f.stack) h (popped_fits s f.stack h.stack.each)
  condition_fits false f h = h

  pub where_true_fits : (conditional : Bool) (f : Fields) (so : Fields → Effect) → FieldsFit s f → ((left : Fields) → FieldsFit s left → EffectFits s (so left))
      → EffectFits s (where_true conditional f so)
  where_true_fits conditional f so h k = or_fault_fits s LeavesFields (condition conditional f) (λ r. if r.0 then so r.1 else Moves r.1) (condition_fits conditional f h)
      (λ r x. cond_both r.0 _ _ (EffectFits s) (λ _. k r.1 x) (λ _. x))

  -- ---- where content leads

  abbrev LandingFits : Landing → Type 0
  LandingFits l = PlaceFits s l.place

  ok_fits : (o : Option Landing) → Finds LandingFits o → Gives LandingFits (ok_or o BadTarget)
  ok_fits (Some l) h = h
  ok_fits None h = tt

  led_to_fits : (p : List Part) (seen : Context) (to : Destination) (globals : Values) → Stands s p → Gives LandingFits (led_to s p seen to globals)
  led_to_fits p seen (destination.Path text) globals h = ok_fits _ (map_finds (PlaceFits s) LandingFits (lands s p text) _ (lands_fits s p text h) (λ q k. k))
  led_to_fits p seen (destination.Variable name) globals h =
      elim (read globals seen.thread name) as (λ r. Gives LandingFits (led_by s r)) [ Ok v ↦ ok_fits (landing_by s v) (led_fits s v) | Err f ↦ tt ]

  module _ (p : List Part) (stand : Stands s p) (seen : Context) where
    pub divert_fits : (to : Destination) (conditional : Bool) (f : Fields) → FieldsFit s f → EffectFits s (divert s p seen to conditional f)
    divert_fits to conditional f h = where_true_fits conditional f (divert_to s p seen to) h
        (λ left x. or_fault_fits s LandingFits (led_to s p seen to left.globals) (λ l. Lands l left) (led_to_fits p seen to left.globals stand) (λ l y. (y, x)))

    pub call_fits : (k : FrameKind) (to : Destination) (conditional : Bool) (f : Fields) → k ≢ Base → FieldsFit s f → EffectFits s (call k s p seen to conditional f)
    call_fits k to conditional f c h = where_true_fits conditional f (call_to k s p seen to) h
        (λ left x. or_fault_fits s LandingFits (led_to s p seen to left.globals) (λ l. Calls k l left) (led_to_fits p seen to left.globals stand) (λ l y. (c, y, x)))

  back_fits : (v : Value) → Gives (λ to. AnyPlace s (place_to to)) (return_landing s v)
  back_fits (value.Target path) = (elim (landing_by s (value.Target path)) as (λ o. Finds LandingFits o → Gives (λ to. AnyPlace s (place_to to)) (ok_or (option_map (λ l. Some l) o) BadTarget))
      [ Some l ↦ λ h. h | None ↦ λ h. tt ]) (led_fits s (value.Target path))
  back_fits v = tt

  pub return_tunnel_fits : (f : Fields) → FieldsFit s f → EffectFits s (return_tunnel s f)
  return_tunnel_fits f h = popping_fits s f _ h (λ v left p x. or_fault_fits s (λ to. AnyPlace s (place_to to)) (return_landing s v) (λ to. Returns Tunnel to left) (back_fits v) (λ to y. (y, x)))

  pub return_function_fits : (f : Fields) → FieldsFit s f → EffectFits s (return_function f)
  return_function_fits f h = (tt, h)

-- ---- calls of external functions

module _ (s : StoryTree) where
  each_take : (n : ℕ) (vs : List Value) → Each (ValueFits s) vs → Each (ValueFits s) (take n vs)
  each_take (suc n) (v ∷ vs) h = (h.0, each_take n vs h.1)
  each_take n vs h = tt

  arguments_fit : (n : ℕ) (vs : List Value) → StackFits s vs → Finds (λ (r : List Value × List Value). StackFits s r.1) (arguments_on n vs)
  arguments_fit n vs h = cond_both (nat_le n (length vs)) _ _ (Finds (λ (r : List Value × List Value). StackFits s r.1))
      (λ _. record { each = each_take (length vs - n) vs h.each; few = omega (arith, length-take (length vs - n) vs, h.few) }) (λ _. tt)

  taken_fits : (n : ℕ) (f : Fields) → FieldsFit s f → Gives (LeavesFields s) (arguments_taken n f)
  taken_fits n f h = (elim (arguments_on n f.stack) as (λ o. Finds (λ (r : List Value × List Value). StackFits s r.1) o → Gives (LeavesFields s) (arguments_of o f)) [
    | None ↦ λ k. tt
    | Some r ↦ λ k. cond_both (list_all is_argument r.0) _ _ (Gives (LeavesFields s)) (λ _. record { stack = k; globals = h.globals; page = h.page }) (λ _. tt)
  ]) (arguments_fit n f.stack h.stack)

  given_fits : (g : Given) → fits_given g ≡ true → ValueFits s (value_given g)
  given_fits (given.Int z) e = e
  given_fits (given.Text t) e = e
  given_fits g e = tt

  -- an answer of a host, whatever it is
  pub answering_fits : (gave : Option Given) (f : Fields) → FieldsFit s f → EffectFits s (answering gave f)
  answering_fits None f h = tt
  answering_fits (Some g) f h = cond_both (fits_given g) _ _ (EffectFits s) (λ e. pushing_fits s (value_given g) f (given_fits g e) h) (λ _. tt)

  or_fails_fits : {A : Type 0} (P : A → Type 0) (r : Result A Fault) (so : A → CallEffect) → Gives P r → ((a : A) → P a → CallFits s (so a)) → CallFits s (or_fails r so)
  or_fails_fits P (Ok a) so h k = k a h
  or_fails_fits P (Err f) so h k = tt

  bound_fits : (b : Option Binding) (name : List ℕ) (n : ℕ) (f : Fields) → FieldsFit s f → CallFits s (call_bound s b name n f)
  bound_fits None name n f h = or_else_fits s (PlaceFits s) Unbound (knot name s) _ (knot_fits s name) (λ p x. ((λ e. absurd cc), landed_fits s p x, h))
  bound_fits (Some turn_function) name n f h = cond_both (has_string f.page.sections) _ _ (CallFits s) (λ _. tt) (λ _. or_fails_fits (LeavesFields s) (arguments_taken n f) _ (taken_fits n f h) (λ r x. x))
  bound_fits (Some (pure_function answers)) name n f h = or_fault_fits s (LeavesFields s) (arguments_taken n f) _ (taken_fits n f h) (λ r x. answering_fits (answers r.0) r.1 x)

  pub external_fits : (b : Bound) (name : List ℕ) (n : ℕ) (conditional : Bool) (f : Fields) → FieldsFit s f → CallFits s (call_external s b name n conditional f)
  external_fits b name n conditional f h = or_fails_fits (LeavesFields s) (condition conditional f) _ (condition_fits s conditional f h)
      (λ r x. cond_both r.0 _ _ (CallFits s) (λ _. bound_fits (b name) name n r.1 x) (λ _. x))
