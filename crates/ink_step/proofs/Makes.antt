-- Steps that call turn functions.
use Rattle.std.proofs.Common.{◌≡◌, ◌∙◌, ◌||◌, ap, sym, refl, subst, inl, inr, ℕ, List, [], Bool, true, false, true≢false, if◌then◌else◌, Option, Some, None, option_map, Bor, Result, Ok, Err}
use Rattle.ink_model.specs.Memory.Asks.{acting_asks, calling_asks}
use Rattle.ink_step.proofs.Common.{Configuration, current_place, move, Values, StoryTree, container, leaf, at, Leaf, Fault, LacksMemory, Event, Given, Part, Value, Performs, StepEnd, Transfer, or_more, leaf_in}
use Rattle.ink_model.specs.Run.Effect.{Fields, Effect, Fails, Moves, fields_of}
use Rattle.ink_model.specs.Host.Bindings.{Binding, Bound, fits_given, pure_function, turn_function, value_given}
use Rattle.ink_model.specs.Memory.Refusals.{given_asks}
use Rattle.ink_model.specs.Run.Place.{content_place, knot}
use Rattle.ink_model.specs.Run.Moments.{answered}
use Rattle.ink_model.specs.Values.Stack.{pushed}
use Rattle.ink_model.specs.Run.Step.{Stepped, Comes, Wants, acted, call_made, gone_in, performed, step, step_at}
use Rattle.ink_model.specs.Run.Step.Diverts.{condition}
use Rattle.ink_model.specs.Run.Step.Host.{Acts, Suspends, Call, CallEffect, answering, arguments_taken, call_at, call_bound, call_external, has_string, or_fails}
use Rattle.ink_model.specs.declared.fault.Fault.TheVariants.{OutOfMemory, UnsafeInString}
use Rattle.ink_effects.specs.External.{PerformsCall, is_asking}
use Rattle.ink_moves.specs.Reaches.{went}
use Rattle.ink_step.specs.Steps.{EndsPlainly, StepEnds, StepMakes, Steps, step_end, wants}
use Rattle.ink_moves.specs.declared.flow.StepEnd.TheVariants as ends
use Rattle.ink_step.proofs.Follows.{ends_more, ends_short, ends_unperformed, ends_where, never_wants, or_between, or_where}
use Rattle.ink_effects.proofs.Plain.{IsPlain, plain_else, plain_if, plain_or}
use Rattle.ink_step.proofs.Stopping.{broke}

module _ (s : StoryTree) (b : Bound) (n : ℕ) (pressed : Bool) (es : List Event) (globals : Values) (d : Configuration) where
  -- where more asks for memory
  pub makes_more : (r : Result StepEnd Fault) (more asking : Bool) (o : Stepped) → StepMakes s b n pressed asking o es globals d r → StepMakes s b n pressed (more || asking) o es globals d r
  makes_more r more asking (Wants name arguments f c) h = elim h [
    | inl made ↦ inl made
    | inr short ↦ inr (short.0, short.1, (short.2.0, or_between pressed more asking short.2.1))
  ]
  makes_more r more asking (Comes o) h = (h.0, ends_where _ _ (or_between pressed more asking) o globals d r h.1)

  -- only a quiet step says that a call is wanted
  pub makes_said : (asking : Bool) (o : Stepped) → StepMakes s b n pressed asking o es globals d (Ok ends.WantsCall) → ⊥
  makes_said asking (Wants name arguments f c) h = elim h [
    | inl made ↦ never_wants _ (answered s f c made.0) globals d made.3
    | inr short ↦ let refused = short.2.0 in absurd (cc)
  ]
  makes_said asking (Comes o) h = never_wants (pressed || asking) o globals d h.1

  -- so whether flow went on is all that it tells
  pub makes_went : (asking : Bool) (o : Stepped) (end : StepEnd) → StepMakes s b n pressed asking o es globals d (Ok end) → StepMakes s b n pressed asking o es globals d (step_end (Ok (went end)))
  makes_went asking o ends.Went h = h
  makes_went asking o ends.Stopped h = h
  makes_went asking o ends.WantsCall h = absurd (makes_said asking o h)

-- where it is pressed for more
pub makes_where : (s : StoryTree) (b : Bound) (n : ℕ) (es : List Event) (globals : Values) (d : Configuration) (r : Result StepEnd Fault) (pressed more : Bool) → (pressed ≡ true → more ≡ true) → (asking : Bool) (o : Stepped)
    → StepMakes s b n pressed asking o es globals d r → StepMakes s b n more asking o es globals d r
makes_where s b n es globals d r pressed more allows asking (Wants name arguments f c) h = elim h [
  | inl made ↦ inl (made.0, made.1, made.2, ends_where _ _ (or_where pressed more _ allows) (answered s f c made.0) globals d r made.3)
  | inr short ↦ inr (short.0, short.1, (short.2.0, or_where pressed more asking allows short.2.1))
]
makes_where s b n es globals d r pressed more allows asking (Comes o) h = (h.0, ends_where _ _ (or_where pressed more asking allows) o globals d r h.1)

-- one that wants none, or is not quiet, is as any
pub makes_quietly : (s : StoryTree) (b : Bound) (n : ℕ) (pressed : Bool) (es : List Event) (globals : Values) (d : Configuration) (quiet asking : Bool) (o : Stepped) (c : Configuration) (r : Result StepEnd Fault)
    → (quiet ≡ true → wants o ≡ false) → StepMakes s b n pressed asking o es globals d r → Steps quiet s b n pressed asking o es globals c d r
makes_quietly s b n pressed es globals d true asking (Comes o) c r calm h = h
makes_quietly s b n pressed es globals d true asking (Wants name arguments f k) c r calm h = absurd (true≢false (calm refl))
makes_quietly s b n pressed es globals d false asking o c r calm h = h

-- and a quiet one that wants a call says so
pub said : (s : StoryTree) (b : Bound) (n : ℕ) (pressed asking : Bool) (o : Stepped) (globals : Values) (c : Configuration) → wants o ≡ true → Steps true s b n pressed asking o [] globals c c (Ok ends.WantsCall)
said s b n pressed asking (Wants name arguments f d) globals c is = (refl, refl, refl)
said s b n pressed asking (Comes o) globals c is = absurd (cc)

-- a step that wants no call makes none
module _ (s : StoryTree) (b : Bound) (n : ℕ) (pressed asking : Bool) (globals : Values) where
  pub steps_plainly : (quiet : Bool) (o : Stepped) (c d : Configuration) (r : Result StepEnd Fault) → EndsPlainly (pressed || asking) o globals d r → Steps quiet s b n pressed asking o [] globals c d r
  steps_plainly true (Comes o) c d r h = (refl, h)
  steps_plainly false (Comes o) c d r h = (refl, h)
  steps_plainly quiet (Wants name arguments f k) c d r h = absurd h

pub plainly_never : (asking : Bool) (o : Stepped) (globals : Values) (d : Configuration) (r : Result StepEnd Fault) → r ≡ Ok ends.WantsCall → EndsPlainly asking o globals d r → ⊥
plainly_never asking o globals d r is h = by o (subst (EndsPlainly asking o globals d) is h)
  where
    by : (o : Stepped) → EndsPlainly asking o globals d (Ok ends.WantsCall) → ⊥
    by (Comes x) k = never_wants asking x globals d k
    by (Wants name arguments f c) k = k

-- where memory was refused, nothing was called
pub makes_short : (s : StoryTree) (b : Bound) (n : ℕ) (pressed asking : Bool) (o : Stepped) (globals : Values) (d : Configuration) (f : Fault) → LacksMemory (pressed || asking) f → d.shared.globals ≡ globals
    → StepMakes s b n pressed asking o [] globals d (Err f)
makes_short s b n pressed asking (Comes o) globals d f short same = (refl, ends_short (pressed || asking) o globals d f short same)
makes_short s b n pressed asking (Wants name arguments k c) globals d f short same = inr (refl, same, (ap Err short.0, short.1))

-- ---- effects of calls

-- A call asks what is bound to a turn function, and stores and offers nothing.
abbrev pub IsCall : Bound → CallEffect → Type 0
IsCall b (Suspends name arguments f) = b name ≡ Some turn_function
IsCall b (Acts e) = IsPlain e

answering_plain : (gave : Option Given) (f : Fields) → IsPlain (answering gave f)
answering_plain None f = tt
answering_plain (Some g) f = plain_if (fits_given g) _ _ (plain_or (pushed (value_given g) f.stack) _ (λ vs. tt)) tt

module _ (b : Bound) (s : StoryTree) where
  bound_call : (o : Option Binding) (name : List ℕ) (n : ℕ) (f : Fields) → b name ≡ o → IsCall b (call_bound s o name n f)
  bound_call None name n f is = plain_else _ (knot name s) _ (λ p. tt)
  bound_call (Some turn_function) name n f is = by (has_string f.page.sections) (arguments_taken n f)
    where
      by : (unsafe : Bool) (x : Result (List Value × Fields) Fault) → IsCall b (if unsafe then Acts (Fails UnsafeInString) else or_fails x (λ r. Suspends name r.0 r.1))
      by true x = tt
      by false (Ok r) = is
      by false (Err g) = tt
  bound_call (Some (pure_function answers)) name n f is = plain_or (arguments_taken n f) _ (λ r. answering_plain (answers r.0) r.1)

  pub external_call : (name : List ℕ) (n : ℕ) (conditional : Bool) (f : Fields) → IsCall b (call_external s b name n conditional f)
  external_call name n conditional f = by (condition conditional f)
    where
      by_truth : (wanted : Bool) (left : Fields) → IsCall b (if wanted then call_bound s (b name) name n left else Acts (Moves left))
      by_truth true left = bound_call (b name) name n left refl
      by_truth false left = tt

      by : (x : Result (Bool × Fields) Fault) → IsCall b (or_fails x (λ r. if r.0 then call_bound s (b name) name n r.1 else Acts (Moves r.1)))
      by (Ok r) = by_truth r.0 r.1
      by (Err g) = tt

-- ---- a call that was performed

module _ (s : StoryTree) (b : Bound) (n : ℕ) (pressed asking : Bool) (c d : Configuration) (new : Fields) (globals : Values) (transfer : Result Transfer Fault) (r : Result StepEnd Fault) where
  abbrev Ended : Bool → Effect → Type 0
  Ended asks e = StepEnds (pressed || acting_asks s asks e c) (acted s e c) globals d r

  module _ (goes : (asks : Bool) (e : Effect) → IsPlain e → Performs s asks e new transfer → Ended asks e) (failed : transfer ≡ Err OutOfMemory → (r ≡ Err OutOfMemory) × (d.shared.globals ≡ globals)) where
    pub makes : (k : CallEffect) (es : List Event) → IsCall b k → PerformsCall s n asking k es new transfer → StepMakes s b n pressed (calling_asks s asking k c) (call_made s k c) es globals d r
    makes (Suspends name arguments left) es is h = elim h [
      | inl made ↦ inl (made.0, is, made.1, goes (given_asks arguments left made.0) (answering made.0 left) (answering_plain made.0 left) made.2)
      | inr short ↦ inr (short.0, (failed short.1.0).1, ((failed short.1.0).0, or_more pressed asking short.1.1))
    ]
    makes (Acts e) es is h = (h.0, goes asking e is h.1)

err_same : (f g : Fault) → let r : Result Transfer Fault = Err f in r ≡ Err g → f ≡ g
err_same f g e = cc

module _ (s : StoryTree) (b : Bound) (n : ℕ) (pressed asking : Bool) (c d : Configuration) (new : Fields) (globals : Values) where
  -- performing it faulted
  pub makes_broken : (f : Fault) → d.shared.globals ≡ globals → (k : CallEffect) (es : List Event) → IsCall b k → PerformsCall s n asking k es new (Err f)
      → StepMakes s b n pressed (calling_asks s asking k c) (call_made s k c) es globals d (Err f)
  makes_broken f same = makes s b n pressed asking c d new globals (Err f) (Err f)
      (λ asks e call performs. ends_more pressed _ (acted s e c) globals d (Err f) (broke s _ (move s e c) globals d f (ends_unperformed s asks _ e new c d globals f performs same))) (λ is. (ap Err (err_same f OutOfMemory is), same))

  -- flow went on from it
  pub makes_ended : (t : Transfer) (r : Result StepEnd Fault) → ((asks : Bool) (e : Effect) → IsPlain e → Performs s asks e new (Ok t) → Ended s b n pressed asking c d new globals (Ok t) r asks e)
      → (k : CallEffect) (es : List Event) → IsCall b k → PerformsCall s n asking k es new (Ok t) → StepMakes s b n pressed (calling_asks s asking k c) (call_made s k c) es globals d r
  makes_ended t r goes = makes s b n pressed asking c d new globals (Ok t) r goes (λ is. absurd (cc))

-- ---- whether a step wants a call

pub stands_in : (s : StoryTree) (here inside : List Part) (found : Option Leaf) → found ≡ leaf_in (at s here) → here ≡ inside → found ≡ leaf_in (at s inside)
stands_in s here inside found stands is = stands ∙ ap (λ p. leaf_in (at s p)) is

-- what was found, as it stands
pub found_leaves : (found : Option (Bor Leaf)) (o : Option StoryTree) → option_map (λ l. l.now) found ≡ leaf_in o → option_map (λ l. leaf l.now) found ≡ option_map leaf (leaf_in o)
found_leaves None o is = ap (option_map leaf) is
found_leaves (Some l) o is = ap (option_map leaf) is

-- an empty container is no call, as nothing is
call_alike : (o : Option StoryTree) → call_at o ≡ call_at (option_map leaf (leaf_in o))
call_alike None = refl
call_alike (Some (leaf l)) = refl
call_alike (Some (container name flags content named)) = refl

wants_made : (s : StoryTree) (k : CallEffect) (c : Configuration) → wants (call_made s k c) ≡ is_asking k
wants_made s (Acts e) c = refl
wants_made s (Suspends name arguments f) c = refl

module _ (s : StoryTree) (b : Bound) (p : List Part) (c : Configuration) (at_p : current_place c ≡ Some p) where
  abbrev inside : Configuration
  inside = gone_in s p c

  wants_by : (found : Option StoryTree) (k : Option Call) → found ≡ option_map leaf (leaf_in (at s (content_place s p))) → call_at found ≡ k
      → wants (step s b c) ≡ wants (performed s b (content_place s p) (at s (content_place s p)) k inside)
  unfolding step
  wants_by found k is here = ap (λ o. wants (step_at s b o c)) at_p
      ∙ ap (λ o. wants (performed s b (content_place s p) (at s (content_place s p)) o inside)) (call_alike (at s (content_place s p)) ∙ ap call_at (sym is) ∙ here)

  pub wants_none : (found : Option StoryTree) → found ≡ option_map leaf (leaf_in (at s (content_place s p))) → call_at found ≡ None → false ≡ wants (step s b c)
  wants_none found is other = sym (wants_by found None is other)

  pub wants_call : (found : Option StoryTree) (k : Call) (answer : Bool) → found ≡ option_map leaf (leaf_in (at s (content_place s p))) → call_at found ≡ Some k
      → answer ≡ is_asking (call_external s b k.name k.arguments k.conditional (fields_of inside)) → answer ≡ wants (step s b c)
  wants_call found k answer is here asking =
      asking ∙ sym (wants_by found (Some k) is here ∙ wants_made s (call_external s b k.name k.arguments k.conditional (fields_of inside)) inside)
