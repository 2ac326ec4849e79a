-- A value is stored at once, and flow goes on.
use Rattle.std.proofs.Common.{◌≡◌, ◌∙◌, ap, subst, sym, refl, true, false, if◌then◌else◌, is_some, Bool, ℕ, ℤ, List, Option, Some, None, Result, Ok, option_map}
use Rattle.std.specs.Option.{option_or}
use Rattle.ink_step.proofs.Common.{following, Configuration, moved_on, ThreadOf, Next, Outcome, going, next_place, popped, acted, StoryTree, Fault, Value, StepEnds}
use Rattle.ink_model.specs.Run.Effect.{Effect, context_of, fields_of, or_else}
use Rattle.ink_model.specs.Run.Step.Variables.{assign, declare, storing}
use Rattle.ink_model.specs.Variables.Store.{Values, store, stored}
use Rattle.ink_model.specs.Memory.Variables.{is_pointer}
use Rattle.ink_model.specs.Variables.Access as variables
use Rattle.ink_model.specs.Variables.Access.{on_pointer}
use Rattle.ink_model.specs.declared.fault.Fault.TheVariants.{StackEmpty}
use Rattle.ink_model.specs.declared.scope.Scope.TheVariants.{Global}
use Rattle.ink_model.specs.declared.value.Value.TheVariants as value
use Rattle.ink_moves.specs.declared.flow.StepEnd.TheVariants as ends

-- ---- what is stored

no_pointer : {X : Type 0} (o : Option Value) (so : ℤ → List ℕ → X) (otherwise : X) → is_pointer o ≡ false → on_pointer o so otherwise ≡ otherwise
no_pointer (Some (value.Pointer frame name)) so otherwise h = absurd cc
no_pointer o so otherwise h = refl

there_first : {X : Type 0} (o temp : Option Value) (so : ℤ → List ℕ → Result X Fault) (there else_there : X) (lacks : Result X Fault) → is_some o ≡ true → is_pointer o ≡ false
    → on_pointer (option_or o temp) so (if is_some (option_or o temp) then Ok (if is_some o then there else else_there) else lacks) ≡ Ok there
there_first None temp so there else_there lacks h plain = absurd cc
there_first (Some v) temp so there else_there lacks h plain = no_pointer (Some v) so (Ok there) plain

module _ {P : Type 0} (globals : Values) (thread : ThreadOf P) (name : List ℕ) (v : Value) where
  assigned : is_some (stored name globals) ≡ true → is_pointer (stored name globals) ≡ false → variables.assign globals thread name v ≡ Ok (store name v globals, thread)
  assigned there plain = there_first (stored name globals) _ _ _ _ _ there plain

  declared : is_pointer (Some v) ≡ false → variables.declare globals thread Global name v ≡ Ok (store name v globals, thread)
  declared plain = ap (variables.declared globals thread Global name) (no_pointer (Some v) _ (Ok v) plain)

-- ---- how the step ends

module _ (s : StoryTree) (asks : Bool) where
  went_on : (o : Outcome) (asking : Bool) (before after : Values) (d : Configuration) → StepEnds asking o after d (Ok ends.Went) → StepEnds asks (following s o) before d (Ok ends.Went)
  went_on (Next c) asking before after d h = h
  went_on o asking before after d h = absurd h

  module _ (c d : Configuration) (name : List ℕ) (v : Value) (left : List Value) (pops : popped c.flow.stack ≡ Some (v, left)) (rows : Values) (is : rows ≡ store name v c.shared.globals) where
    abbrev left_with : Values → Configuration
    left_with vs = record c { flow = record c.flow { stack = left }; shared = record c.shared { globals = vs } }

    abbrev storing_so : Effect
    storing_so = storing (Ok (store name v c.shared.globals, c.flow.threads.thread)) (record (fields_of c) { stack = left })

    -- by an effect that stores it
    stores_so : (e : Effect) (asking : Bool) → e ≡ storing_so → StepEnds asking (going (moved_on (next_place s)) (left_with rows)) rows d (Ok ends.Went) → StepEnds asks (acted s e c) c.shared.globals d (Ok ends.Went)
    stores_so e asking same went =
        subst (λ e. StepEnds asks (acted s e c) c.shared.globals d (Ok ends.Went)) (sym same)
        (went_on (going (moved_on (next_place s)) (left_with (store name v c.shared.globals))) asking c.shared.globals rows d
        (subst (λ vs. StepEnds asking (going (moved_on (next_place s)) (left_with vs)) rows d (Ok ends.Went)) is went))

    pub assigns_at_once : is_some (stored name c.shared.globals) ≡ true → is_pointer (stored name c.shared.globals) ≡ false → (asking : Bool)
        → StepEnds asking (going (moved_on (next_place s)) (left_with rows)) rows d (Ok ends.Went) → StepEnds asks (acted s (assign name (context_of c) (fields_of c)) c) c.shared.globals d (Ok ends.Went)
    assigns_at_once there plain asking went =
        stores_so (assign name (context_of c) (fields_of c)) asking
        (ap (λ o. or_else StackEmpty o (λ r. storing (variables.assign c.shared.globals c.flow.threads.thread name r.0) (record (fields_of c) { stack = r.1 }))) pops
        ∙ ap (λ r. storing r (record (fields_of c) { stack = left })) (assigned c.shared.globals c.flow.threads.thread name v there plain)) went

    pub declares_at_once : is_pointer (option_map (λ r. r.0) (popped c.flow.stack)) ≡ false → (asking : Bool)
        → StepEnds asking (going (moved_on (next_place s)) (left_with rows)) rows d (Ok ends.Went) → StepEnds asks (acted s (declare Global name (context_of c) (fields_of c)) c) c.shared.globals d (Ok ends.Went)
    declares_at_once plain asking went =
        let of_value : is_pointer (Some v) ≡ false = ap (λ o. is_pointer (option_map (λ r. r.0) o)) (sym pops) ∙ plain in
        stores_so (declare Global name (context_of c) (fields_of c)) asking
        (ap (λ o. or_else StackEmpty o (λ r. storing (variables.declare c.shared.globals c.flow.threads.thread Global name r.0) (record (fields_of c) { stack = r.1 }))) pops
        ∙ ap (λ r. storing r (record (fields_of c) { stack = left })) (declared c.shared.globals c.flow.threads.thread name v of_value)) went

-- ---- where nothing is there

pub none_there : {A : Type 0} (o : Option A) → o ≡ None → is_some o ≡ true → ⊥
none_there o is there = absurd (cc)
