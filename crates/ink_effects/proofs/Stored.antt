-- What reading, declaring and assigning do, by the variable that is read or written.
use Rattle.std.proofs.Common.{◌≡◌, ◌∙◌, ◌≤◌, ℕ, List, Bool, true, false, not, ◌&&◌, ◌||◌, Some, Result, Ok, Err, OnOk, ap, inl, is_ok, refl, subst, sym, is_some}
use Rattle.ink_effects.proofs.Common.{has_room, Fields, Effect, Fails, Stores, Leaves, Page, popped, pushed, Values, StoryTree, Fault, OutOfMemory, Value, Rest, seen_by, Transfer, place_of, Spot}
use Rattle.ink_model.specs.Flow.Frames.{ThreadOf, ThreadsOf, fresh_depth, map_thread}
use Rattle.ink_model.specs.Flow.Threads.{frame_count}
use Rattle.ink_model.specs.Run.Step.Variables as effects
use Rattle.ink_model.specs.Run.Step.Variables.{storing}
use Rattle.ink_model.specs.Memory.Refusals.{ByRule, LacksMemory}
use Rattle.ink_model.specs.Memory.Variables.{assign_asks, declare_asks, is_pointer, on_popped, setting_asks}
use Rattle.ink_model.specs.Variables.Access.{assign, declare, declared, kept, named, read}
use Rattle.ink_model.specs.declared.scope.Scope.{Scope}
use Rattle.ink_effects.specs.Performs.{Changes, KeepsThreads, Performs, fields}
use Rattle.ink_effects.proofs.Effects.{operated, performs_where, short}
use Rattle.ink_effects.proofs.Bools.{or_first, or_more, same_fault}
use Rattle.ink_model.proofs.Maps.{assign_map, declare_map, left_as, read_map, setting_asks_map}
use Rattle.ink_vars.specs.Outcomes.{Declares, HandsOut, LeadsTo, Writes, held_by, with_variable, writing_asks}
use Rattle.ink_vars.specs.declared.places.Variable.{Variable}

-- ---- by cases

handed : {A : Type 0} (asks : Bool) (rule : Result A Fault) (a : A) → HandsOut asks rule (Ok a) → rule ≡ Ok a
handed asks (Ok b) a h = ap Ok (sym h)
handed asks (Err f) a h = absurd h

-- what a name leads to is there, and is written
pub led : {P : Type 0} (globals : Values) (thread : ThreadOf P) (follows : Bool) (v : Value) (rule : Result (Values × ThreadOf P) Fault) (x : Variable) → Writes globals thread follows v rule (Ok x)
    → (x.frame ≤ frame_count thread) × (is_some (held_by globals thread x) ≡ true) × (rule ≡ Ok (with_variable globals thread x v))
led globals thread follows v (Ok new) x h = (h.0, h.1, ap Ok h.2)
led globals thread follows v (Err f) x h = absurd h

-- a call that fails by its rule, where its effect faults so or asks for memory
fails : {A B : Type 0} (s : StoryTree) (gives : A → B → Type 0) (few asks : Bool) (e : Effect) (left : Fields) (rule : Result A Fault) (g : Fault)
    → ((a : A) → rule ≡ Ok a → few ≡ true → asks ≡ true) → ((f : Fault) → rule ≡ Err f → e ≡ Fails f)
    → ByRule (LacksMemory (is_ok rule && few)) gives (λ why. why) rule (Err g) → Performs s asks e left (Err g)
fails s gives few asks e left (Ok a) g asking faults h = subst (λ f. Performs s asks e left (Err f)) (sym h.0) (short s asks left e (asking a refl h.1))
fails s gives few asks e left (Err f) g asking faults h = subst (λ d. Performs s asks d left (Err g)) (sym (faults f refl)) (inl (same_fault h))

on_ok : {A : Type 0} (r : Result A Fault) (B C : Type 0) → (B → C) → OnOk r B → OnOk r C
on_ok (Ok a) B C so h = so h
on_ok (Err f) B C so h = h

module _ (s : StoryTree) (ts : ThreadsOf Spot) (rest : Rest) (f : Fields) where
  -- ---- reading

  abbrev reading : List ℕ → Bool
  reading name = is_ok (read f.globals (map_thread (place_of s) ts.thread) name)

  pub pushes_read : (name : List ℕ) (v : Value) (new : List Value) (result : Result (Unit {0}) Fault) → Ok v ≡ read f.globals ts.thread name
      → Leaves (pushed v f.stack) f.stack new result → (result ≡ Err OutOfMemory → has_room f.stack ≡ true)
      → Changes (reading name && has_room f.stack) (effects.push_variable name (seen_by s ts rest) f) (record f { stack = new }) result
  pushes_read name v new result is leaves memory t =
      let reads : read f.globals (map_thread (place_of s) ts.thread) name ≡ Ok v = read_map (place_of s) f.globals ts.thread name ∙ sym is in
      rw reads (operated (has_room f.stack) (pushed v f.stack) (λ vs. record f { stack = vs }) f.stack new result leaves memory t)

  pub reads_nothing : (name : List ℕ) (g : Fault) → Err g ≡ read f.globals ts.thread name → Changes (reading name && has_room f.stack) (effects.push_variable name (seen_by s ts rest) f) f (Err g)
  reads_nothing name g is t =
      let reads : read f.globals (map_thread (place_of s) ts.thread) name ≡ Err g = read_map (place_of s) f.globals ts.thread name ∙ sym is in
      rw reads (inl refl)

  -- ---- a variable is written

  abbrev pub wrote : List Value → Variable → Value → Effect
  wrote left x v = let w = with_variable f.globals ts.thread x v in Stores (map_thread (place_of s) w.1) (record f { stack = left; globals = w.0 })

  keeps : (e : Effect) (left : List Value) (x : Variable) (v : Value) (new : ThreadsOf Spot) → e ≡ wrote left x v
      → new ≡ record ts { thread = (with_variable f.globals ts.thread x v).1 } → KeepsThreads s e ts new
  keeps e left x v new is h = subst (λ d. KeepsThreads s d ts new) (sym is) (subst (KeepsThreads s (wrote left x v) ts) (sym h) refl)

  -- ---- assigning

  module _ (name : List ℕ) (left : List Value) (v : Value) (pops : popped f.stack ≡ Some (v, left)) where
    abbrev assigning : Effect
    assigning = effects.assign name (seen_by s ts rest) f

    abbrev assigning_asks : Bool
    assigning_asks = on_popped (popped f.stack) (assign_asks f.globals (map_thread (place_of s) ts.thread) name)

    assigns : (r : Result (Values × ThreadOf Spot) Fault) → assign f.globals ts.thread name v ≡ r → assigning ≡ storing (left_as (place_of s) f.globals ts.thread r) (record f { stack = left })
    assigns r is =
        rw pops (ap (λ q. storing q (record f { stack = left })) (assign_map (place_of s) f.globals ts.thread name v ∙ ap (left_as (place_of s) f.globals ts.thread) is))

    abbrev follows : Bool
    follows = is_pointer (named f.globals ts.thread name)

    pub assigns_there : (x : Variable) (result : Result Transfer Fault) → LeadsTo f.globals ts.thread name (Ok x)
        → Performs s (writing_asks f.globals ts.thread x) (wrote left x v) (record f { stack = left }) result
        → Performs s assigning_asks assigning (record f { stack = left }) result
    assigns_there x result leads h =
        let there = led f.globals ts.thread follows v _ x (leads v) in
        subst (λ e. Performs s assigning_asks e (record f { stack = left }) result) (sym (assigns _ there.2))
        (performs_where s (writing_asks f.globals ts.thread x) assigning_asks (λ is_new. absurd (let no : false ≡ true = rw there.1 at is_new in cc)) (wrote left x v) _ result h)

    pub assigns_keeping : (x : Variable) (new : ThreadsOf Spot) (result : Result (Unit {0}) Fault) → LeadsTo f.globals ts.thread name (Ok x)
        → OnOk result (new ≡ record ts { thread = (with_variable f.globals ts.thread x v).1 }) → OnOk result (KeepsThreads s assigning ts new)
    assigns_keeping x new result leads = on_ok result _ _ (keeps assigning left x v new (assigns _ (led f.globals ts.thread follows v _ x (leads v)).2))

    pub assigns_nowhere : (g : Fault) → LeadsTo f.globals ts.thread name (Err g) → Performs s assigning_asks assigning (record f { stack = left }) (Err g)
    assigns_nowhere g leads = fails s _ follows assigning_asks assigning (record f { stack = left }) (assign f.globals ts.thread name v) g
        (λ w is asking. rw (pops, assign_map (place_of s) f.globals ts.thread name v ∙ ap (left_as (place_of s) f.globals ts.thread) is) asking) (λ x is. assigns (Err x) is) (leads v)

  -- ---- declaring

  module _ (scope : Scope) (name : List ℕ) (left : List Value) (v : Value) (pops : popped f.stack ≡ Some (v, left)) where
    abbrev declaring : Effect
    declaring = effects.declare scope name (seen_by s ts rest) f

    abbrev declaring_asks : Bool
    declaring_asks = on_popped (popped f.stack) (declare_asks f.globals (map_thread (place_of s) ts.thread) scope name)

    declares : (r : Result Value Fault) → kept f.globals ts.thread v ≡ r
        → declaring ≡ storing (left_as (place_of s) f.globals ts.thread (declared f.globals ts.thread scope name r)) (record f { stack = left })
    declares r is =
        rw pops (ap (λ q. storing q (record f { stack = left })) (declare_map (place_of s) f.globals ts.thread scope name v ∙ ap (λ k. left_as (place_of s) f.globals ts.thread (declared f.globals ts.thread scope name k)) is))

    -- where a value is kept, and so all is well
    asks_to_declare : (w : Value) → kept f.globals ts.thread v ≡ Ok w → is_pointer (Some v) || setting_asks f.globals ts.thread scope name ≡ true → declaring_asks ≡ true
    asks_to_declare w is asking =
        let so : declare f.globals (map_thread (place_of s) ts.thread) scope name v ≡ left_as (place_of s) f.globals ts.thread (declared f.globals ts.thread scope name (Ok w)) =
        declare_map (place_of s) f.globals ts.thread scope name v ∙ ap (λ k. left_as (place_of s) f.globals ts.thread (declared f.globals ts.thread scope name k)) is in
        rw (pops, so, setting_asks_map (place_of s) f.globals ts.thread scope name) asking

    wrote_there : (w : Value) (x : Variable) → HandsOut (is_pointer (Some v)) (kept f.globals ts.thread v) (Ok w) → Declares f.globals ts.thread scope name x → declaring ≡ wrote left x w
    wrote_there w x keeping there = declares (Ok w) (handed _ _ w keeping) ∙ ap (λ q. storing (left_as (place_of s) f.globals ts.thread (Ok q)) (record f { stack = left })) (there.1 w)

    pub declares_there : (w : Value) (x : Variable) (result : Result Transfer Fault) → HandsOut (is_pointer (Some v)) (kept f.globals ts.thread v) (Ok w) → Declares f.globals ts.thread scope name x
        → Performs s (writing_asks f.globals ts.thread x) (wrote left x w) (record f { stack = left }) result
        → Performs s declaring_asks declaring (record f { stack = left }) result
    declares_there w x result keeping there h =
        let asking : writing_asks f.globals ts.thread x ≡ true → declaring_asks ≡ true =
        λ is_new. asks_to_declare w (handed _ _ w keeping) (or_more (is_pointer (Some v)) _ (sym (ap not there.0) ∙ is_new)) in
        subst (λ e. Performs s declaring_asks e (record f { stack = left }) result) (sym (wrote_there w x keeping there))
        (performs_where s (writing_asks f.globals ts.thread x) declaring_asks asking (wrote left x w) _ result h)

    pub declares_keeping : (w : Value) (x : Variable) (new : ThreadsOf Spot) (result : Result (Unit {0}) Fault) → HandsOut (is_pointer (Some v)) (kept f.globals ts.thread v) (Ok w)
        → Declares f.globals ts.thread scope name x → OnOk result (new ≡ record ts { thread = (with_variable f.globals ts.thread x w).1 }) → OnOk result (KeepsThreads s declaring ts new)
    declares_keeping w x new result keeping there = on_ok result _ _ (keeps declaring left x w new (wrote_there w x keeping there))

    pub declares_nowhere : (g : Fault) → HandsOut (is_pointer (Some v)) (kept f.globals ts.thread v) (Err g) → Performs s declaring_asks declaring (record f { stack = left }) (Err g)
    declares_nowhere g h = fails s _ (is_pointer (Some v)) declaring_asks declaring (record f { stack = left }) (kept f.globals ts.thread v) g
        (λ w is asking. asks_to_declare w is (or_first _ _ asking)) (λ x is. declares (Err x) is) h

-- ---- fields

-- a thread of which only temporaries are others gives the same fields
pub fields_kept : (old new : ThreadsOf Spot) (stack : List Value) (page : Page) (globals : Values) → new.thread.frame ≡ record old.thread.frame { temps = new.thread.frame.temps }
    → fields old.thread.frame.evaluating (fresh_depth old.thread.frame) stack page globals ≡ fields new.thread.frame.evaluating (fresh_depth new.thread.frame) stack page globals
fields_kept old new stack page globals kept = sym (ap (λ f. fields f.evaluating (fresh_depth f) stack page globals) kept)
