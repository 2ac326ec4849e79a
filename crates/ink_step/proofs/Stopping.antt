-- Where flow stops it may follow a choice, and then a global is stored.
use Rattle.std.proofs.Common.{◌≡◌, ◌≢◌, ◌∙◌, ◌||◌, ◌⊎◌, ap, sym, refl, subst, inl, inr, List, Bool, true, false, is_some, Option, Some, None, Result, Ok, Err}
use Rattle.ink_step.proofs.Common.{default_asks, default_choice, following, following_asks, stopped_by, ThreadOf, Outcome, Next, Stop, Faults, move, reached_in, written_in, next_place, Values, stored, StoryTree, Fault, OutOfMemory, Part, AsksToStore, Performs, storing_in, unstored, StepEnds, StepEnd, Transfer, or_first}
use Rattle.ink_model.specs.Run.Configuration.{ChoiceOf, Configuration, with_globals}
use Rattle.ink_model.specs.Run.Effect.{Fields, Effect, Stores, with_fields, with_thread}
use Rattle.ink_model.specs.Flow.Transfers.{Reached, Reaches, Halts, Breaks, moved_on}
use Rattle.ink_moves.specs.declared.flow.StepEnd.TheVariants as ends
use Rattle.ink_effects.specs.declared.transfer.Assignment.{Assignment}
use Rattle.ink_effects.specs.declared.transfer.Transfer.TheVariants as transfer
use Rattle.ink_vars.specs.Outcomes.{name_of}
use Rattle.ink_step.proofs.Follows.{ends_short, ends_where, or_between}

module _ (s : StoryTree) where
  -- a fault that came before a choice is followed
  pub broke : (a : Bool) (o : Outcome) (globals : Values) (d : Configuration) (f : Fault) → StepEnds a o globals d (Err f) → StepEnds (a || following_asks s o) (following s o) globals d (Err f)
  broke a (Stop x) globals d f h = ends_short _ (stopped_by s (default_choice x.flow.choices) x) globals d f (h.0.0, or_first a _ h.0.1) h.1
  broke a (Faults g) globals d f h = (elim h.0 [ inl is ↦ inl is | inr short ↦ inr (short.0, or_first a _ short.1) ], h.1)
  broke a o globals d f h = ((h.0.0, or_first a _ h.0.1), h.1)

  -- flow went on, and no choice is followed
  pub went_on : (a : Bool) (o : Outcome) (globals : Values) (d : Configuration) → StepEnds a o globals d (Ok ends.Went) → StepEnds (a || following_asks s o) (following s o) globals d (Ok ends.Went)
  went_on a (Next c) globals d h = h
  went_on a o globals d h = absurd h

  -- flow stopped, and a choice may be followed
  pub stopped_so : (m a : Bool) (o : Outcome) (vs globals : Values) (mid d : Configuration) (r : Result StepEnd Fault) → StepEnds (m || a) o vs mid (Ok ends.Stopped)
      → StepEnds (m || default_asks s (default_choice mid.flow.choices) mid) (stopped_by s (default_choice mid.flow.choices) mid) globals d r
      → StepEnds (m || (a || following_asks s o)) (following s o) globals d r
  stopped_so m a (Stop x) vs globals mid d r h follows =
      ends_where _ _ (or_between m a (default_asks s (default_choice x.flow.choices) x)) (stopped_by s (default_choice x.flow.choices) x) globals d r
      (subst (λ y. StepEnds (m || default_asks s (default_choice y.flow.choices) y) (stopped_by s (default_choice y.flow.choices) y) globals d r) h follows)
  stopped_so m a o vs globals mid d r h follows = absurd h

  -- ---- a global is stored after that

  following_storing : (e : Effect) (o : Outcome) → following s (storing_in e o) ≡ storing_in e (following s o)
  following_storing (Stores t f) (Stop c) = by (default_choice c.flow.choices)
    where
      by : (choice : Option (ChoiceOf (List Part))) → stopped_by s choice (with_globals f.globals c) ≡ storing_in (Stores t f) (stopped_by s choice c)
      by None = refl
      by (Some choice) = refl
  following_storing e o = refl

  asks_storing : (e : Effect) (o : Outcome) → following_asks s (storing_in e o) ≡ following_asks s o
  asks_storing (Stores t f) (Stop c) = by (default_choice c.flow.choices)
    where
      by : (choice : Option (ChoiceOf (List Part))) → default_asks s choice (with_globals f.globals c) ≡ default_asks s choice c
      by None = refl
      by (Some choice) = refl
  asks_storing e o = refl

  module _ (globals : Values) (c : Configuration) where
    moves_storing : (e : Effect) → move s e c ≡ storing_in e (move s (unstored globals e) c)
    moves_storing (Stores t f) = by (moved_on (next_place s) (with_fields f (with_thread t c)).flow.threads (written_in (with_fields f (with_thread t c))))
      where
        by : (r : Reached (List Part)) → reached_in (with_fields f (with_thread t c)) r ≡ storing_in (Stores t f) (reached_in (with_fields (record f { globals = globals }) (with_thread t c)) r)
        by (Reaches ts w) = refl
        by (Halts ts w) = refl
        by (Breaks g) = refl
    moves_storing e = refl

    -- of a whole step
    pub ends_stored : (a : Bool) (e : Effect) (vs : Values) (d : Configuration) (r : Result StepEnd Fault)
        → StepEnds (a || following_asks s (move s (unstored globals e) c)) (storing_in e (following s (move s (unstored globals e) c))) vs d r
        → StepEnds (a || following_asks s (move s e c)) (following s (move s e c)) vs d r
    ends_stored a e vs d r h =
        let o = move s (unstored globals e) c in
        let outcome : storing_in e (following s o) ≡ following s (move s e c) = sym (ap (following s) (moves_storing e) ∙ following_storing e o) in
        let asking : following_asks s o ≡ following_asks s (move s e c) = sym (ap (following_asks s) (moves_storing e) ∙ asks_storing e o) in
        subst (λ b. StepEnds (a || b) (following s (move s e c)) vs d r) asking (subst (λ x. StepEnds (a || following_asks s o) x vs d r) outcome h)

  -- a fault is the same
  pub broke_storing : (whole : Bool) (e : Effect) (o : Outcome) (globals : Values) (d : Configuration) (f : Fault) → StepEnds whole o globals d (Err f) → StepEnds whole (storing_in e o) globals d (Err f)
  broke_storing whole (Stores t k) (Next c) globals d f h = h
  broke_storing whole e o globals d f h = h

  module _ (asks whole : Bool) (f : Fields) (c : Configuration) (same : f.globals ≡ c.shared.globals) where
    with_stored : (t : ThreadOf (List Part)) (k : Fields) (o : Outcome) (end : StepEnd) (new : Values) → new ≡ k.globals → StepEnds whole o c.shared.globals c (Ok end)
        → StepEnds whole (storing_in (Stores t k) o) c.shared.globals (with_globals new c) (Ok end)
    with_stored t k (Next x) ends.Went new is h = ap (with_globals new) h ∙ ap (λ vs. with_globals vs x) is
    with_stored t k (Stop x) ends.Stopped new is h = ap (with_globals new) h ∙ ap (λ vs. with_globals vs x) is
    with_stored t k o end new is h = absurd h

    -- no global is stored
    pub stores_none : (e : Effect) (o : Outcome) (end : StepEnd) (t : Transfer) → ((a : Assignment) → t ≢ transfer.Store a) → Performs s asks e f (Ok t)
        → StepEnds whole o c.shared.globals c (Ok end) → StepEnds whole (storing_in e o) c.shared.globals c (Ok end)
    stores_none (Stores t k) o end transfer.Next other p h = with_stored t k o end c.shared.globals (sym same ∙ ap (λ x. x.globals) p) h
    stores_none (Stores t k) o end (transfer.Store a) other p h = absurd (other a refl)
    stores_none (Stores t k) o end u other p h = absurd p
    stores_none e o end t other p h = h

  -- a global is not stored, for which memory was refused: it is new, or a mark stands
  pub stored_short : (asks whole marked : Bool) (e : Effect) (f : Fields) (o : Outcome) (a : Assignment) (globals : Values) (d : Configuration) → (asks ≡ true → whole ≡ true) → Performs s asks e f (Ok (transfer.Store a))
      → (marked ≡ true → AsksToStore e asks) → (is_some (stored (name_of a.name) f.globals) ≡ false) ⊎ (marked ≡ true) → d.shared.globals ≡ globals → StepEnds whole (storing_in e o) globals d (Err OutOfMemory)
  stored_short asks whole marked (Stores t k) f o a globals d allows performs stores short kept =
      let asking : asks ≡ true = elim short [ inl is_new ↦ performs.1 is_new | inr under ↦ stores under ] in
      ends_short whole (storing_in (Stores t k) o) globals d OutOfMemory (refl, allows asking) kept
  stored_short asks whole marked e f o a globals d allows performs stores short kept = absurd performs
