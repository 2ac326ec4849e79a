-- What a call that adds a choice says, where it is added and where it is not.
use Rattle.std.proofs.Common.{◌≡◌, ◌⊎◌, ◌∙◌, ◌≤◌, ◌<◌, ◌+◌, ◌∷◌, ◌++◌, [], List, Result, Ok, Err, ap, arith, length, subst, sym}
use Rattle.std.specs.Result.{OnOk}
use Rattle.ink_model.specs.Choices.Making.{added}
use Rattle.ink_model.specs.Run.Configuration.{ChoiceOf}
use Rattle.ink_model.specs.declared.fault.Fault.{Fault}
use Rattle.ink_model.specs.declared.fault.Fault.TheVariants.{OutOfMemory, TooDeep}
use Rattle.ink_model.specs.declared.limits.TheConstants.{MAX_CHOICES}
use Rattle.ink_stack.specs.Outcomes.{Grows}
use Rattle.ink_trail.proofs.Undoing.{spare-or-kept, stood-or-kept, trails-after, trails-one}
use Rattle.ink_trail.specs.Undo.{KeepsTrail, TrailView, Trails, TrailsOrKeeps, with_pair}
use Rattle.ink_choice.proofs.Lists.{one_more, refused}
use Rattle.ink_choice.proofs.Undoing.{added_back}
use Rattle.ink_choice.specs.Choices.{ChoicesView}
use Rattle.ink_choice.specs.Undo.{choices_back, choices_spare, choices_stood}
use Rattle.ink_choice.specs.declared.undo.ChoicePair.{ChoicePair}
use Rattle.ink_choice.specs.declared.undo.ChoicePair.TheVariants.{Added}

module _ {P : Type 0} where
  -- the clauses of such a call, on the choices before it and after it
  pub record Adds (c : ChoiceOf P) (old new : ChoicesView P) (result : Result (Unit {0}) Fault) : Type 0 where
    pub items : Grows (added c old.items) old.items new.items result
    pub trail : TrailsOrKeeps choices_back 1 old.items old.trail new.items new.trail result
    pub pair : OnOk result (new.trail.undo ≡ with_pair Added 1 old.trail.undo)
    pub stood : choices_stood new ≡ choices_stood old
    pub spare : choices_spare old ≤ choices_spare new + 1

  -- the first three are enough
  adds : (c : ChoiceOf P) (old new : ChoicesView P) (r : Result (Unit {0}) Fault) → Grows (added c old.items) old.items new.items r
      → TrailsOrKeeps choices_back 1 old.items old.trail new.items new.trail r → OnOk r (new.trail.undo ≡ with_pair Added 1 old.trail.undo) → Adds c old new r
  unfolding choices_stood choices_spare
  adds c old new r items trail pair = record {
    items = items;
    trail = trail;
    pair = pair;
    stood = stood-or-kept choices_back r 1 old.items new.items old.trail new.trail trail;
    spare = spare-or-kept choices_back r 1 old.items new.items old.trail new.trail trail;
  }

  -- after room was made for one more, or was not
  module _ (old seen : ChoicesView P) (is : old ≡ seen) (cs : List (ChoiceOf P)) (ready : TrailView (ChoicePair P)) (same : cs ≡ old.items) (kept : KeepsTrail old.trail ready) where
    pub adds-none : (c : ChoiceOf P) (f : Fault) (r : Result (Unit {0}) Fault) → r ≡ Err f
        → ((f ≡ TooDeep) × (MAX_CHOICES ≤ length old.items)) ⊎ ((f ≡ OutOfMemory) × (length old.items < MAX_CHOICES)) → Adds c seen (record { items = cs; trail = ready }) r
    adds-none c f r fails why =
        let new : ChoicesView P = record { items = cs; trail = ready } in
        let items : Grows {U = Unit} (added c old.items) old.items cs (Err f) = subst (λ ds. Grows {U = Unit} (added c old.items) old.items ds (Err f)) (sym same) (refused c old.items f why) in
        subst (λ v. Adds c v new r) is (subst (λ s. Adds c old new s) (sym fails) (adds c old new (Err f) items (same, kept) tt))

    -- the choice that is built is the one that is to be added
    pub adds-one : (built c : ChoiceOf P) (ds : List (ChoiceOf P)) (after : TrailView (ChoicePair P)) → built ≡ c → length old.items < MAX_CHOICES → ds ≡ cs ++ built ∷ []
        → after.undo ≡ with_pair Added 1 ready.undo → ready.room ≤ after.room + 1 → Adds c seen (record { items = ds; trail = after }) (Ok tt)
    adds-one built c ds after made few pushed undo room =
        let new : ChoicesView P = record { items = ds; trail = after } in
        let one : ds ≡ old.items ++ built ∷ [] = pushed ∙ ap (λ es. es ++ built ∷ []) same in
        let trail : Trails choices_back 1 old.items old.trail ds after =
        trails-after choices_back 1 old.items ds old.trail ready after kept
        (trails-one choices_back Added 1 old.items ds ready after (omega arith) (added_back old.items ds built one) undo room) in
        subst (λ v. Adds c v new (Ok tt)) is (subst (λ d. Adds d old new (Ok tt)) made
        (adds built old new (Ok tt) (one_more built old.items ds tt few one) trail (undo ∙ ap (with_pair Added 1) kept.0)))
