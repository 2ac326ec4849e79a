-- Room for what is noted while a mark stands.
use Rattle.std.proofs.Common.{◌≡◌, ◌∙◌, ◌≤◌, ◌<◌, ◌&&◌, ℕ, nat_lt, ap, arith, refl, Bool, true, false, Option, None, Some, is_some}
use Rattle.std.proofs.lemmas.Bool.{lt-ltb, ltb-true}
use Rattle.ink_choice.specs.Choices.{ChoicesView}
use Rattle.ink_choice.specs.Undo.{choices_back, choices_spare, choices_stood}
use Rattle.ink_stack.specs.Threads.{ThreadsView}
use Rattle.ink_stack.specs.Undo.{threads_back, threads_spare, threads_stood}
use Rattle.ink_effects.specs.Marks.{lacks}
use Rattle.ink_effects.proofs.Bools.{and_both}
use Rattle.ink_trail.specs.Undo.{TrailView, Undo, spare, spare_of, stood_at, stood_of}
use Rattle.ink_tree.specs.declared.spot.Spot.{Spot}
use Rattle.ink_value.specs.Stack.{Stack}
use Rattle.ink_value.specs.Undo.{stack_back, stack_spare, stack_stood}
use Rattle.ink_vars.specs.Undo.{counts_back, counts_spare, counts_stood}
use Rattle.ink_vars.specs.Views.{CountsView}

-- ---- a part that lacks room

and_first : (a b : Bool) → a && b ≡ true → a ≡ true
and_first true b h = refl
and_first false b h = h

and_second : (a b : Bool) → a && b ≡ true → b ≡ true
and_second true b h = h
and_second false b h = absurd (cc)

module _ {A : Type 0} (stood : Option A) (spare n : ℕ) where
  -- a mark stands in it
  pub lacks_mark : lacks stood spare n ≡ true → is_some stood ≡ true
  lacks_mark h = and_first (is_some stood) (nat_lt spare n) h

  pub lacks_few : is_some stood ≡ true → spare < n → lacks stood spare n ≡ true
  lacks_few marked few = and_both (is_some stood) (nat_lt spare n) marked (lt-ltb spare n few)

  -- so it lacks room for more
  pub lacks_more : (k : ℕ) → n ≤ k → lacks stood spare n ≡ true → lacks stood spare k ≡ true
  lacks_more k most h =
      let few : spare < n = ltb-true spare n (and_second (is_some stood) (nat_lt spare n) h) in
      and_both (is_some stood) (nat_lt spare k) (lacks_mark h) (lt-ltb spare k (omega arith))

-- ---- while a mark stands as many changes can be noted as there is room for

module _ {E D : Type 0} (back : E → D → D) where
  by_mark : (u : Option (Undo E)) (d : D) (room : ℕ) → is_some (stood_of back u d) ≡ true → spare_of u room ≡ room
  by_mark None d room h = absurd (cc)
  by_mark (Some u) d room h = refl

  spare_marked : (t : TrailView E) (d : D) → is_some (stood_at back t d) ≡ true → spare t ≡ t.room
  unfolding stood_at spare
  spare_marked t d h = by_mark t.undo d t.room h

  -- A part that lacked room lacks it still, where its room stayed.
  refused : (t v : TrailView E) (d e : D) (n : ℕ) → stood_at back v e ≡ stood_at back t d → v.room ≡ t.room → (is_some (stood_at back t d) ≡ true) × (spare t < n) → lacks (stood_at back v e) (spare v) n ≡ true
  refused t v d e n same kept lacked =
      let marked : is_some (stood_at back v e) ≡ true = ap is_some same ∙ lacked.0 in
      let few : spare t < n = lacked.1 in
      let was : spare t ≡ t.room = spare_marked t d lacked.0 in
      let is : spare v ≡ v.room = spare_marked v e marked in
      lacks_few (stood_at back v e) (spare v) n marked (omega arith)

pub counts_room : (v : CountsView) → is_some (counts_stood v) ≡ true → counts_spare v ≡ v.trail.room
unfolding counts_stood counts_spare
counts_room v h = spare_marked counts_back v.trail v.rows h

-- ---- what was refused

pub threads_refused : (old new : ThreadsView Spot) (n : ℕ) → threads_stood new ≡ threads_stood old → new.trail.room ≡ old.trail.room → (is_some (threads_stood old) ≡ true) × (threads_spare old < n) → lacks (threads_stood new) (threads_spare new) n ≡ true
unfolding threads_stood threads_spare
threads_refused old new n same kept lacked = refused threads_back old.trail new.trail old.threads new.threads n same kept lacked

pub stack_refused : (old new : Stack) (n : ℕ) → stack_stood new ≡ stack_stood old → new.trail.room ≡ old.trail.room → (is_some (stack_stood old) ≡ true) × (stack_spare old < n) → lacks (stack_stood new) (stack_spare new) n ≡ true
unfolding stack_stood stack_spare
stack_refused old new n same kept lacked = refused stack_back old.trail new.trail old.items new.items n same kept lacked

pub choices_refused : (old new : ChoicesView Spot) (n : ℕ) → choices_stood new ≡ choices_stood old → new.trail.room ≡ old.trail.room → (is_some (choices_stood old) ≡ true) × (choices_spare old < n) → lacks (choices_stood new) (choices_spare new) n ≡ true
unfolding choices_stood choices_spare
choices_refused old new n same kept lacked = refused choices_back old.trail new.trail old.items new.items n same kept lacked

pub counts_refused : (old new : CountsView) (n : ℕ) → counts_stood new ≡ counts_stood old → new.trail.room ≡ old.trail.room → (is_some (counts_stood old) ≡ true) × (counts_spare old < n) → lacks (counts_stood new) (counts_spare new) n ≡ true
unfolding counts_stood counts_spare
counts_refused old new n same kept lacked = refused counts_back old.trail new.trail old.rows new.rows n same kept lacked
