-- What holds of the threads where no mark stands.
use Rattle.std.proofs.Common.{◌≡◌, ◌≤◌, ◌+◌, ℕ, OnOk, Option, None, Some, Result, Ok, Err, arith, false, is_some, refl}
use Rattle.ink_stack.proofs.Common.{ThreadsOf, Fault, threads_back, threads_spare, threads_stood, Changes, Grows, ThreadsPair}
use Rattle.ink_trail.proofs.Undoing.{spare-or-kept, stood-or-kept, trails-unmarked}
use Rattle.ink_trail.specs.Undo.{TrailView, Trails, TrailsOrKeeps, Undo, with_pair}
use Rattle.ink_stack.specs.Undo.{NotesTemp}
use Rattle.ink_stack.specs.declared.undo.ThreadsPair.TheVariants.{Temp}
use Rattle.ink_stack.specs.Threads.{ThreadsView}
use Rattle.ink_stack.proofs.Backs.{changed-kept, grown-kept}

module _ {P : Type 0} where
  -- without a mark nothing is noted
  pub free : (n : ℕ) (was is : ThreadsOf P) (t : TrailView (ThreadsPair P)) → is_some t.undo ≡ false → Trails threads_back n was t is t
  free n was is t none = trails-unmarked threads_back n was is t t none (refl, omega arith)

  unpaired : (e : ThreadsPair P) (u : Option (Undo (ThreadsPair P))) → is_some u ≡ false → u ≡ with_pair e 1 u
  unpaired e None none = refl
  unpaired e (Some u) none = absurd (cc)

  pub unnoted : {U : Type 0} (x : Result U Fault) (e : ThreadsPair P) (u : Option (Undo (ThreadsPair P))) → is_some u ≡ false → OnOk x (u ≡ with_pair e 1 u)
  unnoted (Ok x) e u none = unpaired e u none
  unnoted (Err f) e u none = tt

  pub no_temp : (n : ℕ) (t : TrailView (ThreadsPair P)) → is_some t.undo ≡ false → NotesTemp n t t
  no_temp n t none = (0, None, unpaired (Temp n 0 None) t.undo none)

  -- a call that may be refused memory, by its result
  pub trails-grown : {U : Type 0} (n : ℕ) (r : Result (ThreadsOf P) Fault) (was is : ThreadsOf P) (x : Result U Fault) (t : TrailView (ThreadsPair P))
      → is_some t.undo ≡ false → Grows r was is x → TrailsOrKeeps threads_back n was t is t x
  trails-grown n r was is (Ok u) t none h = free n was is t none
  trails-grown n r was is (Err f) t none h = (grown-kept r was is (Err f) f refl h, (refl, omega arith))

  -- and one that is not
  pub trails-changed : {U : Type 0} (n : ℕ) (r : Result (ThreadsOf P) Fault) (was is : ThreadsOf P) (x : Result U Fault) (t : TrailView (ThreadsPair P))
      → is_some t.undo ≡ false → Changes r was is x → TrailsOrKeeps threads_back n was t is t x
  trails-changed n r was is (Ok u) t none h = free n was is t none
  trails-changed n r was is (Err f) t none h = (changed-kept r was is (Err f) f refl h, (refl, omega arith))

  -- a call that leaves a trail, or changes nothing where it fails
  pub stood-or : {A F : Type 0} (r : Result A F) (n : ℕ) (old new : ThreadsView P) → TrailsOrKeeps threads_back n old.threads old.trail new.threads new.trail r
      → threads_stood new ≡ threads_stood old
  unfolding threads_stood
  stood-or r n old new h = stood-or-kept threads_back r n old.threads new.threads old.trail new.trail h

  pub spare-or : {A F : Type 0} (r : Result A F) (n : ℕ) (old new : ThreadsView P) → TrailsOrKeeps threads_back n old.threads old.trail new.threads new.trail r
      → threads_spare old ≤ threads_spare new + n
  unfolding threads_spare
  spare-or r n old new h = spare-or-kept threads_back r n old.threads new.threads old.trail new.trail h
