-- What is noted of a machine's own fields.
use Rattle.std.proofs.Common.{◌≡◌, ◌∙◌, ◌≤◌, ◌+◌, ℕ, [], ◌++◌, ap, append_assoc, arith, subst, sym}
use Rattle.std.proofs.lemmas.List.{length-append}
use Rattle.ink_step.specs.Marks.{NotesOwn, Own, own_back}
use Rattle.ink_step.specs.declared.own.OwnPair.{OwnPair}
use Rattle.ink_trail.specs.Undo.{KeepsTrail, TrailView, Trails, trail_of, writes_of}

-- nothing is
pub own_unnoted : (n : ℕ) (old new : TrailView OwnPair) → KeepsTrail old new → NotesOwn n old new
own_unnoted n old new kept =
    let count = ap writes_of kept.0 in
    record { pairs = []; trail = ap trail_of kept.0; few = omega arith; most = omega (arith, count); least = omega (arith, count) }

pub own_same : (n : ℕ) (old new : TrailView OwnPair) → new ≡ old → NotesOwn n old new
own_same n old new is = own_unnoted n old new (ap (λ t. t.undo) is, omega (arith, ap (λ t. t.room) is))

-- a change is, once there is room for it
pub own_changed : (n : ℕ) (was is : Own) (old ready new : TrailView OwnPair) → KeepsTrail old ready → Trails own_back n was ready is new → NotesOwn n old new
own_changed n was is old ready new kept t =
    let count = ap writes_of kept.0 in record {
      pairs = t.pairs;
      trail = t.trail ∙ ap (λ u. t.pairs ++ trail_of u) kept.0;
      few = t.few;
      most = omega (arith, t.most, count);
      least = omega (arith, t.least, count);
    }

module _ {n : ℕ} {old mid new : TrailView OwnPair} where
  pub own_before : mid ≡ old → NotesOwn n mid new → NotesOwn n old new
  own_before is h = subst (λ t. NotesOwn n t new) is h

  pub own_behind : new ≡ mid → NotesOwn n old mid → NotesOwn n old new
  own_behind is h = subst (λ t. NotesOwn n old t) (sym is) h

  -- one change more
  pub own_more : NotesOwn n old mid → NotesOwn 1 mid new → NotesOwn (n + 1) old new
  own_more a b = record {
    pairs = b.pairs ++ a.pairs;
    trail = b.trail ∙ ap (λ es. b.pairs ++ es) a.trail ∙ sym (append_assoc b.pairs a.pairs (trail_of old.undo));
    few = omega (arith, a.few, b.few, length-append b.pairs a.pairs);
    most = omega (arith, a.most, b.most);
    least = omega (arith, a.least, b.least, length-append b.pairs a.pairs);
  }

pub own_fewer : (n m : ℕ) (old new : TrailView OwnPair) → n ≤ m → NotesOwn n old new → NotesOwn m old new
own_fewer n m old new less h = record { pairs = h.pairs; trail = h.trail; few = omega (arith, h.few, less); most = omega (arith, h.most, less); least = h.least }
