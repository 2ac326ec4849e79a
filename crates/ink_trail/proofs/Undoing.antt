-- Laws of what is put back.
use Rattle.std.proofs.Common.{◌≡◌, ◌∙◌, Bool, false, if◌then◌else◌, ◌≤◌, ◌+◌, ℕ, List, [], ◌∷◌, ◌++◌, length, true, is_some, Option, Some, None, unwrap_or, Result, Ok, Err, ap, arith, refl, sym}
use Rattle.std.proofs.lemmas.List.{append_assoc, length-append}
use Rattle.ink_trail.specs.Undo.{KeepsTrail, Notes, TrailView, Trails, TrailsOrKeeps, Undo, spare, spare_of, stood, stood_at, stood_of, trail_of, undone, with_count, with_pair, writes_of}

-- ---- how many pairs more fit

module _ {E : Type 0} where
  less : (u v : Option (Undo E)) (r s n : ℕ) → is_some v ≡ is_some u → r ≤ s + n → spare_of u r ≤ spare_of v s + n
  less None None r s n same h = omega arith
  less None (Some v) r s n same h = absurd (cc)
  less (Some u) None r s n same h = absurd (cc)
  less (Some u) (Some v) r s n same h = h

  -- after a call that may note so many pairs
  pub spare-less : (n : ℕ) (old new : TrailView E) → is_some new.undo ≡ is_some old.undo → old.room ≤ new.room + n → spare old ≤ spare new + n
  unfolding spare
  spare-less n old new same h = less old.undo new.undo old.room new.room n same h

  pub spare-kept : (old new : TrailView E) → KeepsTrail old new → spare old ≤ spare new
  spare-kept old new kept = omega (arith, spare-less 0 old new (ap is_some kept.0) (omega (arith, kept.1)))

module _ {E D : Type 0} (back : E → D → D) where
  pub undone-++ : (es fs : List E) (d : D) → undone back (es ++ fs) d ≡ undone back fs (undone back es d)
  undone-++ [] fs d = refl
  undone-++ (e ∷ es) fs d = undone-++ es fs (back e d)

  one : (e : E) (n : ℕ) (was is : D) (u v : Option (Undo E)) (r s : ℕ) → 1 ≤ n → back e is ≡ was → v ≡ with_pair e n u → r ≤ s + 1
      → Trails back n was (record { undo = u; room = r }) is (record { undo = v; room = s })
  one e n was is None v r s h b eq k = rw eq (record {
    marked = refl;
    pairs = [];
    trail = refl;
    undone = λ m. absurd (cc);
    few = omega (arith, h);
    most = omega (arith, h);
    least = omega arith;
    room = omega (arith, h, k);
  })
  one e n was is (Some u) v r s h b eq k = rw eq (record {
    marked = refl;
    pairs = e ∷ [];
    trail = refl;
    undone = λ m. b;
    few = omega (arith, h);
    most = omega arith;
    least = omega (arith, h);
    room = omega (arith, h, k);
  })

  -- a call that notes one pair
  pub trails-one : (e : E) (n : ℕ) (was is : D) (old new : TrailView E) → 1 ≤ n → back e is ≡ was → new.undo ≡ with_pair e n old.undo → old.room ≤ new.room + 1
      → Trails back n was old is new
  trails-one e n was is old new h b eq k = one e n was is old.undo new.undo old.room new.room h b eq k

  -- a call that changes nothing
  pub trails-none : (n : ℕ) (was is : D) (old new : TrailView E) → is ≡ was → new.undo ≡ old.undo → old.room ≤ new.room + n → Trails back n was old is new
  trails-none n was is old new same undo room = record {
    marked = ap is_some undo;
    pairs = [];
    trail = ap trail_of undo;
    undone = λ m. same;
    few = omega arith;
    most = omega (arith, ap writes_of undo);
    least = omega (arith, ap writes_of undo);
    room = room;
  }

  pub trails-kept : (n : ℕ) (was is : D) (old new : TrailView E) → is ≡ was → KeepsTrail old new → Trails back n was old is new
  trails-kept n was is old new same kept = trails-none n was is old new same kept.0 (omega (arith, kept.1))

  -- a call that notes one pair under a condition
  pub trails-where : (b : Bool) (e : E) (was is : D) (old new : TrailView E) → (b ≡ true → back e is ≡ was) → (b ≡ false → is ≡ was)
      → new.undo ≡ (if b then with_pair e 1 old.undo else old.undo) → old.room ≤ new.room + 1 → Trails back 1 was old is new
  trails-where true e was is old new p q undo room = trails-one e 1 was is old new (omega arith) (p refl) undo room
  trails-where false e was is old new p q undo room = trails-none 1 was is old new (q refl) undo room

  -- a call while no mark stands
  pub trails-unmarked : (n : ℕ) (was is : D) (old new : TrailView E) → is_some old.undo ≡ false → KeepsTrail old new → Trails back n was old is new
  trails-unmarked n was is old new none k = record {
    marked = ap is_some k.0;
    pairs = [];
    trail = ap trail_of k.0;
    undone = λ m. absurd (cc);
    few = omega arith;
    most = omega (arith, ap writes_of k.0);
    least = omega (arith, ap writes_of k.0);
    room = omega (arith, k.1);
  }

  -- a call that may count more
  pub trails-more : (n m : ℕ) (was is : D) (old new : TrailView E) → n ≤ m → Trails back n was old is new → Trails back m was old is new
  trails-more n m was is old new h p = record {
    marked = p.marked;
    pairs = p.pairs;
    trail = p.trail;
    undone = p.undone;
    few = omega (arith, h, p.few);
    most = omega (arith, h, p.most);
    least = p.least;
    room = omega (arith, h, p.room);
  }

  -- a call after room was made
  pub trails-after : (n : ℕ) (was is : D) (old ready new : TrailView E) → KeepsTrail old ready → Trails back n was ready is new → Trails back n was old is new
  trails-after n was is old ready new kept p = record {
    marked = p.marked ∙ ap is_some kept.0;
    pairs = p.pairs;
    trail = p.trail ∙ ap (λ u. p.pairs ++ trail_of u) kept.0;
    undone = λ m. p.undone (ap is_some kept.0 ∙ m);
    few = p.few;
    most = omega (arith, p.most, ap writes_of kept.0);
    least = omega (arith, p.least, ap writes_of kept.0);
    room = omega (arith, p.room, kept.1);
  }

  -- two calls in a row
  pub trails-trails : (n m : ℕ) (a b c : D) (u v w : TrailView E) → Trails back n a u b v → Trails back m b v c w → Trails back (n + m) a u c w
  trails-trails n m a b c u v w p q =
      let len : length (q.pairs ++ p.pairs) ≡ length q.pairs + length p.pairs = length-append q.pairs p.pairs in
      record {
        marked = q.marked ∙ p.marked;
        pairs = q.pairs ++ p.pairs;
        trail = q.trail ∙ ap (λ es. q.pairs ++ es) p.trail ∙ sym (append_assoc q.pairs p.pairs (trail_of u.undo));
        undone = λ h. undone-++ q.pairs p.pairs c ∙ ap (undone back p.pairs) (q.undone (p.marked ∙ h)) ∙ p.undone h;
        few = omega (arith, len, p.few, q.few);
        most = omega (arith, p.most, q.most);
        least = omega (arith, len, p.least, q.least);
        room = omega (arith, p.room, q.room);
      }

  -- the data at the mark stay what they were
  pub trails-stood : (n : ℕ) (a b : D) (u v : TrailView E) → Trails back n a u b v → is_some u.undo ≡ true → stood back v b ≡ stood back u a
  trails-stood n a b u v p h =
      ap (λ es. undone back es b) p.trail ∙ undone-++ p.pairs (trail_of u.undo) b ∙ ap (undone back (trail_of u.undo)) (p.undone h)

  -- so does a call that leaves a trail
  pub notes-trails : (n : ℕ) (was is : D) (old new : TrailView E) → Trails back n was old is new → Notes back n was old is new
  notes-trails n was is old new p = record {
    marked = p.marked;
    pairs = p.pairs;
    trail = p.trail;
    stood = trails-stood n was is old new p;
    few = p.few;
    most = p.most;
    least = p.least;
    room = p.room;
  }

  counts : (n : ℕ) (was is : D) (u v : Option (Undo E)) (r s : ℕ) → v ≡ with_count n u → (is_some u ≡ true → undone back (trail_of u) is ≡ undone back (trail_of u) was) → r ≤ s + n
      → Notes back n was (record { undo = u; room = r }) is (record { undo = v; room = s })
  counts n was is None v r s eq h k = rw eq (record {
    marked = refl;
    pairs = [];
    trail = refl;
    stood = λ m. absurd (cc);
    few = omega arith;
    most = omega arith;
    least = omega arith;
    room = k;
  })
  counts n was is (Some u) v r s eq h k = rw eq (record {
    marked = refl;
    pairs = [];
    trail = refl;
    stood = λ m. h refl;
    few = omega arith;
    most = omega arith;
    least = omega arith;
    room = k;
  })

  -- a call whose cells the last pairs put back
  pub notes-none : (n : ℕ) (was is : D) (old new : TrailView E) → new.undo ≡ with_count n old.undo → (is_some old.undo ≡ true → stood back old is ≡ stood back old was) → old.room ≤ new.room + n
      → Notes back n was old is new
  notes-none n was is old new undo same room = counts n was is old.undo new.undo old.room new.room undo same room

  -- ---- the data at the mark, where one stands

  marked_by : (u : Option (Undo E)) (d : D) → is_some (stood_of back u d) ≡ is_some u
  marked_by None d = refl
  marked_by (Some u) d = refl

  pub stood-marked : (t : TrailView E) (d : D) → is_some (stood_at back t d) ≡ is_some t.undo
  unfolding stood_at
  stood-marked t d = marked_by t.undo d

  same_by : (u v : Option (Undo E)) (a b : D) → is_some v ≡ is_some u → (is_some u ≡ true → undone back (trail_of v) b ≡ undone back (trail_of u) a)
      → stood_of back v b ≡ stood_of back u a
  same_by None None a b same h = refl
  same_by None (Some v) a b same h = absurd (cc)
  same_by (Some u) None a b same h = absurd (cc)
  same_by (Some u) (Some v) a b same h = ap Some (h refl)

  -- a call that leaves a trail
  pub stood-trails : {n : ℕ} {was is : D} {old new : TrailView E} → Trails back n was old is new → stood_at back new is ≡ stood_at back old was
  unfolding stood_at
  stood-trails {n = n} {was = was} {is = is} {old = old} {new = new} p =
      same_by old.undo new.undo was is p.marked (trails-stood n was is old new p)

  pub stood-notes : {n : ℕ} {was is : D} {old new : TrailView E} → Notes back n was old is new → stood_at back new is ≡ stood_at back old was
  unfolding stood_at
  stood-notes {was = was} {is = is} {old = old} {new = new} p = same_by old.undo new.undo was is p.marked p.stood

  pub spare-notes : {n : ℕ} {was is : D} {old new : TrailView E} → Notes back n was old is new → spare old ≤ spare new + n
  spare-notes {n = n} {old = old} {new = new} p = spare-less n old new p.marked p.room

  pub spare-trails : {n : ℕ} {was is : D} {old new : TrailView E} → Trails back n was old is new → spare old ≤ spare new + n
  spare-trails {n = n} {was = was} {is = is} {old = old} {new = new} p = spare-less n old new p.marked p.room

  -- a call that notes nothing, and changes nothing
  pub stood-kept : (was is : D) (old new : TrailView E) → is ≡ was → KeepsTrail old new → stood_at back new is ≡ stood_at back old was
  stood-kept was is old new same kept = stood-trails (trails-kept 0 was is old new same kept)

  -- a call that leaves a trail, or changes nothing where it fails
  pub stood-or-kept : {A F : Type 0} (r : Result A F) (n : ℕ) (was is : D) (old new : TrailView E) → TrailsOrKeeps back n was old is new r → stood_at back new is ≡ stood_at back old was
  stood-or-kept (Ok x) n was is old new h = stood-trails h
  stood-or-kept (Err f) n was is old new h = stood-kept was is old new h.0 h.1

  pub spare-or-kept : {A F : Type 0} (r : Result A F) (n : ℕ) (was is : D) (old new : TrailView E) → TrailsOrKeeps back n was old is new r → spare old ≤ spare new + n
  spare-or-kept (Ok x) n was is old new h = spare-trails h
  spare-or-kept (Err f) n was is old new h = omega (arith, spare-kept old new h.1)

  -- no mark stands
  pub stood-none : (t : TrailView E) (d : D) → t.undo ≡ None → stood_at back t d ≡ None
  unfolding stood_at
  stood-none t d none = rw none refl

  pub none-stood : (t : TrailView E) (d : D) → stood_at back t d ≡ None → t.undo ≡ None
  none-stood t d none = none_by t.undo (sym (stood-marked t d) ∙ ap is_some none)
    where
      none_by : (u : Option (Undo E)) → is_some u ≡ false → u ≡ None
      none_by None h = refl
      none_by (Some u) h = absurd (cc)

  -- what is put back
  pub stood-back : (t : TrailView E) (d : D) → stood back t d ≡ unwrap_or (stood_at back t d) d
  unfolding stood_at
  stood-back t d = back_by t.undo
    where
      back_by : (u : Option (Undo E)) → undone back (trail_of u) d ≡ unwrap_or (stood_of back u d) d
      back_by None = refl
      back_by (Some u) = refl
