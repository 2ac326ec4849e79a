-- There is room for what is put back of frames and threads.
use Rattle.std.proofs.Common.{◌≡◌, ◌∙◌, ◌≤◌, ◌<◌, ℕ, List, [], ◌∷◌, ◌++◌, Bool, false, Option, Some, None, ap, arith, is_some, length, refl, subst, sym}
use Rattle.ink_stack.proofs.Common.{length-append, length-reverse, BaseFirst, ThreadOf, ThreadsOf, gone, mode_in, on_top, RunningView, threads_in, ThreadsPair}
use Rattle.ink_trail.proofs.Staying.{stays-more, stays-now, stays-with}
use Rattle.ink_trail.specs.Undo.{Undo, trail_of, with_count, with_pair}
use Rattle.ink_stack.proofs.Backs.{gone-is, mode-is}
use Rattle.ink_stack.proofs.Bases.{base_same}
use Rattle.ink_stack.specs.Cells.{Within, ungone}
use Rattle.ink_frames.specs.Frames.{FitsIn, MoreRoom, Room}
use Rattle.ink_stack.specs.Undo.{HasGone, HasMode, Held, More, Rooms, StaysHeld, rooms_of, threads_back}
use Rattle.ink_stack.specs.declared.undo.ThreadsPair.TheVariants.{Gone, Evaluating, ThreadPopped, Replaced}

pub room-refl : (r : Room) → MoreRoom r r
room-refl r = record { frames = omega arith; temps = omega arith }

-- a room that is the same
pub room-same : (r s : Room) → s ≡ r → MoreRoom r s
room-same r s is = record { frames = omega (arith, ap (λ m. m.frames) is); temps = omega (arith, ap (λ m. m.temps) is) }

-- more room, of which no less is left
pub room-as : (r s t : Room) → MoreRoom r s → t ≡ s → MoreRoom r t
room-as r s t more is = subst (λ u. MoreRoom r u) (sym is) more

pub more-refl : (r : Rooms) → More r r
more-refl r = record { frames = room-refl r.frames; threads = omega arith }

module _ {P : Type 0} where
  within-more : (r s : Room) (t : ThreadOf P) → MoreRoom r s → Within r t → Within s t
  within-more r s t more h = record {
    few = h.few;
    fit = record { frames = omega (arith, h.fit.frames, more.frames); temps = omega (arith, h.fit.temps, more.temps) };
    base = h.base;
  }

  -- the frames below stay, and the top one's kind
  within-same : (room : Room) (t s : ThreadOf P) → s.below ≡ t.below → s.frame.kind ≡ t.frame.kind → Within room t → Within room s
  within-same room t s below kind h = record {
    few = omega (arith, h.few, ap length below);
    fit = subst (λ fs. FitsIn room fs) (sym below) h.fit;
    base = subst (λ fs. BaseFirst s.frame.kind fs) (sym below) (base_same t.frame.kind s.frame.kind t.below kind h.base);
  }

  held-more : (r s : Rooms) (ts : ThreadsOf P) → More r s → Held r ts → Held s ts
  held-more r s ts more h = record {
    thread = within-more r.frames s.frames ts.thread more.frames h.thread;
    few = h.few;
    fit = omega (arith, h.fit, more.threads);
  }

  rooms-more : (e : ThreadsPair P) (r s : Rooms) → More r s → More (rooms_of e r) (rooms_of e s)
  rooms-more (ThreadPopped t) r s h = record { frames = room-refl t.room; threads = h.threads }
  rooms-more (Replaced t below) r s h = record { frames = room-refl t.room; threads = omega arith }
  rooms-more e r s h = h

  pub stays-roomy : (r s : Rooms) (es : List (ThreadsPair P)) (ts : ThreadsOf P) → More r s → StaysHeld r es ts → StaysHeld s es ts
  stays-roomy r s es ts more h = stays-more threads_back rooms_of Held More held-more rooms-more r s es ts more h

  pub held-now : (r : Rooms) (es : List (ThreadsPair P)) (ts : ThreadsOf P) → StaysHeld r es ts → Held r ts
  held-now r es ts h = stays-now threads_back rooms_of Held r es ts h

  -- with a pair more
  pub held-with : (e : ThreadsPair P) (n : ℕ) (was is : ThreadsOf P) (u : Option (Undo (ThreadsPair P))) (r s : Rooms) → threads_back e is ≡ was → Held s is → More r (rooms_of e s)
      → StaysHeld r (trail_of u) was → StaysHeld s (trail_of (with_pair e n u)) is
  held-with e n was is u r s same held more h =
      stays-with threads_back rooms_of Held e n was is u s same held (stays-roomy r (rooms_of e s) (trail_of u) was more h)

  -- without a mark
  pub held-unmarked : (u : Option (Undo (ThreadsPair P))) (r : Rooms) (ts : ThreadsOf P) → is_some u ≡ false → Held r ts → StaysHeld r (trail_of u) ts
  held-unmarked None r ts none h = h
  held-unmarked (Some u) r ts none h = absurd (cc)

  -- ---- the threads below stay, and their room

  -- of a thread that runs, where so many below it fit without memory
  abbrev pub rooms_at : RunningView P → ℕ → Rooms
  rooms_at v m = record { frames = v.room; threads = m }

  -- a change of it is put back
  pub running-back : (w v : RunningView P) (items : List (ThreadOf P)) (m : ℕ) → w ≡ v → (threads_in w items ≡ threads_in v items) × More (rooms_at v m) (rooms_at w m)
  running-back w v items m is = (ap (λ x. threads_in x items) is, record { frames = room-same v.room w.room (ap (λ x. x.room) is); threads = omega arith })

  still : (es : List (ThreadsPair P)) (v w : RunningView P) (items : List (ThreadOf P)) (m : ℕ) → Within w.room w.thread → StaysHeld (rooms_at v m) es (threads_in v items)
      → Held (rooms_at w m) (threads_in w items)
  still es v w items m within h =
      let now = held-now (rooms_at v m) es (threads_in v items) h in
      record { thread = within; few = now.few; fit = now.fit }

  -- without a mark
  pub held-moved : (u : Option (Undo (ThreadsPair P))) (v w : RunningView P) (items : List (ThreadOf P)) (m : ℕ) → is_some u ≡ false → Within w.room w.thread
      → StaysHeld (rooms_at v m) (trail_of u) (threads_in v items) → StaysHeld (rooms_at w m) (trail_of u) (threads_in w items)
  held-moved u v w items m none within h = held-unmarked u (rooms_at w m) (threads_in w items) none (still (trail_of u) v w items m within h)

  -- with a pair more
  pub held-noted : (e : ThreadsPair P) (n : ℕ) (u : Option (Undo (ThreadsPair P))) (v w : RunningView P) (items : List (ThreadOf P)) (m : ℕ)
      → threads_back e (threads_in w items) ≡ threads_in v items → Within w.room w.thread → More (rooms_at v m) (rooms_of e (rooms_at w m))
      → StaysHeld (rooms_at v m) (trail_of u) (threads_in v items) → StaysHeld (rooms_at w m) (trail_of (with_pair e n u)) (threads_in w items)
  held-noted e n u v w items m same within more h =
      held-with e n (threads_in v items) (threads_in w items) u (rooms_at v m) (rooms_at w m) same (still (trail_of u) v w items m within h) more h

  -- ---- the frames below the top one stay, too, and so does the kind of that

  as_before : (t s : ThreadOf P) (below : List (ThreadOf P)) (r : Rooms) → s.below ≡ t.below → s.frame.kind ≡ t.frame.kind → Held r (record { thread = t; below = below })
      → Held r (record { thread = s; below = below })
  as_before t s below r same kind held = record { thread = within-same r.frames t s same kind held.thread; few = held.few; fit = held.fit }

  -- without a mark
  pub held-same : (t s : ThreadOf P) (below : List (ThreadOf P)) (u : Option (Undo (ThreadsPair P))) (r : Rooms) → is_some u ≡ false
      → s.below ≡ t.below → s.frame.kind ≡ t.frame.kind → StaysHeld r (trail_of u) (record { thread = t; below = below })
      → StaysHeld r (trail_of u) (record { thread = s; below = below })
  held-same t s below u r none under kind h =
      held-unmarked u r (record { thread = s; below = below }) none (as_before t s below r under kind (held-now r (trail_of u) (record { thread = t; below = below }) h))

  -- with a pair more
  pub held-set : (e : ThreadsPair P) (n : ℕ) (t s : ThreadOf P) (below : List (ThreadOf P)) (u : Option (Undo (ThreadsPair P))) (r : Rooms)
      → threads_back e (record { thread = s; below = below }) ≡ record { thread = t; below = below } → s.below ≡ t.below → s.frame.kind ≡ t.frame.kind → More r (rooms_of e r)
      → StaysHeld r (trail_of u) (record { thread = t; below = below }) → StaysHeld r (trail_of (with_pair e n u)) (record { thread = s; below = below })
  held-set e n t s below u r same under kind more h =
      held-with e n _ _ u r r same (as_before t s below r under kind (held-now r (trail_of u) (record { thread = t; below = below }) h)) more h

  -- ---- other threads below

  -- the thread below comes on top
  pub held-next : (r : Rooms) (t v : RunningView P) (next : ThreadOf P) (rest items : List (ThreadOf P)) (room : ℕ) → items ≡ rest ++ next ∷ [] → Within v.room v.thread
      → r.threads ≤ room → Held r (threads_in t items) → Held (record { frames = v.room; threads = room }) (threads_in v rest)
  held-next r t v next rest items room whole within more h =
      let fewer = ap length whole ∙ length-append rest (next ∷ []) in
      record {
        thread = within;
        few = omega (arith, fewer, length-reverse rest, length-reverse items, h.few);
        fit = omega (arith, fewer, length-reverse rest, length-reverse items, h.fit, more);
      }

  -- what becomes of the trail and of the rooms, where the threads stay
  pub held-as : (u v : Option (Undo (ThreadsPair P))) (r s : Rooms) (ts us : ThreadsOf P) → v ≡ u → us ≡ ts → More r s → StaysHeld r (trail_of u) ts → StaysHeld s (trail_of v) us
  held-as u v r s ts us undo same more h =
      subst (λ (w : Option (Undo (ThreadsPair P))). StaysHeld s (trail_of w) us) (sym undo)
      (subst (λ w. StaysHeld s (trail_of u) w) (sym same) (stays-roomy r s (trail_of u) ts more h))

  -- ---- what is put back already

  -- flow goes further
  pub held-further : (n : ℕ) (p : Option P) (u : Option (Undo (ThreadsPair P))) (ts : ThreadsOf P) (r : Rooms) → HasGone (trail_of u) → StaysHeld r (trail_of u) ts
      → StaysHeld r (trail_of (with_count n u)) (on_top (gone p) ts)
  held-further n p None ts r went h = absurd went
  held-further n p (Some u) ts r went h =
      let last = gone-is u.trail went in
      let held : StaysHeld r (Gone last.0 last.1 ∷ last.2) ts = subst (λ es. StaysHeld r es ts) last.3 h in
      let first : Held r (on_top (gone p) ts) = as_before ts.thread (gone p ts.thread) ts.below r refl refl held.0 in
      subst (λ es. StaysHeld r es (on_top (gone p) ts)) (sym last.3) (first, held.1)

  -- the mode changes again
  pub held-again : (n : ℕ) (b : Bool) (u : Option (Undo (ThreadsPair P))) (ts : ThreadsOf P) (r : Rooms) → HasMode (trail_of u) → StaysHeld r (trail_of u) ts
      → StaysHeld r (trail_of (with_count n u)) (on_top (mode_in b) ts)
  held-again n b None ts r mode h = absurd mode
  held-again n b (Some u) ts r mode h =
      let last = mode-is u.trail mode in
      let held : StaysHeld r (Gone last.0 last.1 ∷ Evaluating last.2 ∷ last.3) ts = subst (λ es. StaysHeld r es ts) last.4 h in
      let now = mode_in b ts.thread in
      let first : Held r (on_top (mode_in b) ts) = as_before ts.thread now ts.below r refl refl held.0 in
      let second : Held r (threads_back (Gone last.0 last.1) (on_top (mode_in b) ts)) = as_before ts.thread (ungone last.0 last.1 now) ts.below r refl refl held.0 in
      subst (λ es. StaysHeld r es (on_top (mode_in b) ts)) (sym last.4) (first, (second, held.1.1))

module _ {P : Type 0} where
  -- a thread that comes back has room for the one that it lies on
  pub room-under : (e : ThreadsPair P) (top : RunningView P) (r : Rooms) (ts : ThreadsOf P) → e ≡ ThreadPopped top → Held (rooms_of e r) (threads_back e ts) → length ts.below < r.threads
  room-under e top r ts is h =
      let held : Held (rooms_of (ThreadPopped top) r) (threads_back (ThreadPopped top) ts) = subst (λ x. Held (rooms_of x r) (threads_back x ts)) is h in
      omega (arith, held.fit)
