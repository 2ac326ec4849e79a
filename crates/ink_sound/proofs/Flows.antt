-- Where flow goes among frames and threads, all places stay places of the story, and no limit is passed.
use Rattle.std.proofs.Common.{◌≡◌, ◌≢◌, refl, subst, arith, ℕ, ◌+◌, ◌≤◌, lit≤, List, [], ◌∷◌, length, nat_eq, nat_lt, Option, Some, None, option_and_then, Result, Ok, Err, inl, inr}
use Rattle.ink_sound.proofs.Common.{cases_Bool, cond_both, nat_tests, next_place, StoryTree, Fault, FrameKind, Base, Function, Part, Each, is_line, AnyPlace, FlowStands, PlaceFits, SomePlace, ThreadFits, ThreadStands, ThreadsFit}
use Rattle.ink_model.specs.Flow.Transfers.{Written, Reached, Reaches, Ending, Continues, Finishes, Collapses, called, depth_of, done, done_by, doubled_in, enter_for, forked, frames_on, halt, leave_for, moved_on, number_for, on_ending, or_breaks, or_end, reach, reach_or_on, returned, thread_of, threads_on, void_for}
use Rattle.ink_model.specs.Flow.Frames.{FrameOf, ThreadOf, ThreadsOf, base_threads, gone, is_function, place_in, put_in}
use Rattle.ink_model.specs.Flow.Threads.{back_to, dropped_to, frame_count, frame_popped, frame_pushed, same_kind, thread_count}
use Rattle.ink_model.specs.declared.limits.TheConstants.{MAX_FRAMES, MAX_SECTIONS, MAX_THREADS}
use Rattle.ink_sound.specs.Kept.{EndingFits, Finds, Gives, ReachedFits, WrittenFits}
use Rattle.ink_sound.proofs.Texts.{enter_fits, leave_fits, void_fits}
use Rattle.ink_sound.proofs.Places.{next_fits}

module _ (s : StoryTree) where
  -- ---- places

  pub any_of : (o : Option (List Part)) → SomePlace s o → AnyPlace s o
  any_of None h = tt
  any_of (Some p) h = h

  pub flow_of : (o : Option (List Part)) (below : List (ThreadOf (List Part))) → SomePlace s o → FlowStands s o below
  flow_of None below h = absurd h
  flow_of (Some p) below h = h

  after_fits : (o : Option (List Part)) → Finds (PlaceFits s) (option_and_then (next_place s) o)
  after_fits None = tt
  after_fits (Some p) = next_fits s p

  -- ---- results

  breaks_so : {A B : Type 0} (P : A → Type 0) (Q : B → Type 0) (r : Result A Fault) (bad : Fault → B) (so : A → B) → ((f : Fault) → Q (bad f)) → Gives P r → ((a : A) → P a → Q (so a)) → Q (or_breaks r bad so)
  breaks_so P Q (Ok a) bad so b h k = k a h
  breaks_so P Q (Err f) bad so b h k = b f

  -- ---- flow goes to a place

  -- one base frame
  pub base_fit : (o : Option (List Part)) → FlowStands s o [] → ThreadsFit s (base_threads o)
  base_fit o h = record {
    thread = record { frame = record { rise = refl; each = tt; depth = lit≤ tt }; below = tt; base = refl; few = lit≤ tt; previous = tt };
    below = tt;
    flow = h;
    few = lit≤ tt;
  }

  pub gone_stands : (q : List Part) (t : ThreadOf (List Part)) → PlaceFits s q → ThreadFits s t → AnyPlace s t.frame.place → ThreadStands s (gone (Some q) t)
  gone_stands q t p h o = record { thread = record { frame = h.frame; below = h.below; base = h.base; few = h.few; previous = o }; place = p }

  pub top_fits : (t : ThreadOf (List Part)) (below : List (ThreadOf (List Part))) → ThreadStands s t → Each (ThreadStands s) below → length below + 1 ≤ MAX_THREADS
      → ThreadsFit s (record { thread = t; below = below })
  top_fits t below h k few = record { thread = h.thread; below = k; flow = flow_of t.frame.place below h.place; few = few }

  pub reach_stands : (q : List Part) (ts : ThreadsOf (List Part)) (w : Written) → PlaceFits s q → ThreadFits s ts.thread → AnyPlace s (place_in ts) → Each (ThreadStands s) ts.below → thread_count ts ≤ MAX_THREADS
      → WrittenFits s w → ReachedFits s (reach q ts w)
  reach_stands q ts w p h o k few g = (top_fits (gone (Some q) ts.thread) ts.below (gone_stands q ts.thread p h o) k few, p, g)

  -- ---- off the end of frames

  end_fits : (o : Option (List Part)) (t : ThreadOf (List Part)) (w : Written) (end : Ending (List Part)) → Finds (PlaceFits s) o → ThreadStands s t → WrittenFits s w
      → EndingFits s end → EndingFits s (or_end o t w end)
  end_fits None t w end p h g k = k
  end_fits (Some q) t w end p h g k = (gone_stands q t p h.thread (any_of t.frame.place h.place), g)

  below_stands : (f g : FrameOf (List Part)) (gs : List (FrameOf (List Part))) (o : Option (List Part)) → ThreadStands s (thread_of f (g ∷ gs) o) → ThreadStands s (thread_of g gs o)
  below_stands f g gs o h = record {
    thread = record { frame = h.thread.below.0.0; below = h.thread.below.1; base = h.thread.base.1; few = omega (arith, h.thread.few); previous = h.thread.previous };
    place = h.thread.below.0.1;
  }

  pub frames_fit : (f : FrameOf (List Part)) (fs : List (FrameOf (List Part))) (o : Option (List Part)) (w : Written) → ThreadStands s (thread_of f fs o) → WrittenFits s w
      → EndingFits s (frames_on (next_place s) f fs o w)
  frames_fit f [] o w h g = end_fits (option_and_then (next_place s) f.place) (thread_of f [] o) w _ (after_fits f.place) h g
      (cond_both (is_function f.kind) _ _ (EndingFits s) (λ _. tt) (λ _. (h, g)))
  frames_fit f (k ∷ ks) o w h g =
      end_fits (option_and_then (next_place s) f.place) (thread_of f (k ∷ ks) o) w _ (after_fits f.place) h g
      (cond_both (is_function f.kind) _ _ (EndingFits s) (λ _. cond_both (nat_eq f.depth (depth_of w)) _ _ (EndingFits s)
      (λ _. breaks_so (WrittenFits s) (EndingFits s) (leave_for Function f.enter w) _ _ (λ f. tt) (leave_fits s w g Function f.enter)
      (λ v x. breaks_so (WrittenFits s) (EndingFits s) (void_for k.evaluating v) _ _ (λ f. tt) (void_fits s v x k.evaluating) (λ u y. frames_fit k ks o u (below_stands f k ks o h) y))) (λ _. tt)) (λ _. (h, g)))

  -- ---- off the end of threads

  halt_fits : (ts : ThreadsOf (List Part)) (w : Written) → ThreadsFit s ts → WrittenFits s w → ReachedFits s (halt ts w)
  halt_fits ts w h g = cond_both (is_line w.page.sections) _ _ (ReachedFits s) (λ _. (h, g)) (λ _. tt)

  -- flow stops in its one thread
  stopped_fits : (t : ThreadOf (List Part)) → ThreadStands s t → ThreadsFit s (record { thread = gone None t; below = [] })
  stopped_fits t h =
      let previous = any_of t.frame.place h.place in
      let few : 1 ≤ MAX_THREADS = lit≤ tt in assumption tt

  ended_fits : (e : Ending (List Part)) (us : List (ThreadOf (List Part))) (end : ThreadOf (List Part) → Written → Reached (List Part)) → EndingFits s e → Each (ThreadStands s) us → length us + 1 ≤ MAX_THREADS
      → ((t : ThreadOf (List Part)) (w : Written) → ThreadStands s t → WrittenFits s w → ReachedFits s (end t w)) → ReachedFits s (on_ending e us end)
  ended_fits (Continues t w) us end x k few on = (top_fits t us x.0 k few, x.0.place, x.1)
  ended_fits (Finishes t w) us end x k few on = on t w x.0 x.1
  ended_fits (Collapses f) us end x k few on = tt

  threads_fit : (t : ThreadOf (List Part)) (us : List (ThreadOf (List Part))) (w : Written) → ThreadStands s t → Each (ThreadStands s) us → length us + 1 ≤ MAX_THREADS → WrittenFits s w
      → ReachedFits s (threads_on (next_place s) t us w)
  threads_fit t [] w h k few g = ended_fits (frames_on (next_place s) t.frame t.below t.previous w) [] _ (frames_fit t.frame t.below t.previous w h g) tt few
      (λ u v x y. halt_fits (record { thread = gone None u; below = [] }) v (stopped_fits u x) y)
  threads_fit t (u ∷ us) w h k few g = ended_fits (frames_on (next_place s) t.frame t.below t.previous w) (u ∷ us) _ (frames_fit t.frame t.below t.previous w h g) k few
      (λ m v x y. threads_fit u us v k.0 k.1 (omega (arith, few)) y)

  -- threads that run: flow is at a place
  pub record ThreadsStand (ts : ThreadsOf (List Part)) : Type 0 where
    pub thread : ThreadStands s ts.thread
    pub below : Each (ThreadStands s) ts.below
    pub few : thread_count ts ≤ MAX_THREADS

  pub moved_fits : (ts : ThreadsOf (List Part)) (w : Written) → ThreadsStand ts → WrittenFits s w → ReachedFits s (moved_on (next_place s) ts w)
  moved_fits ts w h g = threads_fit ts.thread ts.below w h.thread h.below h.few g

  -- ---- calls and returns

  numbered_fits : (k : FrameKind) (w : Written) (t : ThreadOf (List Part)) → ThreadStands s t → ThreadStands s (number_for k w t)
  numbered_fits Function w t h = assumption
  numbered_fits k w t h = h

  pushed_frame : (k : FrameKind) (d : ℕ) (t : ThreadOf (List Part)) → k ≢ Base → d ≤ MAX_SECTIONS → ThreadStands s t → Gives (ThreadStands s) (frame_pushed k d t)
  pushed_frame k d t call few h = cond_both (nat_lt (frame_count t) MAX_FRAMES) _ _ (Gives (ThreadStands s)) (λ e. record {
    thread = record {
      frame = record { rise = refl; each = tt; depth = few };
      below = ((h.thread.frame, h.place), h.thread.below);
      base = (call, h.thread.base);
      few = grind (arith, nat_tests, e);
      previous = h.thread.previous;
    };
    place = h.place;
  }) (λ _. tt)

  pub called_fits : (k : FrameKind) (q : List Part) (ts : ThreadsOf (List Part)) (w : Written) → k ≢ Base → PlaceFits s q → ThreadsStand ts → WrittenFits s w → ReachedFits s (called k q ts w)
  called_fits k q ts w call p h g =
      breaks_so (ThreadStands s) (ReachedFits s) (frame_pushed k (depth_of w) ts.thread) _ _ (λ f. tt) (pushed_frame k (depth_of w) ts.thread call g.page.few h.thread)
      (λ t x. breaks_so (WrittenFits s) (ReachedFits s) (enter_for k w) _ _ (λ f. tt) (enter_fits s w g k)
      (λ v y. let n = numbered_fits k w t x in
      reach_stands q (record { thread = number_for k w t; below = ts.below }) v p n.thread (any_of (number_for k w t).frame.place n.place) h.below h.few y))

  back_fits : (fs : List (FrameOf (List Part))) (d : ℕ) (t : ThreadOf (List Part)) → t.below ≡ fs → ThreadStands s t → Gives (ThreadStands s) (back_to fs d t)
  back_fits [] d t e h = tt
  back_fits (f ∷ fs) d t e h = cond_both (nat_eq t.frame.depth d) _ _ (Gives (ThreadStands s))
      (λ _. below_stands t.frame f fs t.previous (subst (λ l. ThreadStands s (thread_of t.frame l t.previous)) e h)) (λ _. tt)

  popped_frame : (k : FrameKind) (d : ℕ) (t : ThreadOf (List Part)) → ThreadStands s t → Gives (ThreadStands s) (frame_popped k d t)
  popped_frame k d t h = cond_both (same_kind t.frame.kind k) _ _ (Gives (ThreadStands s)) (λ _. back_fits t.below d t refl h) (λ _. tt)

  reach_or_fits : (to : Option (List Part)) (ts : ThreadsOf (List Part)) (w : Written) → AnyPlace s to → ThreadsStand ts → WrittenFits s w → ReachedFits s (reach_or_on (next_place s) to ts w)
  reach_or_fits None ts w p h g = moved_fits ts w h g
  reach_or_fits (Some q) ts w p h g = reach_stands q ts w p h.thread.thread (any_of (place_in ts) h.thread.place) h.below h.few g

  pub returned_fits : (k : FrameKind) (to : Option (List Part)) (ts : ThreadsOf (List Part)) (w : Written) → AnyPlace s to → ThreadsStand ts → WrittenFits s w → ReachedFits s (returned (next_place s) k to ts w)
  returned_fits k to ts w p h g =
      breaks_so (ThreadStands s) (ReachedFits s) (frame_popped k (depth_of w) ts.thread) _ _ (λ f. tt) (popped_frame k (depth_of w) ts.thread h.thread)
      (λ t x. breaks_so (WrittenFits s) (ReachedFits s) (leave_for k ts.thread.frame.enter w) _ _ (λ f. tt) (leave_fits s w g k ts.thread.frame.enter)
      (λ v y. reach_or_fits to (record { thread = t; below = ts.below }) v p (record { thread = x; below = h.below; few = h.few }) y))

  -- ---- threads

  pub stand_of : (ts : ThreadsOf (List Part)) → ThreadsFit s ts → SomePlace s (place_in ts) → ThreadsStand ts
  stand_of ts h p = record { thread = record { thread = h.thread; place = p }; below = h.below; few = h.few }

  doubled_fits : (r : Reached (List Part)) → ReachedFits s r → ReachedFits s (doubled_in (next_place s) r)
  doubled_fits (Reaches ts w) h = elim (cases_Bool (nat_lt (thread_count ts) MAX_THREADS)) [
    | inl e ↦
        let top : ThreadStands s ts.thread = record { thread = h.0.thread; place = h.1 } in
        rw e (top_fits ts.thread (ts.thread ∷ ts.below) top (top, h.0.below) (grind (arith, nat_tests, e)), h.1, h.2)
    | inr e ↦ rw e tt
  ]
  doubled_fits r h = h

  pub forked_fits : (ts : ThreadsOf (List Part)) (w : Written) → ThreadsStand ts → WrittenFits s w → ReachedFits s (forked (next_place s) ts w)
  forked_fits ts w h g = doubled_fits (moved_on (next_place s) ts w) (moved_fits ts w h g)

  done_fits_by : (us : List (ThreadOf (List Part))) (t : ThreadOf (List Part)) (w : Written) → ThreadsStand (record { thread = t; below = us }) → WrittenFits s w
      → ReachedFits s (done_by (next_place s) (dropped_to us) (record { thread = t; below = us }) w)
  done_fits_by [] t w h g = halt_fits (record { thread = put_in None t; below = [] }) w (assumption tt) g
  done_fits_by (u ∷ us) t w h g = moved_fits (record { thread = u; below = us }) w (record { thread = h.below.0; below = h.below.1; few = omega (arith, h.few) }) g

  pub done_fits : (ts : ThreadsOf (List Part)) (w : Written) → ThreadsStand ts → WrittenFits s w → ReachedFits s (done (next_place s) ts w)
  done_fits ts w h g = done_fits_by ts.below ts.thread w h g
