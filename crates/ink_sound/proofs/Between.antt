-- What a command begins with and leaves: opening, settling, choosing, jumping and setting.
use Rattle.std.proofs.Common.{◌≡◌, ap, refl, arith, lit≤, List, [], ◌∷◌, map, Option, Some, None, Result, Ok, Err}
use Rattle.std.proofs.lemmas.List.{length-map}
use Rattle.ink_sound.proofs.Common.{BaseFirst, chosen, jumped, empty_page, Values, StoryTree, FrameKind, Part, Rests, Each, entering_around, ChoiceFits, FlowSound, FlowStands, FrameStands, GlobalsFit, PlaceFits, Sound, ThreadFits, ThreadStands, ThreadsFit}
use Rattle.ink_model.specs.Run.Configuration.{ChoiceOf, Configuration, fresh_at, fresh_flow, settled, start, unnumbered_choice, with_globals}
use Rattle.ink_model.specs.Flow.Frames.{FrameOf, ThreadOf, ThreadsOf, place_in, put_in, unnumbered_frame, unnumbered_thread, unnumbered_threads}
use Rattle.ink_model.specs.Host.Bindings.{nothing_bound}
use Rattle.ink_model.specs.Run.Opening.{Unopened, declarations, declaring, opened_by, opened_from, opening}
use Rattle.ink_model.specs.Run.Place.{landed, start_place}
use Rattle.ink_model.specs.Run.Moments.{Moment, Stopped, through}
use Rattle.ink_sound.specs.Kept.{Finds, MomentFits, StoryFits}
use Rattle.ink_sound.proofs.Places.{knot_fits, landed_fits, start_fits}
use Rattle.ink_sound.proofs.Flows.{base_fit}
use Rattle.ink_sound.proofs.Steps.{through_fits}
use Rattle.ink_sound.proofs.Values.{map_finds}

each_map : {X Y : Type 0} (P : X → Type 0) (Q : Y → Type 0) (f : X → Y) → ((x : X) → P x → Q (f x)) → (xs : List X) → Each P xs → Each Q (map f xs)
each_map P Q f k [] h = tt
each_map P Q f k (x ∷ xs) h = (k x h.0, each_map P Q f k xs h.1)

module _ (s : StoryTree) where
  -- ---- settling

  base_kept : (k : FrameKind) (fs : List (FrameOf (List Part))) → BaseFirst k fs → BaseFirst k (map unnumbered_frame fs)
  base_kept k [] h = h
  base_kept k (f ∷ fs) h = (h.0, base_kept f.kind fs h.1)

  thread_fits : (t : ThreadOf (List Part)) → ThreadFits s t → ThreadFits s (unnumbered_thread t)
  thread_fits t h = record {
    frame = h.frame;
    below = each_map (FrameStands s) (FrameStands s) unnumbered_frame (λ f k. k) t.below h.below;
    base = base_kept t.frame.kind t.below h.base;
    few = omega (arith, length-map t.below (unnumbered_frame {P = List Part}), h.few);
    previous = h.previous;
  }

  thread_stands : (t : ThreadOf (List Part)) → ThreadStands s t → ThreadStands s (unnumbered_thread t)
  thread_stands t h = record { thread = thread_fits t h.thread; place = h.place }

  flow_kept : (o : Option (List Part)) (ts : List (ThreadOf (List Part))) → FlowStands s o ts → FlowStands s o (map unnumbered_thread ts)
  flow_kept (Some p) ts h = h
  flow_kept None [] h = tt
  flow_kept None (t ∷ ts) h = absurd h

  threads_fit : (ts : ThreadsOf (List Part)) → ThreadsFit s ts → ThreadsFit s (unnumbered_threads ts)
  threads_fit ts h = record {
    thread = thread_fits ts.thread h.thread;
    below = each_map (ThreadStands s) (ThreadStands s) unnumbered_thread thread_stands ts.below h.below;
    flow = flow_kept (place_in ts) ts.below h.flow;
    few = omega (arith, length-map ts.below (unnumbered_thread {P = List Part}), h.few);
  }

  choice_fits : (c : ChoiceOf (List Part)) → ChoiceFits s c → ChoiceFits s (unnumbered_choice c)
  choice_fits c h = record { text = h.text; tags = h.tags; target = h.target; thread = thread_stands c.thread h.thread }

  pub settled_sound : (c : Configuration) → Sound s c → Sound s (settled c)
  unfolding settled
  settled_sound c h = record {
    flow = record {
      threads = threads_fit c.flow.threads h.flow.threads;
      stack = h.flow.stack;
      choices = record {
        each = each_map (ChoiceFits s) (ChoiceFits s) unnumbered_choice choice_fits c.flow.choices h.flow.choices.each;
        few = omega (arith, length-map c.flow.choices (unnumbered_choice {P = List Part}), h.flow.choices.few);
      };
    };
    shared = h.shared;
    page = record { few = lit≤ tt };
  }

  -- ---- opening

  pub fresh_flow_sound : (p : List Part) → PlaceFits s p → FlowSound s (fresh_flow p)
  fresh_flow_sound p h = record { threads = base_fit s (Some p) h; stack = record { each = tt; few = lit≤ tt }; choices = record { each = tt; few = lit≤ tt } }

  pub fresh_sound : (p : List Part) → PlaceFits s p → Sound s (fresh_at p)
  unfolding fresh_at
  fresh_sound p h = record {
    flow = fresh_flow_sound p h;
    shared = record {
      globals = record { once = refl; each = tt };
      counts = record { visits = record { rise = refl; each = tt }; turns = record { rise = refl; each = tt } };
      turn = lit≤ tt;
    };
    page = record { few = lit≤ tt };
  }

  pub globals_sound : (globals : Values) (c : Configuration) → GlobalsFit s globals → Sound s c → Sound s (with_globals globals c)
  globals_sound globals c k h = record { flow = h.flow; shared = record { globals = k; counts = h.shared.counts; turn = h.shared.turn }; page = h.page }

  pub start_sound : (globals : Values) → GlobalsFit s globals → Sound s (start s globals)
  unfolding start
  start_sound globals h = globals_sound globals (fresh_at (start_place s)) h (fresh_sound (start_place s) (start_fits s))

  -- what a story is opened with, where its declarations do not fault
  abbrev pub Opens : Result Configuration Unopened → Type 0
  Opens (Ok c) = Sound s c × Rests c
  Opens (Err e) = Unit {0}

  start_rests : (globals : Values) → Rests (start s globals)
  unfolding start fresh_at settled
  start_rests globals = refl

  pub opening_fits : StoryFits s → Opens (opening s)
  unfolding opening
  opening_fits story = by (declaring s) (map_finds (PlaceFits s) (Sound s) (declarations s) _ (knot_fits s _) (λ p h. fresh_sound (landed s p) (landed_fits s p h)))
    where
      ran : (m : Moment) → MomentFits s m → Opens (opened_by s m)
      ran (Stopped c left made) h = (start_sound c.shared.globals h.shared.globals, start_rests c.shared.globals)
      ran m h = tt

      by : (o : Option Configuration) → Finds (Sound s) o → Opens (opened_from s o)
      by None h = (start_sound [] (record { once = refl; each = tt }), start_rests [])
      by (Some c) h = ran (through s nothing_bound c []) (through_fits s story nothing_bound c [] h)

-- ---- at rest

twice : {X : Type 0} (n : X → X) → ((x : X) → n (n x) ≡ n x) → (xs : List X) → map n (map n xs) ≡ map n xs
twice n h [] = refl
twice n h (x ∷ xs) = (λ i. h x i ∷ twice n h xs i)

thread_rests : (t : ThreadOf (List Part)) → unnumbered_thread (unnumbered_thread t) ≡ unnumbered_thread t
thread_rests t = (λ i. record { frame = unnumbered_frame t.frame; below = twice unnumbered_frame (λ f. refl) t.below i; previous = t.previous })

choice_rests : (c : ChoiceOf (List Part)) → unnumbered_choice (unnumbered_choice c) ≡ unnumbered_choice c
choice_rests c = (λ i. record { text = c.text; tags = c.tags; target = c.target; hidden = c.hidden; thread = thread_rests c.thread i })

pub settled_rests : (c : Configuration) → Rests (settled c)
unfolding settled
settled_rests c = (λ i. record {
  flow = record {
    threads = record { thread = thread_rests c.flow.threads.thread i; below = twice unnumbered_thread thread_rests c.flow.threads.below i };
    stack = c.flow.stack;
    choices = twice unnumbered_choice choice_rests c.flow.choices i;
    safe = c.flow.safe;
  };
  shared = c.shared;
  page = empty_page;
})

unchanged : {X : Type 0} (n : X → X) (xs : List X) → map n xs ≡ xs → Each (λ x. n x ≡ x) xs
unchanged n [] e = tt
unchanged n (x ∷ xs) e =
    let first : n x ≡ x = cc in
    let rest : map n xs ≡ xs = cc in (first, unchanged n xs rest)

pub choices_rest : (c : Configuration) → Rests c → Each (λ choice. unnumbered_choice choice ≡ choice) c.flow.choices
unfolding settled
choices_rest c k = unchanged unnumbered_choice c.flow.choices (ap (λ d. d.flow.choices) k)

pub page_rests : (c : Configuration) → Rests c → empty_page ≡ c.page
unfolding settled
page_rests c k = ap (λ d. d.page) k

pub chosen_rests : (s : StoryTree) (choice : ChoiceOf (List Part)) (c : Configuration) → unnumbered_choice choice ≡ choice → Rests c → Rests (entering_around s (chosen choice c))
unfolding settled
chosen_rests s choice c h k =
    let page : empty_page ≡ c.page = page_rests c k in
    (λ i. record {
      flow = record {
        threads = record { thread = put_in (Some choice.target) (ap (λ d. d.thread) h i); below = [] };
        stack = c.flow.stack;
        choices = [];
        safe = c.flow.safe;
      };
      shared = (entering_around s (chosen choice c)).shared;
      page = page i;
    })

pub jumped_rests : (s : StoryTree) (q : List Part) (c : Configuration) → Rests c → Rests (entering_around s (jumped q c))
unfolding settled
jumped_rests s q c k =
    let page : empty_page ≡ c.page = page_rests c k in
    (λ i. record { flow = (entering_around s (jumped q c)).flow; shared = (entering_around s (jumped q c)).shared; page = page i })

pub globals_rest : (globals : Values) (c : Configuration) → Rests c → Rests (with_globals globals c)
unfolding settled
globals_rest globals c k = ap (with_globals globals) k
