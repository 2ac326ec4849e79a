-- What an effect that fits makes of a sound configuration is sound.
use Rattle.std.proofs.Common.{ap, refl, arith, ℕ, suc, lit≤, List, [], ◌∷◌, Bool, true, ◌||◌, nat_eq, Option, Some, None}
use Rattle.ink_sound.proofs.Common.{cond_both, BaseFirst, next_place, StoryTree, FrameKind, Part, Each, is_line, ChoicesFit, FrameStands, Sound, ThreadStands, ThreadsFit}
use Rattle.ink_model.specs.Run.Configuration.{ChoiceOf, Configuration, ended, with_choices, with_safe}
use Rattle.ink_model.specs.Run.Effect.{Effect, Fields, Moves, Stores, Offers, Lands, Calls, Returns, Forks, Done, Ends, Fails, context_of, fields_of, with_fields, with_mode, with_staleness, with_thread}
use Rattle.ink_model.specs.Flow.Transfers.{Written, Reached, Reaches, Halts, Breaks, is_last, moved_on}
use Rattle.ink_model.specs.Flow.Frames.{FrameOf, ThreadOf, ThreadsOf, base_threads, is_function, place_in}
use Rattle.ink_model.specs.Run.Move.{end_all, landed_in, may_enter, move, place_to, reached_in, with_flow, written_in}
use Rattle.ink_model.specs.Flow.Threads.{stale, stale_run, staled}
use Rattle.ink_model.specs.Run.Visits.{around, entering}
use Rattle.ink_sound.specs.Kept.{ContextFits, EffectFits, FieldsFit, OutcomeFits, ReachedFits, Runs, WrittenFits}
use Rattle.ink_sound.proofs.Counts.{all_visited_fits}
use Rattle.ink_sound.proofs.Variables.{ChangedFits}
use Rattle.ink_sound.proofs.Flows.{ThreadsStand, base_fit, called_fits, done_fits, forked_fits, moved_fits, reach_stands, returned_fits, stand_of, top_fits, any_of}

module _ (s : StoryTree) where
  -- ---- freshness and mode

  stale_stands : (d : ℕ) (f : FrameOf (List Part)) → FrameStands s f → FrameStands s (stale d f)
  stale_stands d f h = cond_both (nat_eq f.depth d) _ _ (FrameStands s) (λ _. h) (λ _. h)

  kind_kept : (d : ℕ) (f : FrameOf (List Part)) (fs : List (FrameOf (List Part))) → BaseFirst f.kind fs → BaseFirst (stale d f).kind fs
  kind_kept d f fs h = cond_both {A = FrameOf (List Part)} (nat_eq f.depth d) _ _ (λ g. BaseFirst g.kind fs) (λ _. h) (λ _. h)

  run_fits : (d : ℕ) (k : FrameKind) (fs : List (FrameOf (List Part))) → Each (FrameStands s) fs → BaseFirst k fs → ChangedFits s k fs (stale_run d fs)
  run_fits d k [] h b = record { each = tt; base = b; as_many = refl }
  run_fits d k (f ∷ fs) h b =
      let on = run_fits d f.kind fs h.1 b.1 in
      cond_both (is_function f.kind) _ _ (ChangedFits s k (f ∷ fs))
      (λ _. record { each = (stale_stands d f h.0, on.each); base = (b.0, kind_kept d f (stale_run d fs) on.base); as_many = ap suc on.as_many })
      (λ _. record { each = h; base = b; as_many = refl })

  staled_fits : (d : ℕ) (t : ThreadOf (List Part)) → ThreadStands s t → ThreadStands s (staled d t)
  staled_fits d t h =
      let top = stale_stands d t.frame (h.thread.frame, h.place) in
      let r = run_fits d t.frame.kind t.below h.thread.below h.thread.base in
      record {
        thread = record {
          frame = top.0;
          below = r.each;
          base = kind_kept d t.frame (stale_run d t.below) r.base;
          few = omega (arith, r.as_many, h.thread.few);
          previous = h.thread.previous;
        };
        place = top.1;
      }

  -- ---- fields

  pub threads_of : (c : Configuration) → Runs s c → ThreadsStand s c.flow.threads
  threads_of c h = stand_of s c.flow.threads h.0.flow.threads h.1

  -- the same with other threads at a place
  with_top : (c : Configuration) (t : ThreadOf (List Part)) → Runs s c → ThreadStands s t → Runs s (with_thread t c)
  with_top c t h k = let threads = top_fits s t c.flow.threads.below k h.0.flow.threads.below h.0.flow.threads.few in assumption

  mode_runs : (b : Bool) (c : Configuration) → Runs s c → Runs s (with_mode b c)
  mode_runs b c h = with_top c _ h (let t = h.0.flow.threads.thread in assumption)

  staleness_runs : (o : Option ℕ) (c : Configuration) → Runs s c → Runs s (with_staleness o c)
  staleness_runs None c h = h
  staleness_runs (Some d) c h = with_top c _ h (staled_fits d c.flow.threads.thread (record { thread = h.0.flow.threads.thread; place = h.1 }))

  pub fields_run : (f : Fields) (c : Configuration) → FieldsFit s f → Runs s c → Runs s (with_fields f c)
  fields_run f c h k = let x = staleness_runs f.wrote (with_mode f.evaluating c) (mode_runs f.evaluating c k) in assumption

  pub fields_fit : (c : Configuration) → Sound s c → FieldsFit s (fields_of c)
  fields_fit c h = record { stack = h.flow.stack; globals = h.shared.globals; page = h.page }

  pub context_fits : (c : Configuration) → Runs s c → ContextFits s (context_of c)
  context_fits c h = assumption

  pub written_fits : (c : Configuration) → Sound s c → WrittenFits s (written_in c)
  written_fits c h = record { stack = h.flow.stack; page = h.page }

  -- ---- where flow went

  flow_sound : (ts : ThreadsOf (List Part)) (w : Written) (c : Configuration) → Sound s c → ThreadsFit s ts → WrittenFits s w → Sound s (with_flow ts w c)
  flow_sound ts w c h k g = record { flow = record { threads = k; stack = g.stack; choices = h.flow.choices }; shared = h.shared; page = g.page }

  pub reached_fits : (c : Configuration) (r : Reached (List Part)) → Sound s c → ReachedFits s r → OutcomeFits s (reached_in c r)
  reached_fits c (Reaches ts w) h k = (flow_sound ts w c h k.0 k.2, k.1)
  reached_fits c (Halts ts w) h k = flow_sound ts w c h k.0 k.1
  reached_fits c (Breaks f) h k = tt

  pub entering_runs : (ps : List (List Part)) (c : Configuration) → Sound s c → Sound s (entering s ps c)
  entering_runs ps c h = let counts = all_visited_fits s c.shared.turn ps c.shared.counts h.shared.turn h.shared.counts in assumption

  landed_fits : (enters : Bool) (c : Configuration) (r : Reached (List Part)) → Sound s c → ReachedFits s r → OutcomeFits s (landed_in s enters c r)
  landed_fits true c (Reaches ts w) h k = (entering_runs (around s ts) (with_flow ts w c) (flow_sound ts w c h k.0 k.2), k.1)
  landed_fits enters c r h k = reached_fits c r h k

  -- ---- effects

  pub ended_sound : (c : Configuration) → Sound s c → Sound s (ended c)
  ended_sound c h =
      let threads = base_fit s None tt in
      let choices : ChoicesFit s [] = record { each = tt; few = lit≤ tt } in assumption

  end_fits : (c : Configuration) → Sound s c → OutcomeFits s (end_all c)
  end_fits c h = cond_both (is_line c.page.sections) _ _ (λ r. OutcomeFits s (reached_in (ended c) r))
      (λ _. flow_sound (base_threads None) (written_in c) (ended c) (ended_sound c h) (base_fit s None tt) (written_fits c h)) (λ _. tt)

  choices_run : (choices : List (ChoiceOf (List Part))) (c : Configuration) → ChoicesFit s choices → Runs s c → Runs s (with_choices choices c)
  choices_run choices c k h = (record { flow = record { threads = h.0.flow.threads; stack = h.0.flow.stack; choices = k }; shared = h.0.shared; page = h.0.page }, h.1)

  -- flow moves on in a configuration that runs
  moves : (c : Configuration) → Runs s c → OutcomeFits s (reached_in c (moved_on (next_place s) c.flow.threads (written_in c)))
  moves c h = reached_fits c _ h.0 (moved_fits s c.flow.threads (written_in c) (threads_of c h) (written_fits c h.0))

  pub move_fits : (e : Effect) (c : Configuration) → EffectFits s e → Runs s c → OutcomeFits s (move s e c)
  move_fits (Moves f) c k h = moves (with_fields f c) (fields_run f c k h)
  move_fits (Stores t f) c k h = moves (with_fields f (with_thread t c)) (fields_run f (with_thread t c) k.1 (with_top c t h k.0))
  move_fits (Offers choices f) c k h = moves (with_fields f (with_choices choices c)) (fields_run f (with_choices choices c) k.1 (choices_run choices c k.0 h))
  move_fits (Lands to f) c k h =
      let d : Configuration = with_fields f c in
      let r : Runs s d = fields_run f c k.1 h in
      landed_fits to.enters d _ r.0 (reach_stands s to.place d.flow.threads (written_in d) k.0 r.0.flow.threads.thread (any_of s (place_in d.flow.threads) r.1) r.0.flow.threads.below r.0.flow.threads.few (written_fits d r.0))
  move_fits (Calls kind to f) c k h =
      let d : Configuration = with_fields f c in
      let r : Runs s d = fields_run f c k.2 h in
      landed_fits to.enters d _ r.0 (called_fits s kind to.place d.flow.threads (written_in d) k.0 k.1 (threads_of d r) (written_fits d r.0))
  move_fits (Returns kind to f) c k h =
      let d : Configuration = with_fields f c in
      let r : Runs s d = fields_run f c k.1 h in
      landed_fits (may_enter to) d _ r.0 (returned_fits s kind (place_to to) d.flow.threads (written_in d) k.0 (threads_of d r) (written_fits d r.0))
  move_fits (Forks f) c k h =
      let d : Configuration = with_fields f c in
      let r : Runs s d = fields_run f c k h in
      reached_fits d _ r.0 (forked_fits s d.flow.threads (written_in d) (threads_of d r) (written_fits d r.0))
  move_fits (Done f) c k h =
      let d : Configuration = with_fields f c in
      let r : Runs s d = fields_run f c k h in
      let safe : Sound s (with_safe (d.flow.safe || is_last d.flow.threads) d) = assumption r.0 in
      reached_fits (with_safe (d.flow.safe || is_last d.flow.threads) d) _ safe (done_fits s d.flow.threads (written_in d) (threads_of d r) (written_fits d r.0))
  move_fits (Ends f) c k h = end_fits (with_fields f c) (fields_run f c k h).0
  move_fits (Fails fault) c k h = tt
