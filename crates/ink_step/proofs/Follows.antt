-- Where flow goes after a content, and so how a step ends.
use Rattle.std.proofs.Common.{◌≡◌, ◌∙◌, ◌||◌, ap, sym, refl, subst, inl, inr, ℕ, List, map, Bool, true, false, Option, Some, None, Result, Ok, Err}
use Rattle.ink_step.proofs.Common.{following, following_asks, CountsOf, next_place, Bound, Comes, step, step_at, Values, StoryTree, Fault, OutOfMemory, LacksMemory, Part, or_first, or_more, ReachesAs, StepEnds, config_of, counts_in, StepEnd, Machine, place_of, Spot}
use Rattle.ink_model.specs.Run.Configuration.{ChoiceOf, Configuration, current_place, ended, map_choice, with_choices, with_threads}
use Rattle.ink_model.specs.Run.Effect.{Fields, Effect, Moves, Stores, Offers, Lands, Calls, Returns, Forks, Done, Ends, Fails, fields_of, with_fields, with_thread}
use Rattle.ink_model.specs.Flow.Transfers.{Written, Reached, Reaches, Halts, Breaks, called, depth_of, forked, halt, moved_on, reach, returned}
use Rattle.ink_model.specs.Flow.Frames.{ThreadOf, ThreadsOf, base_threads, map_threads, mode_in, on_top}
use Rattle.ink_model.specs.Run.Move.{Outcome, Next, Stop, Faults, end_all, finish, going, landing_outcome, may_enter, move, place_to, reached_in, with_flow, written_in}
use Rattle.ink_model.specs.Memory.Moves.{dropped_asks, flow_asks, forked_asks, move_asks, moved_asks}
use Rattle.ink_model.specs.Flow.Threads.{dropped, staled}
use Rattle.ink_effects.specs.Performs.{KeepsThreads, KeepsChoices, Performs, offered_by, stored_by, unstored}
use Rattle.ink_moves.specs.declared.flow.StepEnd.TheVariants as ends
use Rattle.ink_effects.specs.declared.transfer.Transfer.TheVariants as transfer

-- ---- by cases

pub or_between : (a b x : Bool) → a || x ≡ true → a || (b || x) ≡ true
or_between true b x h = refl
or_between false b x h = or_more b x h

pub or_wider : (a b x : Bool) → a || b ≡ true → a || (b || x) ≡ true
or_wider true b x h = refl
or_wider false b x h = or_first b x h

pub or_neither : (a : Bool) → a || false ≡ true → a ≡ true
or_neither true h = refl
or_neither false h = h

pub or_assoc : (a b x : Bool) → (a || b) || x ≡ a || (b || x)
or_assoc true b x = refl
or_assoc false b x = refl

pub or_where : (a b x : Bool) → (a ≡ true → b ≡ true) → a || x ≡ true → b || x ≡ true
or_where true b x allows h = or_first b x (allows refl)
or_where false b x allows h = or_more b x h

-- what asks for memory in a whole step that may be pressed
pub or_whole : (m a b x : Bool) → ((m || a) || b) || x ≡ m || ((a || b) || x)
or_whole true a b x = refl
or_whole false a b x = refl

pub or_apart : (m n a b x : Bool) → n || (((m || a) || b) || x) ≡ (m || n) || ((a || b) || x)
or_apart true true a b x = refl
or_apart true false a b x = refl
or_apart false n a b x = refl

-- no step ends so
pub never_wants : (asking : Bool) (o : Outcome) (globals : Values) (d : Configuration) → StepEnds asking o globals d (Ok ends.WantsCall) → ⊥
never_wants asking (Next c) globals d h = h
never_wants asking o globals d h = h

-- where memory was refused
pub ends_short : (asking : Bool) (o : Outcome) (globals : Values) (d : Configuration) (f : Fault) → LacksMemory asking f → d.shared.globals ≡ globals
    → StepEnds asking o globals d (Err f)
ends_short asking (Faults g) globals d f short same = (inr short, same)
ends_short asking o globals d f short same = (short, same)

-- for what a mark wants
pub ends_pressed : (pressed more : Bool) (o : Outcome) (globals : Values) (d : Configuration) (f : Fault) → f ≡ OutOfMemory → pressed ≡ true → d.shared.globals ≡ globals
    → StepEnds (pressed || more) o globals d (Err f)
ends_pressed pressed more o globals d f short h same = ends_short (pressed || more) o globals d f (short, or_first pressed more h) same

-- the same where more asks for memory
module _ (asking more : Bool) where
  pub ends_more : (o : Outcome) (globals : Values) (d : Configuration) (r : Result StepEnd Fault) → StepEnds more o globals d r → StepEnds (asking || more) o globals d r
  ends_more (Next c) globals d (Ok ends.Went) h = h
  ends_more (Stop c) globals d (Ok ends.Stopped) h = h
  ends_more (Faults g) globals d (Err f) h = (elim h.0 [ inl is ↦ inl is | inr short ↦ inr (short.0, or_more asking more short.1) ], h.1)
  ends_more o globals d (Err f) h = ((h.0.0, or_more asking more h.0.1), h.1)
  ends_more o globals d (Ok end) h = absurd h

-- the same where that is so of one that asks for less
pub ends_where : (asking more : Bool) → (asking ≡ true → more ≡ true) → (o : Outcome) (globals : Values) (d : Configuration) (r : Result StepEnd Fault)
    → StepEnds asking o globals d r → StepEnds more o globals d r
ends_where asking more allows (Next c) globals d (Ok ends.Went) h = h
ends_where asking more allows (Stop c) globals d (Ok ends.Stopped) h = h
ends_where asking more allows (Faults g) globals d (Err f) h = (elim h.0 [ inl is ↦ inl is | inr short ↦ inr (short.0, allows short.1) ], h.1)
ends_where asking more allows o globals d (Err f) h = ((h.0.0, allows h.0.1), h.1)
ends_where asking more allows o globals d (Ok end) h = absurd h

-- whatever asks for memory, where there was no fault
pub ends_any : (asking more : Bool) (o : Outcome) (globals : Values) (d : Configuration) (end : StepEnd) → StepEnds asking o globals d (Ok end) → StepEnds more o globals d (Ok end)
ends_any asking more (Next c) globals d ends.Went h = h
ends_any asking more (Stop c) globals d ends.Stopped h = h
ends_any asking more o globals d end h = absurd h

-- ---- where flow went

-- a fault on the way
pub ends_broken : (asking : Bool) (c d : Configuration) (globals : Values) (reached : Reached (List Part)) (ts : ThreadsOf (List Part)) (w : Written) (f : Fault)
    → ReachesAs asking reached ts w (Err f) → d.shared.globals ≡ globals → StepEnds asking (reached_in c reached) globals d (Err f)
ends_broken asking c d globals (Breaks g) ts w f h same = (h, same)
ends_broken asking c d globals reached ts w f h same = (h, same)

-- none, and so what was stored before is of no matter
pub ends_there : (asking : Bool) (c : Configuration) (globals : Values) (reached : Reached (List Part)) (ts : ThreadsOf (List Part)) (w : Written) (end : StepEnd)
    → ReachesAs asking reached ts w (Ok end) → StepEnds asking (reached_in c reached) globals (with_flow ts w c) (Ok end)
ends_there asking c globals (Reaches us v) ts w ends.Went h = ap (λ t. with_flow t w c) h.0 ∙ ap (λ x. with_flow us x c) h.1
ends_there asking c globals (Halts us v) ts w ends.Stopped h = ap (λ t. with_flow t w c) h.0 ∙ ap (λ x. with_flow us x c) h.1
ends_there asking c globals reached ts w end h = absurd h

pub ends_reached : (asking : Bool) (c : Configuration) (reached : Reached (List Part)) (ts : ThreadsOf (List Part)) (w : Written) (r : Result StepEnd Fault)
    → ReachesAs asking reached ts w r → StepEnds asking (reached_in c reached) c.shared.globals (with_flow ts w c) r
ends_reached asking c reached ts w (Ok end) h = ends_there asking c c.shared.globals reached ts w end h
ends_reached asking c reached ts w (Err f) h = ends_broken asking c (with_flow ts w c) c.shared.globals reached ts w f h refl

-- ---- flow goes where a content sends it

module _ (s : StoryTree) (pressed asking : Bool) (c d : Configuration) (r : Result StepEnd Fault) where
  abbrev Follows : Effect → Type 0
  Follows e = StepEnds (pressed || (asking || move_asks s e c)) (move s (unstored c.shared.globals e) c) c.shared.globals d r

  abbrev stale_now : Configuration
  stale_now = with_threads (on_top (staled (depth_of (written_in c))) c.flow.threads) c

  pub goes_after_text : (e : Effect) → Performs s asking e (fields_of c) (Ok transfer.Wrote)
      → StepEnds (moved_asks (next_place s) stale_now.flow.threads (written_in c)) (going (moved_on (next_place s)) stale_now) c.shared.globals d r → Follows e
  goes_after_text (Moves f) h go = subst (λ g. Follows (Moves g)) (sym h) (ends_more pressed _ _ _ _ r (ends_more asking _ _ _ _ r go))
  goes_after_text e h go = absurd h

  pub goes_nowhere : (e : Effect) → Performs s asking e (fields_of c) (Ok transfer.End)
      → StepEnds false (reached_in (ended c) (halt (base_threads None) (written_in c))) c.shared.globals d r → Follows e
  goes_nowhere (Ends f) h go = subst (λ g. Follows (Ends g)) h (ends_more pressed _ _ _ _ r (ends_more asking _ _ _ _ r go))
  goes_nowhere e h go = absurd h

  pub goes_forking : (e : Effect) → Performs s asking e (fields_of c) (Ok transfer.Fork)
      → StepEnds (forked_asks (next_place s) c.flow.threads (written_in c)) (going (forked (next_place s)) c) c.shared.globals d r → Follows e
  goes_forking (Forks f) h go = subst (λ g. Follows (Forks g)) h (ends_more pressed _ _ _ _ r (ends_more asking _ _ _ _ r go))
  goes_forking e h go = absurd h

  pub goes_done : (e : Effect) → Performs s asking e (fields_of c) (Ok transfer.Done)
      → StepEnds (dropped_asks (next_place s) (dropped c.flow.threads) (written_in c)) (finish s c) c.shared.globals d r → Follows e
  goes_done (Done f) h go = subst (λ g. Follows (Done g)) h (ends_more pressed _ _ _ _ r (ends_more asking _ _ _ _ r go))
  goes_done e h go = absurd h

-- ---- a step

-- performing faults
pub ends_unperformed : (s : StoryTree) (asking more : Bool) (e : Effect) (new : Fields) (c d : Configuration) (globals : Values) (f : Fault) → Performs s asking e new (Err f)
    → d.shared.globals ≡ globals → StepEnds (asking || more) (move s e c) globals d (Err f)
ends_unperformed s asking more e new c d globals f h same = by e h
  where
    short : (o : Outcome) → LacksMemory asking f → StepEnds (asking || more) o globals d (Err f)
    short o k = ends_short (asking || more) o globals d f (k.0, or_first asking more k.1) same

    by : (e : Effect) → Performs s asking e new (Err f) → StepEnds (asking || more) (move s e c) globals d (Err f)
    by (Fails g) k = (elim k [ inl is ↦ inl is | inr refused ↦ inr (refused.0, or_first asking more refused.1) ], same)
    by e k = short (move s e c) k

-- performing changes the fields, temporaries and choices alone, which a move takes from the effect
module _ (s : StoryTree) (old mid : Machine) (safely : mid.flow.safe ≡ old.flow.safe) (counted : mid.shared.counts.rows ≡ old.shared.counts.rows) (turned : mid.shared.turn ≡ old.shared.turn) where
  abbrev over : ThreadsOf (List Part) → List (ChoiceOf (List Part)) → Bool → CountsOf ℕ → ℕ → Configuration
  over ts choices b counts turn = record {
    flow = record { threads = ts; stack = mid.flow.stack.items; choices = choices; safe = b };
    shared = record { globals = mid.shared.globals.rows; counts = counts_in s counts; turn = turn };
    page = mid.output.page;
  }

  abbrev threads_by : Effect → ThreadsOf (List Part)
  threads_by e = on_top (mode_in mid.flow.threads.threads.thread.frame.evaluating) (on_top (stored_by e) (map_threads (place_of s) old.flow.threads.threads))

  abbrev choices_by : Effect → List (ChoiceOf (List Part))
  choices_by e = offered_by e (map (map_choice (place_of s)) old.flow.choices.items)

  abbrev kept : Effect → Configuration
  kept e = over (threads_by e) (choices_by e) old.flow.safe old.shared.counts.rows old.shared.turn

  is_kept : (e : Effect) → KeepsThreads s e old.flow.threads.threads mid.flow.threads.threads → KeepsChoices s e old.flow.choices.items mid.flow.choices.items → config_of s mid ≡ kept e
  is_kept e keeps offers =
      ap (λ ts. over ts (map (map_choice (place_of s)) mid.flow.choices.items) mid.flow.safe mid.shared.counts.rows mid.shared.turn) keeps
      ∙ ap (λ cs. over (threads_by e) cs mid.flow.safe mid.shared.counts.rows mid.shared.turn) offers
      ∙ ap (λ b. over (threads_by e) (choices_by e) b mid.shared.counts.rows mid.shared.turn) safely
      ∙ ap (λ counts. over (threads_by e) (choices_by e) old.flow.safe counts mid.shared.turn) counted
      ∙ ap (over (threads_by e) (choices_by e) old.flow.safe old.shared.counts.rows) turned

  -- with the effect's fields, whether it stores temporaries or not
  moving_alike : (f g : Fields) (o : Option ℕ) → with_fields (record f { wrote = o }) (kept (Moves g)) ≡ with_fields (record f { wrote = o }) (config_of s old)
  moving_alike f g None = refl
  moving_alike f g (Some depth) = refl

  storing_alike : (t : ThreadOf (List Part)) (f g : Fields) (o : Option ℕ)
      → with_fields (record f { wrote = o }) (with_thread t (kept (Stores t g))) ≡ with_fields (record f { wrote = o }) (with_thread t (config_of s old))
  storing_alike t f g None = refl
  storing_alike t f g (Some depth) = refl

  offering_alike : (cs : List (ChoiceOf (List Part))) (f g : Fields) (o : Option ℕ)
      → with_fields (record f { wrote = o }) (with_choices cs (kept (Offers cs g))) ≡ with_fields (record f { wrote = o }) (with_choices cs (config_of s old))
  offering_alike cs f g None = refl
  offering_alike cs f g (Some depth) = refl

  goes_alike : (e : Effect) → move s e (kept e) ≡ move s e (config_of s old)
  goes_alike (Moves f) = ap (going (moved_on (next_place s))) (moving_alike f f f.wrote)
  goes_alike (Stores t f) = ap (going (moved_on (next_place s))) (storing_alike t f f f.wrote)
  goes_alike (Offers cs f) = ap (going (moved_on (next_place s))) (offering_alike cs f f f.wrote)
  goes_alike (Lands to f) = ap (landing_outcome s to.enters (reach to.place)) (moving_alike f f f.wrote)
  goes_alike (Calls k to f) = ap (landing_outcome s to.enters (called k to.place)) (moving_alike f f f.wrote)
  goes_alike (Returns k to f) = ap (landing_outcome s (may_enter to) (returned (next_place s) k (place_to to))) (moving_alike f f f.wrote)
  goes_alike (Forks f) = ap (going (forked (next_place s))) (moving_alike f f f.wrote)
  goes_alike (Done f) = ap (finish s) (moving_alike f f f.wrote)
  goes_alike (Ends f) = ap end_all (moving_alike f f f.wrote)
  goes_alike (Fails g) = refl

  abbrev asks_in : Effect → Configuration → Bool
  asks_in e c = flow_asks s e (counts_in s old.shared.counts.rows) c.flow.threads (written_in c)

  asks_alike : (e : Effect) → move_asks s e (kept e) ≡ move_asks s e (config_of s old)
  asks_alike (Moves f) = ap (asks_in (Moves f)) (moving_alike f f f.wrote)
  asks_alike (Stores t f) = ap (asks_in (Stores t f)) (storing_alike t f f f.wrote)
  asks_alike (Offers cs f) = ap (asks_in (Offers cs f)) (offering_alike cs f f f.wrote)
  asks_alike (Lands to f) = ap (asks_in (Lands to f)) (moving_alike f f f.wrote)
  asks_alike (Calls k to f) = ap (asks_in (Calls k to f)) (moving_alike f f f.wrote)
  asks_alike (Returns k to f) = ap (asks_in (Returns k to f)) (moving_alike f f f.wrote)
  asks_alike (Forks f) = ap (asks_in (Forks f)) (moving_alike f f f.wrote)
  asks_alike (Done f) = ap (asks_in (Done f)) (moving_alike f f f.wrote)
  asks_alike e = refl

  -- of a whole step
  abbrev Steps : Bool → Effect → Configuration → Values → Configuration → Result StepEnd Fault → Type 0
  Steps asking e c globals d r = StepEnds ((asking || move_asks s e c) || following_asks s (move s e c)) (following s (move s e c)) globals d r

  pub ends_after : (asking : Bool) (e : Effect) (globals : Values) (d : Configuration) (r : Result StepEnd Fault) → KeepsThreads s e old.flow.threads.threads mid.flow.threads.threads → KeepsChoices s e old.flow.choices.items mid.flow.choices.items
      → Steps asking e (config_of s mid) globals d r → Steps asking e (config_of s old) globals d r
  ends_after asking e globals d r keeps offers h =
      let alike = subst (λ c. Steps asking e c globals d r) (is_kept e keeps offers) h in
      let moved = subst (λ o. StepEnds ((asking || move_asks s e (kept e)) || following_asks s o) (following s o) globals d r) (goes_alike e) alike in
      subst (λ b. StepEnds ((asking || b) || following_asks s (move s e (config_of s old))) (following s (move s e (config_of s old))) globals d r) (asks_alike e) moved

-- after performing, the thread has the temporaries that the effect stores
pub kept_stays : (s : StoryTree) (e : Effect) (old new : ThreadsOf Spot) → KeepsThreads s e old new → KeepsThreads s e new new
kept_stays s (Stores t f) old new keeps = keeps ∙ ap (λ u. record { thread = mode_in new.thread.frame.evaluating t; below = u.below }) (sym keeps)
kept_stays s e old new keeps = refl

-- and the choices are those that it offers
pub offered_stay : (s : StoryTree) (e : Effect) (old new : List (ChoiceOf Spot)) → KeepsChoices s e old new → KeepsChoices s e new new
offered_stay s (Offers cs f) old new keeps = keeps
offered_stay s e old new keeps = refl

-- where flow has stopped it stays stopped
pub stands_still : (s : StoryTree) (b : Bound) (c : Configuration) → current_place c ≡ None → step s b c ≡ Comes (Stop c)
unfolding step
stands_still s b c no_place = ap (λ o. step_at s b o c) no_place

-- room for a step changes nothing
pub ready_alike : (s : StoryTree) (old new : Machine) → new ≡ record old { flow = record old.flow { threads = new.flow.threads; stack = new.flow.stack } } → new.flow.threads.threads ≡ old.flow.threads.threads
    → new.flow.stack.items ≡ old.flow.stack.items → config_of s new ≡ config_of s old
ready_alike s old new same threads items =
    ap (config_of s) same
    ∙ ap (λ ts. record (config_of s old) { flow = record (config_of s old).flow { threads = map_threads (place_of s) ts; stack = new.flow.stack.items } }) threads
    ∙ ap (λ vs. record (config_of s old) { flow = record (config_of s old).flow { stack = vs } }) items
