-- Flow lands, and the containers around are entered; a step goes in before it performs.
use Rattle.std.proofs.Common.{◌≡◌, ◌∙◌, ◌||◌, ◌&&◌, ap, sym, refl, subst, inl, inr, List, Bool, true, false, cond, nat_lt, Option, Some, None, option_map, Result, Ok, Err}
use Rattle.ink_model.specs.Memory.Asks.{going_in_asks, performing_asks}
use Rattle.ink_model.specs.Run.Configuration.{Configuration, current_place, with_choices, with_threads}
use Rattle.ink_model.specs.Run.Effect.{Effect, Landing as Goal, Moves, Stores, Offers, Lands, Calls, Returns, fields_of}
use Rattle.ink_model.specs.Flow.Transfers.{Written, moved_on, Reached, Reaches, Halts, Breaks, called, depth_of, enter_for, leave_for, number_for, or_breaks, reach, reach_or_on, returned}
use Rattle.ink_model.specs.Flow.Frames.{ThreadOf, ThreadsOf, mode_in, on_top}
use Rattle.ink_model.specs.Memory.Refusals.{asks, asks_at}
use Rattle.ink_model.specs.Run.Move.{going, landed_in, landing_outcome, may_enter, move, place_to, with_flow, written_in}
use Rattle.ink_model.specs.Memory.Moves.{landed_asks, move_asks, moved_asks, returned_asks}
use Rattle.ink_step.proofs.Common.{content_place, next_place, Bound, Stepped, gone_in, performed, step, step_at, Call, call_at, Values, StoryTree, at, container, leaf, adds_rows, around, entering_around, Fault, OutOfMemory, LacksMemory, Part, ReachesAs, StepEnds, StepEnd, or_first, or_more, leaf_in, place_of}
use Rattle.ink_model.specs.Flow.Threads.{frame_count, frame_popped, frame_pushed}
use Rattle.ink_model.specs.declared.frame.FrameKind.{FrameKind}
use Rattle.ink_model.specs.declared.limits.TheConstants.{MAX_FRAMES}
use Rattle.ink_stack.specs.Calls.{frame_kind}
use Rattle.ink_stack.specs.declared.frame.CallKind.{CallKind}
use Rattle.ink_effects.specs.Performs.{Performs, landing_of, offered_by, stored_by, unstored}
use Rattle.ink_moves.specs.declared.flow.StepEnd.TheVariants as ends
use Rattle.ink_effects.specs.declared.transfer.Assignment.{Assignment}
use Rattle.ink_effects.specs.declared.transfer.Landing.{Landing}
use Rattle.ink_effects.specs.declared.transfer.Transfer.TheVariants as transfer
use Rattle.ink_step.proofs.Follows.{ends_short, ends_where, or_between, or_neither, or_wider}

-- flow goes on, or a fault comes
abbrev pub IsGoing : {P : Type 0} → Reached P → Type 0
IsGoing (Reaches ts w) = Unit {0}
IsGoing (Halts ts w) = ⊥
IsGoing (Breaks f) = Unit {0}

-- a call does not stop
pub called_goes : {P : Type 0} → (k : FrameKind) (q : P) (ts : ThreadsOf P) (w : Written) → IsGoing (called k q ts w)
called_goes {P = P} k q ts w = by (frame_pushed k (depth_of w) ts.thread) (enter_for k w)
  where
    by : (r : Result (ThreadOf P) Fault) (e : Result Written Fault) → IsGoing (or_breaks r Breaks (λ t. or_breaks e Breaks (λ after. reach q (record ts { thread = number_for k w t }) after)))
    by (Ok t) (Ok v) = tt
    by (Ok t) (Err f) = tt
    by (Err f) e = tt

-- a return to a place does not
pub returned_goes : {P : Type 0} → (after : P → Option P) (k : FrameKind) (q : P) (ts : ThreadsOf P) (w : Written) → IsGoing (returned after k (Some q) ts w)
returned_goes {P = P} after k q ts w = by (frame_popped k (depth_of w) ts.thread) (leave_for k ts.thread.frame.enter w)
  where
    by : (r : Result (ThreadOf P) Fault) (e : Result Written Fault) → IsGoing (or_breaks r Breaks (λ t. or_breaks e Breaks (λ left. reach_or_on after (Some q) (record ts { thread = t }) left)))
    by (Ok t) (Ok v) = tt
    by (Ok t) (Err f) = tt
    by (Err f) e = tt

pub returned_lands : (after : List Part → Option (List Part)) (k : FrameKind) (goal : Option Goal) (ts : ThreadsOf (List Part)) (w : Written) → may_enter goal ≡ true → IsGoing (returned after k (place_to goal) ts w)
returned_lands after k None ts w h = absurd (cc)
returned_lands after k (Some to) ts w h = returned_goes after k to.place ts w

-- ---- what is around is entered where flow has landed

module _ (s : StoryTree) (pressed asking : Bool) (c d : Configuration) (globals : Values) (ts : ThreadsOf (List Part)) (w : Written) where
  abbrev Lands_as : Bool → Reached (List Part) → Result StepEnd Fault → Type 0
  Lands_as enters reached r = StepEnds (pressed || (asking || landed_asks s enters c.shared.counts reached)) (landed_in s enters c reached) globals d r

  pub lands : (enters : Bool) (reached : Reached (List Part)) (end : StepEnd) → (enters ≡ true → IsGoing reached) → ReachesAs asking reached ts w (Ok end)
      → d ≡ cond enters (entering_around s (with_flow ts w c)) (with_flow ts w c) → Lands_as enters reached (Ok end)
  lands true (Reaches us v) ends.Went goes h is = is ∙ ap (λ t. entering_around s (with_flow t w c)) h.0 ∙ ap (λ x. entering_around s (with_flow us x c)) h.1
  lands true (Halts us v) end goes h is = absurd (goes refl)
  lands false (Reaches us v) ends.Went goes h is = is ∙ ap (λ t. with_flow t w c) h.0 ∙ ap (λ x. with_flow us x c) h.1
  lands false (Halts us v) ends.Stopped goes h is = is ∙ ap (λ t. with_flow t w c) h.0 ∙ ap (λ x. with_flow us x c) h.1
  lands enters reached end goes h is = absurd h

  module _ (f : Fault) (same : d.shared.globals ≡ globals) where
    -- memory for a row was refused
    pub lands_short : (enters : Bool) (reached : Reached (List Part)) (end : StepEnd) → (enters ≡ true → IsGoing reached) → ReachesAs asking reached ts w (Ok end)
        → f ≡ OutOfMemory → (pressed || (enters && adds_rows s (around s ts) c.shared.counts)) ≡ true → Lands_as enters reached (Err f)
    lands_short true (Reaches us v) ends.Went goes h short adds =
        ((short, or_between pressed asking _ (ap (λ t. pressed || adds_rows s (around s t) c.shared.counts) (sym h.0) ∙ adds)), same)
    lands_short true (Halts us v) end goes h short adds = absurd (goes refl)
    lands_short true reached end goes h short adds = absurd h
    lands_short false reached end goes h short adds = ends_short _ (landed_in s false c reached) globals d f (short, or_first pressed _ (or_neither pressed adds)) same

    -- a fault before
    pub lands_broken : (enters : Bool) (reached : Reached (List Part)) → ReachesAs asking reached ts w (Err f) → Lands_as enters reached (Err f)
    lands_broken true (Breaks g) h = (elim h [ inl is ↦ inl is | inr short ↦ inr (short.0, or_more pressed _ (or_first asking _ short.1)) ], same)
    lands_broken false (Breaks g) h = (elim h [ inl is ↦ inl is | inr short ↦ inr (short.0, or_more pressed _ (or_first asking _ short.1)) ], same)
    lands_broken enters reached h = ((h.0, or_more pressed _ (or_first asking _ h.1)), same)

-- ---- flow goes where a content sends it

module _ (s : StoryTree) (pressed asking : Bool) (c d : Configuration) (r : Result StepEnd Fault) where
  abbrev Follows : Effect → Type 0
  Follows e = StepEnds (pressed || (asking || move_asks s e c)) (move s (unstored c.shared.globals e) c) c.shared.globals d r

  -- the thread has the temporaries that the effect stores
  abbrev HasStored : Effect → Type 0
  HasStored e = c.flow.threads ≡ on_top (mode_in c.flow.threads.thread.frame.evaluating) (on_top (stored_by e) c.flow.threads)

  -- the choices are those that the effect offers
  abbrev HasOffered : Effect → Type 0
  HasOffered e = c.flow.choices ≡ offered_by e c.flow.choices

  abbrev GoesOn : Bool → Configuration → Type 0
  GoesOn more from = StepEnds (pressed || (more || moved_asks (next_place s) from.flow.threads (written_in from))) (going (moved_on (next_place s)) from) c.shared.globals d r

  pub goes_on : (e : Effect) → Performs s asking e (fields_of c) (Ok transfer.Next) → HasStored e → HasOffered e → GoesOn asking c → Follows e
  goes_on (Moves f) h has offers go = subst (λ g. Follows (Moves g)) h go
  goes_on (Stores t f) h has offers go = subst (λ g. Follows (Stores t g)) h (subst (λ ts. GoesOn asking (with_threads ts c)) has go)
  goes_on (Offers cs f) h has offers go = subst (λ g. Follows (Offers cs g)) h (subst (λ ds. GoesOn asking (with_choices ds c)) offers go)
  goes_on e h has offers go = absurd h

  module _ (a : Assignment) where
    pub goes_storing : (e : Effect) → Performs s asking e (fields_of c) (Ok (transfer.Store a)) → HasStored e
        → GoesOn asking c → Follows e
    goes_storing (Stores t f) h has go = subst (λ g. Follows (Stores t g)) (sym h.0) (subst (λ ts. GoesOn asking (with_threads ts c)) has go)
    goes_storing e h has go = absurd h

  pub goes_there : (to : Landing) (e : Effect) → Performs s asking e (fields_of c) (Ok (transfer.Land to))
      → StepEnds (pressed || landed_asks s to.enters c.shared.counts (reach (place_of s to.place) c.flow.threads (written_in c))) (landing_outcome s to.enters (reach (place_of s to.place)) c) c.shared.globals d r
      → Follows e
  goes_there to (Lands l f) h go = subst (λ q. Follows (Lands q f)) (sym h.0) (subst (λ g. Follows (Lands (landing_of s to) g)) h.1
      (ends_where _ _ (or_between pressed asking _) (landing_outcome s to.enters (reach (place_of s to.place)) c) _ d r go))
  goes_there to e h go = absurd h

  pub goes_into : (kind : CallKind) (to : Landing) (e : Effect) → Performs s asking e (fields_of c) (Ok (transfer.Call kind to))
      → StepEnds (pressed || (nat_lt (frame_count c.flow.threads.thread) MAX_FRAMES || landed_asks s to.enters c.shared.counts (called (frame_kind kind) (place_of s to.place) c.flow.threads (written_in c))))
      (landing_outcome s to.enters (called (frame_kind kind) (place_of s to.place)) c) c.shared.globals d r
      → Follows e
  goes_into kind to (Calls k l f) h go = subst (λ x. Follows (Calls x l f)) (sym h.0) (subst (λ q. Follows (Calls (frame_kind kind) q f)) (sym h.1)
      (subst (λ g. Follows (Calls (frame_kind kind) (landing_of s to) g)) h.2 (ends_where _ _ (or_between pressed asking _) (landing_outcome s to.enters (called (frame_kind kind) (place_of s to.place)) c) _ d r go)))
  goes_into kind to e h go = absurd h

  pub goes_back : (kind : FrameKind) (back : Option Landing) (e : Effect) → Performs s asking e (fields_of c) (Ok (transfer.Return kind back))
      → StepEnds (pressed || (returned_asks (next_place s) kind (place_to (option_map (landing_of s) back)) c.flow.threads (written_in c)
      || landed_asks s (may_enter (option_map (landing_of s) back)) c.shared.counts (returned (next_place s) kind (place_to (option_map (landing_of s) back)) c.flow.threads (written_in c))))
      (landing_outcome s (may_enter (option_map (landing_of s) back)) (returned (next_place s) kind (place_to (option_map (landing_of s) back))) c) c.shared.globals d r
      → Follows e
  goes_back kind back (Returns k l f) h go = subst (λ x. Follows (Returns x l f)) (sym h.0) (subst (λ o. Follows (Returns kind o f)) (sym h.1)
      (subst (λ g. Follows (Returns kind (option_map (landing_of s) back) g)) h.2
      (ends_where _ _ (or_between pressed asking _) (landing_outcome s (may_enter (option_map (landing_of s) back)) (returned (next_place s) kind (place_to (option_map (landing_of s) back))) c) _ d r go)))
  goes_back kind back e h go = absurd h

-- ---- a step

-- what is performed at a place, from a configuration
abbrev pub Performing : StoryTree → Bound → (Bool → Stepped → Type 0) → List Part → Option StoryTree → Configuration → Type 0
Performing s b Ending here found m = Ending (performing_asks s b here found (call_at found) m) (performed s b here found (call_at found) m)

module _ (s : StoryTree) (b : Bound) (Ending : Bool → Stepped → Type 0) (here : List Part) where
  -- an empty container is performed as nothing is
  pub performs_alike : (found : Option StoryTree) (m : Configuration) → Performing s b Ending here (option_map leaf (leaf_in found)) m → Performing s b Ending here found m
  performs_alike None m h = h
  performs_alike (Some (leaf l)) m h = h
  performs_alike (Some (container name flags content named)) m h = h

  -- a call, or other content
  pub performs_told : (found : Option StoryTree) (k : Option Call) (m : Configuration) → call_at found ≡ k → Ending (performing_asks s b here found k m) (performed s b here found k m)
      → Performing s b Ending here found m
  performs_told found k m is h = subst (λ o. Ending (performing_asks s b here found o m) (performed s b here found o m)) (sym is) h

module _ (s : StoryTree) (b : Bound) (p : List Part) (old : Configuration) (at_p : current_place old ≡ Some p) where
  -- a step goes in, performs what stands there and moves
  pub ends_performed : (Ending : Bool → Stepped → Type 0) (here : List Part) (found : Option StoryTree) (mid : Configuration) → here ≡ content_place s p → found ≡ at s here → mid ≡ gone_in s p old
      → ((asking : Bool) (o : Stepped) → Ending asking o → Ending (going_in_asks s p old || asking) o) → Performing s b Ending here found mid → Ending (asks s b old) (step s b old)
  unfolding step asks
  ends_performed Ending here found mid is stands went more h =
      let gone = subst (λ m. Performing s b Ending here found m) went h in
      let m = gone_in s p old in
      let there = subst (λ f. Performing s b Ending here f m) stands gone in
      let entering = subst (λ q. Performing s b Ending q (at s q) m) is there in
      subst (λ o. Ending (asks_at s b o old) (step_at s b o old)) (sym at_p) (more _ _ entering)

  -- memory for a container on the way was refused
  pub ends_outside : (pressed : Bool) (f : Fault) → f ≡ OutOfMemory → pressed || going_in_asks s p old ≡ true → LacksMemory (pressed || asks s b old) f
  unfolding asks
  ends_outside pressed f short adds = (short, subst (λ o. pressed || asks_at s b o old ≡ true) (sym at_p) (or_wider pressed (going_in_asks s p old) _ adds))
