-- A step at content that holds no other and calls nothing.
use Rattle.std.proofs.Common.{◌≡◌, ◌∙◌, ◌||◌, ap, option_map, refl, subst, sym, false, true, is_some, nat_lt, Bool, List, Option, Some, None, Result, Ok}
use Rattle.ink_model.specs.Memory.Asks.{acting_asks, asks, content_asks, going_in_asks}
use Rattle.ink_step.proofs.Common.{following, following_asks, Configuration, current_place, Effect, context_of, fields_of, moved_on, Bound, Outcome, Next, going, move, written_in, next_place, Stepped, Comes, Wants, acted, effect, step, Call, call_at, Values, StoryTree, leaf, container, at, Leaf, Fault, Part, takes_first, takes_there, EndsPlainly, StepEnds, config_of, StepEnd, Machine, leaf_in, place_of, Spot}
use Rattle.ink_model.specs.Flow.Threads.{frame_count}
use Rattle.ink_model.specs.Flow.Transfers.{Reached, Reaches, Halts, Breaks, called, reach}
use Rattle.ink_model.specs.Memory.Moves.{landed_asks, move_asks, moved_asks}
use Rattle.ink_model.specs.Run.Effect.{Calls, Fields, Lands, with_fields}
use Rattle.ink_model.specs.Run.Move.{Faults, landed_in, landing_outcome}
use Rattle.ink_model.specs.declared.limits.TheConstants.{MAX_FRAMES}
use Rattle.ink_effects.specs.Performs.{KeepsThreads, KeepsChoices, Performs, storing_in, unstored}
use Rattle.ink_moves.specs.declared.flow.StepEnd.TheVariants as ends
use Rattle.ink_effects.specs.declared.transfer.Landing.{Landing}
use Rattle.ink_effects.specs.declared.transfer.Transfer.TheVariants as transfer
use Rattle.ink_step.proofs.Follows.{ends_after, ends_more, ends_where, kept_stays, offered_stay, or_between, or_whole, or_wider}
use Rattle.ink_step.proofs.Goings.{is_in, stays_in}
use Rattle.ink_step.proofs.Landed.{IsGoing, called_goes, ends_performed, goes_into, goes_on, goes_there, performs_told}
use Rattle.ink_step.proofs.Marks.{takes_at}
use Rattle.ink_step.proofs.Stopping.{ends_stored, stores_none}
use Rattle.ink_stack.specs.Calls.{frame_kind}
use Rattle.ink_stack.specs.declared.frame.CallKind.{CallKind}

-- ---- flow goes on at once: to the place that comes next, or to where it is sent

-- where flow went on no choice is followed
follows_none : (s : StoryTree) (asking : Bool) (o : Outcome) (globals : Values) (d : Configuration) → StepEnds asking o globals d (Ok ends.Went)
    → StepEnds (asking || following_asks s o) (following s o) globals d (Ok ends.Went)
follows_none s asking (Next c) globals d h = h
follows_none s asking o globals d h = absurd h

-- nor is one where flow lands, since it does not stop there
module _ (s : StoryTree) (pressed : Bool) (globals : Values) (d : Configuration) (r : Result StepEnd Fault) where
  goes_so : (enters : Bool) (from : Configuration) (asks : Bool) (reached : Reached (List Part)) → IsGoing reached → let o = landed_in s enters from reached in StepEnds (pressed || asks) o globals d r
      → StepEnds (pressed || (asks || following_asks s o)) (following s o) globals d r
  goes_so true from asks (Reaches ts w) going h = ends_where _ _ (or_wider pressed asks false) (landed_in s true from (Reaches ts w)) globals d r h
  goes_so false from asks (Reaches ts w) going h = ends_where _ _ (or_wider pressed asks false) (landed_in s false from (Reaches ts w)) globals d r h
  goes_so true from asks (Breaks f) going h = ends_where _ _ (or_wider pressed asks false) (Faults f) globals d r h
  goes_so false from asks (Breaks f) going h = ends_where _ _ (or_wider pressed asks false) (Faults f) globals d r h
  goes_so enters from asks (Halts ts w) going h = absurd going

  module _ (asking : Bool) where
    abbrev SoFar : Effect → Configuration → Type 0
    SoFar e c = StepEnds (pressed || (asking || move_asks s e c)) (move s (unstored globals e) c) globals d r

    abbrev Whole : Effect → Configuration → Type 0
    Whole e c = StepEnds (pressed || ((asking || move_asks s e c) || following_asks s (move s e c))) (following s (move s e c)) globals d r

    lands_so : (to : Landing) (e : Effect) (f : Fields) (c : Configuration) → Performs s asking e f (Ok (transfer.Land to)) → SoFar e c → Whole e c
    lands_so to (Lands l g) f c performs h =
        let from = with_fields g c in
        goes_so l.enters from (asking || move_asks s (Lands l g) c) (reach l.place from.flow.threads (written_in from)) tt h
    lands_so to e f c performs h = absurd performs

    calls_so : (kind : CallKind) (to : Landing) (e : Effect) (f : Fields) (c : Configuration) → Performs s asking e f (Ok (transfer.Call kind to)) → SoFar e c → Whole e c
    calls_so kind to (Calls k l g) f c performs h =
        let from = with_fields g c in
        goes_so l.enters from (asking || move_asks s (Calls k l g) c) (called k l.place from.flow.threads (written_in from)) (called_goes k l.place from.flow.threads (written_in from)) h
    calls_so kind to e f c performs h = absurd performs

module _ (s : StoryTree) (old mid new : Machine) (safely : mid.flow.safe ≡ old.flow.safe) (counted : mid.shared.counts.rows ≡ old.shared.counts.rows) (turned : mid.shared.turn ≡ old.shared.turn) (same : mid.shared.globals.rows ≡ old.shared.globals.rows)
    (kept : new.shared.globals.rows ≡ mid.shared.globals.rows) where
  pub finished : (asking : Bool) (e : Effect) → Performs s asking e (fields_of (config_of s mid)) (Ok transfer.Next) → KeepsThreads s e old.flow.threads.threads mid.flow.threads.threads → KeepsChoices s e old.flow.choices.items mid.flow.choices.items
      → StepEnds (moved_asks (next_place s) (config_of s mid).flow.threads (written_in (config_of s mid))) (going (moved_on (next_place s)) (config_of s mid)) mid.shared.globals.rows (config_of s new) (Ok ends.Went)
      → StepEnds ((asking || move_asks s e (config_of s old)) || following_asks s (move s e (config_of s old))) (following s (move s e (config_of s old))) old.shared.globals.rows (config_of s new) (Ok ends.Went)
  finished asking e performs keeps offers went =
      let before = config_of s old in
      let during = config_of s mid in
      let after = config_of s new in
      let o = move s (unstored mid.shared.globals.rows e) during in
      let whole = (asking || move_asks s e during) || following_asks s o in
      let goes = goes_on s false asking during after (Ok ends.Went) e performs (kept_stays s e old.flow.threads.threads mid.flow.threads.threads keeps) (offered_stay s e old.flow.choices.items mid.flow.choices.items offers)
      (ends_more asking _ (going (moved_on (next_place s)) during) _ after (Ok ends.Went) went) in
      let follows = follows_none s (asking || move_asks s e during) o mid.shared.globals.rows after goes in
      let stores = stores_none s asking whole (fields_of during) after (sym kept) e (following s o) ends.Went transfer.Next (λ a is. absurd cc) performs
      (subst (λ vs. StepEnds whole (following s o) vs after (Ok ends.Went)) (sym kept) follows) in
      let stored = ends_stored s mid.shared.globals.rows during (asking || move_asks s e during) e mid.shared.globals.rows after (Ok ends.Went)
      (subst (λ vs. StepEnds whole (storing_in e (following s o)) vs after (Ok ends.Went)) kept stores) in
      let moved = ends_after s old mid safely counted turned asking e mid.shared.globals.rows after (Ok ends.Went) keeps offers stored in
      subst (λ vs. StepEnds ((asking || move_asks s e before) || following_asks s (move s e before)) (following s (move s e before)) vs after (Ok ends.Went)) same moved

  -- flow is sent to a place
  module _ (pressed asking : Bool) (e : Effect) (r : Result StepEnd Fault) (keeps : KeepsThreads s e old.flow.threads.threads mid.flow.threads.threads) (offers : KeepsChoices s e old.flow.choices.items mid.flow.choices.items) where
    sent : Whole s pressed mid.shared.globals.rows (config_of s new) r asking e (config_of s mid) → Whole s pressed old.shared.globals.rows (config_of s new) r asking e (config_of s old)
    sent h =
        let globals = mid.shared.globals.rows in
        let before = config_of s old in
        let during = config_of s mid in
        let after = config_of s new in
        let together = subst (λ b. StepEnds b (following s (move s e during)) globals after r) (sym (or_whole pressed asking (move_asks s e during) (following_asks s (move s e during)))) h in
        let moved = ends_after s old mid safely counted turned (pressed || asking) e globals after r keeps offers together in
        let whole = subst (λ b. StepEnds b (following s (move s e before)) globals after r) (or_whole pressed asking (move_asks s e before) (following_asks s (move s e before))) moved in
        subst (λ vs. StepEnds (pressed || ((asking || move_asks s e before) || following_asks s (move s e before))) (following s (move s e before)) vs after r) same whole

    pub landed : (to : Landing) → Performs s asking e (fields_of (config_of s mid)) (Ok (transfer.Land to))
        → (let c = config_of s mid in StepEnds (pressed || landed_asks s to.enters c.shared.counts (reach (place_of s to.place) c.flow.threads (written_in c))) (landing_outcome s to.enters (reach (place_of s to.place)) c) mid.shared.globals.rows (config_of s new) r)
        → Whole s pressed old.shared.globals.rows (config_of s new) r asking e (config_of s old)
    landed to performs went =
        let c = config_of s mid in
        sent (lands_so s pressed mid.shared.globals.rows (config_of s new) r asking to e (fields_of c) c performs (goes_there s pressed asking c (config_of s new) r to e performs went))

    -- in a frame of its own
    pub led_in : (kind : CallKind) (to : Landing) → Performs s asking e (fields_of (config_of s mid)) (Ok (transfer.Call kind to))
        → (let c = config_of s mid in let how = called (frame_kind kind) (place_of s to.place) in
        StepEnds (pressed || (nat_lt (frame_count c.flow.threads.thread) MAX_FRAMES || landed_asks s to.enters c.shared.counts (how c.flow.threads (written_in c)))) (landing_outcome s to.enters how c) mid.shared.globals.rows (config_of s new) r)
        → Whole s pressed old.shared.globals.rows (config_of s new) r asking e (config_of s old)
    led_in kind to performs went =
        let c = config_of s mid in
        sent (calls_so s pressed mid.shared.globals.rows (config_of s new) r asking kind to e (fields_of c) c performs (goes_into s pressed asking c (config_of s new) r kind to e performs went))

-- ---- the whole step

pub leaf_there : (o : Option StoryTree) (l : Leaf) → leaf_in o ≡ Some l → Some (leaf l) ≡ o
leaf_there None l h = absurd cc
leaf_there (Some (leaf k)) l h = (let is : k ≡ l = cc in ap (λ x. Some (leaf x)) (sym is))
leaf_there (Some (container name flags content named)) l h = absurd cc

module _ (s : StoryTree) (b : Bound) (machine new : Machine) (place : Spot) (l : Leaf) (at_place : machine.flow.threads.threads.thread.frame.place ≡ Some place)
    (stands : leaf_in (at s (place_of s place)) ≡ Some l) (other : call_at (Some (leaf l)) ≡ None) (pressed : Bool) where
  more : (r : Result StepEnd Fault) (adds asking : Bool) (o : Stepped) → EndsPlainly (pressed || asking) o machine.shared.globals.rows (config_of s new) r → EndsPlainly (pressed || (adds || asking)) o machine.shared.globals.rows (config_of s new) r
  more r adds asking (Comes o) h = ends_where _ _ (or_between pressed adds asking) o machine.shared.globals.rows (config_of s new) r h
  more r adds asking (Wants name arguments f c) h = absurd h

  -- what such content does is what the step comes to
  pub passed : (r : Result StepEnd Fault)
      → (let e = effect s (place_of s place) (Some (leaf l)) (context_of (config_of s machine)) (fields_of (config_of s machine)) in
      StepEnds (pressed || acting_asks s (content_asks s (place_of s place) (Some (leaf l)) (context_of (config_of s machine)) (fields_of (config_of s machine))) e (config_of s machine)) (acted s e (config_of s machine))
      machine.shared.globals.rows (config_of s new) r)
      → EndsPlainly (pressed || asks s b (config_of s machine)) (step s b (config_of s machine)) machine.shared.globals.rows (config_of s new) r
  passed r acts =
      let p = place_of s place in
      let old = config_of s machine in
      let Ending : Bool → Stepped → Type 0 = λ asking o. EndsPlainly (pressed || asking) o machine.shared.globals.rows (config_of s new) r in
      ends_performed s b p old (ap (option_map (place_of s)) at_place) Ending p (Some (leaf l)) old (stays_in s p l stands) (leaf_there (at s p) l stands)
      (is_in s p l stands machine place at_place refl) (more r (going_in_asks s p old)) (performs_told s b Ending p (Some (leaf l)) None old other acts)

-- the step takes a value for that content, if it does for any
pub takes_here : (s : StoryTree) (c : Configuration) (p : List Part) (l : Leaf) → current_place c ≡ Some p → leaf_in (at s p) ≡ Some l → takes_first s c ≡ takes_there (Some (leaf l))
takes_here s c p l at_p stands = takes_at s p c (Some (leaf l)) at_p (ap (at s) (sym (stays_in s p l stands)) ∙ sym (leaf_there (at s p) l stands))

pub not_external : (o : Option Call) → is_some o ≡ false → o ≡ None
not_external None h = refl
not_external (Some k) h = absurd cc
