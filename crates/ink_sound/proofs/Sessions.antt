-- Every state of a session is sound and at rest.
use Rattle.std.proofs.Common.{◌≡◌, ap, sym, refl, subst, ℕ, List, [], ◌∷◌, inl, inr, Bool, true, false, bytes_eq, Option, Some, None, is_some, option_map, Result, Ok, Err, MatchBool}
use Rattle.ink_sound.proofs.Common.{Fault, chosen, jump_place, jumped, open_choice, Values, store, stored, StoryTree, Given, Data, Rests, Stands, OutOfMemory, OnlyRefuses, Configuration, can_go_on, settled, unnumbered_choice, Bindings, value_given, FallsShort, LineFallsShort, ChoosesBy, ChoosesFrom, JumpsBy, JumpsFrom, LandsFor, entering_around, visits_by, Change, Event, AsideFits, ChoiceFits, PlaceFits, Sound, ValueFits, Reply}
use Rattle.ink_model.specs.Protocol.Command as command
use Rattle.ink_model.specs.Protocol.Command.{Command, command_of}
use Rattle.ink_model.specs.Protocol.FlowCommands.{DropsBy, DropsFrom, GoesFrom}
use Rattle.ink_model.specs.Run.Flows.{Game, alone, default_flow, dropped, first_flow, flows_in, goes_to, has_room, in_flow, is_flow_name, one_flow, without_flow}
use Rattle.ink_model.specs.Run.Line.{EndsLine, line_end}
use Rattle.ink_model.specs.Variables.Named.{at}
use Rattle.ink_model.specs.Run.Opening.{Unopened, opened, opening}
use Rattle.ink_model.specs.Run.Moments.{Made, Moment, At, Stopped, Faulted, RunEnd, Kept, Broke, EndsThrough, answers_of, end_of, through}
use Rattle.ink_model.specs.Protocol.Session.{BeginsAnew, BreaksBy, Does, EndsAs, FailsToRestart, GetsFrom, Load, RestartsAs, RunsFrom, RunsLine, RunsThrough, RunsTo, Serves, Session, SetsFrom, SetsIn, TellsDone, TellsOrKeeps, VisitsBy, VisitsFrom, condition_told, settable}
use Rattle.ink_model.specs.Protocol.State.{State, Condition, Ready, Broken, in_game}
use Rattle.ink_model.specs.Protocol.Unread.{LineFails, TextFails}
use Rattle.ink_model.specs.declared.host.Given.TheVariants as given
use Rattle.ink_sound.specs.Kept.{ConditionFits, Finds, MomentFits, StateFits, StoryFits}
use Rattle.ink_sound.proofs.Beside.{saves_same}
use Rattle.ink_sound.proofs.Between.{Opens, choices_rest, chosen_rests, globals_rest, globals_sound, jumped_rests, opening_fits, settled_rests, settled_sound}
use Rattle.ink_sound.proofs.Going.{dropping_fits, first_fits, flows_fit, game_fits, going_fits, one_fits}
use Rattle.ink_sound.proofs.Places.{jump_fits}
use Rattle.ink_sound.proofs.Steps.{chosen_sound, jumped_sound, line_fits, open_finds, through_fits}
use Rattle.ink_sound.proofs.Variables.{stored_fits}

-- by a test
on_match : {P Q R : Type 0} (b : Bool) → MatchBool b P Q → (b ≡ true → P → R) → (b ≡ false → Q → R) → R
on_match true x f g = f refl x
on_match false x f g = g refl x

module _ (s : StoryTree) where
  -- ---- what is left

  along : (old new : State) → new ≡ old → StateFits s old → StateFits s new
  along old new e h = subst (StateFits s) (sym e) h

  kept : (refused : Reply) (old new : State) (reply : Reply) → OnlyRefuses refused old reply new → StateFits s old → StateFits s new
  kept refused old new reply h k = along old new h.1 k

  told_fits : (all : Bool) (done : Condition) → ConditionFits s done → ConditionFits s (condition_told all done)
  told_fits true done h = h
  told_fits false done h = tt

  done_fits : (cs : List Change) (done : Condition) (answers : List Event → Reply) (before es : List Event) (old : State) (reply : Reply) (new : State)
      → TellsDone cs done answers before es old reply new → ConditionFits s done → AsideFits s old.aside → StateFits s new
  done_fits cs done answers before es old reply new h k a = subst (StateFits s) (sym h.leaves) (record { condition = told_fits h.all done k; aside = a })

  tells_fits : (cs : List Change) (done : Condition) (es : List Event) (old : State) (reply : Reply) (new : State)
      → TellsOrKeeps cs done es old reply new → ConditionFits s done → StateFits s old → StateFits s new
  tells_fits cs done es old reply new (inl h) k o = done_fits cs done _ [] es old reply new h k o.aside
  tells_fits cs done es old reply new (inr h) k o = along old new h.2.1 o

  begins_fits : (cs : List Change) (g : Game) (es : List Event) (old : State) (reply : Reply) (new : State) → BeginsAnew cs g es old reply new → Stands s g → StateFits s old → StateFits s new
  begins_fits cs g es old reply new (inl h) k o = done_fits cs (Ready g.now) _ [] es (record old { aside = g.aside }) reply new h (k.sound, k.rests) k.aside
  begins_fits cs g es old reply new (inr h) k o = along old new h.2.1 o

  broken_fits : (f : Fault) (globals : Values) (before es : List Event) (old : State) (reply : Reply) (new : State) → BreaksBy f globals before es old reply new → AsideFits s old.aside → StateFits s new
  broken_fits f globals before es old reply new h a = subst (StateFits s) (sym h.2) (record { condition = tt; aside = a })

  -- ---- choosing and jumping

  lands_fits : (c : Configuration) (old : State) (reply : Reply) (new : State) → LandsFor s c old reply new → ConditionFits s (Ready (entering_around s c)) → StateFits s old → StateFits s new
  lands_fits c old reply new (inl h) k o = subst (StateFits s) (sym h.1) (record { condition = k; aside = o.aside })
  lands_fits c old reply new (inr h) k o = along old new h.1.1 o

  choose_fits : (n : ℕ) (k : Condition) (old : State) (reply : Reply) (new : State) → ChoosesFrom s n k old reply new → ConditionFits s k → StateFits s old → StateFits s new
  choose_fits n (Broken f globals) old reply new h k o = kept _ old new reply h o
  choose_fits n (Ready c) old reply new h k o =
      (elim (open_choice n c) as (λ choice. Finds (ChoiceFits s) choice → Finds (λ choice. unnumbered_choice choice ≡ choice) choice → ChoosesBy s choice c old reply new → StateFits s new) [
        | None ↦ λ x y g. kept _ old new reply g o
        | Some choice ↦ λ x y g. lands_fits (chosen choice c) old reply new g (chosen_sound s choice c x k.0, chosen_rests s choice c y k.1) o
      ]) (open_finds (ChoiceFits s) n c k.0.flow.choices.each) (open_finds (λ choice. unnumbered_choice choice ≡ choice) n c (choices_rest c k.1)) h

  jump_fits_from : (path : List ℕ) (k : Condition) (old : State) (reply : Reply) (new : State) → JumpsFrom s path k old reply new → ConditionFits s k → StateFits s old → StateFits s new
  jump_fits_from path (Broken f globals) old reply new h k o = kept _ old new reply h o
  jump_fits_from path (Ready c) old reply new h k o = (elim (jump_place s path) as (λ q. Finds (PlaceFits s) q → JumpsBy s q c old reply new → StateFits s new) [
    | None ↦ λ x g. kept _ old new reply g o
    | Some q ↦ λ x g. lands_fits (jumped q c) old reply new g (jumped_sound s q c x k.0, jumped_rests s q c k.1) o
  ]) (jump_fits s path) h

  -- ---- setting

  settable_fits : (g : Given) → settable g ≡ true → ValueFits s (value_given g)
  settable_fits (given.Int z) e = e
  settable_fits (given.Text t) e = e
  settable_fits g e = tt

  sets_fits : (h : Bindings) (name : List ℕ) (g : Given) (c : Configuration) (es : List Event) (old : State) (reply : Reply) (new : State)
      → SetsIn h name g c es old reply new → Sound s c → Rests c → StateFits s old → StateFits s new
  sets_fits h name g c es old reply new does sound rests o = on_match (settable g) does
      (λ e x. on_match (is_some (stored name c.shared.globals)) x (λ _ y. tells_fits _ _ es old reply new y (
        globals_sound s (store name (value_given g) c.shared.globals) c (stored_fits s name (value_given g) c.shared.globals (settable_fits g e) sound.shared.globals) sound,
        globals_rest (store name (value_given g) c.shared.globals) c rests,
      ) o) (λ _ y. kept _ old new reply y.1 o)) (λ _ x. kept _ old new reply x.1 o)

  set_fits : (h : Bindings) (name : List ℕ) (value : Option Given) (k : Condition) (es : List Event) (old : State) (reply : Reply) (new : State)
      → SetsFrom h name value k es old reply new → ConditionFits s k → StateFits s old → StateFits s new
  set_fits h name value (Broken f globals) es old reply new does k o = kept _ old new reply does.1 o
  set_fits h name None (Ready c) es old reply new does k o = kept _ old new reply does.1 o
  set_fits h name (Some g) (Ready c) es old reply new does k o = sets_fits h name g c es old reply new does k.0 k.1 o

  -- ---- questions

  get_fits : (v : Option _) (old : State) (reply : Reply) (new : State) → GetsFrom v old reply new → StateFits s old → StateFits s new
  get_fits None old reply new h o = kept _ old new reply h o
  get_fits (Some v) old reply new (inl h) o = kept _ old new reply h o
  get_fits (Some v) old reply new (inr h) o = kept _ old new reply h.1 o

  visits_fit : (path : List ℕ) (k : Condition) (old : State) (reply : Reply) (new : State) → VisitsFrom s path k old reply new → StateFits s old → StateFits s new
  visits_fit path (Broken f globals) old reply new h o = kept _ old new reply h o
  visits_fit path (Ready c) old reply new h o =
      (elim (visits_by s path c) as (λ z. VisitsBy z old reply new → StateFits s new) [ None ↦ λ x. kept _ old new reply x o | Some z ↦ λ x. kept _ old new reply x o ]) h

  -- ---- loading

  load_fits : (h : Bindings) (es : List Event) (saved : Option Data) (old : State) (reply : Reply) (new : State) → Load s h es saved old reply new → StateFits s old → StateFits s new
  load_fits h es None old reply new x o = kept _ old new reply x.1 o
  load_fits h es (Some j) old reply new (inl x) o = begins_fits _ x.loaded es old reply new x.tells x.reads.stands o
  load_fits h es (Some j) old reply new (inr (inl x)) o = kept _ old new reply x.2 o
  load_fits h es (Some j) old reply new (inr (inr x)) o = kept _ old new reply x.2 o

  -- ---- flows

  abbrev here : Configuration → State → Game
  here c old = record { now = c; aside = old.aside }

  in_game_fits : (g : Game) (old new : State) → new ≡ in_game g old → Stands s g → StateFits s new
  in_game_fits g old new e k = subst (StateFits s) (sym e) (record { condition = (k.sound, k.rests); aside = k.aside })

  goes_fit : (name : List ℕ) (k : Condition) (old : State) (reply : Reply) (new : State) → GoesFrom s name k old reply new → ConditionFits s k → StateFits s old → StateFits s new
  goes_fit name (Broken f globals) old reply new h k o = kept _ old new reply h o
  goes_fit name (Ready c) old reply new h k o =
      let stands : Stands s (here c old) = record { sound = k.0; rests = k.1; aside = o.aside } in
      on_match (is_flow_name name) h (λ named x. on_match (has_room name old.aside) x (λ room y. elim y [
        | inl z ↦ in_game_fits (in_flow s name (here c old)) old new z.1 (game_fits s (here c old) (goes_to (first_flow s) name (flows_in (here c old)))
            (going_fits s (first_flow s) name (flows_in (here c old)) (first_fits s) named room (flows_fit s (here c old) stands)) stands)
        | inr z ↦ kept _ old new reply z.1 o
      ]) (λ _ y. kept _ old new reply y o)) (λ _ x. kept _ old new reply x o)

  drops_fit : (name : List ℕ) (k : Condition) (old : State) (reply : Reply) (new : State) → DropsFrom s name k old reply new → ConditionFits s k → StateFits s old → StateFits s new
  drops_fit name (Broken f globals) old reply new h k o = kept _ old new reply h o
  drops_fit name (Ready c) old reply new h k o = (elim (at name old.aside) as (λ there. DropsBy s name there (here c old) old reply new → StateFits s new) [
    | None ↦ λ x. kept _ old new reply x o
    | Some f ↦ λ x. on_match (bytes_eq name default_flow) x (λ _ y. kept _ old new reply y o) (λ e y.
        let stands : Stands s (here c old) = record { sound = k.0; rests = k.1; aside = o.aside } in
        in_game_fits (without_flow s name (here c old)) old new y.1 (game_fits s (here c old) (dropped (first_flow s) name (flows_in (here c old)))
        (dropping_fits s (first_flow s) name (flows_in (here c old)) (first_fits s) e (flows_fit s (here c old) stands)) stands))
  ]) h

  module _ (story : StoryFits s) (h : Bindings) where
    -- ---- running

    -- what is kept at the end of a run
    abbrev EndFits : RunEnd → Type 0
    EndFits (Kept c) = Sound s c
    EndFits (Broke f globals) = Unit {0}

    abbrev ended : RunEnd → List Made → Option (RunEnd × List Made)
    ended end made = Some (end, made)

    same_end : (end other : RunEnd) (calls made : List Made) → ended end calls ≡ ended other made → end ≡ other
    same_end end other calls made e = let ends : Some end ≡ Some other = ap (option_map (λ (r : RunEnd × List Made). r.0)) e in cc

    end_fits : (m : Moment) (end : RunEnd) (made : List Made) → end_of m ≡ Some (end, made) → MomentFits s m → EndFits end
    end_fits (Stopped c [] calls) end made e h = subst EndFits (same_end (Kept c) end calls made e) h
    end_fits (Faulted f c [] calls) end made e h = subst EndFits (same_end (Broke f c.shared.globals) end calls made e) tt
    end_fits m end made e h = absurd cc

    ends_fit : (start : Values) (end : RunEnd) (made : List Made) (es : List Event) (old : State) (reply : Reply) (new : State) → EndsAs h start end made es old reply new → EndFits end → AsideFits s old.aside
        → StateFits s new
    ends_fit start (Kept c) made es old reply new (inl x) k a = done_fits _ (Ready (settled c)) _ _ es old reply new x (settled_sound s c k, settled_rests c) a
    ends_fit start (Kept c) made es old reply new (inr x) k a = broken_fits _ _ _ es old reply new x.1 a
    ends_fit start (Broke f globals) made es old reply new x k a = broken_fits f globals _ es old reply new x a

    line_end_fits : (m : Moment) (end : RunEnd) (made : List Made) → line_end m ≡ Some (end, made) → MomentFits s m → EndFits end
    line_end_fits (At c [] calls) end made e h = subst EndFits (same_end (Kept c) end calls made e) h
    line_end_fits m end made e h = end_fits m end made e h

    through_end : (c : Configuration) (made : List Made) (end : RunEnd) → EndsThrough s h.functions c made end → Sound s c → EndFits end
    through_end c made end x k = end_fits (through s h.functions c (answers_of made)) end made x (through_fits s story h.functions c (answers_of made) k)

    line_fits_end : (c : Configuration) (made : List Made) (end : RunEnd) → EndsLine s h.functions c made end → Sound s c → EndFits end
    line_fits_end c made end (m, line, x) k = line_end_fits m end made x (line_fits s story h.functions c (answers_of made) m line k)

    runs_to_fit : (Ends : RunEnd → Type 0) (FallShort : Values → Type 0) (c : Configuration) (made : List Made) (es : List Event) (old : State) (reply : Reply) (new : State)
        → RunsTo Ends FallShort h c made es old reply new → ((end : RunEnd) → Ends end → EndFits end) → AsideFits s old.aside → StateFits s new
    runs_to_fit Ends FallShort c made es old reply new (inl x) fits a = ends_fit c.shared.globals x.0 made es old reply new x.2 (fits x.0 x.1) a
    runs_to_fit Ends FallShort c made es old reply new (inr x) fits a = broken_fits OutOfMemory x.0 _ es old reply new x.2 a

    runs_from_fit : (Runs : Configuration → List Made → List Event → State → Reply → State → Type 0) (es : List Event) (k : Condition) (old : State) (reply : Reply) (new : State)
        → RunsFrom Runs es k old reply new → ((c : Configuration) (made : List Made) → Sound s c → Runs c made es old reply new → StateFits s new)
        → ConditionFits s k → StateFits s old → StateFits s new
    runs_from_fit Runs es (Broken f globals) old reply new does fits k o = kept _ old new reply does.1 o
    runs_from_fit Runs es (Ready c) old reply new does fits k o = on_match (can_go_on c) does (λ _ x. fits c x.0 k.0 x.1) (λ _ x. kept _ old new reply x.1 o)

    fails_fit : (f : Fault) (globals : Values) (es : List Event) (old : State) (reply : Reply) (new : State) → FailsToRestart f globals es old reply new → StateFits s old → StateFits s new
    fails_fit OutOfMemory globals es old reply new x o = along old new x.1.1 o
    fails_fit f globals es old reply new x o = broken_fits f globals [] es (record old { aside = one_flow }) reply new x (one_fits s)

    restarts_fit : (r : Result Configuration Unopened) (es : List Event) (old : State) (reply : Reply) (new : State) → RestartsAs h r es old reply new → Opens s r → StateFits s old → StateFits s new
    restarts_fit (Ok c) es old reply new does k o = begins_fits _ (alone c) es old reply new does (record { sound = k.0; rests = k.1; aside = one_fits s }) o
    restarts_fit (Err e) es old reply new does k o = fails_fit e.fault e.globals es old reply new does o

    -- ---- commands and sessions

    pub does_fit : (es : List Event) (c : Option Command) (old : State) (reply : Reply) (new : State) → Does s h es c old reply new → StateFits s old → StateFits s new
    does_fit es None old reply new does o = kept _ old new reply does.1 o
    does_fit es (Some command.Continue) old reply new does o = runs_from_fit (RunsLine s h) es old.condition old reply new does
        (λ c made k x. runs_to_fit (EndsLine s h.functions c made) (LineFallsShort s h.functions c made) c made es old reply new x (λ end y. line_fits_end c made end y k) o.aside) o.condition o
    does_fit es (Some command.Through) old reply new does o = runs_from_fit (RunsThrough s h) es old.condition old reply new does
        (λ c made k x. runs_to_fit (EndsThrough s h.functions c made) (FallsShort s h.functions c made) c made es old reply new x (λ end y. through_end c made end y k) o.aside) o.condition o
    does_fit es (Some (command.Set name value)) old reply new does o = set_fits h name value old.condition es old reply new does o.condition o
    does_fit es (Some (command.Get name)) old reply new does o = get_fits _ old reply new does.1 o
    does_fit es (Some (command.Visits path)) old reply new does o = visits_fit path old.condition old reply new does.1 o
    does_fit es (Some (command.Choose number)) old reply new does o = choose_fits number old.condition old reply new does.1 o.condition o
    does_fit es (Some (command.Jump path)) old reply new does o = jump_fits_from path old.condition old reply new does.1 o.condition o
    does_fit es (Some command.Save) old reply new does o = along old new (saves_same old.condition old reply new does.1) o
    does_fit es (Some (command.Load saved)) old reply new does o = load_fits h es saved old reply new does o
    does_fit es (Some command.Restart) old reply new (inl does) o = restarts_fit (opening s) es old reply new does (opening_fits s story) o
    does_fit es (Some command.Restart) old reply new (inr does) o = along old new does.2.1 o
    does_fit es (Some (command.Flow name)) old reply new does o = goes_fit name old.condition old reply new does.1 o.condition o
    does_fit es (Some (command.Drop name)) old reply new does o = drops_fit name old.condition old reply new does.1 o.condition o

    text_fails : (c : Option Command) (old : State) (reply : Reply) (new : State) → TextFails c old reply new → new ≡ old
    text_fails (Some (command.Visits path)) old reply new x = x.1.1
    text_fails (Some (command.Jump path)) old reply new x = x.1.1
    text_fails (Some (command.Load saved)) old reply new x = x.1
    text_fails c old reply new x = absurd x

    line_fails : (line : List ℕ) (old : State) (reply : Reply) (new : State) → LineFails line old reply new → new ≡ old
    line_fails line old reply new (inl x) = x.1.1
    line_fails line old reply new (inr x) = text_fails (command_of line) old reply new x

    pub serves_fit : (es : List Event) (line : List ℕ) (old : State) (reply : Reply) (new : State) → Serves s h es line old reply new → StateFits s old → StateFits s new
    unfolding Serves
    serves_fit es line old reply new (inl does) o = does_fit es (command_of line) old reply new does o
    serves_fit es line old reply new (inr fails) o = along old new (line_fails line old reply new fails.1) o

    -- a session leads from sound states to sound states
    pub session_fits : (es : List Event) (lines : List (List ℕ)) (old : State) (written : List ℕ) (new : State) → Session s h es lines old written new → StateFits s old → StateFits s new
    session_fits es [] old written new x o = along old new x.2 o
    session_fits es (line ∷ lines) old written new x o = session_fits x.4 lines x.1 x.2 new x.8 (serves_fit x.3 line old x.0 x.1 x.6 o)

module _ (s : StoryTree) (story : StoryFits s) (c : Configuration) (opens : opening s ≡ Ok c) where
  pub opened_fits : StateFits s (opened c)
  opened_fits = record { condition = subst (Opens s) opens (opening_fits s story); aside = one_fits s }

  -- every state of a session
  pub session_states : (h : Bindings) (es : List Event) (lines : List (List ℕ)) (written : List ℕ) (new : State) → Session s h es lines (opened c) written new → StateFits s new
  session_states h es lines written new x = session_fits s story h es lines (opened c) written new x opened_fits
