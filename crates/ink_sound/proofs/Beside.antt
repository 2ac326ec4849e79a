-- What commands do to the flows that stand aside, and that those make no difference to most.
use Rattle.std.proofs.Common.{◌≡◌, ap, refl, true, ℕ, List, [], inl, inr, Bool, false, Option, Some, None, is_some, Result, Ok, Err, MatchBool}
use Rattle.ink_sound.proofs.Common.{chosen, jump_place, jumped, open_choice, Values, stored, StoryTree, Fault, Given, Data, OnlyRefuses, Configuration, can_go_on, settled, Bindings, FallsShort, LineFallsShort, ChoosesBy, ChoosesFrom, JumpsBy, JumpsFrom, LandsFor, visits_by, OutOfMemory, Change, Event, Reply}
use Rattle.ink_model.specs.Protocol.Command as command
use Rattle.ink_model.specs.Protocol.Command.{Command}
use Rattle.ink_model.specs.Run.Flows.{Aside, Game, alone}
use Rattle.ink_model.specs.Run.Line.{EndsLine}
use Rattle.ink_model.specs.Run.Opening.{Unopened, opening}
use Rattle.ink_model.specs.Run.Moments.{Made, RunEnd, Kept, Broke, EndsThrough}
use Rattle.ink_model.specs.Protocol.Session.{BeginsAnew, BreaksBy, Does, EndsAs, FailsToRestart, GetsFrom, Load, RestartsAs, RunsFrom, RunsLine, RunsThrough, RunsTo, SavesFrom, SetsFrom, SetsIn, TellsDone, TellsOrKeeps, VisitsBy, VisitsFrom, settable}
use Rattle.ink_model.specs.Protocol.State.{State, Condition, Ready, Broken}
use Rattle.ink_sound.specs.Beside.{keeps_flows, shows_no_flows}

-- by a test, whose two sides keep K
on_match : {K P Q R S : Type 0} (b : Bool) → MatchBool b P Q → (P → K × R) → (Q → K × S) → K × MatchBool b R S
on_match true x f g = f x
on_match false x f g = g x

pub saves_same : (k : Condition) (old : State) (reply : Reply) (new : State) → SavesFrom k old reply new → new ≡ old
saves_same (Broken f globals) old reply new x = x.1
saves_same (Ready c) old reply new (inl x) = x.1
saves_same (Ready c) old reply new (inr x) = x.1

module _ (s : StoryTree) (h : Bindings) (others : Aside) where
  -- the same with these flows aside
  abbrev beside : State → State
  beside st = record st { aside = others }

  -- the flows aside are as they were, and the same holds beside others
  abbrev Stays : State → State → Type 0 → Type 0
  Stays old new P = (new.aside ≡ old.aside) × P

  module _ (es : List Event) (reply : Reply) where
    -- ---- what is left

    kept : (refused : Reply) (old new : State) → OnlyRefuses refused old reply new → Stays old new (OnlyRefuses refused (beside old) reply (beside new))
    kept refused old new x = (ap (λ st. st.aside) x.1, (x.0, ap beside x.1))

    refused_with : (refused : Reply) (old new : State) → (es ≡ []) × OnlyRefuses refused old reply new → Stays old new ((es ≡ []) × OnlyRefuses refused (beside old) reply (beside new))
    refused_with refused old new x = ((kept refused old new x.1).0, (x.0, (kept refused old new x.1).1))

    broken_by : (f : Fault) (globals : Values) (before : List Event) (old new : State) → BreaksBy f globals before es old reply new
        → Stays old new (BreaksBy f globals before es (beside old) reply (beside new))
    broken_by f globals before old new x = (ap (λ st. st.aside) x.2, (x.0, x.1, ap beside x.2))

    done_with : (cs : List Change) (done : Condition) (answers : List Event → Reply) (before : List Event) (old new : State) → TellsDone cs done answers before es old reply new
        → Stays old new (TellsDone cs done answers before es (beside old) reply (beside new))
    done_with cs done answers before old new x =
        (ap (λ st. st.aside) x.leaves, record { all = x.all; saw = x.saw; telling = x.telling; events = x.events; replies = x.replies; leaves = ap beside x.leaves })

    tells : (cs : List Change) (done : Condition) (old new : State) → TellsOrKeeps cs done es old reply new → Stays old new (TellsOrKeeps cs done es (beside old) reply (beside new))
    tells cs done old new (inl x) = let y = done_with cs done _ [] old new x in (y.0, inl y.1)
    tells cs done old new (inr x) = let y = kept _ old new x.2 in (y.0, inr (x.0, x.1, y.1))

    -- ---- choosing and jumping

    lands : (c : Configuration) (old new : State) → LandsFor s c old reply new → Stays old new (LandsFor s c (beside old) reply (beside new))
    lands c old new (inl x) = (ap (λ st. st.aside) x.1, inl (x.0, ap beside x.1))
    lands c old new (inr x) = let y = kept _ old new x.1 in (y.0, inr (x.0, y.1))

    chooses : (n : ℕ) (k : Condition) (old new : State) → ChoosesFrom s n k old reply new → Stays old new (ChoosesFrom s n k (beside old) reply (beside new))
    chooses n (Broken f globals) old new x = kept _ old new x
    chooses n (Ready c) old new x = (elim (open_choice n c) as (λ o. ChoosesBy s o c old reply new → Stays old new (ChoosesBy s o c (beside old) reply (beside new)))
        [ None ↦ kept _ old new | Some choice ↦ lands (chosen choice c) old new ]) x

    jumps : (path : List ℕ) (k : Condition) (old new : State) → JumpsFrom s path k old reply new → Stays old new (JumpsFrom s path k (beside old) reply (beside new))
    jumps path (Broken f globals) old new x = kept _ old new x
    jumps path (Ready c) old new x = (elim (jump_place s path) as (λ o. JumpsBy s o c old reply new → Stays old new (JumpsBy s o c (beside old) reply (beside new)))
        [ None ↦ kept _ old new | Some q ↦ lands (jumped q c) old new ]) x

    -- ---- setting and asking

    sets_in : (name : List ℕ) (g : Given) (c : Configuration) (old new : State) → SetsIn h name g c es old reply new → Stays old new (SetsIn h name g c es (beside old) reply (beside new))
    sets_in name g c old new x =
        on_match (settable g) x (λ y. on_match (is_some (stored name c.shared.globals)) y (tells _ _ old new) (refused_with _ old new)) (refused_with _ old new)

    sets : (name : List ℕ) (value : Option Given) (k : Condition) (old new : State) → SetsFrom h name value k es old reply new
        → Stays old new (SetsFrom h name value k es (beside old) reply (beside new))
    sets name value (Broken f globals) old new x = refused_with _ old new x
    sets name None (Ready c) old new x = refused_with _ old new x
    sets name (Some g) (Ready c) old new x = sets_in name g c old new x

    gets : (v : Option _) (old new : State) → GetsFrom v old reply new → Stays old new (GetsFrom v (beside old) reply (beside new))
    gets None old new x = kept _ old new x
    gets (Some v) old new (inl x) = let y = kept _ old new x in (y.0, inl y.1)
    gets (Some v) old new (inr x) = let y = kept _ old new x.1 in (y.0, inr (x.0, y.1))

    visits : (path : List ℕ) (k : Condition) (old new : State) → VisitsFrom s path k old reply new → Stays old new (VisitsFrom s path k (beside old) reply (beside new))
    visits path (Broken f globals) old new x = kept _ old new x
    visits path (Ready c) old new x = (elim (visits_by s path c) as (λ z. VisitsBy z old reply new → Stays old new (VisitsBy z (beside old) reply (beside new)))
        [ None ↦ kept _ old new | Some z ↦ kept _ old new ]) x

    -- ---- running

    ends : (start : Values) (end : RunEnd) (made : List Made) (old new : State) → EndsAs h start end made es old reply new → Stays old new (EndsAs h start end made es (beside old) reply (beside new))
    ends start (Kept c) made old new (inl x) = let y = done_with _ (Ready (settled c)) _ _ old new x in (y.0, inl y.1)
    ends start (Kept c) made old new (inr x) = let y = broken_by _ _ _ old new x.1 in (y.0, inr (x.0, y.1))
    ends start (Broke f globals) made old new x = broken_by f globals _ old new x

    runs_to : (Ends : RunEnd → Type 0) (FallShort : Values → Type 0) (c : Configuration) (made : List Made) (old new : State) → RunsTo Ends FallShort h c made es old reply new
        → Stays old new (RunsTo Ends FallShort h c made es (beside old) reply (beside new))
    runs_to Ends FallShort c made old new (inl x) = let y = ends c.shared.globals x.0 made old new x.2 in (y.0, inl (x.0, x.1, y.1))
    runs_to Ends FallShort c made old new (inr x) = let y = broken_by OutOfMemory x.0 _ old new x.2 in (y.0, inr (x.0, x.1, y.1))

    runs : (Runs : Configuration → List Made → List Event → State → Reply → State → Type 0) (k : Condition) (old new : State)
        → ((c : Configuration) (made : List Made) → Runs c made es old reply new → Stays old new (Runs c made es (beside old) reply (beside new)))
        → RunsFrom Runs es k old reply new → Stays old new (RunsFrom Runs es k (beside old) reply (beside new))
    runs Runs (Broken f globals) old new on x = refused_with _ old new x
    runs Runs (Ready c) old new on x = on_match (can_go_on c) x (λ y. let z = on c y.0 y.1 in (z.0, (y.0, z.1))) (refused_with _ old new)

    -- ---- what begins anew

    -- a command does this from a state beside others too, and leaves the same but for the flows aside
    record DoesSo (Leads : State → Type 0) (new : State) : Type 0 where
      after : State
      leads : Leads after
      condition : after.condition ≡ new.condition
      stamp : after.stamp ≡ new.stamp

    staying : (Leads : State → Type 0) (old new : State) → Stays old new (Leads (beside new)) → DoesSo Leads new
    staying Leads old new x = record { after = beside new; leads = x.1; condition = refl; stamp = refl }

    begins : (cs : List Change) (g : Game) (old new : State) → BeginsAnew cs g es old reply new → DoesSo (λ st. BeginsAnew cs g es (beside old) reply st) new
    begins cs g old new (inl x) = record { after = new; leads = inl x; condition = refl; stamp = refl }
    begins cs g old new (inr x) = let y = kept _ old new x.2 in staying _ old new (y.0, inr (x.0, x.1, y.1))

    loads : (saved : Option Data) (old new : State) → Load s h es saved old reply new → DoesSo (λ st. Load s h es saved (beside old) reply st) new
    loads None old new x = staying _ old new (refused_with _ old new x)
    loads (Some j) old new (inl x) =
        let y = begins _ x.loaded old new x.tells in
        record { after = y.after; leads = inl (record { loaded = x.loaded; reads = x.reads; tells = y.leads }); condition = y.condition; stamp = y.stamp }
    loads (Some j) old new (inr (inl x)) = let y = kept _ old new x.2 in staying _ old new (y.0, inr (inl (x.0, x.1, y.1)))
    loads (Some j) old new (inr (inr x)) = let y = kept _ old new x.2 in staying _ old new (y.0, inr (inr (x.0, x.1, y.1)))

    fails : (f : Fault) (globals : Values) (old new : State) → FailsToRestart f globals es old reply new → DoesSo (λ st. FailsToRestart f globals es (beside old) reply st) new
    fails OutOfMemory globals old new x = staying _ old new (refused_with _ old new x)
    fails f globals old new x = record { after = new; leads = x; condition = refl; stamp = refl }

    restarts : (r : Result Configuration Unopened) (old new : State) → RestartsAs h r es old reply new → DoesSo (λ st. RestartsAs h r es (beside old) reply st) new
    restarts (Ok c) old new x = begins _ (alone c) old new x
    restarts (Err e) old new x = fails e.fault e.globals old new x

    -- ---- commands

    does_stay : (k : Option Command) (old new : State) → Does s h es k old reply new → keeps_flows k ≡ true → shows_no_flows k ≡ true → Stays old new (Does s h es k (beside old) reply (beside new))
    does_stay None old new x e d = refused_with _ old new x
    does_stay (Some command.Continue) old new x e d = runs (RunsLine s h) old.condition old new (λ c made y. runs_to (EndsLine s h.functions c made) (LineFallsShort s h.functions c made) c made old new y) x
    does_stay (Some command.Through) old new x e d = runs (RunsThrough s h) old.condition old new (λ c made y. runs_to (EndsThrough s h.functions c made) (FallsShort s h.functions c made) c made old new y) x
    does_stay (Some (command.Set name value)) old new x e d = sets name value old.condition old new x
    does_stay (Some (command.Get name)) old new x e d = let y = gets _ old new x.1 in (y.0, (x.0, y.1))
    does_stay (Some (command.Visits path)) old new x e d = let y = visits path old.condition old new x.1 in (y.0, (x.0, y.1))
    does_stay (Some (command.Choose number)) old new x e d = let y = chooses number old.condition old new x.1 in (y.0, (x.0, y.1))
    does_stay (Some (command.Jump path)) old new x e d = let y = jumps path old.condition old new x.1 in (y.0, (x.0, y.1))
    does_stay k old new x e d = absurd cc

    does_so : (k : Option Command) (old new : State) → Does s h es k old reply new → shows_no_flows k ≡ true → DoesSo (λ st. Does s h es k (beside old) reply st) new
    does_so (Some (command.Load saved)) old new x e = loads saved old new x
    does_so (Some command.Restart) old new (inl x) e =
        let y = restarts (opening s) old new x in record { after = y.after; leads = inl y.leads; condition = y.condition; stamp = y.stamp }
    does_so (Some command.Restart) old new (inr x) e = let y = kept _ old new x.2 in staying _ old new (y.0, inr (x.0, x.1, y.1))
    does_so (Some (command.Flow name)) old new x e = absurd cc
    does_so (Some (command.Drop name)) old new x e = absurd cc
    does_so k old new x e = staying _ old new (does_stay k old new x refl e)

    does_keep : (k : Option Command) (old new : State) → Does s h es k old reply new → keeps_flows k ≡ true → new.aside ≡ old.aside
    does_keep (Some command.Save) old new x e = ap (λ st. st.aside) (saves_same old.condition old reply new x.1)
    does_keep (Some (command.Flow name)) old new x e = absurd cc
    does_keep (Some (command.Drop name)) old new x e = absurd cc
    does_keep k old new x e = (does_stay k old new x e refl).0

-- a command that goes to no flow, drops none and does not begin anew
pub flows_stay_by : (s : StoryTree) (h : Bindings) (es : List Event) (k : Option Command) (old : State) (reply : Reply) (new : State)
    → Does s h es k old reply new → keeps_flows k ≡ true → new.aside ≡ old.aside
flows_stay_by s h es k old reply new x e = does_keep s h old.aside es reply k old new x e

-- one that does not save, goes to no flow and drops none
pub does_beside : (s : StoryTree) (h : Bindings) (es : List Event) (k : Option Command) (old : State) (reply : Reply) (new : State)
    → Does s h es k old reply new → shows_no_flows k ≡ true → (others : Aside)
    → (after : State) × Does s h es k (record old { aside = others }) reply after × (after.condition ≡ new.condition) × (after.stamp ≡ new.stamp)
does_beside s h es k old reply new x e others = let y = does_so s h others es reply k old new x e in (y.after, y.leads, y.condition, y.stamp)
