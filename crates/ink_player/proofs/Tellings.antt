-- What a command comes to that may call or tell the objects of a host.
use Rattle.std.proofs.Common.{◌≡◌, ◌≢◌, ◌⊎◌, ◌∙◌, ap, sym, refl, subst, inl, inr, ℕ, ℤ, List, [], ◌∷◌, ◌++◌, Bool, true, false, bytes_eq, ◌||◌, if◌then◌else◌, Option, Some, None, IfSome, is_some, Result, Ok, Err, IfOk, OnOk, OnErr, is_ok, MatchBool, append-nil}
use Rattle.ink_commands.specs.States.{at_stamp, condition_by}
use Rattle.ink_commands.specs.Visits.{FindsVisits, TellsVisits}
use Rattle.ink_commands.proofs.Paths.{was_found, was_not_found}
use Rattle.ink_host.specs.Desk.{DeskView, Grew, Resting, Rows, at, bound_by, each, put, watches, without}
use Rattle.ink_player.proofs.Common.{Called, Extent, Bindings, value_given, Values, store, stored, StoryTree, Fault, OutOfMemory, Refusal, Change, Event, Given, Machine}
use Rattle.ink_effects.proofs.Bools.{same_fault}
use Rattle.ink_host.specs.Telling.{IsRound, Watching, log_of, rests}
use Rattle.ink_host.proofs.Laws.{bound-same, grew-grew, grew-none, watches-same}
use Rattle.ink_look.specs.Ends.{EndsWith}
use Rattle.ink_look.specs.Extents.{EndsBy, FallsShortBy, RunsBy}
use Rattle.ink_model.specs.Protocol.Answer.{Reply, Acts, Breaks, Counts, Refuses, Tells, reply_of_visits}
use Rattle.ink_model.specs.Run.Configuration.{Configuration, can_go_on, settled, with_globals}
use Rattle.ink_model.specs.Host.Events.{Made, calls, later}
use Rattle.ink_model.specs.Run.Flows.{Aside}
use Rattle.ink_model.specs.Choices.Making.{has_any}
use Rattle.ink_model.specs.Protocol.Passage.{passage, passage_asks}
use Rattle.ink_model.specs.Run.Moments as run
use Rattle.ink_model.specs.Run.Visits.{visits_by}
use Rattle.ink_model.specs.Protocol.Session as rules
use Rattle.ink_model.specs.Protocol.Session.{BreaksBy, FailsAllocation, OnlyRefuses, RunsTo, Set, SetsIn, TellsDone, TellsOrKeeps, condition_told, reply_told, settable, telling}
use Rattle.ink_model.specs.Protocol.State.{State, Condition, Ready, Broken, globals_of}
use Rattle.ink_model.specs.Host.Told.{ToldAs, told}
use Rattle.ink_model.specs.declared.fault.Refusal.TheVariants as refusal
use Rattle.ink_model.specs.declared.passage.Passage.{Passage}
use Rattle.ink_model.specs.declared.value.Value.{Value}
use Rattle.ink_player.specs.Extents.{GoesFrom, GoesOn}
use Rattle.ink_player.specs.Standing.{DeliveredByRun, DeliveredOnce, PlayerView, TellsOnce, all_told, aside_seen, bindings, desk_of, fault_told, is_empty, state_of, story_of, told_from}
use Rattle.ink_step.specs.Standing.{aside_in, aside_of, config_of}

-- ---- the globals of a player

-- of a broken one too
pub globals-by : (b : Option Fault) (c : Configuration) → globals_of (condition_by b c) ≡ c.shared.globals
globals-by None c = refl
globals-by (Some f) c = refl

-- and of one whose watchers were told
pub globals-told : (all : Bool) (c : Configuration) → globals_of (condition_told all (Ready c)) ≡ c.shared.globals
globals-told true c = refl
globals-told false c = refl

-- it is broken where not all of them found memory
pub condition-told : (all : Bool) (c : Configuration) → condition_by (fault_told all None) c ≡ condition_told all (Ready c)
condition-told true c = refl
condition-told false c = refl

-- and its answer says so
done-told : (all : Bool) (reply : Reply) (es : List Event) → all_told reply ≡ Some true → all_told (reply_told all reply es) ≡ Some all
done-told true reply es h = h
done-told false reply es h = refl

-- ---- commands over a state

-- a passage with what happened
abbrev telling_of : Passage → List Event → Reply
telling_of p es = Tells (record p { events = es })

module _ (s : StoryTree) (h : Bindings) (b : Option Fault) (c : Configuration) (a : Aside) (n : ℕ) where
  abbrev start : State
  start = at_stamp (condition_by b c) a n

  pub goes-broken : (x : Extent) (f : Fault) → b ≡ Some f → GoesOn x s h [] start (Refuses (refusal.Broken f)) start
  goes-broken x f e = subst (λ y. GoesOn x s h [] (at_stamp (condition_by y c) a n) (Refuses (refusal.Broken f)) (at_stamp (condition_by y c) a n)) (sym e) (refl, (refl, refl))

  -- from a player that is not broken
  module _ (x : Extent) (es : List Event) (reply : Reply) (new : State) where
    abbrev GoesWhere : Bool → Type 0
    GoesWhere goes = MatchBool goes ((made : List Made) × RunsTo (EndsBy x s h.functions c made) (FallsShortBy x s h.functions c made) h c made es start reply new)
        ((es ≡ []) × OnlyRefuses (Refuses refusal.CannotContinue) start reply new)

    -- by whether flow can go on
    pub goes-where : (goes : Bool) → b ≡ None → can_go_on c ≡ goes → GoesWhere goes → GoesOn x s h es start reply new
    goes-where goes free e p = subst (λ y. GoesFrom x s h es (condition_by y c) start reply new) (sym free) (subst (λ y. GoesWhere y) (sym e) p)

any_of : {A : Type 0} (xs : List A) → xs ≢ [] → has_any xs ≡ true
any_of [] h = absurd (h refl)
any_of (x ∷ xs) h = refl

or-right : (a b : Bool) → b ≡ true → a || b ≡ true
or-right true b h = refl
or-right false b h = h

or-left : (a b : Bool) → a ≡ true → a || b ≡ true
or-left true b h = refl
or-left false b h = absurd (cc)

-- ---- rounds, and rest

abbrev states : {O : Type 0} → (O → Watching) → Rows O → Rows Watching
states state rows = each (λ n w. state w) rows

module _ {O : Type 0} (state : O → Watching) where
  -- one of them is at rest, and the others without it
  pub rest-at : (name : List ℕ) (rows : Rows O) → Resting (rests state) rows → IfSome (at name rows) (λ w. rests state w ≡ true)
  rest-at name [] h = tt
  rest-at name (r ∷ rows) h = by (bytes_eq name r.0) (rest-at name rows h.1)
    where
      by : (b : Bool) → IfSome (at name rows) (λ w. rests state w ≡ true) → IfSome (if b then Some r.1 else at name rows) (λ w. rests state w ≡ true)
      by true more = h.0
      by false more = more

  pub rest-without : (name : List ℕ) (rows : Rows O) → Resting (rests state) rows → Resting (rests state) (without name rows)
  rest-without name [] h = tt
  rest-without name (r ∷ rows) h = by (bytes_eq name r.0) (rest-without name rows h.1)
    where
      by : (b : Bool) → Resting (rests state) (without name rows) → Resting (rests state) (if b then rows else r ∷ without name rows)
      by true more = h.1
      by false more = (h.0, more)

  pub rest-put : (name : List ℕ) (w : O) (rows : Rows O) → rests state w ≡ true → Resting (rests state) rows → Resting (rests state) (put name w rows)
  rest-put name w [] is h = (is, tt)
  rest-put name w (r ∷ rows) is h = by (bytes_eq name r.0) (rest-put name w rows is h.1)
    where
      by : (b : Bool) → Resting (rests state) (put name w rows) → Resting (rests state) (if b then (r.0, w) ∷ rows else r ∷ put name w rows)
      by true more = (is, h.1)
      by false more = (h.0, more)

  -- one round, of changes that were to be told, between desks of which one is as another
  round-as : (cs ds : List Change) (a a' b b' : Rows O) (n k : ℕ) (all : Bool) (o : Option Bool) (saw : List Event) → cs ≡ ds → a' ≡ a → b' ≡ b → n ≡ k → o ≡ Some all
      → TellsOnce state n cs (Some all) saw a' b' → TellsOnce state k ds o saw a b
  round-as cs ds a a' b b' n k all o saw changes before after stamp found told =
      subst (λ x. TellsOnce state k ds x saw a b) (sym found)
      (subst (λ x. TellsOnce state x ds (Some all) saw a b) stamp
      (subst (λ x. TellsOnce state n x (Some all) saw a b) changes
      (subst (λ x. TellsOnce state n cs (Some all) saw x b) before
      (subst (λ x. TellsOnce state n cs (Some all) saw a' x) after told))))

  -- a fault told nobody; that may be one for want of memory
  quiet-fault : (n : ℕ) (cs : List Change) (a b : Rows O) (f : Fault) (es : List Event) → states state b ≡ states state a
      → TellsOnce state n cs (all_told (Breaks f es)) [] a b ⊎ ((Breaks f es ≡ Breaks OutOfMemory es) × TellsOnce state n cs None [] a b)
  quiet-fault n cs a b OutOfMemory es same = inr (refl, (refl, same))
  quiet-fault n cs a b f es same = inl (refl, same)

-- ---- between a player and its host

module _ {P F O : Type 0} (turn_log : F → List Called) (state : O → Watching) where
  -- the events were taken
  grown-to : (a b c : DeskView P F O) (es : List Event) → Grew turn_log (log_of state) a es b → c ≡ record b { events = [] }
      → Grew turn_log (log_of state) a es (record c { events = a.events ++ es })
  grown-to a b c es g is =
      subst (λ x. Grew turn_log (log_of state) a es (record x { events = a.events ++ es })) (sym is)
      (record { events = refl; numbered = g.numbered; next = g.next; functions = g.functions; watchers = g.watchers })

  grown-none : (a : DeskView P F O) → Grew turn_log (log_of state) a [] (record a { events = a.events ++ [] })
  grown-none a =
      let g = grew-none turn_log (log_of state) a in
      record { events = refl; numbered = g.numbered; next = g.next; functions = g.functions; watchers = g.watchers }

  -- nobody was told, whatever there was to tell
  abbrev Untold : DeskView P F O → DeskView P F O → Type 0
  Untold a b = Grew turn_log (log_of state) a [] (record b { events = a.events ++ [] }) × TellsOnce state a.next [] None [] a.watchers b.watchers

  pub once-none : (a : DeskView P F O) → Untold a a
  once-none a = (grown-none a, (refl, refl))

  pub run-none : (cs : List Change) (a : DeskView P F O) (r : Refusal) → DeliveredByRun turn_log state cs a [] (Refuses r) a
  run-none cs a r = record { grew = grown-none a; made = []; saw = []; events = refl; tells = inl (refl, refl) }

  -- names stay bound as they are, and the same are watched
  pub bindings-same : (meaning : P → List Value → Option Given) (a b : DeskView P F O) (es : List Event)
      → Grew turn_log (log_of state) a es (record b { events = a.events ++ es }) → bindings meaning b ≡ bindings meaning a
  bindings-same meaning a b es g =
      let mid : DeskView P F O = record b { events = a.events ++ es } in
      ap (λ w. let x : Bindings = record { functions = bound_by meaning b.functions; watches = w } in x) (watches-same turn_log (log_of state) a mid es g)
      ∙ ap (λ k. let x : Bindings = record { functions = k; watches = watches a.watchers } in x) (bound-same turn_log (log_of state) meaning a mid es g)

  -- ---- a running command: it left this machine, and a desk whose turn functions were called

  module _ (x : Extent) (meaning : P → List Value → Option Given) (p : PlayerView P F O) (m : Machine) (d1 : DeskView P F O) (made : List Made)
      (free : p.broken ≡ None) (none : (desk_of p).events ≡ []) (goes : can_go_on (config_of (story_of p) p.machine) ≡ true) (stays : aside_in m ≡ aside_in p.machine)
      (called : Grew turn_log (log_of state) (desk_of p) (calls (desk_of p).next made) d1) (watching : d1.watchers ≡ (desk_of p).watchers) where
    abbrev tree : StoryTree
    tree = story_of p

    abbrev host : Bindings
    host = bindings meaning (desk_of p)

    abbrev before : Configuration
    before = config_of tree p.machine

    abbrev after : Configuration
    after = config_of tree m

    abbrev first : List Event
    first = calls (desk_of p).next made

    abbrev aside : Aside
    aside = aside_seen p

    -- with the flows that stand aside as they did
    keeps : (k : Condition) (n : ℕ) → at_stamp k (aside_of tree (aside_in m)) n ≡ at_stamp k aside n
    keeps k n = ap (λ r. at_stamp k (aside_of tree r) n) stays

    abbrev Comes : Reply → State → DeskView P F O → Type 0
    Comes reply new d = (es : List Event) × GoesOn x tree host es (state_of p) reply new
        × DeliveredByRun turn_log state (told_from (desk_of p) (state_of p) (globals_of new.condition)) (desk_of p) es reply d

    abbrev Ran : Result Passage Fault → Type 0
    Ran result = RunsBy passage passage_asks x tree host.functions before made after result

    abbrev Runs : List Event → Reply → State → Type 0
    Runs es reply new = RunsTo (EndsBy x tree host.functions before made) (FallsShortBy x tree host.functions before made) host before made es (state_of p) reply new

    -- its run came to its end with a configuration, which it hands out and leaves
    abbrev Stops : Passage → Type 0
    Stops passed = (stop : Configuration) × EndsBy x tree host.functions before made (run.Kept stop) × (passed ≡ passage stop) × (after ≡ settled stop)

    pub stops : (passed : Passage) → Ran (Ok passed) → Stops passed
    stops passed (inl ran) = by ran.0 ran.1 ran.2
      where
        by : (end : run.RunEnd) → EndsBy x tree host.functions before made end → EndsWith passage passage_asks end after (Ok passed) → Stops passed
        by (run.Kept stop) ends left = (stop, ends, left.0, left.1)
        by (run.Broke f globals) ends left = absurd left
    stops passed (inr short) = absurd (let never = short.0 in cc)

    -- and watchers were told
    pub goes-told : (passed : Passage) (all : Bool) (d2 d : DeskView P F O) (reply : Reply) (new : State)
        → Ran (Ok passed)
        → (let cs = told (watches d1.watchers) before.shared.globals after.shared.globals in
        (saw : List Event) × (t : ToldAs d1.next cs all saw) × IsRound state d1.next cs cs t.answers d1.watchers d2.watchers × Grew turn_log (log_of state) d1 saw d2)
        → reply ≡ reply_told all (telling_of passed d2.events) d2.events → new ≡ at_stamp (condition_told all (Ready after)) (aside_of tree (aside_in m)) d2.next → d ≡ record d2 { events = [] }
        → Comes reply new d
    unfolding settled
    goes-told passed all d2 d reply new ran t replies leaves is =
        let stopped = stops passed ran in
        let stop = stopped.0 in
        let es = first ++ t.0 in
        let both = grew-grew turn_log (log_of state) (desk_of p) d1 d2 first t.0 called t.3 in
        let events : d2.events ≡ es = both.events ∙ ap (λ l. l ++ es) none in
        let saws = subst (λ n. ToldAs n (told host.watches before.shared.globals stop.shared.globals) all t.0) called.next
        (subst (λ w. ToldAs d1.next (told (watches w) before.shared.globals stop.shared.globals) all t.0) watching
        (subst (λ c. ToldAs d1.next (told (watches d1.watchers) before.shared.globals c.shared.globals) all t.0) stopped.3 t.1)) in
        let changes : told (watches d1.watchers) before.shared.globals after.shared.globals ≡ told_from (desk_of p) (state_of p) (globals_of new.condition) =
        ap (λ w. told (watches w) before.shared.globals after.shared.globals) watching
        ∙ ap (λ g. told host.watches g after.shared.globals) (sym (globals-by p.broken before))
        ∙ ap (λ g. told host.watches (globals_of (state_of p).condition) g) (sym (ap (λ s. globals_of s.condition) leaves ∙ globals-told all after)) in (
          es,
          goes-where tree host p.broken before aside (desk_of p).next x es reply new true free goes (
            made,
            inl (
              run.Kept stop,
              stopped.1,
              inl (record {
                all = all;
                saw = t.0;
                telling = saws;
                events = refl;
                replies = replies ∙ ap (λ l. reply_told all (telling_of passed l) l) events ∙ ap (λ q. reply_told all (telling_of q es) es) stopped.2;
                leaves = leaves ∙ keeps (condition_told all (Ready after)) d2.next ∙ ap (λ c. at_stamp (condition_told all (Ready c)) aside d2.next) stopped.3
                    ∙ ap (at_stamp (condition_told all (Ready (settled stop))) aside) both.next;
              }),
            ),
          ),
          record {
            grew = grown-to (desk_of p) d2 d es both is;
            made = made;
            saw = t.0;
            events = refl;
            tells = inl (round-as state _ _ (desk_of p).watchers d1.watchers d.watchers d2.watchers d1.next (later (desk_of p).next first) all (all_told reply) t.0 changes watching (sym (ap (λ x. x.watchers) is)) called.next
                (ap all_told replies ∙ done-told all (telling_of passed d2.events) d2.events refl) (t.1, t.2));
          },
        )

    -- a fault broke the player, and nobody was told
    breaks : (f : Fault) (q : PlayerView P F O) (reply : Reply) → reply ≡ Breaks f d1.events → q ≡ record p { machine = m; broken = Some f; desk = record d1 { events = [] } }
        → (BreaksBy f after.shared.globals first first (state_of p) reply (state_of q) → Runs first reply (state_of q))
        → Comes reply (state_of q) (desk_of q)
    breaks f q reply replies is runs =
        let events : d1.events ≡ first = called.events ∙ ap (λ l. l ++ first) none in
        let answer : reply ≡ Breaks f first = replies ∙ ap (λ l. Breaks f l) events in
        let n = later (desk_of p).next first in
        let quiet = λ (cs : List Change) (rows : Rows O) (same : states state rows ≡ states state (desk_of p).watchers).
        subst (λ r. TellsOnce state n cs (all_told r) [] (desk_of p).watchers rows ⊎ ((r ≡ Breaks OutOfMemory first) × TellsOnce state n cs None [] (desk_of p).watchers rows)) (sym answer)
        (quiet-fault state n cs (desk_of p).watchers rows f first same) in
        let by = runs (refl, answer, ap (λ x. state_of x) is ∙ keeps (Broken f after.shared.globals) d1.next ∙ ap (at_stamp (Broken f after.shared.globals) aside) called.next) in (
          first,
          goes-where tree host p.broken before aside (desk_of p).next x first reply (state_of q) true free goes (made, by),
          record {
            grew = grown-to (desk_of p) d1 (desk_of q) first called (ap (λ x. desk_of x) is);
            made = made;
            saw = [];
            events = sym (append-nil first);
            tells = quiet _ (desk_of q).watchers (ap (λ x. states state (desk_of x).watchers) is ∙ ap (states state) watching);
          },
        )

    -- what a broken player comes to, where its run ends so
    module _ (f : Fault) (reply : Reply) (new : State) where
      abbrev Breaks_it : Fault → Values → Type 0
      Breaks_it g globals = BreaksBy g globals first first (state_of p) reply new

      runs-broken : Ran (Err f) → Breaks_it f after.shared.globals → Runs first reply new
      runs-broken (inl ran) broke = by ran.0 ran.1 ran.2
        where
          by : (end : run.RunEnd) → EndsBy x tree host.functions before made end → EndsWith passage passage_asks end after (Err f) → Runs first reply new
          by (run.Kept stop) ends left = inl (
            run.Kept stop,
            ends,
            inr (or-left (passage_asks stop) _ left.0.1, subst (λ vs. Breaks_it OutOfMemory vs) left.1 (subst (λ g. Breaks_it g after.shared.globals) left.0.0 broke)),
          )
          by (run.Broke g globals) ends left = inl (run.Broke g globals, ends, subst (λ vs. Breaks_it g vs) left.1 (subst (λ h. Breaks_it h after.shared.globals) (same_fault left.0) broke))
      runs-broken (inr short) broke = inr (after.shared.globals, short.1, subst (λ h. Breaks_it h after.shared.globals) (let is = short.0 in cc) broke)

    -- there was no memory for telling
    pub goes-untold : (passed : Passage) (q : PlayerView P F O) (d2 : DeskView P F O) (reply : Reply) → Ran (Ok passed) → told host.watches before.shared.globals after.shared.globals ≢ [] → d2 ≡ d1
        → reply ≡ Breaks OutOfMemory d2.events → q ≡ record p { machine = m; broken = Some OutOfMemory; desk = record d2 { events = [] } } → Comes reply (state_of q) (desk_of q)
    unfolding settled
    goes-untold passed q d2 reply ran some same replies is =
        let stopped = stops passed ran in
        let kept : after.shared.globals ≡ stopped.0.shared.globals = ap (λ c. c.shared.globals) stopped.3 in
        let asks = or-right (passage_asks stopped.0) _ (subst (λ vs. has_any (told host.watches before.shared.globals vs) ≡ true) kept (any_of _ some)) in
        breaks OutOfMemory q reply (replies ∙ ap (λ d. Breaks OutOfMemory d.events) same) (is ∙ ap (λ d. record p { machine = m; broken = Some OutOfMemory; desk = record d { events = [] } }) same)
        (λ by. inl (run.Kept stopped.0, stopped.1, inr (asks, subst (λ vs. BreaksBy OutOfMemory vs first first (state_of p) reply (state_of q)) kept by)))

    -- a fault of the run, or memory was refused to it or for its passage
    pub goes-fault : (f : Fault) (q : PlayerView P F O) (reply : Reply) → Ran (Err f) → reply ≡ Breaks f d1.events → q ≡ record p { machine = m; broken = Some f; desk = record d1 { events = [] } }
        → Comes reply (state_of q) (desk_of q)
    goes-fault f q reply ran replies is = breaks f q reply replies is (runs-broken f reply (state_of q) ran)

  -- ---- a command that runs nothing

  -- watchers were told, and it is done, with these flows aside
  pub told-done : (cs : List Change) (c0 done : Condition) (a : Aside) (d0 d1 d : DeskView P F O) (all : Bool) (reply : Reply) (new : State) → d0.events ≡ []
      → (saw : List Event) × (t : ToldAs d0.next cs all saw) × IsRound state d0.next cs cs t.answers d0.watchers d1.watchers × Grew turn_log (log_of state) d0 saw d1
      → reply ≡ reply_told all (Acts d1.events) d1.events → new ≡ at_stamp (condition_told all done) a d1.next → d ≡ record d1 { events = [] }
      → (ds : List Change) → cs ≡ ds → (es : List Event) × TellsDone cs done Acts [] es (at_stamp c0 a d0.next) reply new × DeliveredOnce turn_log state ds d0 es reply d
  told-done cs c0 done a d0 d1 d all reply new none t replies leaves is ds same =
      let events : d1.events ≡ t.0 = t.3.events ∙ ap (λ l. l ++ t.0) none in (
        t.0,
        record {
          all = all;
          saw = t.0;
          telling = t.1;
          events = refl;
          replies = replies ∙ ap (λ l. reply_told all (Acts l) l) events;
          leaves = leaves ∙ ap (at_stamp (condition_told all done) a) t.3.next;
        },
        (
          grown-to d0 d1 d t.0 t.3 is,
          round-as state cs ds d0.watchers d0.watchers d.watchers d1.watchers d0.next d0.next all (all_told reply) t.0 same refl (sym (ap (λ x. x.watchers) is)) refl
              (ap all_told replies ∙ done-told all (Acts d1.events) d1.events refl) (t.1, t.2),
        ),
      )

  -- nothing has changed, for want of memory
  pub tells-kept : {X : List Event → Type 0} (cs : List Change) (c0 : Condition) (a : Aside) (d0 d1 : DeskView P F O) → cs ≢ [] → d1 ≡ d0
      → (es : List Event) × (X es ⊎ ((cs ≢ []) × (es ≡ []) × FailsAllocation (at_stamp c0 a d0.next) (Refuses refusal.OutOfMemory) (at_stamp c0 a d1.next))) × DeliveredOnce turn_log state cs d0 es (Refuses refusal.OutOfMemory) d1
  tells-kept cs c0 a d0 d1 some same =
      ([], inr (some, refl, (refl, ap (λ d. at_stamp c0 a d.next) same)), subst (λ x. Untold d0 x) (sym same) (once-none d0))

-- ---- a global that is set

module _ (h : Bindings) (name : List ℕ) (c : Configuration) (b : Option Fault) (a : Aside) (n : ℕ) where
  abbrev old : State
  old = at_stamp (condition_by b c) a n

  pub set-broken : (v : Option Given) (f : Fault) → b ≡ Some f → Set h [] name v old (Refuses (refusal.Broken f)) old
  set-broken v f e = subst (λ x. Set h [] name v (at_stamp (condition_by x c) a n) (Refuses (refusal.Broken f)) (at_stamp (condition_by x c) a n)) (sym e) (refl, (refl, refl))

  -- by a player that is not broken
  module _ (g : Given) (es : List Event) (reply : Reply) (new : State) where
    abbrev Sets : Value → Type 0
    Sets v = TellsOrKeeps (told h.watches c.shared.globals ((name, v) ∷ [])) (Ready (with_globals (store name v c.shared.globals) c)) es old reply new

    abbrev SetsWhere : Bool → Bool → Type 0
    SetsWhere fits there = MatchBool fits (MatchBool there (Sets (value_given g)) ((es ≡ []) × OnlyRefuses (Refuses refusal.NoSuchVariable) old reply new))
        ((es ≡ []) × OnlyRefuses (Refuses refusal.BadValue) old reply new)

    -- by whether the value may be set, and whether there is such a global
    pub sets-where : (fits there : Bool) → b ≡ None → settable g ≡ fits → is_some (stored name c.shared.globals) ≡ there → SetsWhere fits there → Set h es name (Some g) old reply new
    sets-where fits there free e k p =
        let by : SetsIn h name g c es old reply new = subst (λ x. SetsWhere x (is_some (stored name c.shared.globals))) (sym e) (subst (λ x. SetsWhere fits x) (sym k) p) in
        subst (λ x. rules.SetsFrom h name (Some g) (condition_by x c) es old reply new) (sym free) by

    pub sets : (v : Value) → v ≡ value_given g → b ≡ None → settable g ≡ true → is_some (stored name c.shared.globals) ≡ true → Sets v → Set h es name (Some g) old reply new
    sets v is free e k p = sets-where true true free e k (subst (λ x. Sets x) is p)

-- ---- visits of a player that is not broken

visits-unbroken : (s : StoryTree) (path : List ℕ) (c : Configuration) (a : Aside) (n : ℕ) (r : Result ℤ Refusal) → FindsVisits s path c r → TellsVisits s path (at_stamp (Ready c) a n) (reply_of_visits r) (at_stamp (Ready c) a n)
visits-unbroken s path c a n (Ok v) h =
    let st = at_stamp (Ready c) a n in
    let is = was_found path _ (visits_by s path c) v h in
    inl (subst (λ o. rules.VisitsBy o st (Counts v) st) (sym is.1) (ap Counts is.2, refl))
visits-unbroken s path c a n (Err r) h =
    let st = at_stamp (Ready c) a n in elim (was_not_found path _ (visits_by s path c) r h) [
      | inl none ↦ inl (subst (λ o. rules.VisitsBy o st (Refuses r) st) (sym none.1) (ap Refuses none.0, refl))
      | inr short ↦ inr (short.1, (ap Refuses short.0, refl))
    ]

pub visits-free : (s : StoryTree) (path : List ℕ) (c : Configuration) (b : Option Fault) (a : Aside) (n : ℕ) (r : Result ℤ Refusal) → b ≡ None → FindsVisits s path c r
    → TellsVisits s path (at_stamp (condition_by b c) a n) (reply_of_visits r) (at_stamp (condition_by b c) a n)
visits-free s path c b a n r free h =
    subst (λ x. TellsVisits s path (at_stamp (condition_by x c) a n) (reply_of_visits r) (at_stamp (condition_by x c) a n)) (sym free) (visits-unbroken s path c a n r h)

-- ---- watchers that come and go

pub if-ok : {A E : Type 0} {X Y : A → Type 0} (r : Result A E) → ((a : A) → X a → Y a) → IfOk r X → IfOk r Y
if-ok (Ok a) f x = f a x
if-ok (Err e) f x = tt

pub by-result : {A E X Z : Type 0} (Y : Type 0) (r : Result A E) → OnOk r X → OnErr r Z → (X → Y) → (Z → Y) → Y
by-result Y (Ok a) x z f h = f x
by-result Y (Err e) x z f h = h z

-- ---- what is known of a player

pub none-left : {X : Type 0} (xs : List X) → is_empty xs ≡ true → xs ≡ []
none-left [] h = refl
none-left (x ∷ xs) h = absurd (cc)

module _ {P F O : Type 0} (p : PlayerView P F O) where
  -- a machine, a desk and a fault in the place of its own
  abbrev pub with_parts : Machine → DeskView P F O → Option Fault → PlayerView P F O
  with_parts m d b = record p { machine = m; desk = d; broken = b }

  -- a fault broke it, and its events were taken
  pub broken-as : (m : Machine) (d d2 : DeskView P F O) (b : Option Fault) (f : Fault) → d ≡ record d2 { events = [] } → b ≡ Some f
      → with_parts m d b ≡ with_parts m (record d2 { events = [] }) (Some f)
  broken-as m d d2 b f e k = ap (λ x. with_parts m x b) e ∙ ap (with_parts m (record d2 { events = [] })) k

  -- watchers were told, and its events were taken
  pub told-state : (m : Machine) (d d2 : DeskView P F O) (b old : Option Fault) (all : Bool) (c : Configuration) → old ≡ None → b ≡ fault_told all old → d ≡ record d2 { events = [] }
      → config_of (story_of p) m ≡ c → state_of (with_parts m d b) ≡ at_stamp (condition_told all (Ready c)) (aside_of (story_of p) (aside_in m)) d2.next
  told-state m d d2 b old all c free e k is =
      let own = config_of (story_of p) m in
      let aside = aside_of (story_of p) (aside_in m) in
      ap (λ x. at_stamp (condition_by b own) aside x.next) k ∙ ap (λ x. at_stamp (condition_by x own) aside d2.next) (e ∙ ap (fault_told all) free)
      ∙ ap (λ x. at_stamp x aside d2.next) (condition-told all own) ∙ ap (λ x. at_stamp (condition_told all (Ready x)) aside d2.next) is

pub on-ok : {A E : Type 0} (r : Result A E) (X : Type 0) → is_ok r ≡ true → OnOk r X → X
on-ok (Ok a) X h x = x
on-ok (Err e) X h x = absurd (cc)
