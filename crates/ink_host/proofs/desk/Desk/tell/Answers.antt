use Rattle.std.proofs.Common.{◌≡◌, ◌∙◌, ◌++◌, List, ap, false, filter, is_ok, refl, string_bytes, subst, sym, true}
use Rattle.ink_model.specs.declared.host.Event.{Event}
use Rattle.ink_host.proofs.Entries.{desk_of, rows_of}
use Rattle.ink_host.proofs.TellingLoops.{named-filter, stand-begun, stand-round, states-standing}
use Rattle.ink_host.proofs.TellingRows.{resting-stand, stand-resting}
use Rattle.ink_host.proofs.TellingWhole.{grew-told, view}
use Rattle.ink_host.specs.Desk.{DeskView, Grew, Resting, Rows, entries_as_rows, watches}
use Rattle.ink_host.specs.Telling.{IsRound, Stand, Watching, round_ended, heard, in_turn, log_of, named, rests, round, standing}
use Rattle.ink_model.specs.Host.Told.{ToldAs}
use Rattle.ink_host.proofs.desk.Desk.tell.Goals as goal

pub change_all-outcome-requires-clause-begun : goal.change_all-outcome-requires-clause-begun
change_all-outcome-requires-clause-begun g c =
    let state = g.W.Watcher.state in
    let inside = c.self.inside in
    let cs = c.args.changes.now in
    let first = standing string_bytes state inside.watchers.entries in
    let told = c.in-Ok.told.items in
    let In : Rows Watching → Type 0 = λ rs. Stand (λ n. named n told) false rs in
    subst In (sym c.begin_all.ensures)
    (stand-begun cs (λ n. named n told)
    (λ n h. named-filter (λ d. watches (entries_as_rows string_bytes (λ w. w) inside.watchers.entries) d.name) cs n (ap (named n) (sym c.in-Ok.ensures.ok) ∙ h)) first)

pub returns-clause-told : goal.returns-clause-told
returns-clause-told g c = λ _.
    let state = g.W.Watcher.state in
    let inside = c.self.inside in
    let cs = c.args.changes.now in
    let start = inside.watchers.entries in
    let first = standing string_bytes state start in
    let told = c.change_all-outcome.ensures.told in
    let es = told.0 in
    let t = told.1 in
    let n = inside.next in
    let watched = c.in-Ok.told.items in
    let last = c.end_all.new.watchers.entries in
    let rows : standing string_bytes state last ≡ round n cs watched t.answers first =
    c.end_all.ensures ∙ ap (in_turn round_ended cs) (told.4 ∙ ap (heard n watched t.answers) c.begin_all.ensures) in
    let functions = entries_as_rows string_bytes (λ b. b) inside.functions.entries in
    let outcome = c.change_all-outcome.result in
    let new = c.change_all-outcome.new.events.items in
    let next = c.change_all-outcome.new.next in
    let States : Rows Watching → Rows Watching → Type 0 = λ a b. b ≡ round n cs watched t.answers a in
    let is_round : IsRound state n cs watched t.answers (entries_as_rows string_bytes (λ w. w) start) (entries_as_rows string_bytes (λ w. w) last) =
    states-standing state last ∙ rows ∙ ap (round n cs watched t.answers) (sym (states-standing state start)) in
    let Of : List _ → Type 0 = λ ds.
    (fs : List Event) × (u : ToldAs n ds (is_ok outcome) fs)
    × IsRound state n cs ds u.answers (entries_as_rows string_bytes (λ w. w) start) (entries_as_rows string_bytes (λ w. w) last)
    × Grew g.T.TurnFn.log (log_of state) (view g.T.TurnFn.log state functions start inside.events.items n) fs (view g.T.TurnFn.log state functions last new next) in
    let Whole : DeskView g.row.P.Denot g.row.T.Denot g.row.W.Denot → Type 0 = λ v.
    (fs : List Event) × (u : ToldAs v.next (filter (λ d. watches v.watchers d.name) cs) (is_ok outcome) fs)
    × IsRound state v.next cs (filter (λ d. watches v.watchers d.name) cs) u.answers v.watchers (entries_as_rows string_bytes (λ w. w) last)
    × Grew g.T.TurnFn.log (log_of state) v fs (view g.T.TurnFn.log state functions last new next) in
    subst Whole c.self.view_is (subst Of c.in-Ok.ensures.ok (
      es,
      t,
      is_round,
      grew-told g.T.TurnFn.log state functions start last inside.events.items new n next cs watched (is_ok outcome) es t
          (told.2 ∙ ap (λ xs. xs ++ es) c.reserve.ensures.items) told.3 rows,
    ))

pub returns-clause-rest : goal.returns-clause-rest
returns-clause-rest g c = λ resting.
    let state = g.W.Watcher.state in
    let inside = c.self.inside in
    let cs = c.args.changes.now in
    let first = standing string_bytes state inside.watchers.entries in
    let told = c.change_all-outcome.ensures.told in
    let t = told.1 in
    let n = inside.next in
    let watched = c.in-Ok.told.items in
    let last = c.end_all.new.watchers.entries in
    let rows = c.end_all.ensures ∙ ap (in_turn round_ended cs) (told.4 ∙ ap (heard n watched t.answers) c.begin_all.ensures) in
    let Old : DeskView g.row.P.Denot g.row.T.Denot g.row.W.Denot → Type 0 = λ v. Resting (rests state) v.watchers in
    let In : Rows Watching → Type 0 = λ rs. Stand (λ n. true) true rs in
    resting-stand state last (subst In (sym rows) (stand-round n cs watched t.answers first
    (stand-resting state (λ n. true) inside.watchers.entries (subst Old (sym c.self.view_is) resting))))

pub returns-clause-functions : goal.returns-clause-functions
returns-clause-functions g c = ap (λ d. d.functions) c.self.view_is

pub returns-clause-no_room : goal.returns-clause-no_room
returns-clause-no_room g c none = absurd (c.change_all-outcome.ensures.fault none)

pub returns-clause-memory : goal.returns-clause-memory
returns-clause-memory g c none = absurd (c.change_all-outcome.ensures.fault none)

pub returns-in_default-clause-told : goal.returns-in_default-clause-told
returns-in_default-clause-told g c told = absurd (told refl)

pub returns-then-is_err-clause-functions : goal.returns-then-is_err-clause-functions
returns-then-is_err-clause-functions g c = ap (λ d. d.functions) c.self.view_is

pub returns-then-is_err-clause-told : goal.returns-then-is_err-clause-told
returns-then-is_err-clause-told g c told = absurd (told refl)

pub returns-then-is_err-clause-no_room : goal.returns-then-is_err-clause-no_room
returns-then-is_err-clause-no_room g c none =
    ap (λ es. desk_of (rows_of c.self.inside.functions.entries) (rows_of c.self.inside.watchers.entries) es c.self.inside.next) c.reserve.ensures.items ∙ c.self.view_is

pub returns-then-is_err-clause-rest : goal.returns-then-is_err-clause-rest
returns-then-is_err-clause-rest g c resting =
    let Old : DeskView g.row.P.Denot g.row.T.Denot g.row.W.Denot → Type 0 = λ v. Resting (rests g.W.Watcher.state) v.watchers in
    subst Old (sym c.self.view_is) resting
