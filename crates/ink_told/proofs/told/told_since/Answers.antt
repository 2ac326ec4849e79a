use Rattle.std.proofs.Common.{◌≡◌, ◌≢◌, ◌<◌, ◌≤◌, ◌∙◌, ℕ, List, [], Some, None, ap, arith, length, rules, sym}
use Rattle.std.proofs.lemmas.List.{append-nil, take_all}
use Rattle.ink_host.specs.Desk.{watches}
use Rattle.ink_model.specs.Host.Told.{told}
use Rattle.ink_model.specs.declared.value.Value.{Value}
use Rattle.ink_vars.proofs.Noting.{on_error}
use Rattle.ink_told.proofs.Telling.{told_at, told_changed, told_next, told_nobody, told_some_at, told_some_of}
use Rattle.ink_told.proofs.told.told_since.Goals.{in-Some+in_ok-add_change, in_default}
use Rattle.ink_told.proofs.told.told_since.Given as given
use Rattle.ink_told.proofs.told.told_since.Goals as goal
use Rattle.ink_told.proofs.told.told_since.Goals.{After-from_vec, In-Some}

pub returns-then-not-has_watchers-clause-told : goal.returns-then-not-has_watchers-clause-told
returns-then-not-has_watchers-clause-told g c =
    c.new.ensures ∙ told_nobody c.args.desk.now.watchers c.args.globals.now.start c.args.globals.now.rows (sym c.has_watchers.ensures ∙ c.if-not-has_watchers.true)

pub returns-in_err-indices-clause-memory : goal.returns-in_err-indices-clause-memory
returns-in_err-indices-clause-memory g c =
    let watched = watches c.args.desk.now.watchers in
    on_error c.from_residual.result
    (told_some_of c.args.globals.now.rows watched c.args.globals.now.start (c.in_err-indices.ensures.memory watched (λ name answer k. search rules)))

-- something is told where an index was found
is_there : (g : given.Over) (c : In-Some g) → told (watches c.args.desk.now.watchers) c.args.globals.now.start c.args.globals.now.rows ≢ []
is_there g c =
    let watched = watches c.args.desk.now.watchers in
    let ns = c.deref-index-items.result.now in
    let within : c.loop-index.index-index < length ns = omega (arith, c.loop-index-test.true) in
    told_some_at c.args.globals.now.rows watched c.args.globals.now.start ns c.loop-index.index-index
    (c.deref-index-items.ensures.value ∙ c.in_ok-indices.ensures.indices watched (λ name answer k. search rules)) within

pub returns-in_err-add_change-clause-memory : goal.returns-in_err-add_change-clause-memory
returns-in_err-add_change-clause-memory g c =
    on_error c.from_residual-in_err-add_change.result (is_there g (goal.at.returns-in_err-add_change-clause-memory g c).In-Some)

pub loop-index-preserved : goal.loop-index-preserved
loop-index-preserved g c =
    let now = c.args.globals.now.rows in
    let ns = c.deref-index-items.result.now in
    let i = c.loop-index.index-index in
    let so_far = c.loop-index.told.items in
    let within : i < length ns = omega (arith, c.loop-index-test.true) in
    elim c.match-pair.branch [
      | in-Some+in_ok-add_change w ↦
          let e : List ℕ × Value = (w.in-Some.name.now, w.in-Some.value.now) in
          told_next now ns i so_far c.match-pair.told.items (Some e) within (sym w.in-Some.ensures) c.loop-index.invariant
          (ap (λ v. v.items) w.told-is ∙ w.in_ok-add_change.ensures)
      | in_default w ↦
          told_next now ns i so_far c.match-pair.told.items None within (sym w.in_default.ensures) c.loop-index.invariant
          (ap (λ v. v.items) w.told-is ∙ sym (append-nil so_far))
    ]

-- all that was picked was told
all_at : (g : given.Over) (c : After-from_vec g) → c.from_vec.result ≡ told_at c.args.globals.now.rows c.deref-index-items.result.now
all_at g c =
    let ns = c.deref-index-items.result.now in
    let past : length ns ≤ c.loop-index.index-index = omega (arith, c.loop-index-test.false) in
    c.from_vec.ensures ∙ c.loop-index.invariant ∙ ap (told_at c.args.globals.now.rows) (take_all c.loop-index.index-index ns past)

pub returns-clause-told : goal.returns-clause-told
returns-clause-told g c =
    let watched = watches c.args.desk.now.watchers in
    let now = c.args.globals.now.rows in
    all_at g (goal.at.returns-clause-told g c).After-from_vec
    ∙ ap (told_at now) (c.deref-index-items.ensures.value ∙ c.in_ok-indices.ensures.indices watched (λ name answer k. search rules)) ∙ told_changed now watched c.args.globals.now.start
