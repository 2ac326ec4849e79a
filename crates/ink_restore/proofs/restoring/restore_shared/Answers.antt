use Rattle.std.proofs.Common.{◌∙◌, ◌≤◌, ap, subst}
use Rattle.ink_model.specs.Save.Sound.{GlobalsFit, RowFits}
use Rattle.ink_restore.proofs.Common.{MAX_COUNT, FirstAsks, or_else, story_tree}
use Rattle.ink_restore.specs.Asks.{CountsAsk, SharedAsks}
use Rattle.ink_restore.proofs.Asking.{list_later, list_now}
use Rattle.ink_restore.proofs.Making.{built}
use Rattle.ink_vars.specs.Views.{GlobalsView}
use Rattle.ink_restore.proofs.restoring.restore_shared.Goals as goal

pub returns-in_err-globals-clause-memory : goal.returns-in_err-globals-clause-memory
returns-in_err-globals-clause-memory c =
    let s = story_tree c.args.tree.now in
    let v = c.args.saved.now in
    let asks : SharedAsks s v = (
      subst (λ n. n ≤ MAX_COUNT) (ap (λ x. x.turn) c.saved.view_is) c.in-Some.ensures.1,
      list_now (RowFits s) (RowFits s) v.globals (CountsAsk s v.counts) (λ r k. k)
          (subst (FirstAsks (RowFits s) (RowFits s)) (c.as_slice.ensures ∙ ap (λ x. x.globals) c.saved.view_is) c.in_err-globals.ensures.memory),
    ) in
    or_else _ asks

pub returns-in_err-counts-clause-memory : goal.returns-in_err-counts-clause-memory
returns-in_err-counts-clause-memory c =
    let s = story_tree c.args.tree.now in
    let v = c.args.saved.now in
    let globals = built (λ (g : GlobalsView). g.rows) (GlobalsFit s) c.as_slice.result.now v.globals c.in_ok-globals.field-0 c.in-Some-2.globals (c.as_slice.ensures ∙ ap (λ x. x.globals) c.saved.view_is) c.in-Some-2.is
    c.in_ok-globals.ensures.builds in
    let visits = c.as_slice-visits.ensures ∙ ap (λ x. x.counts.visits) c.saved.view_is in
    let turns = c.as_slice-turns.ensures ∙ ap (λ x. x.counts.turns) c.saved.view_is in
    let asks : SharedAsks s v = (
      subst (λ n. n ≤ MAX_COUNT) (ap (λ x. x.turn) c.saved.view_is) c.in-Some.ensures.1,
      list_later (RowFits s) (RowFits s) v.globals (CountsAsk s v.counts) (λ r k. k) globals.1.each
          (subst (CountsAsk s) (λ i. record { visits = visits i; turns = turns i }) c.in_err-counts.ensures.memory),
    ) in
    or_else _ asks
