use Rattle.std.proofs.Common.{◌∙◌, ap, inl, sym, true}
use Rattle.std.proofs.lemmas.Result.{on_err_weaker, on_ok_weaker}
use Rattle.ink_model.specs.Variables.Counts.{adds_row, visited}
use Rattle.ink_model.specs.Run.Entered.{flags_at}
use Rattle.ink_model.specs.Variables.Rows.{place_order}
use Rattle.ink_effects.proofs.Common.{at, counts_in}
use Rattle.ink_effects.proofs.Entering.{adds_at, lacks_row, visited_at}
use Rattle.ink_effects.proofs.visits.enter_flagged.Goals as goal
use Rattle.ink_tree.specs.Nodes.{node_place, story_tree}

pub returns-clause-ok : goal.returns-clause-ok
returns-clause-ok c =
    let s = story_tree c.args.tree.now in
    let q = node_place s c.args.container in
    let ready = c.ready_counts.new.counts in
    let found = c.number_of.ensures.found in
    on_ok_weaker c.visit.result
    (λ is. ap (counts_in s) is ∙ visited_at s c.number_of.ensures.order c.number_of.result found.0 ready.rows _ _ _ found.1 c.flags-flags.ensures c.args.turn
    ∙ ap (λ rows. visited place_order q (flags_at (at s q)) true c.args.turn (counts_in s rows)) c.in_ok-ready_counts.ensures.rows)
    c.visit.ensures.ok

pub returns-clause-memory : goal.returns-clause-memory
returns-clause-memory c =
    let s = story_tree c.args.tree.now in
    let q = node_place s c.args.container in
    let ready = c.ready_counts.new.counts in
    let found = c.number_of.ensures.found in
    let adds = adds_at s c.number_of.ensures.order c.number_of.result found.0 ready.rows _ _ _ found.1 c.flags-flags.ensures in
    let same = ap (λ rows. adds_row place_order q (flags_at (at s q)) (counts_in s rows)) c.in_ok-ready_counts.ensures.rows in
    on_err_weaker c.visit.result (λ lacks. inl (lacks_row _ _ ready (λ h. sym same ∙ sym adds ∙ h) c.in_ok-ready_counts.ensures.room lacks)) c.visit.ensures.memory
