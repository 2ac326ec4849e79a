use Rattle.std.proofs.Common.{◌≡◌, ◌∙◌, ap, inl, option_map, rules, sym}
use Rattle.std.proofs.lemmas.Result.{on_err_weaker}
use Rattle.ink_effects.proofs.Common.{adds_rows, counts_in, still_entered}
use Rattle.ink_effects.proofs.visits.enter_landed.Goals as goal
use Rattle.ink_tree.specs.Nodes.{place_of, story_tree}

pub returns-clause-memory : goal.returns-clause-memory
returns-clause-memory c =
    let s = story_tree c.args.tree.now in
    let before = c.if-is_marked.counts in
    let rest = still_entered s (option_map (place_of s) c.args.previous) c.upward-rest.result in
    let rows : before.rows ≡ c.args.counts.now.rows = search rules in
    on_err_weaker c.enter_all.result
    (λ adds. inl (ap (λ ps. adds_rows s ps (counts_in s c.args.counts.now.rows)) (sym (c.upward-rest.ensures (option_map (place_of s) c.args.previous))) ∙ ap (λ xs. adds_rows s rest (counts_in s xs)) (sym rows) ∙ adds))
    c.enter_all.ensures.memory
