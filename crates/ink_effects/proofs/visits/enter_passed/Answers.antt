use Rattle.std.proofs.Common.{◌≡◌, ◌∙◌, ap, inl, inr, None, rules, sym}
use Rattle.std.proofs.lemmas.Result.{err_from_is_err_and}
use Rattle.ink_model.specs.Run.Entered.{passed_places}
use Rattle.ink_effects.proofs.Common.{at, adds_rows, counts_in}
use Rattle.ink_effects.proofs.Entering.{enters_adds, enters_more, last_adds}
use Rattle.ink_effects.proofs.visits.enter_passed.Goals as goal
use Rattle.ink_tree.specs.Kept.{leaf_in}
use Rattle.ink_tree.specs.Nodes.{node_place, story_tree}

pub loop-first-preserved : goal.loop-first-preserved
loop-first-preserved c =
    let s = story_tree c.args.tree.now in
    let all = passed_places s (node_place s c.args.node) in
    let way = c.in-Some.ensures.goes_in in
    record {
      way = sym way.0 ∙ c.loop-first.invariant.way;
      still = enters_more s c.args.turn all c.args.counts.now.rows _ _ _ c.loop-first.counts.rows way.1 c.loop-first.invariant.still c.enter.new.counts.rows c.in_ok-enter.ensures.ok;
      mark = c.in_ok-enter.ensures.mark ∙ c.loop-first.invariant.mark;
    }

pub returns-in_err-enter-clause-memory : goal.returns-in_err-enter-clause-memory
returns-in_err-enter-clause-memory c =
    let s = story_tree c.args.tree.now in
    let all = passed_places s (node_place s c.args.node) in
    let p = err_from_is_err_and c.from_residual.result c.from_residual.ensures.1 in
    rw p.1 (elim c.in_err-enter.ensures.memory [
      | inl adds ↦ inl (enters_adds s c.args.turn all c.args.counts.now.rows _ _ _ c.loop-first.counts.rows c.in-Some.ensures.goes_in.1 c.loop-first.invariant.still adds)
      | inr lacks ↦ inr lacks
    ])

pub returns-in_err-enter-2-clause-memory : goal.returns-in_err-enter-2-clause-memory
returns-in_err-enter-2-clause-memory c =
    let s = story_tree c.args.tree.now in
    let way = c.in_default.ensures.goes_in in
    let none : leaf_in (at s (node_place s c.loop-first.last)) ≡ None = search rules in
    let p = err_from_is_err_and c.from_residual-in_err-enter-2.result c.from_residual-in_err-enter-2.ensures.1 in
    rw p.1 (elim c.in_err-enter-2.ensures.memory [
      | inl adds ↦ inl (c.loop-first.invariant.still.1 (ap (λ ps. adds_rows s ps (counts_in s c.loop-first.counts.rows)) way.1
          ∙ last_adds s (node_place s c.loop-first.last) (counts_in s c.loop-first.counts.rows) none adds))
      | inr lacks ↦ inr lacks
    ])
