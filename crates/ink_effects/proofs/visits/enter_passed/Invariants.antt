use Rattle.std.proofs.Common.{◌≡◌, length}
use Rattle.ink_model.specs.Run.Entered.{passed_places}
use Rattle.ink_model.specs.Run.Place.{content_place}
use Rattle.ink_effects.proofs.Entering.{StillEnters}
use Rattle.ink_effects.proofs.visits.enter_passed.Given as goal
use Rattle.ink_tree.specs.Nodes.{node_place, story_tree}
use Rattle.ink_vars.specs.Undo.{counts_stood}

-- the way from here leads to where the whole way does
abbrev pub invariant-loop-first : goal.invariant-loop-first
invariant-loop-first l =
    let s = story_tree l.tree in
    record {
      way : content_place s (node_place s l.last) ≡ content_place s (node_place s l.fn.node);
      still : StillEnters s l.fn.turn (passed_places s (node_place s l.fn.node)) l.initial.counts.rows (passed_places s (node_place s l.last)) l.counts.rows;
      mark : counts_stood l.counts ≡ counts_stood l.initial.counts;
    }

abbrev pub decreases-loop-first : goal.decreases-loop-first
decreases-loop-first l = let s = story_tree l.tree in length (passed_places s (node_place s l.last))
