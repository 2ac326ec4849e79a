use Rattle.std.proofs.Common.{◌∙◌, ap, length, sym, true}
use Rattle.std.proofs.lemmas.Result.{err_from_is_err_and}
use Rattle.ink_effects.specs.Standing.{counts_in}
use Rattle.ink_effects.proofs.Entering.{adds_at, first_adds, first_entered, has_room, lacks_row, room_back, visited_at}
use Rattle.ink_effects.proofs.visits.+enter_all.Goals as goal
use Rattle.ink_tree.specs.Nodes.{story_tree}

pub returns-in_err-visit-clause-memory : goal.returns-in_err-visit-clause-memory
returns-in_err-visit-clause-memory t c =
    let s = story_tree c.args.tree.now in
    let found = c.number_of-container.ensures.found in
    let adds = adds_at s c.number_of-container.ensures.order c.number_of-container.result found.0 c.args.counts.now.rows _ _ _ found.1 c.flags.ensures in
    let p = err_from_is_err_and c.from_residual.result c.from_residual.ensures.1 in
    rw p.1 (lacks_row _ _ c.args.counts.now (λ h. first_adds s c.args.turn _ _ _ c.in-Some.ensures.1 c.args.counts.now.rows (sym adds ∙ h)) (has_room c.args.counts.now _ _ (ap length c.in-Some.ensures.1) c.requires.room) c.in_err-visit.ensures.memory)

pub restore-requires : goal.restore-requires
restore-requires t c =
    record {
      room = room_back c.args.counts.now c.visit.new.self c.enter_all.new.counts _ _ c.requires.room (ap length c.in-Some.ensures.1) c.in_ok-visit.ensures.spare c.in-Err.ensures.spare (c.in-Err.ensures.mark ∙ c.in_ok-visit.ensures.stood);
    }

pub returns-in-Ok-clause-ok : goal.returns-in-Ok-clause-ok
returns-in-Ok-clause-ok t c =
    let s = story_tree c.args.tree.now in
    let found = c.number_of-container.ensures.found in
    let visit = ap (counts_in s) c.in_ok-visit.ensures.ok
    ∙ visited_at s c.number_of-container.ensures.order c.number_of-container.result found.0 c.args.counts.now.rows _ _ _ found.1 c.flags.ensures c.args.turn in
    c.in-Ok.ensures.ok ∙ (first_entered s c.args.turn _ _ _ c.in-Some.ensures.1 c.args.counts.now.rows c.visit.new.self.rows visit).0

pub returns-in-Err-clause-kept : goal.returns-in-Err-clause-kept
returns-in-Err-clause-kept t c =
    c.restore.ensures.restored c.args.counts.now.rows c.noted-noted.ensures c.flags.result true c.args.turn (c.in-Err.ensures.kept ∙ c.in_ok-visit.ensures.ok)

pub returns-in-Err-clause-memory : goal.returns-in-Err-clause-memory
returns-in-Err-clause-memory t c =
    let s = story_tree c.args.tree.now in
    let found = c.number_of-container.ensures.found in
    let visit = ap (counts_in s) c.in_ok-visit.ensures.ok
    ∙ visited_at s c.number_of-container.ensures.order c.number_of-container.result found.0 c.args.counts.now.rows _ _ _ found.1 c.flags.ensures c.args.turn in
    (first_entered s c.args.turn _ _ _ c.in-Some.ensures.1 c.args.counts.now.rows c.visit.new.self.rows visit).1 c.in-Err.ensures.memory
