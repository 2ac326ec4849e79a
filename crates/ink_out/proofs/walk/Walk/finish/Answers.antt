use Rattle.std.proofs.Common.{◌++◌, ap, ◌∙◌}
use Rattle.ink_out.proofs.Common.{shown_as, pile_now}
use Rattle.ink_out.proofs.Walking.{walk_end}
use Rattle.ink_out.proofs.walk.Walk.finish.Goals as goal

pub returns : goal.returns
returns c cleans starts before k =
    let w = c.args.self in
    c.into_text.ensures cleans (k.written ++ pile_now w.tracker.newline w.glue w.held) (c.in_ok-write.ensures cleans k.written k.holds)
    ∙ ap (shown_as cleans) (walk_end before w k)
