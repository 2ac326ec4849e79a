use Rattle.std.proofs.Common.{◌++◌}
use Rattle.ink_out.specs.Walks.{pile_now}
use Rattle.ink_out.proofs.Walking.{walk_text}
use Rattle.ink_out.proofs.walk.Walk.say.Goals as goal

pub returns : goal.returns
returns c cleans starts before k =
    let w = c.args.self.now in
    rw c.clear.ensures
    (walk_text before w c.push_str.new.self c.text.new.self c.args.text.now
    (λ written holds. c.in_ok-push_str.ensures cleans (written ++ pile_now w.tracker.newline w.glue w.held) (c.in_ok-write.ensures cleans written holds))
    (c.text.ensures before c.args.text.now) k)
