use Rattle.ink_out.proofs.Walking.{walk_blank}
use Rattle.ink_out.proofs.walk.Walk.blank.Goals as goal

pub returns : goal.returns
returns c cleans starts before at k =
    rw c.in_ok-push.ensures
    (walk_blank before c.args.self.now c.blank.new.self c.args.at c.args.text at (λ settled. c.blank.ensures before c.args.text.now settled at) k)
