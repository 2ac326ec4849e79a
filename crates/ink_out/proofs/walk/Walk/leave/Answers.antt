use Rattle.ink_out.proofs.Walking.{walk_leave}
use Rattle.ink_out.proofs.walk.Walk.leave.Goals as goal

pub returns : goal.returns
returns c cleans starts before leads k =
    let reach = c.reach-reach.ensures starts before leads k.knows in
    rw c.leave-2.ensures
    (walk_leave c.args.number before c.args.self.now c.leave.new.self c.reach-reach.result reach (λ settled. c.leave.ensures before c.args.number settled reach) k)
