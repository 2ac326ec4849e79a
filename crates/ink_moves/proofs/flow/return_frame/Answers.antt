use Rattle.std.proofs.Common.{◌≡◌, rules, Err, Some, None, Ok, option_map}
use Rattle.ink_model.specs.Flow.Frames.{map_threads}
use Rattle.ink_model.specs.Run.Place.{next_place}
use Rattle.ink_moves.proofs.Calling.{return_breaks, return_goes}
use Rattle.ink_moves.proofs.flow.return_frame.Goals as goal
use Rattle.ink_moves.specs.Reaches.{written}
use Rattle.ink_tree.specs.Nodes.{place_of, story_tree}

pub returns-in_err-leave-clause-flow : goal.returns-in_err-leave-clause-flow
returns-in_err-leave-clause-flow c =
    let s = story_tree c.args.tree.now in
    let f = place_of s in
    let is : c.from_residual.result ≡ Err c.in_err-leave.field-0.0 = search rules in
    rw is (return_breaks (next_place s) c.args.kind (option_map f c.args.to) (map_threads f c.args.threads.now.threads) (map_threads f c.leave.new.threads.threads) (written c.args.stack.now c.args.output.now)
    (written c.args.stack.now c.leave.new.output) c.in_err-leave.field-0.0 (c.in_err-leave.ensures.flow s c.args.stack.now.items))

pub returns-in-Some-clause-flow : goal.returns-in-Some-clause-flow
returns-in-Some-clause-flow c =
    let s = story_tree c.args.tree.now in
    let f = place_of s in
    let v = written c.args.stack.now c.leave.new.output in
    rw c.in-Some.is (return_goes (next_place s) c.args.kind (Some (f c.in-Some.place)) (map_threads f c.args.threads.now.threads) (map_threads f c.leave.new.threads.threads) (written c.args.stack.now c.args.output.now)
    v _ c.in_ok-leave.field-0 (c.in_ok-leave.ensures.flow s c.args.stack.now.items) (map_threads f c.land.new.threads.threads) v (Ok c.land.result) (c.land.ensures.flow s v))

pub returns-in-None-clause-flow : goal.returns-in-None-clause-flow
returns-in-None-clause-flow c =
    let s = story_tree c.args.tree.now in
    let f = place_of s in
    rw c.in-None.is (return_goes (next_place s) c.args.kind None (map_threads f c.args.threads.now.threads) (map_threads f c.leave.new.threads.threads) (written c.args.stack.now c.args.output.now)
    (written c.args.stack.now c.leave.new.output) _ c.in_ok-leave.field-0 (c.in_ok-leave.ensures.flow s c.args.stack.now.items) (map_threads f c.move_on.new.threads.threads) (written c.move_on.new.stack c.move_on.new.output) c.move_on.result c.move_on.ensures.flow)

pub returns-in-Some-clause-threads_mark : goal.returns-in-Some-clause-threads_mark
returns-in-Some-clause-threads_mark c = cc

pub returns-in-None-clause-threads_mark : goal.returns-in-None-clause-threads_mark
returns-in-None-clause-threads_mark c = cc

pub returns-in-None-clause-stack_mark : goal.returns-in-None-clause-stack_mark
returns-in-None-clause-stack_mark c = cc

pub returns-in-None-clause-output_mark : goal.returns-in-None-clause-output_mark
returns-in-None-clause-output_mark c = cc

pub returns-in-Some-clause-output_mark : goal.returns-in-Some-clause-output_mark
returns-in-Some-clause-output_mark c = cc
