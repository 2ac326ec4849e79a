use Rattle.std.proofs.Common.{◌∙◌, [], false, refl, sym, true}
use Rattle.ink_check.specs.Standing.{story_tree}
use Rattle.ink_model.specs.Protocol.Answer.{Acts, Refuses}
use Rattle.ink_model.specs.Run.Flows.{has_room}
use Rattle.ink_model.specs.declared.fault.Refusal.TheVariants as refusal
use Rattle.ink_step.specs.Standing.{game_of}
use Rattle.ink_commands.specs.States.{state_in}
use Rattle.ink_commands.proofs.Going.{flow-broken, goes-by, goes-short, goes-there}
use Rattle.ink_commands.proofs.flows.go_to_flow.Goals as goal

pub returns-in-Some-clause-does : goal.returns-in-Some-clause-does
returns-in-Some-clause-does c = λ n.
    let s = story_tree c.args.story.now in
    flow-broken s c.args.name.now (game_of s c.args.machine.now) n c.args.broken c.in-Some.fault c.in-Some.is

pub returns-then-not-is_flow_name-clause-does : goal.returns-then-not-is_flow_name-clause-does
returns-then-not-is_flow_name-clause-does c = λ n.
    let s = story_tree c.args.story.now in
    let game = game_of s c.args.machine.now in
    goes-by s c.args.name.now game n (Refuses refusal.BadValue) (state_in s c.args.broken c.args.machine.now n) c.args.broken false (has_room c.args.name.now game.aside) c.in_default.is
    (sym c.is_flow_name.ensures ∙ c.if-not-is_flow_name.true) refl (refl, refl)

pub returns-then-not-has_room-clause-does : goal.returns-then-not-has_room-clause-does
returns-then-not-has_room-clause-does c = λ n.
    let s = story_tree c.args.story.now in
    goes-by s c.args.name.now (game_of s c.args.machine.now) n (Refuses refusal.TooManyFlows) (state_in s c.args.broken c.args.machine.now n) c.args.broken true false c.in_default.is
    (sym c.is_flow_name.ensures ∙ c.if-not-is_flow_name.false) (sym (c.has_room.ensures s) ∙ c.if-not-has_room.true) (refl, refl)

pub returns-clause-does : goal.returns-clause-does
returns-clause-does c = λ n.
    let s = story_tree c.args.story.now in
    let game = game_of s c.args.machine.now in
    goes-by s c.args.name.now game n (Acts []) (state_in s c.args.broken c.flow.new.self n) c.args.broken true true c.in_default.is
    (sym c.is_flow_name.ensures ∙ c.if-not-is_flow_name.false) (sym (c.has_room.ensures s) ∙ c.if-not-has_room.false)
    (goes-there s c.args.name.now game n c.args.broken (game_of s c.flow.new.self) c.in_default.is c.in-Ok.ensures.ok)

pub returns-in_default-flow-clause-does : goal.returns-in_default-flow-clause-does
returns-in_default-flow-clause-does c = λ n.
    let s = story_tree c.args.story.now in
    let game = game_of s c.args.machine.now in
    goes-by s c.args.name.now game n (Refuses refusal.OutOfMemory) (state_in s c.args.broken c.flow.new.self n) c.args.broken true true c.in_default.is
    (sym c.is_flow_name.ensures ∙ c.if-not-is_flow_name.false) (sym (c.has_room.ensures s) ∙ c.if-not-has_room.false)
    (goes-short s c.args.name.now game n c.args.broken (game_of s c.flow.new.self) c.in_default-flow.ensures.err c.in_default-flow.ensures.memory)

pub flow-requires-clause-room : goal.flow-requires-clause-room
flow-requires-clause-room c = sym (c.has_room.ensures (story_tree c.args.story.now)) ∙ c.if-not-has_room.false
