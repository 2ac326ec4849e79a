use Rattle.std.proofs.Common.{sym, ◌∙◌}
use Rattle.json_tape.proofs.Common.{json_data, members_of}
use Rattle.json_tape.proofs.Others.{none_at_first, none_after, one_now, none_at_all, none_inside}
use Rattle.json_tape.proofs.value.Value.has_other.Goals as goal

pub returns-in_default : goal.returns-in_default
returns-in_default c = none_inside c.args.first.now c.args.second.now c.args.self.now.element c.args.self.now.readable c.in_default.ensures

pub loop-name-init : goal.loop-name-init
loop-name-init c = none_at_first c.args.first.now c.args.second.now c.args.self.now.element c.in-Some.members c.args.self.now.readable c.in-Some.ensures

pub returns-then-is_other : goal.returns-then-is_other
returns-then-is_other c =
    one_now c.args.first.now c.args.second.now c.loop-name.members c.next.new.self c.in-Some-next._element c.in-Some-next.name.now (members_of (json_data c.args.self.now)) c.loop-name.invariant (sym c.is_other.ensures ∙ c.if-is_other.true) c.in-Some-next.ensures.value

pub loop-name-preserved : goal.loop-name-preserved
loop-name-preserved c =
    none_after c.args.first.now c.args.second.now c.loop-name.members c.next.new.self c.in-Some-next._element c.in-Some-next.name.now (members_of (json_data c.args.self.now)) c.loop-name.invariant (sym c.is_other.ensures ∙ c.if-is_other.false) c.in-Some-next.ensures.value

pub returns : goal.returns
returns c = none_at_all c.args.first.now c.args.second.now c.loop-name.members c.next.new.self (members_of (json_data c.args.self.now)) c.loop-name.invariant c.in_default-next.ensures.value
