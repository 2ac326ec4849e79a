use Rattle.json_tape.proofs.Common.{json_data, members_of, members_data}
use Rattle.json_tape.proofs.Shapes.{members_all, no_members_in, members_next, members_over, members_put}
use Rattle.json_tape.proofs.value.Value.members.Goals as goal

pub returns-in_default : goal.returns-in_default
returns-in_default c = no_members_in c.args.self.now.element c.new-found.result.entries c.new-found.ensures.empty c.args.self.now.readable c.in_default.ensures

pub loop-name-init : goal.loop-name-init
loop-name-init c = members_all c.args.self.now.element c.in-Some.members c.new-found.result.entries c.new-found.ensures.empty c.args.self.now.readable c.in-Some.ensures

pub invariant_of-insert : goal.invariant_of-insert
invariant_of-insert c =
    let all = members_of (json_data c.args.self.now) in
    record { readable = (members_next c.loop-name.members c.next.new.self c.in-Some-next.element c.in-Some-next.name.now (members_data c.loop-name.found.entries) all c.loop-name.invariant c.in-Some-next.ensures.value).0 }

pub loop-name-preserved : goal.loop-name-preserved
loop-name-preserved c =
    let all = members_of (json_data c.args.self.now) in
    let next = members_next c.loop-name.members c.next.new.self c.in-Some-next.element c.in-Some-next.name.now (members_data c.loop-name.found.entries) all c.loop-name.invariant c.in-Some-next.ensures.value in
    members_put c.loop-name.found.entries c.insert.new.self.entries c.in-Some-next.name _ c.next.new.self all c.in_ok-insert.ensures.entries next.1

pub returns : goal.returns
returns c = members_over c.loop-name.members c.next.new.self (members_data c.loop-name.found.entries) (members_of (json_data c.args.self.now)) c.loop-name.invariant c.in_default-next.ensures.value
