use Rattle.std.proofs.Common.{ap, not, ◌∙◌}
use Rattle.std.specs.BTreeSet.{contains_by, insert_key}
use Rattle.ink_json.specs.Reading.{name_order}
use Rattle.ink_json.proofs.Sets.{holds_more, given_before}
use Rattle.ink_json.proofs.names.Given.give.Goals as goal

pub returns-then-not-label-clause-given : goal.returns-then-not-label-clause-given
returns-then-not-label-clause-given c = λ taken held.
    let keys = c.in_ok-is_new.ensures.keys ∙ ap (λ n. insert_key name_order c.args.self.now.names.keys (n, c.in-Some.name)) c.ending.ensures in
    rw c.in-Some.is (holds_more c.args.self.now (record { names = c.insert.new.self }) taken c.in-Some.name keys held)

pub returns-else-not-label-clause-given : goal.returns-else-not-label-clause-given
returns-else-not-label-clause-given c = λ taken held.
    let keys = c.in_ok-is_new.ensures.keys ∙ ap (λ n. insert_key name_order c.args.self.now.names.keys (n, c.in-Some.name)) c.ending.ensures in
    rw c.in-Some.is (holds_more c.args.self.now (record { names = c.insert.new.self }) taken c.in-Some.name keys held)

pub returns-else-not-label-clause-misnamed : goal.returns-else-not-label-clause-misnamed
returns-else-not-label-clause-misnamed c = λ taken held d label.
    let new = c.in_ok-is_new.ensures.added ∙ ap (λ n. not (contains_by (name_order (n, c.in-Some.name)) c.args.self.now.names)) c.ending.ensures in
    rw (← label.0, ← label.1, c.in-Some.is, c.if-not-label.false) (given_before c.args.self.now taken c.in-Some.name c.in_ok-is_new.is_new new held)
