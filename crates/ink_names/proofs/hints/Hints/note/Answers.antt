use Rattle.std.proofs.Common.{◌≡◌, inr, None, Some, rules}
use Rattle.std.specs.BTreeMap.{get_by_text}
use Rattle.ink_names.proofs.Noting.{leads_on, put_keeps, put_right, put_there}
use Rattle.ink_names.proofs.hints.Hints.note.Goals as goal

pub returns-clause-kept : goal.returns-clause-kept
returns-clause-kept c =
    let none : get_by_text c.args.others.now c.args.name.now ≡ None = search (rules) in
    put_keeps c.args.others.now c.put.new.others c.args.name.now (Some c.args.number) c.in_ok-put.ensures.ok none

pub returns-clause-right : goal.returns-clause-right
returns-clause-right c = put_right c.args.others.now c.put.new.others c.args.name.now (Some c.args.number) c.in_ok-put.ensures.ok

pub returns-clause-leads : goal.returns-clause-leads
returns-clause-leads c = leads_on c.args.self.now c.mark.new.self c.args.others.now c.put.new.others c.mark.ensures.slots c.mark.ensures.kept (returns-clause-kept c)

pub returns-clause-ok : goal.returns-clause-ok
returns-clause-ok c = λ names its right. inr (c.mark.ensures.taken, put_there c.args.others.now c.put.new.others c.args.name.now (Some c.args.number) c.in_ok-put.ensures.ok)
