use Rattle.std.proofs.Common.{ap, ◌∙◌}
use Rattle.std.specs.BTreeSet.{contains_by}
use Rattle.ink_json.specs.Reading.{name_order}
use Rattle.ink_json.proofs.Sets.{none_given}
use Rattle.ink_json.proofs.names.Given.has.Goals as goal

pub returns-then-is_empty : goal.returns-then-is_empty
returns-then-is_empty c = λ taken held. none_given c.args.self.now taken c.args.name (c.is_empty.ensures.0 c.if-is_empty.true) held

pub returns : goal.returns
returns c = λ taken held. c.contains.ensures ∙ ap (λ n. contains_by (name_order (n, c.args.name)) c.args.self.now.names) c.ending.ensures ∙ held c.args.name
