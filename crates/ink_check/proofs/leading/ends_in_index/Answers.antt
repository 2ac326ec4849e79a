use Rattle.std.proofs.Common.{◌∙◌, sym, ap, Some}
use Rattle.ink_check.proofs.Checked.{is_index, last_index}
use Rattle.ink_check.proofs.leading.ends_in_index.Goals as goal

pub returns-in-Some-Index : goal.returns-in-Some-Index
returns-in-Some-Index c = ap is_index (ap Some (sym c.in-Some-Index.field-0-is) ∙ c.in-Some-Index.ensures.value) ∙ last_index c.args.parts.now

pub returns-in-Some-Name : goal.returns-in-Some-Name
returns-in-Some-Name c = ap is_index (ap Some (sym c.in-Some-Name.field-0-is) ∙ c.in-Some-Name.ensures.value) ∙ last_index c.args.parts.now

pub returns-in-None : goal.returns-in-None
returns-in-None c = ap is_index c.in-None.ensures.value ∙ last_index c.args.parts.now
