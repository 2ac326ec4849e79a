use Rattle.std.proofs.Common.{◌≤◌, length, rules, sym}
use Rattle.ink_look.proofs.Steps.{none_new}
use Rattle.ink_look.proofs.looking.newline_since.Goals as goal

pub returns-then-len-marks : goal.returns-then-len-marks
returns-then-len-marks c =
    let few : length c.args.output.now.page.line ≤ c.args.marks = search rules in
    sym (none_new c.args.marks c.args.output.now.page few)
