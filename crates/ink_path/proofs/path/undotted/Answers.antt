use Rattle.std.proofs.Common.{None, lit<}
use Rattle.std.proofs.lemmas.Str.Pattern.{strip_prefix_char}
use Rattle.ink_path.proofs.Reading.{absolute, all_behind, not_relative}
use Rattle.ink_path.proofs.path.undotted.Goals as goal

pub returns-in-None-clause-path : goal.returns-in-None-clause-path
returns-in-None-clause-path c = absolute c.args.text.now (strip_prefix_char 46 c.args.text.now None c.in-None.ensures.cases (lit< tt))

pub returns-in-None-clause-relative : goal.returns-in-None-clause-relative
returns-in-None-clause-relative c = not_relative c.args.text.now (strip_prefix_char 46 c.args.text.now None c.in-None.ensures.cases (lit< tt))

pub returns-in-None-clause-rest : goal.returns-in-None-clause-rest
returns-in-None-clause-rest c = all_behind c.args.text.now (strip_prefix_char 46 c.args.text.now None c.in-None.ensures.cases (lit< tt))
