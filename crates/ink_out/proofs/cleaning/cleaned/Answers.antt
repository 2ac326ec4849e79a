use Rattle.std.proofs.Common.{[], true}
use Rattle.ink_out.proofs.cleaning.cleaned.Goals as goal

pub returns : goal.returns
returns c = c.into_text.ensures true c.args.text.now (c.in_ok-push_str.ensures true [] c.new-shown.ensures)
