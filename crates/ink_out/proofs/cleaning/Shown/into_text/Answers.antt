use Rattle.std.proofs.Common.{string_bytes, ◌∙◌}
use Rattle.ink_out.proofs.Lines.{all_held}
use Rattle.ink_out.proofs.cleaning.Shown.into_text.Goals as goal

pub returns : goal.returns
returns c cleans written h = c.from_string.ensures ∙ all_held cleans c.args.self.before (string_bytes c.args.self.text) written h
