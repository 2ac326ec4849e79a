use Rattle.std.proofs.Common.{◌++◌, string_bytes}
use Rattle.ink_out.specs.Joined.{texts_of}
use Rattle.ink_out.proofs.Joined.{all_joined}
use Rattle.ink_out.proofs.joining.push_texts.Goals as goal

pub returns : goal.returns
returns c = all_joined c.loop-mark.mark-index _ (string_bytes c.loop-mark.line) (string_bytes c.args.line.now ++ texts_of c.args.texts.now) c.loop-mark-test.false c.loop-mark.invariant
