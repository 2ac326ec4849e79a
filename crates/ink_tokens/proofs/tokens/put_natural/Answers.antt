use Rattle.ink_tokens.proofs.Adding.{added_natural}
use Rattle.ink_tokens.proofs.tokens.put_natural.Goals as goal

pub returns : goal.returns
returns c = added_natural _ _ _ _ c.u64.ensures
