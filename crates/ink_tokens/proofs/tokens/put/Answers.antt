use Rattle.ink_tokens.proofs.Adding.{added_one}
use Rattle.ink_tokens.proofs.tokens.put.Goals as goal

pub returns : goal.returns
returns c = added_one _ _ _ _ c.token.ensures
