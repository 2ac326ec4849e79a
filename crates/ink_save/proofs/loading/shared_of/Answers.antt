use Rattle.std.proofs.Common.{ap}
use Rattle.ink_save.proofs.Below.{own_counts}
use Rattle.ink_save.proofs.loading.shared_of.Goals as goal

pub returns : goal.returns
returns c = λ s own. ap (λ counts. record { globals = c.args.parts.globals.rows; counts = counts; turn = c.args.parts.turn }) (own_counts s c.args.parts.counts.rows own)
