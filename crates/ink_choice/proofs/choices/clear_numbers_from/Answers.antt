use Rattle.ink_model.specs.Run.Configuration.{unnumbered_choice}
use Rattle.ink_choice.proofs.Settling.{walked-end}
use Rattle.ink_choice.proofs.choices.clear_numbers_from.Goals as goal

pub returns : goal.returns
returns g c = walked-end unnumbered_choice c.args.choices.now c.clear_numbers_of.new.choices c.args.from c.requires c.clear_numbers_of.ensures
