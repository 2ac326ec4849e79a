use Rattle.std.proofs.Common.{refl}
use Rattle.ink_model.specs.Story.Acceptance.{counted_container, written_target}
use Rattle.ink_model.specs.Story.Tree.{at}
use Rattle.ink_check.specs.Links.{counted_place, number_of, pushed_of, pushed_path, target_place}
use Rattle.ink_check.specs.Names.{variable_number}
use Rattle.ink_check.proofs.Checked.{lent_of}
use Rattle.ink_check.proofs.story.Story.link.Goals as goal

pub returns-clause-target : goal.returns-clause-target
returns-clause-target c = lent_of _ (target_place _) (written_target _) _ c.args.self.now.leading c.args.node c.at.result refl c.at.ensures

pub returns-clause-counted : goal.returns-clause-counted
returns-clause-counted c = lent_of _ (counted_place _) (counted_container _) _ c.args.self.now.counting c.args.node c.at.result refl c.at.ensures

pub returns-clause-pushed : goal.returns-clause-pushed
returns-clause-pushed c = lent_of _ pushed_of (λ p. pushed_path (at _ p)) _ c.args.self.now.pushing c.args.node c.at.result refl c.at.ensures

pub returns-clause-number : goal.returns-clause-number
returns-clause-number c = lent_of _ number_of (variable_number _) _ c.args.self.now.numbering c.args.node c.at.result refl c.at.ensures
