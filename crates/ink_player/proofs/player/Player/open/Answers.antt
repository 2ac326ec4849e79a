use Rattle.std.proofs.Common.{ap, is_ok}
use Rattle.ink_player.proofs.Common.{story_tree, config_of, is_empty}
use Rattle.ink_sound.proofs.Sessions.{opened_fits}
use Rattle.ink_player.proofs.Standing.{alone-fits}
use Rattle.ink_player.proofs.player.Player.open.Goals as goal

pub invariant_of-result : goal.invariant_of-result
invariant_of-result g c = record {
  taken = ap (λ d. is_empty d.events) c.start_anew.ensures;
  story = c.story_fits.ensures;
  opens = ap (λ r. is_ok r) c.in-Ok.ensures.ok;
  unmarked = c.in-Ok.ensures.mark;
  fits = (opened_fits (story_tree c.args.story) c.story_fits.ensures (config_of (story_tree c.args.story) c.in-Ok.machine) c.in-Ok.ensures.ok).condition;
  aside = alone-fits (story_tree c.args.story) c.in-Ok.machine c.in-Ok.ensures.aside;
}
