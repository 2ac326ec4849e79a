use Rattle.std.proofs.Common.{◌∙◌}
use Rattle.ink_player.proofs.Common.{story_tree, config_of}
use Rattle.ink_player.proofs.Standing.{aside-stays, choose-stands, chooses-free, free-stands, stands-free}
use Rattle.ink_player.proofs.player.Player.choose.Goals as goal

pub invariant_of-self : goal.invariant_of-self
invariant_of-self g c =
    let s = story_tree c.self.inside.story in
    let start = config_of s c.self.inside.machine in
    let kept = c.self.invariant in
    stands-free s kept.story kept.opens c.choose.new.self c.self.inside.desk.events c.self.inside.broken kept.taken c.in_default.is (c.choose.ensures.mark ∙ kept.unmarked)
    (choose-stands s kept.story start (free-stands s kept.story c.self.inside.broken start c.in_default.is kept.fits) _ (config_of s c.choose.new.self) c.choose.result
    (chooses-free s c.self.inside.machine c.choose.new.self kept.unmarked (c.choose.ensures.mark ∙ kept.unmarked) _ (config_of s c.choose.new.self) c.choose.result c.choose.ensures.chooses))
    (aside-stays s kept.story c.self.inside.machine c.choose.new.self c.choose.ensures.aside kept.aside)
