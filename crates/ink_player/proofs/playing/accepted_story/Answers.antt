use Rattle.std.proofs.Common.{rules, ◌≡◌, Err}
use Rattle.ink_check.specs.Standing.{story_tree}
use Rattle.ink_player.proofs.Refusing.{unread, unaccepted_as, all_accepted_as}
use Rattle.ink_player.proofs.playing.accepted_story.Goals as goal

pub returns-in_err-read_story-clause-err : goal.returns-in_err-read_story-clause-err
returns-in_err-read_story-clause-err c =
    let is : c.from_residual.result ≡ Err c.in_err-read_story.field-0.0 = search rules in
    rw is (unread _ _ c.in_err-read_story.ensures.err)

pub returns-clause-ok : goal.returns-clause-ok
returns-clause-ok c = all_accepted_as _ _ c.in_ok-read_story.ensures.ok story_tree c.check.result c.check.ensures.ok

pub returns-clause-err : goal.returns-clause-err
returns-clause-err c = unaccepted_as _ _ c.in_ok-read_story.ensures.ok c.check.result c.check.ensures.err
