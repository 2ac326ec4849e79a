use Rattle.std.proofs.Common.{◌∙◌, ap, refl, Ok}
use Rattle.ink_effects.proofs.Common.{story_tree, led_by, read, landing_of, seen_by, place_of}
use Rattle.ink_effects.proofs.Landings.{held_to, written_to}
use Rattle.ink_effects.proofs.diverts.landing_to.Goals as goal

pub returns-in-Some : goal.returns-in-Some
returns-in-Some c rest =
    let s = story_tree c.args.story.now in
    ap (λ l. Ok (landing_of s l)) c.entering.ensures
    ∙ written_to s (place_of s c.args.here) (seen_by s c.args.threads.now.threads rest) _ c.args.globals.now.rows _ _ c.in-Path.is c.in-Some.ensures c.requires

pub returns-in-None : goal.returns-in-None
returns-in-None c rest =
    let s = story_tree c.args.story.now in
    written_to s (place_of s c.args.here) (seen_by s c.args.threads.now.threads rest) _ c.args.globals.now.rows _ _ c.in-Path.is c.in-None.ensures c.requires

pub returns-in-Variable : goal.returns-in-Variable
returns-in-Variable c rest =
    let s = story_tree c.args.story.now in
    let globals = c.args.globals.now.rows in
    let thread = c.args.threads.now.threads.thread in
    held_to s _ (seen_by s c.args.threads.now.threads rest) _ globals _ thread _ c.in-Variable.is refl (c.landing_in.ensures ∙ ap (λ name. led_by s (read globals thread name)) c.as_str.ensures)
