use Rattle.std.proofs.Common.{inl, refl, subst}
use Rattle.ink_sound.proofs.Common.{Game, spelling, Reads}
use Rattle.ink_sound.specs.Kept.{ConditionFits}
use Rattle.ink_sound.proofs.Respelling.{reads_back}
use Rattle.ink_sound.proofs.Sessions.{session_states}
use Rattle.ink_sound.proofs.Stories.{accepted_story_fits}
use Rattle.ink_sound.proofs.sessions_reload.Goals as goal

pub returns : goal.returns
returns c = λ bytes s accepted d opens h es lines written new session x ready.
    let story = accepted_story_fits bytes s accepted in
    let fits = session_states s story d opens h es lines written new session in
    let here = subst (ConditionFits s) ready fits.condition in
    let g : Game = record { now = x; aside = new.aside } in
    let reads : Reads s (spelling g) g = record { spells = inl refl; stands = record { sound = here.0; rests = here.1; aside = fits.aside } } in
    (reads, reads_back s story (spelling g) g reads)
