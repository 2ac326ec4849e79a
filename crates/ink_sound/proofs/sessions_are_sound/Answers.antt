use Rattle.ink_sound.proofs.Sessions.{session_states}
use Rattle.ink_sound.proofs.Stories.{accepted_story_fits}
use Rattle.ink_sound.proofs.sessions_are_sound.Goals as goal

pub returns : goal.returns
returns c = λ bytes s accepted. session_states s (accepted_story_fits bytes s accepted)
