-- Where a machine goes back to.
use Rattle.std.proofs.Common.{◌≡◌, ◌∙◌, subst, sym, ℕ, Option}
use Rattle.ink_look.specs.Looking.{IsMarked, Waits, waiting_after}
use Rattle.ink_look.proofs.Common.{Looked, StoryTree, config_of}
use Rattle.ink_step.proofs.Marked.{back_to}
use Rattle.ink_step.specs.Marks.{config_back, marked_at, stood_of}
use Rattle.ink_step.specs.declared.machine.Machine.{Machine}

-- a step does not move it
pub back_stays : (s : StoryTree) (old new : Machine) → IsMarked old → stood_of new ≡ stood_of old → config_back s new ≡ config_back s old
back_stays s old new marked same = back_to s new marked.0 (same ∙ marked.1) ∙ sym (back_to s old marked.0 marked.1)

pub stays_marked : (old new : Machine) → IsMarked old → stood_of new ≡ stood_of old → IsMarked new
stays_marked old new marked same = (marked.0, same ∙ marked.1)

-- it is where flow is as the mark begins
pub back_here : (s : StoryTree) (old new : Machine) → stood_of new ≡ marked_at old → config_of s new ≡ config_of s old → config_back s new ≡ config_of s new
back_here s old new marked same = back_to s new old marked ∙ sym same

-- what waits after a step
pub waits_for : (l : Looked) (w : Option ℕ) (m : Machine) → w ≡ waiting_after l → Waits (waiting_after l) m → Waits w m
waits_for l w m is h = subst (λ w. Waits w m) (sym is) h

pub waits_as : (l other : Looked) (m : Machine) → l ≡ other → Waits (waiting_after l) m → Waits (waiting_after other) m
waits_as l other m is h = subst (λ l. Waits (waiting_after l) m) is h
