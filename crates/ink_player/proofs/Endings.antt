-- How often the source of a session was at its end.
use Rattle.std.proofs.Common.{◌≡◌, inl, inr, subst, ℕ, List, true, Option, Err}
use Rattle.ink_player.proofs.Common.{Watching, Called, Bindings, StoryTree, Answers, Scene, PlayFault, after_call, RunFault}
use Rattle.ink_player.specs.Ends.{EndsOnce, FailsOnce, IsLastLine}
use Rattle.ink_player.specs.declared.end.PlayFault.TheVariants as play
use Rattle.ink_protocol.specs.declared.fault.RunFault.TheVariants as fault

-- from where it stood at first
pub ends_from : (f : RunFault) (first was is : ℕ) → was ≡ first → EndsOnce (Err f) was is → EndsOnce (Err f) first is
ends_from f first was is same h = subst (λ n. EndsOnce (Err f) n is) same h

-- ---- not at all

pub ends_not : (f : RunFault) (was is : ℕ) → is ≡ was → EndsOnce (Err f) was is
ends_not fault.Read was is h = h
ends_not fault.Write was is h = inl h
ends_not fault.TooLong was is h = h
ends_not fault.OutOfMemory was is h = inl h

pub fails_not : (left left' : Option (List ℕ)) (f : PlayFault) (was is : ℕ) → is ≡ was → FailsOnce left left' f was is
fails_not left left' (play.Story r) was is h = inl h
fails_not left left' (play.Start f) was is h = inl h
fails_not left left' (play.Run f) was is h = ends_not f was is h

-- ---- once

-- the last line was not answered whole
pub ends_once : {P F O : Type 0} (turn_log : F → List Called) (refusals : F → ℕ) (state : O → Watching) (s : StoryTree) (h : Bindings) (line : List ℕ) (held held' : Option (List ℕ)) (old new : Scene P F O) (f : RunFault) (was is : ℕ)
    → Answers turn_log refusals state s h line held held' old new (Err f) → is ≡ after_call true was → EndsOnce (Err f) was is
ends_once turn_log refusals state s h line held held' old new fault.Read was is answers once = absurd answers
ends_once turn_log refusals state s h line held held' old new fault.Write was is answers once = inr once
ends_once turn_log refusals state s h line held held' old new fault.TooLong was is answers once = absurd answers
ends_once turn_log refusals state s h line held held' old new fault.OutOfMemory was is answers once = inr once

-- the story is the last line, and is not played
pub fails_once : (left left' : Option (List ℕ)) (f : PlayFault) (was is : ℕ) → IsLastLine left left' f → is ≡ after_call true was → FailsOnce left left' f was is
fails_once left left' (play.Story r) was is last once = inr (once, last)
fails_once left left' (play.Start f) was is last once = inr (once, last)
fails_once left left' (play.Run f) was is (line, consumed, at_end, plain, within, opens) once = absurd opens
