-- What is done to watchers that are told.
use Rattle.std.specs.Prelude.{◌≡◌, ◌≢◌, List, [], Bool, Result, Ok, Err}
use Rattle.ink_host.specs.Desk.{DeskView, Grew}
use Rattle.ink_host.specs.Telling.{IsRound, Watching, log_of}
use Rattle.ink_host.specs.declared.objects.Called.{Called}
use Rattle.ink_model.specs.Host.Told.{ToldAs}
use Rattle.ink_model.specs.declared.host.Change.{Change}
use Rattle.ink_model.specs.declared.host.Event.{Event}

module _ {P F O : Type 0} where
  -- The watchers were told these changes, those of them that are watched: all of them, or all but those for which a watcher found
  -- no memory. Or memory was refused for telling, with something to tell, and nothing has changed.
  abbrev pub TellsWatchers : {E : Type 0} → (F → List Called) → (O → Watching) → DeskView P F O → List Change → List Change → Result Bool E → DeskView P F O → Type 0
  TellsWatchers turn_log state old cs watched (Ok all) new = (es : List Event) × (t : ToldAs old.next watched all es)
      × IsRound state old.next cs watched t.answers old.watchers new.watchers × Grew turn_log (log_of state) old es new
  TellsWatchers turn_log state old cs watched (Err e) new = (watched ≢ []) × (new ≡ old)
