-- What is told of visits by a path (docs/PROTOCOL.md, "Command lines").
use Rattle.std.specs.Prelude.{◌≡◌, ◌⊎◌, ℕ, ℤ, List, Option, Result}
use Rattle.ink_model.specs.Protocol.Answer.{Reply}
use Rattle.ink_model.specs.Run.Configuration.{Configuration}
use Rattle.ink_model.specs.Variables.Counts.{visits_of}
use Rattle.ink_model.specs.Run.Entered.{flags_at}
use Rattle.ink_model.specs.Variables.Rows.{place_order}
use Rattle.ink_model.specs.Protocol.Session.{FailsAllocation, Visits}
use Rattle.ink_model.specs.Protocol.State.{State}
use Rattle.ink_model.specs.Story.Tree.{StoryTree, at}
use Rattle.ink_model.specs.Run.Visits.{counted_visits, visits_by}
use Rattle.ink_model.specs.declared.fault.Refusal.{Refusal}
use Rattle.ink_model.specs.declared.place.Part.{Part}
use Rattle.ink_commands.specs.Paths.{FindsBy, ReadsPath}

-- the visits of what stands at a place, if they are counted
abbrev pub visits_at : StoryTree → List Part → Configuration → Option ℤ
visits_at s q c = counted_visits (visits_of place_order q (flags_at (at s q)) c.shared.counts)

-- the visits by a path
abbrev pub FindsVisits : StoryTree → List ℕ → Configuration → Result ℤ Refusal → Type 0
FindsVisits s path c result = FindsBy path (λ counted visits. visits ≡ counted) (visits_by s path c) result

-- `visits`, for whose path memory may be refused
abbrev pub TellsVisits : StoryTree → List ℕ → State → Reply → State → Type 0
TellsVisits s path old reply new = Visits s path old reply new ⊎ (ReadsPath path old.condition × FailsAllocation old reply new)
