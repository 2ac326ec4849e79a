-- What `choose` and `jump` answer and leave, and the choices that a player shows (docs/PROTOCOL.md, "Sessions").
use Rattle.std.specs.Prelude.{◌≡◌, ◌≢◌, ◌⊎◌, ℕ, List, [], true, if◌then◌else◌, Option, Some, None, Result, Ok, Err}
use Rattle.ink_model.specs.Choices.Choosing.{chosen, jump_place, jumped, open_choice}
use Rattle.ink_model.specs.Choices.Making.{shown}
use Rattle.ink_model.specs.Protocol.Answer.{Reply, Acts, Refuses}
use Rattle.ink_model.specs.Protocol.Changed.{FailsAllocation, OnlyRefuses, with_condition}
use Rattle.ink_model.specs.Protocol.State.{State, Condition, Ready, Broken}
use Rattle.ink_model.specs.Run.Configuration.{ChoiceOf, Configuration, can_go_on}
use Rattle.ink_model.specs.Run.Visits.{entering_around, entering_asks}
use Rattle.ink_model.specs.Story.Tree.{StoryTree}
use Rattle.ink_model.specs.declared.fault.Refusal.{Refusal}
use Rattle.ink_model.specs.declared.fault.Refusal.TheVariants as refusal
use Rattle.ink_model.specs.declared.passage.Shown.{Shown}
use Rattle.ink_model.specs.declared.place.Part.{Part}

-- ---- choosing and jumping

-- Flow has landed there for a host, and enters the containers around. Only a first visit asks for memory.
abbrev pub LandsFor : StoryTree → Configuration → State → Reply → State → Type 0
LandsFor s c old reply new =
    ((reply ≡ Acts []) × (new ≡ with_condition (Ready (entering_around s c)) old)) ⊎ ((entering_asks s c ≡ true) × FailsAllocation old reply new)

abbrev pub ChoosesBy : StoryTree → Option (ChoiceOf (List Part)) → Configuration → State → Reply → State → Type 0
ChoosesBy s None c old reply new = OnlyRefuses (Refuses refusal.NotAChoice) old reply new
ChoosesBy s (Some choice) c old reply new = LandsFor s (chosen choice c) old reply new

abbrev pub ChoosesFrom : StoryTree → ℕ → Condition → State → Reply → State → Type 0
ChoosesFrom s n (Broken f globals) old reply new = OnlyRefuses (Refuses (refusal.Broken f)) old reply new
ChoosesFrom s n (Ready c) old reply new = ChoosesBy s (open_choice n c) c old reply new

-- `choose`
abbrev pub Choose : StoryTree → ℕ → State → Reply → State → Type 0
Choose s n old reply new = ChoosesFrom s n old.condition old reply new

abbrev pub JumpsBy : StoryTree → Option (List Part) → Configuration → State → Reply → State → Type 0
JumpsBy s None c old reply new = OnlyRefuses (Refuses refusal.NoSuchPath) old reply new
JumpsBy s (Some q) c old reply new = LandsFor s (jumped q c) old reply new

abbrev pub JumpsFrom : StoryTree → List ℕ → Condition → State → Reply → State → Type 0
JumpsFrom s path (Broken f globals) old reply new = OnlyRefuses (Refuses (refusal.Broken f)) old reply new
JumpsFrom s path (Ready c) old reply new = JumpsBy s (jump_place s path) c old reply new

-- `jump`, without memory for the path as it is spelled
abbrev pub Jump : StoryTree → List ℕ → State → Reply → State → Type 0
Jump s path old reply new = JumpsFrom s path old.condition old reply new

-- ---- choices that are shown

-- the visible choices, once flow has stopped
abbrev pub open_choices : Configuration → List Shown
open_choices c = if can_go_on c then [] else shown c.flow.choices

-- what a player shows of its choices; only where there are some is memory asked for
abbrev pub ShowsFrom : Condition → Result (List Shown) Refusal → Type 0
ShowsFrom (Broken f globals) result = result ≡ Err (refusal.Broken f)
ShowsFrom (Ready c) result = (result ≡ Ok (open_choices c)) ⊎ ((result ≡ Err refusal.OutOfMemory) × (open_choices c ≢ []))

abbrev pub ShowsChoices : State → Result (List Shown) Refusal → Type 0
ShowsChoices now result = ShowsFrom now.condition result
