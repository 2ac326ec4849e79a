-- What `flow` and `drop` answer and leave (docs/PROTOCOL.md, "Sessions").
use Rattle.std.specs.Prelude.{◌≡◌, ◌⊎◌, ℕ, List, [], true, MatchBool, bytes_eq, is_none, Option, Some, None, Result, Ok, Err}
use Rattle.ink_model.specs.Protocol.Answer.{Reply, Acts, Refuses}
use Rattle.ink_model.specs.Protocol.Changed.{FailsAllocation, OnlyRefuses}
use Rattle.ink_model.specs.Protocol.State.{State, Condition, Ready, Broken, in_game}
use Rattle.ink_model.specs.Run.Configuration.{FlowOf}
use Rattle.ink_model.specs.Run.Flows.{Game, default_flow, has_room, in_flow, is_flow_name, without_flow}
use Rattle.ink_model.specs.Story.Tree.{StoryTree}
use Rattle.ink_model.specs.Variables.Named.{at, names}
use Rattle.ink_model.specs.declared.fault.Refusal.{Refusal}
use Rattle.ink_model.specs.declared.fault.Refusal.TheVariants as refusal
use Rattle.ink_model.specs.declared.place.Part.{Part}

-- ---- going to a flow

-- flow is there; only where it is made is memory asked for
abbrev pub Goes : StoryTree → List ℕ → Game → State → Reply → State → Type 0
Goes s name g old reply new =
    ((reply ≡ Acts []) × (new ≡ in_game (in_flow s name g) old)) ⊎ ((is_none (at name g.aside) ≡ true) × FailsAllocation old reply new)

-- a bad name comes before one flow too many
abbrev pub GoesIn : StoryTree → List ℕ → Game → State → Reply → State → Type 0
GoesIn s name g old reply new = MatchBool (is_flow_name name)
    (MatchBool (has_room name g.aside)
    (Goes s name g old reply new)
    (OnlyRefuses (Refuses refusal.TooManyFlows) old reply new))
    (OnlyRefuses (Refuses refusal.BadValue) old reply new)

abbrev pub GoesFrom : StoryTree → List ℕ → Condition → State → Reply → State → Type 0
GoesFrom s name (Broken f globals) old reply new = OnlyRefuses (Refuses (refusal.Broken f)) old reply new
GoesFrom s name (Ready c) old reply new = GoesIn s name (record { now = c; aside = old.aside }) old reply new

-- `flow`
abbrev pub GoesToFlow : StoryTree → List ℕ → State → Reply → State → Type 0
GoesToFlow s name old reply new = GoesFrom s name old.condition old reply new

-- ---- taking a flow away

-- by what stands at the name; without memory
abbrev pub DropsBy : StoryTree → List ℕ → Option (Option (FlowOf (List Part))) → Game → State → Reply → State → Type 0
DropsBy s name None g old reply new = OnlyRefuses (Refuses refusal.NoSuchFlow) old reply new
DropsBy s name (Some f) g old reply new = MatchBool (bytes_eq name default_flow)
    (OnlyRefuses (Refuses refusal.DefaultFlow) old reply new)
    ((reply ≡ Acts []) × (new ≡ in_game (without_flow s name g) old))

abbrev pub DropsFrom : StoryTree → List ℕ → Condition → State → Reply → State → Type 0
DropsFrom s name (Broken f globals) old reply new = OnlyRefuses (Refuses (refusal.Broken f)) old reply new
DropsFrom s name (Ready c) old reply new = DropsBy s name (at name old.aside) (record { now = c; aside = old.aside }) old reply new

-- `drop`
abbrev pub DropsFlow : StoryTree → List ℕ → State → Reply → State → Type 0
DropsFlow s name old reply new = DropsFrom s name old.condition old reply new

-- ---- the flows that are told, also of a broken player

-- in order of making; memory is asked for their names
abbrev pub TellsFlows : State → Result (List (List ℕ)) Refusal → Type 0
TellsFlows now result = (result ≡ Ok (names now.aside)) ⊎ (result ≡ Err refusal.OutOfMemory)
