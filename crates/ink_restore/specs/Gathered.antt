-- The flows that a save spells.
use Rattle.std.specs.Prelude.{ℕ, List, [], ◌∷◌, Bool, false, ◌&&◌, IsTrue, bytes_eq, length, nat_le, Option, Some, None}
use Rattle.std.specs.List.{AllByRecursion}
use Rattle.std.specs.Option.{option_map}
use Rattle.ink_flows.specs.Standing.{aside_of, flow_of, rows_of}
use Rattle.ink_flows.specs.declared.flow.Flow.{Flow}
use Rattle.ink_model.specs.Run.Configuration.{FlowOf}
use Rattle.ink_model.specs.Run.Flows.{Aside, AsideOf, default_flow, is_flow_name}
use Rattle.ink_model.specs.Variables.Named.{Rows, once}
use Rattle.ink_model.specs.Save.Sound.{AsideFits, FlowSound}
use Rattle.ink_model.specs.Story.Tree.{StoryTree}
use Rattle.ink_model.specs.declared.limits.TheConstants.{MAX_FLOWS}
use Rattle.ink_model.specs.declared.place.Part.{Part}
use Rattle.ink_restore.specs.declared.flowing.Gathered.{Gathered}
use Rattle.ink_restore.specs.declared.restoring.AllFlows.{AllFlows}

-- a flow is sound, and may have its name
abbrev pub NamedSound : StoryTree → List ℕ × FlowOf (List Part) → Type 0
NamedSound s r = IsTrue (is_flow_name r.0) × FlowSound s r.1

-- each is, and no name stands twice
pub record FlowsFit (s : StoryTree) (flows : Rows (FlowOf (List Part))) : Type 0 where
  pub each : AllByRecursion (NamedSound s) flows
  pub names : IsTrue (once flows)

-- the first has the name of the flow that is always there
abbrev pub first_is_default : {F : Type 0} → Rows F → Bool
first_is_default [] = false
first_is_default (r ∷ rows) = bytes_eq r.0 default_flow

-- and there are not too many
abbrev pub may_be_all : {F : Type 0} → Rows F → Bool
may_be_all rows = first_is_default rows && nat_le (length rows) MAX_FLOWS

abbrev pub gathered_as : StoryTree → Gathered → Aside × Option (FlowOf (List Part))
gathered_as s g = (aside_of s (rows_of g.rows.entries), option_map (flow_of s) g.current)

abbrev pub flows_as : StoryTree → AllFlows → Option (FlowOf (List Part)) × Aside
flows_as s v = (Some (flow_of s v.flow), aside_of s v.aside)

-- the current flow, and the others
abbrev pub parts_of : AllFlows → Flow × AsideOf Flow
parts_of v = (v.flow, v.aside)

abbrev pub with_rows : AsideOf Flow → Flow → Flow × AsideOf Flow
with_rows rows f = (f, rows)

-- there is a current flow, which is sound, and the others stand aside
abbrev pub CurrentSound : StoryTree → Option (FlowOf (List Part)) → Type 0
CurrentSound s None = ⊥
CurrentSound s (Some f) = FlowSound s f

abbrev pub AllStand : StoryTree → Option (FlowOf (List Part)) × Aside → Type 0
AllStand s p = CurrentSound s p.0 × AsideFits s p.1
