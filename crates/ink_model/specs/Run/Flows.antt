-- Flows (docs/RUNNING.md, "Flows"): a configuration has the parts of the current one, and those of the others stand aside.
use Rattle.std.specs.Prelude.{ℕ, suc, List, [], ◌∷◌, length, Bool, false, ◌&&◌, ◌||◌, ◌==◌, not, nat_lt, bytes_eq, codes, is_none, is_some, unwrap_or, option_and_then, Option, Some, None, if◌then◌else◌}
use Rattle.std.specs.List.{list_any}
use Rattle.ink_model.specs.Run.Configuration.{Configuration, FlowOf, fresh_flow}
use Rattle.ink_model.specs.Run.Place.{start_place}
use Rattle.ink_model.specs.Story.Tree.{StoryTree}
use Rattle.ink_model.specs.Text.Bytes.{fits_text, is_filled, is_newline}
use Rattle.ink_model.specs.Variables.Named.{Rows, at, each, put, without}
use Rattle.ink_model.specs.declared.limits.TheConstants.{MAX_FLOWS}
use Rattle.ink_model.specs.declared.place.Part.{Part}

-- ---- names

-- the first flow, which is always there
abbrev pub default_flow : List ℕ
default_flow = codes "DEFAULT_FLOW"

-- a space or a newline
abbrev pub is_gap : ℕ → Bool
is_gap c = c == 32 || is_newline c

-- a name that a flow may have: it is not empty, has no space and no newline, and is within a text's limit
abbrev pub is_flow_name : List ℕ → Bool
is_flow_name name = is_filled name && (not (list_any is_gap name) && fits_text name)

-- ---- flows by name, whatever a flow is

-- All flows, in order of making. Nothing stands at the name of the current one.
abbrev pub AsideOf : Type 0 → Type 0
AsideOf F = Rows (Option F)

-- the current flow, and the others
pub record FlowsOf (F : Type 0) : Type 0 where
  pub current : F
  pub aside : AsideOf F

module _ {F : Type 0} where
  -- there is one flow
  abbrev pub one_flow : AsideOf F
  one_flow = (default_flow, None) ∷ []

  -- the current flow's name
  abbrev pub current_name : AsideOf F → List ℕ
  current_name [] = default_flow
  current_name (r ∷ rows) = if is_none r.1 then r.0 else current_name rows

  -- the flow that is always there is the first
  abbrev pub begins_with_default : AsideOf F → Bool
  begins_with_default [] = false
  begins_with_default (r ∷ rows) = bytes_eq r.0 default_flow

  -- at how many names nothing stands: one, that of the current flow
  abbrev pub holes : AsideOf F → ℕ
  holes [] = 0
  holes (r ∷ rows) = if is_none r.1 then suc (holes rows) else holes rows

  -- a flow stands aside at the current one's name
  abbrev pub filled : F → AsideOf F → AsideOf F
  filled f [] = []
  filled f (r ∷ rows) = if is_none r.1 then (r.0, Some f) ∷ rows else r ∷ filled f rows

  -- all flows with their names, the current one being this
  abbrev pub all_flows : F → AsideOf F → Rows F
  all_flows f rows = each (λ o. unwrap_or o f) rows

  -- the flow of a name; one that is not there begins as this
  abbrev pub flow_named : List ℕ → F → AsideOf F → F
  flow_named name fresh rows = unwrap_or (option_and_then (λ o. o) (at name rows)) fresh

  -- to the flow of a name: the current one is put aside, and that one is taken; an absent one is made last, and begins as this
  abbrev pub goes_to : F → List ℕ → FlowsOf F → FlowsOf F
  goes_to fresh name fs = let left = filled fs.current fs.aside in record { current = flow_named name fresh left; aside = put name None left }

  -- a flow is taken away; where it is the current one, the first becomes that before
  abbrev pub dropped : F → List ℕ → FlowsOf F → FlowsOf F
  dropped fresh name fs = let left = if bytes_eq name (current_name fs.aside) then goes_to fresh default_flow fs else fs in
      record { current = left.current; aside = without name left.aside }

  -- a flow of this name is there, or may be made
  abbrev pub has_room : List ℕ → AsideOf F → Bool
  has_room name rows = is_some (at name rows) || nat_lt (length rows) MAX_FLOWS

-- ---- games

abbrev pub Aside : Type 0
Aside = AsideOf (FlowOf (List Part))

-- a configuration, which has the current flow, and the flows that stand aside
pub record Game : Type 0 where
  pub now : Configuration
  pub aside : Aside

-- with one flow
abbrev pub alone : Configuration → Game
alone c = record { now = c; aside = one_flow }

abbrev pub flows_in : Game → FlowsOf (FlowOf (List Part))
flows_in g = record { current = g.now.flow; aside = g.aside }

abbrev pub with_flows : FlowsOf (FlowOf (List Part)) → Game → Game
with_flows fs g = record { now = record g.now { flow = fs.current }; aside = fs.aside }

-- a flow that is made stands at the story's start
abbrev pub first_flow : StoryTree → FlowOf (List Part)
first_flow s = fresh_flow (start_place s)

-- what all flows share stays
abbrev pub in_flow : StoryTree → List ℕ → Game → Game
in_flow s name g = with_flows (goes_to (first_flow s) name (flows_in g)) g

abbrev pub without_flow : StoryTree → List ℕ → Game → Game
without_flow s name g = with_flows (dropped (first_flow s) name (flows_in g)) g
