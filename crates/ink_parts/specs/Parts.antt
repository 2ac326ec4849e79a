-- The game of what is kept.
use Rattle.std.specs.Prelude.{List, ℕ, codes, unwrap_or, Option}
use Rattle.serde_json.specs.Data.{Data, Members, put, string}
use Rattle.ink_flows.specs.Standing.{aside_of, flow_of}
use Rattle.ink_flows.specs.declared.flow.Flow.{Flow}
use Rattle.ink_model.specs.Run.Configuration.{FlowOf}
use Rattle.ink_model.specs.Run.Flows.{Aside, Game, all_flows, current_name}
use Rattle.ink_model.specs.Text.Output.{empty_page}
use Rattle.ink_model.specs.Story.Tree.{StoryTree}
use Rattle.ink_model.specs.declared.place.Part.{Part}
use Rattle.ink_model.specs.Save.Spelling.{list_data, named_flow_data}
use Rattle.ink_parts.specs.Counted.{rows_at}
use Rattle.ink_parts.specs.declared.kept.Kept.{Kept}
use Rattle.ink_vars.specs.Slots.{rows_from}

-- nothing is being written
abbrev pub kept_as : StoryTree → Kept → Game
kept_as s k = record {
  now = record {
    flow = flow_of s k.flow.now;
    shared = record { globals = k.globals.now.rows; counts = record { visits = rows_at s (rows_from 0 k.visits.now); turns = rows_at s (rows_from 0 k.turns.now) }; turn = k.turn };
    page = empty_page;
  };
  aside = aside_of s k.aside.now;
}

-- what stands at a name, or else the current flow, with its name
abbrev pub row_in : StoryTree → Flow → List ℕ × Option Flow → Data
row_in s current r = named_flow_data (r.0, flow_of s (unwrap_or r.1 current))

-- all flows, and the current one's name, put among other members one by one
abbrev pub flows_members : FlowOf (List Part) → Aside → Members → Members
flows_members f rows others = put (codes "current") (string (current_name rows)) (put (codes "flows") (list_data named_flow_data (all_flows f rows)) others)
