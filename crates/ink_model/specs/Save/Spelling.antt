-- The JSON value that a game is saved as: layout 2; and layout 1, of a configuration alone (docs/SAVES.md).
use Rattle.std.specs.Prelude.{ℕ, pos, List, [], ◌∷◌, map, reverse, codes, Option, Some, None}
use Rattle.serde_json.specs.Data.{Data, null, boolean, number, string, array, object, Members, no_members, member, put}
use Rattle.serde_json.specs.Find.{of_integer}
use Rattle.ink_model.specs.Flow.Frames.{FrameOf, ThreadOf, ThreadsOf}
use Rattle.ink_model.specs.Host.Events.{items_of}
use Rattle.ink_model.specs.Protocol.ValueJson.{value_data}
use Rattle.ink_model.specs.Run.Configuration.{ChoiceOf, Configuration, FlowOf}
use Rattle.ink_model.specs.Run.Flows.{Game, all_flows, current_name}
use Rattle.ink_model.specs.declared.frame.FrameKind.{FrameKind}
use Rattle.ink_model.specs.declared.frame.FrameKind.TheVariants.{Base, Function, Tunnel}
use Rattle.ink_model.specs.declared.place.Part.{Part}
use Rattle.ink_model.specs.declared.place.Part.TheVariants.{Index, Name}
use Rattle.ink_model.specs.declared.value.Value.{Value}

abbrev pub count_data : ℕ → Data
count_data n = number (of_integer (pos n))

abbrev pub list_data : {A : Type 0} → (A → Data) → List A → Data
list_data f xs = array (items_of (map f xs))

abbrev pub part_data : Part → Data
part_data (Index i) = count_data i
part_data (Name n) = string n

abbrev pub place_data : List Part → Data
place_data p = list_data part_data p

abbrev pub place_or_null : Option (List Part) → Data
place_or_null None = null
place_or_null (Some p) = place_data p

abbrev pub kind_data : FrameKind → Data
kind_data Base = string (codes "base")
kind_data Function = string (codes "function")
kind_data Tunnel = string (codes "tunnel")

abbrev pub temps_members : List (List ℕ × Value) → Members
temps_members [] = no_members
temps_members (r ∷ rs) = member r.0 (value_data r.1) (temps_members rs)

-- the number of its Enter is not saved
abbrev pub frame_data : FrameOf (List Part) → Data
frame_data f = object
    (member (codes "depth") (count_data f.depth)
    (member (codes "eval") (boolean f.evaluating)
    (member (codes "fresh") (boolean f.fresh)
    (member (codes "kind") (kind_data f.kind)
    (member (codes "place") (place_or_null f.place)
    (member (codes "temps") (object (temps_members f.temps)) no_members))))))

-- the bottom frame first
abbrev pub thread_data : ThreadOf (List Part) → Data
thread_data t = object
    (member (codes "frames") (list_data frame_data (reverse (t.frame ∷ t.below)))
    (member (codes "previous") (place_or_null t.previous) no_members))

-- the bottom thread first
abbrev pub threads_data : ThreadsOf (List Part) → Data
threads_data ts = list_data thread_data (reverse (ts.thread ∷ ts.below))

abbrev pub choice_data : ChoiceOf (List Part) → Data
choice_data c = object
    (member (codes "hidden") (boolean c.hidden)
    (member (codes "tags") (list_data string c.tags)
    (member (codes "target") (place_data c.target)
    (member (codes "text") (string c.text)
    (member (codes "thread") (thread_data c.thread) no_members)))))

abbrev pub global_data : List ℕ × Value → Data
global_data e = array (items_of (string e.0 ∷ value_data e.1 ∷ []))

abbrev pub row_data : List Part × ℕ → Data
row_data r = array (items_of (place_data r.0 ∷ count_data r.1 ∷ []))

-- what a flow has of its own, among other members
abbrev pub flow_members : FlowOf (List Part) → Members → Members
flow_members f others = put (codes "choices") (list_data choice_data f.choices) (put (codes "safe") (boolean f.safe)
    (put (codes "stack") (list_data value_data f.stack) (put (codes "threads") (threads_data f.threads) others)))

-- a flow with its name
abbrev pub named_flow_data : List ℕ × FlowOf (List Part) → Data
named_flow_data r = object (flow_members r.1 (member (codes "name") (string r.0) no_members))

-- the text that is being written is not saved
abbrev pub spelling : Game → Data
spelling g = object
    (member (codes "current") (string (current_name g.aside))
    (member (codes "flows") (list_data named_flow_data (all_flows g.now.flow g.aside))
    (member (codes "format") (count_data 2)
    (member (codes "globals") (list_data global_data g.now.shared.globals)
    (member (codes "turn") (count_data g.now.shared.turn)
    (member (codes "turns") (list_data row_data g.now.shared.counts.turns)
    (member (codes "visits") (list_data row_data g.now.shared.counts.visits) no_members)))))))

-- layout 1, which knew no flows
abbrev pub old_spelling : Configuration → Data
old_spelling c = object (flow_members c.flow
    (member (codes "format") (count_data 1)
    (member (codes "globals") (list_data global_data c.shared.globals)
    (member (codes "turn") (count_data c.shared.turn)
    (member (codes "turns") (list_data row_data c.shared.counts.turns)
    (member (codes "visits") (list_data row_data c.shared.counts.visits) no_members))))))
