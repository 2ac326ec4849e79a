-- What flows in code stand for.
use Rattle.std.specs.Prelude.{◌≡◌, ℕ, zero, suc, List, [], ◌∷◌, map, true, false, bytes_eq, is_none, is_some, option_and_then, slice_get, Option, Some, None, String, string_bytes, if◌then◌else◌}
use Rattle.std.specs.Global.{Global}
use Rattle.std.specs.Option.{option_map}
use Rattle.ink_model.specs.Run.Configuration.{FlowOf, map_choice}
use Rattle.ink_model.specs.Run.Flows.{Aside, AsideOf, FlowsOf, holes, one_flow}
use Rattle.ink_model.specs.Flow.Frames.{map_threads}
use Rattle.ink_model.specs.Variables.Named.{each}
use Rattle.ink_model.specs.Story.Tree.{StoryTree}
use Rattle.ink_model.specs.declared.place.Part.{Part}
use Rattle.ink_flows.specs.declared.flow.Flow.{Flow}
use Rattle.ink_tree.specs.Nodes.{place_of}

-- a flow, over the places that its spots stand for
abbrev pub flow_of : StoryTree → Flow → FlowOf (List Part)
flow_of s f = record { threads = map_threads (place_of s) f.threads.threads; stack = f.stack.items; choices = map (map_choice (place_of s)) f.choices.items; safe = f.safe }

abbrev pub aside_of : StoryTree → AsideOf Flow → Aside
aside_of s rows = each (option_map (flow_of s)) rows

abbrev pub flows_of : StoryTree → Flow → AsideOf Flow → FlowsOf (FlowOf (List Part))
flows_of s f rows = record { current = flow_of s f; aside = aside_of s rows }

-- the entries of a map as rows
abbrev pub rows_of : List (String Global × Option Flow) → AsideOf Flow
rows_of entries = map (λ e. (string_bytes e.0, e.1)) entries

-- where there are none, there is one flow
abbrev pub listed : AsideOf Flow → AsideOf Flow
listed [] = one_flow
listed (r ∷ rows) = r ∷ rows

abbrev pub shown_rows : List (String Global × Option Flow) → AsideOf Flow
shown_rows entries = listed (rows_of entries)

-- what stands at each name
abbrev pub parts_of : List (String Global × Option Flow) → List (Option Flow)
parts_of entries = map (λ e. e.1) entries

-- what stands at an index, if anything does
abbrev pub part_at : ℕ → List (String Global × Option Flow) → Option Flow
part_at i entries = option_and_then (λ o. o) (slice_get (parts_of entries) i)

-- the index of the first at which nothing stands
abbrev pub hole_in : List (Option Flow) → Option ℕ
hole_in [] = None
hole_in (o ∷ os) = if is_none o then Some 0 else option_map suc (hole_in os)

module _ {F : Type 0} where
  -- nothing stands at this index, and a flow at each other one
  abbrev pub CurrentAt : ℕ → AsideOf F → Type 0
  CurrentAt i [] = ⊥
  CurrentAt zero (r ∷ rows) = (r.1 ≡ None) × (holes rows ≡ 0)
  CurrentAt (suc i) (r ∷ rows) = (is_some r.1 ≡ true) × CurrentAt i rows

  -- this index is the first of a name
  abbrev pub NamedAt : List ℕ → ℕ → AsideOf F → Type 0
  NamedAt name i [] = ⊥
  NamedAt name zero (r ∷ rows) = bytes_eq name r.0 ≡ true
  NamedAt name (suc i) (r ∷ rows) = (bytes_eq name r.0 ≡ false) × NamedAt name i rows
