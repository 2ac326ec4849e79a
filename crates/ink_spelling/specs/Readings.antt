-- Words for what readers read.
use Rattle.std.specs.Prelude.{◌≡◌, ℕ, List, Bool, false, codes, reverse, Option, Some, None, option_and_then}
use Rattle.std.specs.Option.{option_map, option_or}
use Rattle.serde_json.specs.Data.{Data, object, Items, no_items, item, Members}
use Rattle.ink_model.specs.Run.Configuration.{ChoiceOf, FlowOf}
use Rattle.ink_model.specs.Variables.Named.{Rows}
use Rattle.ink_model.specs.Story.Path.{path_text, read_path}
use Rattle.ink_model.specs.declared.place.Part.{Part}
use Rattle.ink_model.specs.declared.place.Part.TheVariants as place
use Rattle.ink_model.specs.declared.place.Path.{Path}
use Rattle.ink_model.specs.declared.value.Value.{Value}
use Rattle.ink_model.specs.declared.value.Value.TheVariants as value
use Rattle.ink_spelling.specs.declared.rows.SavedPart.{SavedPart}
use Rattle.ink_spelling.specs.declared.rows.SavedPart.TheVariants as saved
use Rattle.ink_model.specs.Save.Asks.{both_ask, choice_asks, list_asks, none_asks, take_asks, text_asks, thread_asks, value_asks}
use Rattle.ink_model.specs.Save.Unspelled.{Spelled, choice_of, closed, count_of, format_of, list_of, named_flow_of, pair_of, path_if, place_of, pointer_in, tag_in, take, target_in, text_of, thread_in, threads_with, truth_of, value_of}

-- a part of a place
abbrev pub part_as : SavedPart → Part
part_as (saved.Index i) = place.Index i
part_as (saved.Name n) = place.Name n.now

-- the value that members spell
abbrev pub value_by : Members → Option Value
value_by ms = option_or (target_in ms) (option_or (pointer_in ms) (tag_in ms))

-- a path as it is spelled
abbrev pub path_of : List ℕ → Option Path
path_of t = option_and_then (path_if t) (read_path t)

-- a path is read from its text
abbrev pub ReadsSame : Path → Type 0
ReadsSame p = read_path (path_text p) ≡ Some p

-- the path of a target is
abbrev pub IsRead : Value → Type 0
IsRead (value.Int z) = Unit {0}
IsRead (value.Bool b) = Unit {0}
IsRead (value.Text t) = Unit {0}
IsRead (value.Target p) = ReadsSame p
IsRead (value.Pointer i n) = Unit {0}
IsRead value.Void = Unit {0}
IsRead (value.Tag t) = Unit {0}

-- the elements, where there are two
abbrev pub two_in : Items → Option (Data × Data)
two_in no_items = None
two_in (item d no_items) = None
two_in (item d (item e no_items)) = Some (d, e)
two_in (item d (item e (item h ds))) = None

-- what they spell
abbrev pub pair_by : {A B : Type 0} → (Data → Option A) → (Data → Option B) → Option (Data × Data) → Option (A × B)
pair_by f g two = option_and_then (λ (p : Data × Data). option_and_then (λ x. option_map (λ y. (x, y)) (g p.1)) (f p.0)) two

-- the first of them asks for memory, or is read, and the second asks
abbrev pub two_ask : {A : Type 0} → (Data → Option A) → (Data → Bool) → (Data → Bool) → Option (Data × Data) → Bool
two_ask f asks second None = false
two_ask f asks second (Some p) = both_ask f asks p.0 (second p.1)

-- ---- flows

-- a flow with its name, from whether its last stop was a safe one
abbrev pub flow_from_safe : List (ChoiceOf (List Part)) → List ℕ → Members → Option (List ℕ × FlowOf (List Part))
flow_from_safe choices name = take (codes "safe") truth_of (λ safe. take (codes "stack") (list_of value_of) (λ stack. take (codes "threads") (list_of thread_in) (λ threads ms.
    option_and_then (λ ts. closed (name, record { threads = ts; stack = stack; choices = choices; safe = safe }) ms) (threads_with (reverse threads)))))

abbrev pub safe_asks : Members → Bool
safe_asks = take_asks (codes "safe") truth_of none_asks (take_asks (codes "stack") (list_of value_of) (list_asks value_of value_asks)
    (take_asks (codes "threads") (list_of thread_in) (list_asks thread_in thread_asks) none_asks))

abbrev pub named_flow_asks_by : Members → Bool
named_flow_asks_by = take_asks (codes "choices") (list_of choice_of) (list_asks choice_of choice_asks) (take_asks (codes "name") text_of text_asks safe_asks)

abbrev pub named_flow_asks : Data → Bool
named_flow_asks (object ms) = named_flow_asks_by ms
named_flow_asks j = false

-- ---- layout 2

-- from the globals on
abbrev pub spelled_from_globals : List ℕ → Rows (FlowOf (List Part)) → Members → Option Spelled
spelled_from_globals current flows = take (codes "globals") (list_of (pair_of text_of value_of)) (λ globals. take (codes "turn") count_of (λ turn.
    take (codes "turns") (list_of (pair_of place_of count_of)) (λ turns. take (codes "visits") (list_of (pair_of place_of count_of)) (λ visits.
    closed (record { current = current; flows = flows; shared = record { globals = globals; counts = record { visits = visits; turns = turns }; turn = turn } })))))

-- from the flows on
abbrev pub spelled_from_flows : List ℕ → Members → Option Spelled
spelled_from_flows current = take (codes "flows") (list_of named_flow_of) (λ flows. take (codes "format") (format_of 2) (λ two. spelled_from_globals current flows))
