-- The game that a JSON value spells, whatever the story is (docs/SAVES.md).
use Rattle.std.specs.Prelude.{ℕ, ◌^◌, List, [], ◌∷◌, map, reverse, Bool, bytes_eq, codes, nat_lt, ◌==◌, if◌then◌else◌, Option, Some, None, option_and_then}
use Rattle.std.specs.Option.{option_map, option_or}
use Rattle.serde_json.specs.Data.{Num, unsigned, negative, float, Data, null, boolean, number, string, array, object, Items, no_items, item, Members, no_members, member}
use Rattle.ink_model.specs.Flow.Frames.{FrameOf, ThreadOf, ThreadsOf}
use Rattle.ink_model.specs.Run.Configuration.{ChoiceOf, Configuration, FlowOf, SharedOf}
use Rattle.ink_model.specs.Run.Flows.{Aside, Game, alone}
use Rattle.ink_model.specs.Text.Output.{empty_page}
use Rattle.ink_model.specs.Variables.Named.{Rows, at}
use Rattle.ink_model.specs.declared.frame.FrameKind.{FrameKind}
use Rattle.ink_model.specs.declared.frame.FrameKind.TheVariants.{Base, Function, Tunnel}
use Rattle.ink_model.specs.declared.place.Part.{Part}
use Rattle.ink_model.specs.declared.place.Part.TheVariants.{Index, Name}
use Rattle.ink_model.specs.declared.value.Value.{Value}
pub use Rattle.ink_model.specs.Save.ReadValue.{next_named, take, closed, integer_of, small, number_integer, int_of, text_of, path_if, path_in, target_in, pointer_in, tag_in, value_of}

-- ---- plain values

abbrev pub count_of : Data → Option ℕ
count_of (number (unsigned n)) = Some n
count_of j = None

abbrev pub truth_of : Data → Option Bool
truth_of (boolean b) = Some b
truth_of j = None

-- the number of a layout
abbrev pub format_of : ℕ → Data → Option (Unit {0})
format_of layout (number (unsigned n)) = if n == layout then Some tt else None
format_of layout j = None

-- ---- lists

abbrev pub all_of : {A : Type 0} → (Data → Option A) → Items → Option (List A)
all_of f no_items = Some []
all_of f (item d ds) = option_and_then (λ x. option_map (λ xs. x ∷ xs) (all_of f ds)) (f d)

abbrev pub list_of : {A : Type 0} → (Data → Option A) → Data → Option (List A)
list_of f (array ds) = all_of f ds
list_of f j = None

-- a list of two
abbrev pub pair_of : {A B : Type 0} → (Data → Option A) → (Data → Option B) → Data → Option (A × B)
pair_of f g (array (item d (item e no_items))) = option_and_then (λ x. option_map (λ y. (x, y)) (g e)) (f d)
pair_of f g j = None

-- ---- places

-- an index of 32 bits
abbrev pub index_of : Num → Option Part
index_of (unsigned n) = if nat_lt n (2 ^ 32) then Some (Index n) else None
index_of (negative z) = None
index_of (float x) = None

abbrev pub part_of : Data → Option Part
part_of (number n) = index_of n
part_of (string t) = Some (Name t)
part_of j = None

abbrev pub place_of : Data → Option (List Part)
place_of j = list_of part_of j

abbrev pub any_place_of : Data → Option (Option (List Part))
any_place_of null = Some None
any_place_of (array ds) = option_map (λ p. Some p) (all_of part_of ds)
any_place_of j = None

-- ---- frames and threads

abbrev pub kind_by : List ℕ → Option FrameKind
kind_by t = if bytes_eq t (codes "base") then Some Base
    else (if bytes_eq t (codes "function") then Some Function else (if bytes_eq t (codes "tunnel") then Some Tunnel else None))

abbrev pub kind_of : Data → Option FrameKind
kind_of (string t) = kind_by t
kind_of j = None

abbrev pub rows_of : Members → Option (List (List ℕ × Value))
rows_of no_members = Some []
rows_of (member k d ms) = option_and_then (λ v. option_map (λ rs. (k, v) ∷ rs) (rows_of ms)) (value_of d)

abbrev pub temps_of : Data → Option (List (List ℕ × Value))
temps_of (object ms) = rows_of ms
temps_of j = None

abbrev pub frame_by : Members → Option (FrameOf (List Part))
frame_by = take (codes "depth") count_of (λ opened. take (codes "eval") truth_of (λ evaluating. take (codes "fresh") truth_of (λ fresh.
    take (codes "kind") kind_of (λ kind. take (codes "place") any_place_of (λ place. take (codes "temps") temps_of (λ temps.
    closed (record { kind = kind; place = place; temps = temps; evaluating = evaluating; fresh = fresh; depth = opened; enter = None })))))))

abbrev pub frame_of : Data → Option (FrameOf (List Part))
frame_of (object ms) = frame_by ms
frame_of j = None

-- a thread of these frames, the nearest first
abbrev pub thread_with : List (FrameOf (List Part)) → Option (List Part) → Option (ThreadOf (List Part))
thread_with [] p = None
thread_with (f ∷ fs) p = Some (record { frame = f; below = fs; previous = p })

abbrev pub thread_by : Members → Option (ThreadOf (List Part))
thread_by = take (codes "frames") (list_of frame_of) (λ fs. take (codes "previous") any_place_of (λ p ms. option_and_then (λ t. closed t ms) (thread_with (reverse fs) p)))

abbrev pub thread_in : Data → Option (ThreadOf (List Part))
thread_in (object ms) = thread_by ms
thread_in j = None

-- these threads, the nearest first
abbrev pub threads_with : List (ThreadOf (List Part)) → Option (ThreadsOf (List Part))
threads_with [] = None
threads_with (t ∷ ts) = Some (record { thread = t; below = ts })

-- ---- choices

abbrev pub choice_by : Members → Option (ChoiceOf (List Part))
choice_by = take (codes "hidden") truth_of (λ hidden. take (codes "tags") (list_of text_of) (λ tags. take (codes "target") place_of (λ target.
    take (codes "text") text_of (λ text. take (codes "thread") thread_in (λ thread.
    closed (record { text = text; tags = tags; target = target; hidden = hidden; thread = thread }))))))

abbrev pub choice_of : Data → Option (ChoiceOf (List Part))
choice_of (object ms) = choice_by ms
choice_of j = None

-- ---- layout 1

-- by what was read of its members so far, from the turn number on
abbrev pub from_turn : List (ChoiceOf (List Part)) → List (List ℕ × Value) → Bool → List Value → List (ThreadOf (List Part)) → Members → Option Configuration
from_turn choices globals safe stack threads =
    take (codes "turn") count_of (λ turn. take (codes "turns") (list_of (pair_of place_of count_of)) (λ turns.
    take (codes "visits") (list_of (pair_of place_of count_of)) (λ visits ms.
    option_and_then (λ ts. closed (record {
      flow = record { threads = ts; stack = stack; choices = choices; safe = safe };
      shared = record { globals = globals; counts = record { visits = visits; turns = turns }; turn = turn };
      page = empty_page;
    }) ms) (threads_with (reverse threads)))))

-- from the threads on
abbrev pub from_threads : List (ChoiceOf (List Part)) → List (List ℕ × Value) → Bool → List Value → Members → Option Configuration
from_threads choices globals safe stack = take (codes "threads") (list_of thread_in) (λ threads. from_turn choices globals safe stack threads)

abbrev pub unspelled_by : Members → Option Configuration
unspelled_by = take (codes "choices") (list_of choice_of) (λ choices. take (codes "format") (format_of 1) (λ one.
    take (codes "globals") (list_of (pair_of text_of value_of)) (λ globals. take (codes "safe") truth_of (λ safe.
    take (codes "stack") (list_of value_of) (λ stack. from_threads choices globals safe stack)))))

-- ---- layout 2

-- a flow with its name
abbrev pub named_flow_by : Members → Option (List ℕ × FlowOf (List Part))
named_flow_by = take (codes "choices") (list_of choice_of) (λ choices. take (codes "name") text_of (λ name. take (codes "safe") truth_of (λ safe.
    take (codes "stack") (list_of value_of) (λ stack. take (codes "threads") (list_of thread_in) (λ threads ms.
    option_and_then (λ ts. closed (name, record { threads = ts; stack = stack; choices = choices; safe = safe }) ms) (threads_with (reverse threads)))))))

abbrev pub named_flow_of : Data → Option (List ℕ × FlowOf (List Part))
named_flow_of (object ms) = named_flow_by ms
named_flow_of j = None

-- What is spelled in layout 2: the current flow's name, all flows, and what they share.
pub record Spelled : Type 0 where
  pub current : List ℕ
  pub flows : Rows (FlowOf (List Part))
  pub shared : SharedOf (List Part)

abbrev pub spelled_by : Members → Option Spelled
spelled_by = take (codes "current") text_of (λ current. take (codes "flows") (list_of named_flow_of) (λ flows. take (codes "format") (format_of 2) (λ two.
    take (codes "globals") (list_of (pair_of text_of value_of)) (λ globals. take (codes "turn") count_of (λ turn.
    take (codes "turns") (list_of (pair_of place_of count_of)) (λ turns. take (codes "visits") (list_of (pair_of place_of count_of)) (λ visits.
    closed (record { current = current; flows = flows; shared = record { globals = globals; counts = record { visits = visits; turns = turns }; turn = turn } }))))))))

-- these flows stand aside, but for the current one
abbrev pub aside_but : List ℕ → Rows (FlowOf (List Part)) → Aside
aside_but current flows = map (λ r. (r.0, if bytes_eq current r.0 then None else Some r.1)) flows

-- with the current flow, if it is among them
abbrev pub game_with : Spelled → Option (FlowOf (List Part)) → Option Game
game_with x None = None
game_with x (Some f) = Some (record { now = record { flow = f; shared = x.shared; page = empty_page }; aside = aside_but x.current x.flows })

abbrev pub game_spelled : Spelled → Option Game
game_spelled x = game_with x (at x.current x.flows)

-- ---- either

pub data Layout : Type 0 where
  First : (now : Configuration) → Layout
  Second : (spelled : Spelled) → Layout

abbrev pub layout_by : Members → Option Layout
layout_by ms = option_or (option_map Second (spelled_by ms)) (option_map First (unspelled_by ms))

abbrev pub layout_of : Data → Option Layout
layout_of (object ms) = layout_by ms
layout_of j = None

abbrev pub game_of : Layout → Option Game
game_of (First c) = Some (alone c)
game_of (Second x) = game_spelled x

abbrev pub unspelled : Data → Option Game
unspelled j = option_and_then game_of (layout_of j)
