-- Where memory is asked for to read what a JSON value spells: only once something of it is kept, a text or an element of a list
-- (docs/SAVES.md, "What writes and reads").
use Rattle.std.specs.Prelude.{ℕ, List, Bool, true, false, ◌&&◌, ◌||◌, codes, is_some, Option, Some, None}
use Rattle.serde_json.specs.Data.{Data, string, array, object, Items, no_items, item, Members, no_members, member}
use Rattle.ink_model.specs.Save.Unspelled.{any_place_of, choice_of, count_of, format_of, frame_of, int_of, kind_of, list_of, next_named, pair_of, part_of, path_in, place_of, temps_of, text_of, thread_in, truth_of, value_of}
use Rattle.ink_model.specs.Story.Path.{read_path}

-- nothing is kept
abbrev pub none_asks : {A : Type 0} → A → Bool
none_asks x = false

-- ---- lists and members

-- the first element asks for memory, or is kept
abbrev pub items_ask : {A : Type 0} → (Data → Option A) → (Data → Bool) → Items → Bool
items_ask f asks no_items = false
items_ask f asks (item d ds) = asks d || is_some (f d)

abbrev pub list_asks : {A : Type 0} → (Data → Option A) → (Data → Bool) → Data → Bool
list_asks f asks (array ds) = items_ask f asks ds
list_asks f asks j = false

-- a first value asks, or is read, and what comes after it asks
abbrev pub both_ask : {A : Type 0} → (Data → Option A) → (Data → Bool) → Data → Bool → Bool
both_ask f asks d later = asks d || (is_some (f d) && later)

abbrev pub pair_asks : {A : Type 0} → (Data → Option A) → (Data → Bool) → (Data → Bool) → Data → Bool
pair_asks f asks second (array (item d (item e no_items))) = both_ask f asks d (second e)
pair_asks f asks second j = false

-- the first member has this key, and its value asks, or is read, and the members after it ask
abbrev pub found_asks : {A : Type 0} → (Data → Option A) → (Data → Bool) → (Members → Bool) → Option (Data × Members) → Bool
found_asks f asks later None = false
found_asks f asks later (Some x) = both_ask f asks x.0 (later x.1)

abbrev pub take_asks : {A : Type 0} → List ℕ → (Data → Option A) → (Data → Bool) → (Members → Bool) → Members → Bool
take_asks k f asks later ms = found_asks f asks later (next_named k ms)

-- ---- texts, places and values

abbrev pub text_asks : Data → Bool
text_asks (string t) = true
text_asks j = false

-- the names in it are texts
abbrev pub place_asks : Data → Bool
place_asks j = list_asks part_of text_asks j

-- what is no path is found before
abbrev pub path_asks : Data → Bool
path_asks (string t) = is_some (read_path t)
path_asks j = false

abbrev pub target_asks : Members → Bool
target_asks = take_asks (codes "->") path_in path_asks none_asks

abbrev pub pointer_asks : Members → Bool
pointer_asks = take_asks (codes "ci") int_of none_asks (take_asks (codes "var") text_of text_asks none_asks)

abbrev pub tag_asks : Members → Bool
tag_asks = take_asks (codes "tag") text_of text_asks none_asks

abbrev pub object_asks : Members → Bool
object_asks ms = target_asks ms || (pointer_asks ms || tag_asks ms)

abbrev pub value_asks : Data → Bool
value_asks (string t) = true
value_asks (object ms) = object_asks ms
value_asks j = false

-- ---- frames, threads and choices

-- the first temporary asks, or is kept
abbrev pub rows_ask : Members → Bool
rows_ask no_members = false
rows_ask (member k d ms) = value_asks d || is_some (value_of d)

abbrev pub temps_ask : Data → Bool
temps_ask (object ms) = rows_ask ms
temps_ask j = false

abbrev pub frame_asks_by : Members → Bool
frame_asks_by = take_asks (codes "depth") count_of none_asks (take_asks (codes "eval") truth_of none_asks (take_asks (codes "fresh") truth_of none_asks
    (take_asks (codes "kind") kind_of none_asks (take_asks (codes "place") any_place_of place_asks (take_asks (codes "temps") temps_of temps_ask none_asks)))))

abbrev pub frame_asks : Data → Bool
frame_asks (object ms) = frame_asks_by ms
frame_asks j = false

abbrev pub thread_asks_by : Members → Bool
thread_asks_by = take_asks (codes "frames") (list_of frame_of) (list_asks frame_of frame_asks) (take_asks (codes "previous") any_place_of place_asks none_asks)

abbrev pub thread_asks : Data → Bool
thread_asks (object ms) = thread_asks_by ms
thread_asks j = false

abbrev pub choice_asks_by : Members → Bool
choice_asks_by = take_asks (codes "hidden") truth_of none_asks (take_asks (codes "tags") (list_of text_of) (list_asks text_of text_asks)
    (take_asks (codes "target") place_of place_asks (take_asks (codes "text") text_of text_asks (take_asks (codes "thread") thread_in thread_asks none_asks))))

abbrev pub choice_asks : Data → Bool
choice_asks (object ms) = choice_asks_by ms
choice_asks j = false

-- ---- layout 1

-- the places and numbers of visits or turns
abbrev pub counts_ask : Data → Bool
counts_ask j = list_asks (pair_of place_of count_of) (pair_asks place_of place_asks none_asks) j

-- from the turn number on
abbrev pub turn_asks : Members → Bool
turn_asks = take_asks (codes "turn") count_of none_asks (take_asks (codes "turns") (list_of (pair_of place_of count_of)) counts_ask
    (take_asks (codes "visits") (list_of (pair_of place_of count_of)) counts_ask none_asks))

-- from the threads on
abbrev pub threads_ask : Members → Bool
threads_ask = take_asks (codes "threads") (list_of thread_in) (list_asks thread_in thread_asks) turn_asks

abbrev pub members_ask : Members → Bool
members_ask = take_asks (codes "choices") (list_of choice_of) (list_asks choice_of choice_asks) (take_asks (codes "format") (format_of 1) none_asks
    (take_asks (codes "globals") (list_of (pair_of text_of value_of)) (list_asks (pair_of text_of value_of) (pair_asks text_of text_asks value_asks))
    (take_asks (codes "safe") truth_of none_asks (take_asks (codes "stack") (list_of value_of) (list_asks value_of value_asks) threads_ask))))

-- ---- a whole save

-- layout 2 begins with the current flow's name
abbrev pub spelled_asks : Members → Bool
spelled_asks = take_asks (codes "current") text_of text_asks none_asks

abbrev pub load_asks : Data → Bool
load_asks (object ms) = spelled_asks ms || members_ask ms
load_asks j = false
