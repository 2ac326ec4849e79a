-- Words for what is written.
use Rattle.std.specs.Prelude.{List, [], ◌∷◌, codes}
use Rattle.serde_json.specs.Data.{boolean, object, string, Members, put}
use Rattle.ink_model.specs.Run.Configuration.{ChoiceOf, SharedOf}
use Rattle.ink_model.specs.Flow.Frames.{FrameOf}
use Rattle.ink_model.specs.Variables.Store.{Values}
use Rattle.ink_model.specs.Protocol.ValueJson.{value_data}
use Rattle.ink_model.specs.declared.place.Part.{Part}
use Rattle.ink_model.specs.Save.Spelling.{count_data, global_data, kind_data, list_data, place_data, place_or_null, row_data, temps_members, thread_data}

-- rows are put one by one
abbrev pub put_all : Members → Values → Members
put_all ms [] = ms
put_all ms (r ∷ rs) = put_all (put r.0 (value_data r.1) ms) rs

-- what a frame has, put among other members one by one
abbrev pub frame_members : FrameOf (List Part) → Members → Members
frame_members f others = put (codes "temps") (object (temps_members f.temps)) (put (codes "place") (place_or_null f.place) (put (codes "kind") (kind_data f.kind)
    (put (codes "fresh") (boolean f.fresh) (put (codes "eval") (boolean f.evaluating) (put (codes "depth") (count_data f.depth) others)))))

-- what a choice has
abbrev pub choice_members : ChoiceOf (List Part) → Members → Members
choice_members c others = put (codes "thread") (thread_data c.thread) (put (codes "text") (string c.text) (put (codes "target") (place_data c.target)
    (put (codes "tags") (list_data string c.tags) (put (codes "hidden") (boolean c.hidden) others))))

-- what all flows share, and the format
abbrev pub shared_members : SharedOf (List Part) → Members → Members
shared_members v others = put (codes "visits") (list_data row_data v.counts.visits) (put (codes "turns") (list_data row_data v.counts.turns)
    (put (codes "turn") (count_data v.turn) (put (codes "globals") (list_data global_data v.globals) (put (codes "format") (count_data 2) others))))
