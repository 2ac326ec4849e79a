-- The last element of a list.
use Rattle.std.proofs.Common.{◌≡◌, Option, Some, None, option_and_then, refl, sym, ap, ◌∙◌}
use Rattle.serde_json.specs.Data.{Data, Items, no_items, item}
use Rattle.serde_json.specs.Find.{as_array}
use Rattle.ink_model.specs.Story.Grammar.{own, own_after, own_of}

-- the last of these, or what stood before them
abbrev pub last_with : Option Data → Items → Option Data
last_with before no_items = before
last_with before (item d ds) = last_with (Some d) ds

after : (d : Data) (ds : Items) → Some (own_after d ds) ≡ last_with (Some d) ds
after d no_items = refl
after d (item e ds) = after e ds

last_own : (ds : Items) → own ds ≡ last_with None ds
last_own no_items = refl
last_own (item d ds) = after d ds

pub last_own_of : (d : Data) (ds : Items) → Some ds ≡ as_array d → own_of d ≡ last_with None ds
last_own_of d ds e = ap (option_and_then own) (sym e) ∙ last_own ds
