-- How many items data has.
use Rattle.std.proofs.Common.{◌≡◌, ◌≤◌, Some, arith}
use Rattle.json_tape.proofs.Common.{Data, null, array, Items, no_items, item, items_of, items_count}
use Rattle.serde_json.specs.Find.{as_array}
use Rattle.json_tape.specs.Size.{size, items_size}

pub size_positive : (d : Data) → 1 ≤ size d
size_positive null = omega arith
size_positive d = omega arith

pub count_within : (ds : Items) → items_count ds ≤ items_size ds
count_within no_items = omega arith
count_within (item d ds) = omega (arith, size_positive d, count_within ds)

pub items_are : (d : Data) (ds : Items) → Some ds ≡ as_array d → items_of d ≡ ds
items_are (array xs) ds e = cc
items_are d ds e = absurd cc
