use Rattle.std.proofs.Common.{codes, arith}
use Rattle.json_tape.specs.Value.{json_data}
use Rattle.ink_json.proofs.Bytes.{get_size}
use Rattle.ink_json.proofs.reading.read_value.Goals as goal

pub read_root-requires : goal.read_root-requires
read_root-requires c = let small = get_size (codes "root") (json_data c.args.value.now) (json_data c.in-Some-get.root) c.in-Some-get.ensures in omega arith
