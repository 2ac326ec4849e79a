use Rattle.std.proofs.Common.{◌≡◌, false, Ok, Some, ap, sym, ◌∙◌}
use Rattle.serde_json.specs.Data.{array}
use Rattle.json_tape.specs.Value.{json_data, items_left}
use Rattle.ink_model.specs.Story.Grammar.{content, root_of}
use Rattle.ink_json.proofs.Growing.{root_listed}
use Rattle.ink_json.proofs.reading.read_root.Goals as goal

pub returns-in_ok-read_container-in-Array-clause-reads : goal.returns-in_ok-read_container-in-Array-clause-reads
returns-in_ok-read_container-in-Array-clause-reads c =
    let read = c.in_ok-read_container-in-Array.ensures in
    let is : json_data c.args.root.now ≡ array (items_left c.in-Array.items) = c.in-Array.ensures in
    let good = read.1 ∙ ap Ok (root_listed c.new-nodes.result c.read_container.new.nodes _ read.0 c.new-nodes.ensures c.none.ensures read.2).0 in
    ap (λ d. root_of c.args.version (Some d)) is ∙ ap (content c.args.version 1 false false) (sym is) ∙ good

pub returns-in_ok-read_container-in-Array-clause-listed : goal.returns-in_ok-read_container-in-Array-clause-listed
returns-in_ok-read_container-in-Array-clause-listed c =
    let read = c.in_ok-read_container-in-Array.ensures in
    (root_listed c.new-nodes.result c.read_container.new.nodes _ read.0 c.new-nodes.ensures c.none.ensures read.2).1
