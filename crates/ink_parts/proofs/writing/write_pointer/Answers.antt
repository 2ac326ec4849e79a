use Rattle.std.proofs.Common.{◌≡◌, ◌∙◌, codes, rules}
use Rattle.serde_json.specs.Data.{number, put, string}
use Rattle.serde_json.specs.Find.{of_integer}
use Rattle.serde_json.specs.View.{number_view}
use Rattle.ink_parts.proofs.Arrays.{object_made, view-integer}
use Rattle.ink_parts.proofs.writing.write_pointer.Goals as goal

pub returns : goal.returns
returns c =
    let frame : number_view c.from.result ≡ of_integer c.args.frame = search rules in
    object_made (λ ms. put (codes "ci") (number (of_integer c.args.frame)) (put (codes "var") (string c.args.name.now) ms)) _ _ c.new-members.ensures.empty
    (c.in_ok-put.ensures.ok ∙ (λ i. put (codes "ci") (view-integer c.from.result c.args.frame frame i) (c.in_ok-add_text.ensures i)))
