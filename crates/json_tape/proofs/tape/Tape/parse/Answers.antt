use Rattle.std.proofs.Common.{Err, length, ap, arith, refl, ◌∙◌}
use Rattle.json_tape.proofs.Tokens.{fewer_tokens}
use Rattle.json_tape.proofs.Moves.{no_document, whole, without}
use Rattle.json_tape.proofs.tape.Tape.parse.Goals as goal

pub whole-requires : goal.whole-requires
whole-requires c = omega (arith, fewer_tokens c.args.text.now, ap length c.in_ok-reader.ensures.ok, ap length c.for_text-nodes.ensures, c.requires)

pub invariant_of-result : goal.invariant_of-result
invariant_of-result c =
    let all = whole c.args.text.now c.for_text-nodes.result c.whole.new.nodes c.in_ok-reader.reader _ c.for_text-nodes.ensures c.in_ok-reader.ensures.ok refl c.in-Ok.ensures.ok in
    (all.1, all.2)

pub returns-in-Ok : goal.returns-in-Ok
returns-in-Ok c =
    let all = whole c.args.text.now c.for_text-nodes.result c.whole.new.nodes c.in_ok-reader.reader _ c.for_text-nodes.ensures c.in_ok-reader.ensures.ok refl c.in-Ok.ensures.ok in
    (all.0, all.3)

pub returns : goal.returns
returns c =
    without _ c.without_tape.result (λ invalid. no_document c.args.text.now c.in_ok-reader.reader c.in_ok-reader.ensures.ok (c.whole.ensures.invalid (c.in-Err.is ∙ ap Err invalid)))
    c.without_tape.ensures
