use Rattle.std.proofs.Common.{◌-◌, drop, length, ap, ◌∙◌, arith}
use Rattle.std.proofs.lemmas.List.{length-drop, take_all}
use Rattle.ink_json.specs.Reading.{number_before}
use Rattle.ink_json.proofs.Sets.{one_byte, no_byte}
use Rattle.ink_json.proofs.names.ending.Goals as goal

pub loop-byte-init : goal.loop-byte-init
loop-byte-init c =
    let bytes = c.as_bytes-bytes.result.now in
    let start = c.saturating_sub.result in
    ap (number_before 0) (take_all (length bytes - start) (drop start bytes) (omega (arith, length-drop start bytes)))
    ∙ ap (λ n. number_before 0 (drop n bytes)) c.saturating_sub.ensures
    ∙ ap (λ l. number_before 0 (drop (length l - 8) l)) c.as_bytes-bytes.ensures.value

pub loop-byte-preserved : goal.loop-byte-preserved
loop-byte-preserved c = one_byte c.loop-byte.number _ c.loop-byte.byte-index c.loop-byte-test.true ∙ c.loop-byte.invariant

pub returns : goal.returns
returns c = no_byte c.loop-byte.number _ c.loop-byte.byte-index (omega (arith, c.loop-byte-test.false)) ∙ c.loop-byte.invariant
