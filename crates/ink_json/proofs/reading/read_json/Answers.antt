use Rattle.std.proofs.Common.{length, ap, subst, arith}
use Rattle.json_tape.proofs.Spelled.{text_refused}
use Rattle.ink_model.specs.Story.Grammar.{of_json}
use Rattle.ink_json.specs.Listing.{rebuilt}
use Rattle.ink_json.specs.Reading.{Reads, is_parsable}
use Rattle.ink_json.proofs.Bytes.{no_text, no_json, empty, parsable, reads_or, tape_json, tape_size}
use Rattle.ink_json.proofs.reading.read_json.Goals as goal

pub returns-in_default : goal.returns-in_default
returns-in_default c = record { reads = rw c.refused.ensures (no_text c.args.bytes.now c.in_default.ensures.cases.0); listed = tt }

pub returns-then-is_empty : goal.returns-then-is_empty
returns-then-is_empty c =
    let text = c.in-Ok.text.now in
    record {
      reads = rw c.refused-then-is_empty.ensures (no_json c.args.bytes.now text c.in-Ok.ensures.cases.0 c.in-Ok.ensures.cases.1 (empty text c.is_empty.result c.is_empty.ensures c.if-is_empty.true));
      listed = tt;
    }

pub read_tape-requires : goal.read_tape-requires
read_tape-requires c sound =
    let made = rw c.in-Ok-Some.field-0-is at c.in-Ok-Some.ensures in
    let small = tape_size c.in-Ok.text.now c.in-Ok-Some.tape made.0 made.1 sound in
    omega (arith, c.requires, ap length c.in-Ok.ensures.cases.0)

pub returns-in-Ok-Some : goal.returns-in-Ok-Some
returns-in-Ok-Some c =
    let bytes = c.args.bytes.now in
    let text = c.in-Ok.text.now in
    let same = c.in-Ok.ensures.cases.0 in
    let utf8 = c.in-Ok.ensures.cases.1 in
    let some = parsable bytes text c.is_empty.result same utf8 c.is_empty.ensures c.if-is_empty.false in
    let made = rw c.in-Ok-Some.field-0-is at c.in-Ok-Some.ensures in
    let spelled = tape_json bytes text c.in-Ok-Some.tape same utf8 made.0 made.1 in
    record {
      reads = reads_or (is_parsable bytes) (λ ns. rebuilt ns) c.read_tape.result _ some (subst (λ d. Reads (λ ns. rebuilt ns) c.read_tape.result (of_json d)) spelled c.read_tape.ensures.reads);
      listed = c.read_tape.ensures.listed;
    }

pub returns-in-Ok-None : goal.returns-in-Ok-None
returns-in-Ok-None c =
    let text = c.in-Ok.text.now in
    let none = text_refused text (rw c.in-Ok-None.field-0-is at c.in-Ok-None.ensures) in
    record { reads = rw c.refused-in-Ok-None.ensures (no_json c.args.bytes.now text c.in-Ok.ensures.cases.0 c.in-Ok.ensures.cases.1 none); listed = tt }

pub returns : goal.returns
returns c = record { reads = parsable c.args.bytes.now c.in-Ok.text.now c.is_empty.result c.in-Ok.ensures.cases.0 c.in-Ok.ensures.cases.1 c.is_empty.ensures c.if-is_empty.false; listed = tt }
