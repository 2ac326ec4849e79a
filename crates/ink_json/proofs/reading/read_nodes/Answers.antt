use Rattle.ink_json.proofs.Bytes.{story_is, parsed_is}
use Rattle.ink_json.proofs.reading.read_nodes.Goals as goal

pub returns-clause-reads : goal.returns-clause-reads
returns-clause-reads c =
    let short = c.if-bytes-gt-MAX_STORY.false in
    let read = rw c.without_mark.ensures.value at c.read_json.ensures.reads in
    rw (story_is c.args.bytes.now short, parsed_is c.args.bytes.now short) read
