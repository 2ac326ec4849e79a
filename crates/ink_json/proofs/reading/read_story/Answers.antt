use Rattle.ink_json.specs.Listing.{rebuilt}
use Rattle.ink_json.proofs.Many.{story_few}
use Rattle.ink_json.proofs.Rising.{story_rises}
use Rattle.ink_json.proofs.Width.{story_narrow}
use Rattle.ink_json.proofs.reading.read_story.Goals as goal

pub invariant_of-result : goal.invariant_of-result
invariant_of-result c =
    let bytes = c.args.bytes.now in
    let s = rebuilt c.in-Ok.nodes in
    let spelled = c.in-Ok.ensures.reads in
    record {
      listed = c.in-Ok.ensures.listed;
      narrow = story_narrow bytes s spelled;
      few = story_few bytes s spelled;
      rising = story_rises bytes s spelled;
      spelled = ∣ (bytes, spelled) ∣₁;
    }
