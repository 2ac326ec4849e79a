use Rattle.std.proofs.Common.{◌≡◌, drop}
use Rattle.ink_model.specs.Story.Tree.{at}
use Rattle.ink_json.specs.Descent.{tree_at, Stands}
use Rattle.ink_json.specs.Story.{tree}
use Rattle.ink_json.proofs.story.RawStory.at.Given as goal

-- what is left of the place leads from here to what it leads to from the root
abbrev pub invariant-loop-part : goal.invariant-loop-part
invariant-loop-part l = record {
  stands : Stands l.self.nodes l.here;
  same : at (tree_at l.self.nodes l.here) (drop l.part-index l.parts) ≡ at (tree l.self) l.parts;
}
