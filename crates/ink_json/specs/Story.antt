-- The tree of a story that was read.
use Rattle.ink_model.specs.Story.Tree.{StoryTree}
use Rattle.ink_json.specs.Listing.{rebuilt}
use Rattle.ink_json.specs.declared.story.RawStory.{RawStory}

abbrev pub tree : RawStory → StoryTree
tree s = rebuilt s.nodes
