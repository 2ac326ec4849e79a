-- What an accepted story stands for.
use Rattle.ink_check.specs.declared.story.Story.{Story}
use Rattle.ink_model.specs.Story.Tree.{StoryTree}
use Rattle.ink_tree.specs.Nodes as nodes

-- the tree of an accepted story
abbrev pub story_tree : Story → StoryTree
story_tree s = nodes.story_tree s.tree
