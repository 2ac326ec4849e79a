-- Stories with counted containers and with variables, and what is looked at after some steps of them.
use Rattle.std.specs.Prelude.{ℕ, List, [], ◌∷◌, codes, false, Option, Some, None}
use Rattle.ink_model.specs.Examples.CallStories.{does, list, now}
use Rattle.ink_model.specs.Run.Configuration.{Configuration}
use Rattle.ink_model.specs.Run.Moments.{Moment}
use Rattle.ink_model.specs.Story.Tree.{StoryTree, leaf, container, no_keys, key}
use Rattle.ink_model.specs.Story.View.{trees_of}
use Rattle.ink_model.specs.Variables.Store.{Values}
use Rattle.ink_model.specs.declared.content.Control.TheVariants as control
use Rattle.ink_model.specs.declared.content.Destination.TheVariants as destination
use Rattle.ink_model.specs.declared.content.Leaf.TheVariants as leaves
use Rattle.ink_model.specs.declared.place.Part.{Part}
use Rattle.ink_model.specs.declared.place.Part.TheVariants.{Index, Name}

-- ---- stories: a first container and then `done`, with the knot `k`

abbrev pub flagged : ℕ → List StoryTree → StoryTree
flagged flags ts = container None flags (trees_of ts) no_keys

abbrev pub with_knot : ℕ → List StoryTree → List StoryTree → StoryTree
with_knot flags main k = container None 0 (trees_of (list main ∷ does control.Done ∷ [])) (key (codes "k") (flagged flags k) no_keys)

abbrev pub diverts : List ℕ → StoryTree
diverts path = leaf (leaves.Divert (destination.Path path) false)

abbrev pub diverts_by : List ℕ → StoryTree
diverts_by name = leaf (leaves.Divert (destination.Variable name) false)

abbrev pub target_of : List ℕ → StoryTree
target_of path = leaf (leaves.Target path)

-- a content in evaluation mode
abbrev pub evaluates : List StoryTree → List StoryTree
evaluates ts = does control.BeginEval ∷ ts

-- ---- places

abbrev pub knot : List Part
knot = Name (codes "k") ∷ []

abbrev pub in_knot : ℕ → List Part
in_knot i = Name (codes "k") ∷ Index i ∷ []

-- ---- what is looked at after some steps

abbrev pub visits_in : Option Configuration → List (List Part × ℕ)
visits_in None = []
visits_in (Some c) = c.shared.counts.visits

abbrev pub turns_in : Option Configuration → List (List Part × ℕ)
turns_in None = []
turns_in (Some c) = c.shared.counts.turns

abbrev pub visits_after : Moment → List (List Part × ℕ)
visits_after m = visits_in (now m)

abbrev pub globals_in : Option Configuration → Values
globals_in None = []
globals_in (Some c) = c.shared.globals

-- the temporaries of the current frame
abbrev pub temporaries_in : Option Configuration → Values
temporaries_in None = []
temporaries_in (Some c) = c.flow.threads.thread.frame.temps
