-- Which containers a landing enters, and which a step goes into (docs/RUNNING.md, "Visits").
use Rattle.std.specs.Prelude.{ℕ, List, [], ◌∷◌, ◌++◌, reverse, Bool, true, false, not, ◌&&◌, ◌||◌, ◌==◌, if◌then◌else◌, Option, Some, None}
use Rattle.ink_model.specs.Story.Flags.{counts_at_start}
use Rattle.ink_model.specs.Story.Tree.{StoryTree, leaf, container, Trees, no_trees, tree, at}
use Rattle.ink_model.specs.Values.Value.{same_part}
use Rattle.ink_model.specs.declared.place.Part.{Part}
use Rattle.ink_model.specs.declared.place.Part.TheVariants.{Index, Name}

-- a place is around another, or is that place
abbrev pub is_around : List Part → List Part → Bool
is_around [] o = true
is_around (p ∷ ps) [] = false
is_around (p ∷ ps) (q ∷ qs) = same_part p q && is_around ps qs

abbrev pub was_inside : List Part → Option (List Part) → Bool
was_inside p None = false
was_inside p (Some o) = is_around p o

abbrev pub flags_at : Option StoryTree → ℕ
flags_at None = 0
flags_at (Some (leaf l)) = 0
flags_at (Some (container own flags content named)) = flags

-- its flags have the 4: only entry at the start counts there
abbrev pub starts_only : StoryTree → List Part → Bool
starts_only s p = counts_at_start (flags_at (at s p))

abbrev pub is_first : Part → Bool
is_first (Index i) = i == 0
is_first (Name n) = false

abbrev pub listed_if : Bool → List Part → List (List Part) → List (List Part)
listed_if b p ps = if b then p ∷ ps else ps

-- from the landing place upwards, given from its end: at_start, whether only zeros led down so far
abbrev pub entered_above : StoryTree → Option (List Part) → Bool → List Part → List (List Part)
entered_above s o at_start [] = []
entered_above s o at_start (x ∷ up) = if was_inside (reverse up) o && not (starts_only s (reverse up)) then []
    else listed_if (not (starts_only s (reverse up)) || (at_start && is_first x)) (reverse up) (entered_above s o (at_start && is_first x) up)

-- the containers around a landing place that it enters, the nearest first, from the place before; where nothing stands, none
abbrev pub entered_around : Option StoryTree → StoryTree → Option (List Part) → List Part → List (List Part)
entered_around None s o n = []
entered_around (Some t) s o n = entered_above s o true (reverse n)

unfoldable pub entered_places : StoryTree → Option (List Part) → List Part → List (List Part)
entered_places s o n = entered_around (at s n) s o n

-- ---- on the way of a step

-- the containers on the way from a place down to the first content that holds no other, the outermost first
abbrev mutual
  pub passed : List Part → StoryTree → List (List Part)
  passed p (leaf l) = []
  passed p (container own flags content named) = p ∷ passed_in p content

  pub passed_in : List Part → Trees → List (List Part)
  passed_in p no_trees = []
  passed_in p (tree t ts) = passed (p ++ Index 0 ∷ []) t

abbrev pub passed_at : List Part → Option StoryTree → List (List Part)
passed_at p None = []
passed_at p (Some t) = passed p t

-- a step at a place goes into these; where nothing stands, into none
unfoldable pub passed_places : StoryTree → List Part → List (List Part)
passed_places s p = passed_at p (at s p)
