-- As which game a JSON value reads (docs/SAVES.md).
use Rattle.std.specs.Prelude.{◌≡◌, ◌⊎◌}
use Rattle.serde_json.specs.Data.{Data}
use Rattle.ink_model.specs.Run.Configuration.{Configuration, settled}
use Rattle.ink_model.specs.Run.Flows.{Game, one_flow}
use Rattle.ink_model.specs.Save.Sound.{AsideFits, Sound}
use Rattle.ink_model.specs.Save.Spelling.{old_spelling, spelling}
use Rattle.ink_model.specs.Story.Tree.{StoryTree}

-- as a command leaves it: nothing is being written, and no frame has the number of an Enter
abbrev pub Rests : Configuration → Type 0
Rests c = settled c ≡ c

-- a value spells a game; in layout 1 it spells one with one flow
abbrev pub Spells : Data → Game → Type 0
Spells j g = (j ≡ spelling g) ⊎ ((j ≡ old_spelling g.now) × (g.aside ≡ one_flow))

-- a sound configuration at rest, with flows aside that are
pub record Stands (s : StoryTree) (g : Game) : Type 0 where
  pub sound : Sound s g.now
  pub rests : Rests g.now
  pub aside : AsideFits s g.aside

-- the one that it spells
pub record Reads (s : StoryTree) (j : Data) (g : Game) : Type 0 where
  pub spells : Spells j g
  pub stands : Stands s g
