-- A content of a story as it was read.
use Rattle.std.specs.Prelude.{ℕ, Option}
use Rattle.ink_model.specs.declared.content.Content.{Content}
use Rattle.ink_model.specs.declared.place.Part.{Part}

-- a content by itself, the number of the content around it (the root has its own), and the part that leads from there to it
pub record Node : Type 0 where
  pub content : Content
  pub holder : ℕ
  pub last : Option Part
