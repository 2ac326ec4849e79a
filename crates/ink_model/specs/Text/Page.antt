-- The text being written, as it stands: the marks of the line, and the sections open on it (docs/TEXT.md, "Sections").
use Rattle.std.specs.Prelude.{ℕ, List}
use Rattle.ink_model.specs.declared.mark.Mark.{Mark}

pub data SectionKind : Type 0 where
  string_section : SectionKind
  tag_section : SectionKind

pub record Section : Type 0 where
  pub kind : SectionKind
  pub marks : List Mark

-- the marks of the line, and the string and tag sections open on it, the nearest first
pub record Page : Type 0 where
  pub line : List Mark
  pub sections : List Section
  pub next_enter : ℕ
