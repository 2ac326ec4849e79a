-- What is open on the line.
use Rattle.ink_model.specs.Run.Configuration.{SectionKind, string_section, tag_section}
use Rattle.ink_out.specs.declared.opened.Kind.{Kind}
use Rattle.ink_out.specs.declared.opened.Kind.TheVariants.{String, Tag}

abbrev pub section_kind : Kind → SectionKind
section_kind String = string_section
section_kind Tag = tag_section
