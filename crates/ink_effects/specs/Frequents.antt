-- The content that stands for itself by its kind.
use Rattle.ink_effects.specs.declared.frequent.Frequent.{Frequent}
use Rattle.ink_effects.specs.declared.frequent.Frequent.TheVariants as kind
use Rattle.ink_model.specs.declared.content.Control.TheVariants as control
use Rattle.ink_model.specs.declared.content.Leaf.{Leaf}
use Rattle.ink_model.specs.declared.content.Leaf.TheVariants as leaves

abbrev pub leaf_of : Frequent → Leaf
leaf_of kind.Newline = leaves.Newline
leaf_of (kind.Int z) = leaves.Int z
leaf_of kind.Void = leaves.Void
leaf_of (kind.Op o) = leaves.Op o
leaf_of (kind.Variable name) = leaves.Variable name.now
leaf_of kind.BeginEval = leaves.Control control.BeginEval
leaf_of kind.EndEval = leaves.Control control.EndEval
leaf_of kind.Pop = leaves.Control control.Pop
leaf_of kind.Nop = leaves.Control control.Nop
leaf_of kind.BeginString = leaves.Control control.BeginString
leaf_of kind.EndString = leaves.Control control.EndString
leaf_of kind.BeginTag = leaves.Control control.BeginTag
leaf_of kind.EndTag = leaves.Control control.EndTag
