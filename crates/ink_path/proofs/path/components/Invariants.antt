use Rattle.std.proofs.Common.{◌≡◌, length}
use denote.Text.{Utf8}
use denote.Shadow.{shadow}
use Rattle.ink_model.specs.Text.Bytes.{pieces, is_dot}
use Rattle.ink_model.specs.Story.Path as rules
use Rattle.ink_path.proofs.Reading.{behind}
use Rattle.ink_path.proofs.path.components.Given as goal

abbrev pub invariant-loop-first : goal.invariant-loop-first
invariant-loop-first l = shadow (Utf8 l.rest) × (behind l.parts.items (rules.components (pieces is_dot l.rest)) ≡ rules.components (pieces is_dot l.text))

abbrev pub decreases-loop-first : goal.decreases-loop-first
decreases-loop-first l = length l.rest
