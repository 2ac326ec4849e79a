use Rattle.std.proofs.Common.{◌≡◌, is_some, length}
use denote.Text.{Utf8}
use denote.Shadow.{shadow}
use Rattle.ink_model.specs.Text.Bytes.{pieces, is_dot}
use Rattle.ink_model.specs.Story.Path as rules
use Rattle.ink_path.proofs.path.are_components.Given as goal

abbrev pub invariant-loop-first : goal.invariant-loop-first
invariant-loop-first l =
    shadow (Utf8 l.rest) × (is_some (rules.components (pieces is_dot l.rest)) ≡ is_some (rules.components (pieces is_dot l.text)))

abbrev pub decreases-loop-first : goal.decreases-loop-first
decreases-loop-first l = length l.rest
