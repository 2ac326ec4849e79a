use Rattle.std.proofs.Common.{◌∙◌, ap}
use Rattle.ink_parts.proofs.Common.{view-Array, array}
use Rattle.serde_json.specs.View.{items_view}
use Rattle.ink_parts.proofs.written.with_last.Goals as goal

pub returns : goal.returns
returns c = view-Array _ ∙ ap (λ vs. array (items_view vs)) c.in_ok-push.ensures.items
