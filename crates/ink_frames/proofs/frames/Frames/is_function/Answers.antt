use Rattle.std.proofs.Common.{◌∙◌, ap, sym}
use Rattle.ink_model.specs.Flow.Frames.{is_function}
use Rattle.ink_frames.proofs.frames.Frames.is_function.Goals as goal

pub returns : goal.returns
returns g c = λ d. c.is_function.ensures ∙ ap (λ f. is_function f.kind) (sym (c.header_at.ensures d))
