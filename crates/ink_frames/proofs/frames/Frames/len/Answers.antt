use Rattle.std.proofs.Common.{◌∙◌, ap, length}
use Rattle.ink_frames.proofs.Sharing.{counted}
use Rattle.ink_frames.proofs.frames.Frames.len.Goals as goal

pub returns : goal.returns
returns g c =
    counted c.self.inside.lowest c.self.inside.headers.items c.self.inside.temps.items c.len.result c.len-2.result c.len.ensures (c.len-2.ensures ∙ c.self.inside.headers.ok.0)
    ∙ ap (λ v. length v.items) c.self.view_is
