use Rattle.std.proofs.Common.{◌≡◌, ◌∙◌, ◌++◌, [], ap, get_or, sym}
use Rattle.ink_frames.specs.Frames.{frame_with}
use Rattle.ink_frames.proofs.Flat.{temps_at}
use Rattle.ink_frames.proofs.Sharing.{inside_all}
use Rattle.ink_frames.proofs.frames.Frames.frame_at.Goals as goal

pub returns : goal.returns
returns g c = λ d.
    let hs = c.self.inside.lowest ++ c.self.inside.headers.items in
    let ts = c.self.inside.temps.items in
    let inside = inside_all hs ts _ c.args.index (ap (λ v. v.items) c.self.view_is) c.requires in
    let rows : c.in_ok-temps.temps ≡ (get_or c.args.self.now.items c.args.index d).temps =
    c.in_ok-temps.ensures ∙ ap (λ own. get_or own c.args.index []) c.as_slice.ensures.value ∙ rw (← c.self.view_is) (sym (temps_at hs ts c.args.index d inside)) in
    ap (λ own. frame_with c.header_at.result own) rows ∙ sym (c.header_at.ensures d)
