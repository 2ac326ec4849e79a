use Rattle.std.proofs.Common.{◌<◌, ◌++◌, ap, arith, length}
use Rattle.std.proofs.lemmas.List.{length-append}
use Rattle.ink_frames.proofs.Sharing.{header_own, header_shared, inside_all}
use Rattle.ink_frames.proofs.frames.Frames.header_at.Goals as goal

pub returns-then-index-below : goal.returns-then-index-below
returns-then-index-below g c = λ d.
    rw (← c.self.view_is)
    (header_shared c.self.inside.lowest c.self.inside.headers.items c.self.inside.temps.items c.args.index c.len-below.result d c.header.result
    c.len-below.ensures c.if-index-below.true (c.header.ensures c.header.result))

pub index-requires : goal.index-requires
index-requires g c =
    let hs = c.self.inside.lowest ++ c.self.inside.headers.items in
    let inside : c.args.index < length hs = inside_all hs c.self.inside.temps.items _ c.args.index (ap (λ v. v.items) c.self.view_is) c.requires in
    omega (arith, inside, length-append c.self.inside.lowest c.self.inside.headers.items, c.len-below.ensures, c.self.inside.headers.ok.0, c.if-index-below.false)

pub returns : goal.returns
returns g c = λ d.
    let hs = c.self.inside.lowest ++ c.self.inside.headers.items in
    rw (← c.self.view_is)
    (header_own c.self.inside.lowest c.self.inside.headers.items c.self.inside.temps.items c.args.index c.len-below.result d c.index.result.now
    c.len-below.ensures c.if-index-below.false (inside_all hs c.self.inside.temps.items _ c.args.index (ap (λ v. v.items) c.self.view_is) c.requires) c.index.ensures)
