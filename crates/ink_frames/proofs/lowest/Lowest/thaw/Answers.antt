use Rattle.std.proofs.Common.{◌∙◌, ◌++◌, ap, map, take}
use Rattle.ink_frames.specs.Frames.{as_seen, items_of}
use Rattle.ink_frames.proofs.Bounding.{behind_others, seen_fit}
use Rattle.ink_frames.proofs.Mapping.{turned}
use Rattle.ink_frames.proofs.lowest.Lowest.thaw.Goals as goal

pub push_all-requires : goal.push_all-requires
push_all-requires g c =
    seen_fit (as_seen c.self.inside.unnumbered) (take c.self.inside.count (items_of c.self.inside.shared)) _ _ c.args.headers.now.items _ c.self.view_is c.first.ensures c.requires

pub rotate_left-requires : goal.rotate_left-requires
rotate_left-requires g c = behind_others c.args.headers.now c.push_all.new.headers _ _ c.push_all.ensures.items c.len-own.ensures

pub returns-clause-all : goal.returns-clause-all
returns-clause-all g c =
    let old = c.args.headers.now in
    turned old.items c.args.self.now c.push_all.new.headers.items _ c.len-own.result (c.len-own.ensures ∙ old.ok.0)
    (c.push_all.ensures.items ∙ ap (λ hs. old.items ++ map (as_seen c.self.inside.unnumbered) hs) c.first.ensures ∙ ap (λ hs. old.items ++ hs) c.self.view_is) c.rotate_left.ensures.items
