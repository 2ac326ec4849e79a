use Rattle.std.proofs.Common.{◌∙◌, ◌<◌, ◌++◌, [], ◌∷◌, ap, arith, length, sym, take, ◌≤◌, subst}
use Rattle.std.proofs.lemmas.List.{take_more, take_all}
use Rattle.ink_frames.proofs.Lengths.{room_next}
use Rattle.ink_frames.proofs.frames.Frames.list.Goals as goal

pub loop-index-preserved : goal.loop-index-preserved
loop-index-preserved g c =
    let items = c.args.self.now.items in
    let i = c.loop-index.index in
    let frame = c.in_ok-frame_at.field-0 in
    let inside : i < length items = omega (arith, c.loop-index-test.true, c.len-index-end.ensures) in (
      c.push_reserved.ensures.items ∙ ap (λ xs. xs ++ frame ∷ []) c.loop-index.invariant.0
          ∙ ap (λ f. take i items ++ f ∷ []) (c.in_ok-frame_at.ensures frame) ∙ sym (take_more items i frame inside),
      omega (arith, c.loop-index.invariant.1, c.push_reserved.ensures.capacity),
    )

pub returns-clause-copies : goal.returns-clause-copies
returns-clause-copies g c = c.loop-index.invariant.0 ∙ take_all c.loop-index.index c.args.self.now.items (subst (λ n. n ≤ c.loop-index.index) c.len-index-end.ensures c.loop-index-test.false)

pub push_reserved-requires : goal.push_reserved-requires
push_reserved-requires g c = room_next c.loop-index.list c.args.self.now.items c.loop-index.index c.len-index-end.result c.loop-index.invariant.0 c.loop-index-test.true c.len-index-end.ensures c.loop-index.invariant.1
