use Rattle.std.proofs.Common.{◌∙◌, sym, ◌∷◌, reverse, subst, ap, ◌++◌, []}
use Rattle.std.proofs.lemmas.Iterator.Adapters.{YieldsList-from_vec}
use Rattle.std.proofs.lemmas.Iterator.Consumers.{YieldsList-end}
use Rattle.ink_frames.proofs.Mapping.{map_id}
use Rattle.ink_frames.specs.Frames.{FitsIn}
use Rattle.ink_frames.proofs.frames.Frames.of.Goals as goal

pub returns-clause-frames : goal.returns-clause-frames
returns-clause-frames g c =
    let given = c.into_iter-frame-iterator.ensures.into_iter_gives in
    let all = YieldsList-from_vec {s = c.into_iter-frame-iterator.result} c.args.frames.items given.0 (given.1 ∙ c.args.frames.ok.0) in
    let end = YieldsList-end all c.loop-frame.yielded c.loop-frame.frame-iterator c.loop-frame.yielded_by c.next.result c.next.new.self c.in-None.is c.next.ensures.steps in
    c.loop-frame.invariant ∙ sym (map_id c.loop-frame.yielded) ∙ end.0

pub push_reserved-requires : goal.push_reserved-requires
push_reserved-requires g c = subst (λ fs. FitsIn c.make_room.new.self.room (c.in-Some.frame ∷ reverse fs)) (sym c.make_room.ensures.items) c.in_ok-make_room.ensures.ok

pub loop-frame-preserved : goal.loop-frame-preserved
loop-frame-preserved g c = c.push_reserved.ensures.items ∙ ap (λ fs. fs ++ c.in-Some.frame ∷ []) (c.make_room.ensures.items ∙ c.loop-frame.invariant)
