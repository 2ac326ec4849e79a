use Rattle.std.proofs.Common.{◌≡◌, subst, sym, true}
use Rattle.std.specs.Bool.{OnFalse, OnTrue}
use Rattle.ink_frames.proofs.Common.{frame_with, with_fresh}
use Rattle.ink_frames.proofs.frame.Frame.end_one.Goals as goal

pub returns-clause-ended : goal.returns-clause-ended
returns-clause-ended g c =
    rw (← c.self.view_is)
    (subst (λ f. OnTrue c.end_one.result (with_fresh true f ≡ frame_with c.self.inside.header c.self.inside.temps)) (sym (c.end_one.ensures.frame c.self.inside.temps)) (c.end_one.ensures.ended c.self.inside.temps))

pub returns-clause-kept : goal.returns-clause-kept
returns-clause-kept g c =
    rw (← c.self.view_is)
    (subst (λ f. OnFalse c.end_one.result (f ≡ frame_with c.self.inside.header c.self.inside.temps)) (sym (c.end_one.ensures.frame c.self.inside.temps)) (c.end_one.ensures.kept c.self.inside.temps))
