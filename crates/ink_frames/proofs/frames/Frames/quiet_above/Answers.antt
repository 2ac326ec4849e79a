use Rattle.std.proofs.Common.{get_or, subst, sym}
use Rattle.ink_frames.proofs.Common.{Covers}
use Rattle.ink_frames.proofs.frames.Frames.quiet_above.Goals as goal

pub returns : goal.returns
returns g c = λ d. subst (λ f. Covers c.args.quiet f c.quiet_above.result) (sym (c.header_at.ensures d)) (c.quiet_above.ensures (get_or c.args.self.now.items c.args.index d).temps)
