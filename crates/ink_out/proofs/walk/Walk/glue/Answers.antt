use Rattle.std.proofs.Common.{◌∷◌, refl}
use Rattle.ink_out.proofs.Common.{append-nil, text_before}
use Rattle.ink_model.specs.declared.mark.Mark.TheVariants as kinds
use Rattle.ink_out.proofs.Walking.{walk_plain, smooth_glue}
use Rattle.ink_out.proofs.walk.Walk.glue.Goals as goal

pub returns : goal.returns
returns c cleans starts before at k =
    let w = c.args.self.now in
    walk_plain kinds.Glue before w c.glue.new.self w.passed c.args.at (smooth_glue before) (λ after. refl) (λ after. append-nil (text_before before (kinds.Glue ∷ after))) (λ _. at)
    record { same = k.knows.same; count = k.knows.count } (c.glue.ensures before) k
