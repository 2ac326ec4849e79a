use Rattle.std.proofs.Common.{◌∷◌, refl}
use Rattle.ink_out.proofs.Common.{append-nil, text_before}
use Rattle.ink_model.specs.declared.mark.Mark.TheVariants as kinds
use Rattle.ink_out.proofs.Walking.{walk_plain}
use Rattle.ink_out.proofs.walk.Walk.tag.Goals as goal

pub returns : goal.returns
returns c cleans starts before text k =
    let w = c.args.self.now in
    walk_plain (kinds.Tag text) before w c.tag.new.self w.passed w.glue record { covered = λ b after. refl; glue = λ at after l. refl } (λ after. refl) (λ after. append-nil (text_before before (kinds.Tag text ∷ after))) (λ g. g)
    record { same = k.knows.same; count = k.knows.count } (c.tag.ensures before text) k
