use Rattle.std.proofs.Common.{◌∷◌, refl}
use Rattle.ink_out.proofs.Common.{append-nil, text_before}
use Rattle.ink_model.specs.declared.mark.Mark.TheVariants as kinds
use Rattle.ink_out.proofs.Walking.{walk_plain}
use Rattle.ink_out.proofs.walk.Walk.enter.Goals as goal

pub returns : goal.returns
returns c cleans starts before n leads k =
    let w = c.args.self.now in
    walk_plain (kinds.Enter n) before w c.enter.new.self c.pass.new.self w.glue record { covered = λ b after. refl; glue = λ at after l. refl } (λ after. refl) (λ after. append-nil (text_before before (kinds.Enter n ∷ after))) (λ g. g)
    (c.pass.ensures starts before n leads k.knows) (c.enter.ensures before n) k
