use Rattle.std.proofs.Common.{◌∙◌, ◌++◌, ap, sym, codes, List, ℕ}
use Rattle.ink_protocol.proofs.Answering.{made_as, saved_answer}
use Rattle.ink_protocol.proofs.answer.put_saved.Goals as goal

pub returns : goal.returns
returns c saved is =
    let front = codes "{\"saved\":" in
    made_as c.put_between.result _ _ _ c.put_between.ensures
    (saved_answer saved ∙ ap (λ (ds : List ℕ). front ++ (ds ++ codes "}\n")) (sym is) ∙ sym (ap (λ (xs : List ℕ). xs ++ (front ++ (c.args.text.now ++ codes "}\n"))) c.requires))
