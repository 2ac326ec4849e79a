use Rattle.std.proofs.Common.{◌∙◌, ◌∷◌, ◌++◌, [], ap, append_assoc, codes, refl, sym, List, ℕ}
use Rattle.ink_protocol.proofs.Answering.{made_as, newline_after}
use Rattle.ink_protocol.proofs.answer.close_plain.Goals as goal

pub returns : goal.returns
returns c =
    let before = c.args.line.now.items in
    let front = c.args.front.now in
    let all = c.in_ok-append.ensures ∙ ap (λ (xs : List ℕ). xs ++ front) c.in_ok-push.ensures.items ∙ append_assoc before (34 ∷ []) front ∙ ap (λ (xs : List ℕ). before ++ 34 ∷ xs) (sym c.requires) in
    made_as c.append-2.result _ _ _ c.append-2.ensures (sym (newline_after before front _ (codes "}\n") _ all refl))
