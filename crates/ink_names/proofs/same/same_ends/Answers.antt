use Rattle.std.proofs.Common.{◌≡◌, ◌∙◌, nat_eq, sym}
use Rattle.ink_names.specs.Few.{four_at}
use Rattle.ink_names.proofs.Few.{same_by_last}
use Rattle.ink_names.proofs.same.same_ends.Goals as goal

pub returns : goal.returns
returns c =
    let one = c.args.one.now in
    let other = c.args.other.now in
    let first : four_at one 0 ≡ four_at other 0 = sym c.four.ensures ∙ c.if-four.false ∙ c.four-2.ensures in
    same_by_last one other c.requires.len (λ k. (c.type_inv.one k).fits) (λ k. (c.type_inv.other k).fits) c.requires.least c.requires.most first _
    (λ i. nat_eq (c.four-3.ensures i) (c.four-4.ensures i))
