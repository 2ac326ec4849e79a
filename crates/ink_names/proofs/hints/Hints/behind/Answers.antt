use Rattle.std.proofs.Common.{◌≡◌, ◌∙◌, ap, length, sym, vec_len}
use Rattle.std.proofs.lemmas.Bool.Decides.{Decides-eqb}
use Rattle.ink_names.proofs.Noting.{no_slots}
use Rattle.ink_names.proofs.hints.Hints.behind.Goals as goal

pub returns-then-is_empty : goal.returns-then-is_empty
returns-then-is_empty c =
    let slots = c.self.inside.slots in
    let none : vec_len slots ≡ 0 = (Decides-eqb (vec_len slots) 0).0 (sym c.is_empty.ensures ∙ c.if-is_empty.true) in
    no_slots c.args.self.now c.args.name.now (sym (ap length c.self.view_is) ∙ sym slots.ok.0 ∙ none)
