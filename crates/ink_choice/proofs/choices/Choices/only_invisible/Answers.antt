use Rattle.std.proofs.Common.{◌∙◌, ap, sym, vec_len}
use Rattle.ink_model.specs.Choices.Making.{none_visible}
use Rattle.ink_choice.proofs.Lists.{only_hidden}
use Rattle.ink_choice.proofs.choices.Choices.only_invisible.Goals as goal

pub returns-then-not-is_empty : goal.returns-then-not-is_empty
returns-then-not-is_empty g c =
    let list = c.self.inside.items in
    rw (← c.self.view_is)
    (only_hidden list.items (vec_len list) c.none_visible.result (sym c.is_empty.ensures ∙ c.if-not-is_empty.true) list.ok.0 (c.none_visible.ensures ∙ ap none_visible c.as_slice.ensures.value))
