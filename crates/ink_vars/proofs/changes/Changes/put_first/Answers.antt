use Rattle.std.proofs.Common.{◌≡◌, ◌∙◌, Some, ap, is_some, length, subst, sym, ◌<◌}
use Rattle.ink_vars.proofs.Common.{stored, noted_at, global_index, set_value_at}
use Rattle.ink_vars.proofs.Noting.{more_noted}
use Rattle.ink_vars.proofs.Taking.{was_there}
use Rattle.ink_vars.proofs.changes.Changes.put_first.Goals as goal

pub returns-clause-noted : goal.returns-clause-noted
returns-clause-noted c name is =
    let old = c.args.globals.now in
    let index = c.args.index in
    let before = c.swap_at-before.result in
    let bs = c.args.self.now.noted in
    let back : set_value_at (set_value_at old (global_index name old) c.args.value) (global_index name old) before ≡ old =
    ap (λ i. set_value_at (set_value_at old i c.args.value) i before) (sym is) ∙ ap (λ rows. set_value_at rows index before) (sym c.swap_at-before.ensures.written) ∙ c.swap_at-before.ensures.before in
    let was : Some before ≡ stored name old = was_there name c.args.value before old (subst (λ i. i < length old) is c.requires.there) back in
    c.add.ensures.noted ∙ more_noted name old bs index (Some before) is was (ap is_some (ap (λ i. noted_at i bs) (sym is) ∙ c.requires.unnoted))
