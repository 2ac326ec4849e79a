use Rattle.std.proofs.Common.{◌∙◌, ap, sym}
use Rattle.ink_names.specs.Names.{number_of}
use Rattle.ink_names.proofs.Numbers.{nth_number}
use Rattle.ink_names.proofs.names.Names.name.Goals as goal

pub returns-in-Some-clause-number : goal.returns-in-Some-clause-number
returns-in-Some-clause-number c =
    let facts = c.in-Some.ensures.lookup in
    ap (λ names. number_of names c.as_str.result.now) (sym c.self.view_is)
    ∙ nth_number c.self.inside.list.items _ c.args.number c.in-Some.name.now c.as_str.result.now c.deref.ensures.value facts.3.0 facts.1 c.as_str.ensures.value c.self.invariant.0
