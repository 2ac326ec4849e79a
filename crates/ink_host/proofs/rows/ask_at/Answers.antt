use Rattle.std.proofs.Common.{◌∙◌, ap, sym}
use Rattle.std.specs.Option.{option_map}
use Rattle.ink_host.specs.Desk.{answer_of, lacks_of}
use Rattle.ink_host.specs.declared.objects.Bound.TheVariants as bound
use Rattle.ink_host.proofs.Entries.{none-not-some, pair-there}
use Rattle.ink_host.proofs.rows.ask_at.Goals as goal

pub ask_bound-requires : goal.ask_bound-requires
ask_bound-requires g c =
    let is = ap (option_map (λ p. p.1)) c.in-Some.ensures.entry ∙ pair-there c.args.place c.args.functions.now.entries ∙ c.requires.1 in
    (c.requires.0, cc)

pub returns-clause-answer : goal.returns-clause-answer
returns-clause-answer g c given is =
    ap (λ b. answer_of g.P.PureFn.meaning b c.args.arguments.now)
    (sym (ap (option_map (λ p. p.1)) c.in-Some.ensures.entry ∙ pair-there c.args.place c.args.functions.now.entries))
    ∙ c.ask_bound.ensures.answer given is

pub returns-clause-refused : goal.returns-clause-refused
returns-clause-refused g c is =
    ap (λ b. answer_of g.P.PureFn.meaning b c.args.arguments.now)
    (sym (ap (option_map (λ p. p.1)) c.in-Some.ensures.entry ∙ pair-there c.args.place c.args.functions.now.entries))
    ∙ c.ask_bound.ensures.refused is

pub returns-clause-memory : goal.returns-clause-memory
returns-clause-memory g c is =
    ap (λ b. lacks_of g.P.PureFn.may_lack b c.args.arguments.now)
    (sym (ap (option_map (λ p. p.1)) c.in-Some.ensures.entry ∙ pair-there c.args.place c.args.functions.now.entries))
    ∙ c.ask_bound.ensures.memory is

pub unreachable-requires : goal.unreachable-requires
unreachable-requires g c =
    none-not-some (bound.Pure c.requires.0) (ap (option_map (λ p. p.1)) c.in-None.ensures.entry ∙ pair-there c.args.place c.args.functions.now.entries ∙ c.requires.1)
