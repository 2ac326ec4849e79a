use Rattle.std.proofs.Common.{◌∙◌, ap, sym}
use Rattle.ink_host.specs.Desk.{answer_of, lacks_of}
use Rattle.ink_host.proofs.Entries.{there}
use Rattle.ink_host.proofs.desk.Desk.ask.Goals as goal

pub ask_found-requires : goal.ask_found-requires
ask_found-requires g c = (c.requires.0, there _ _ _ c.in-Some.ensures.place ∙ c.requires.1)

pub returns-clause-answer : goal.returns-clause-answer
returns-clause-answer g c given is = ap (λ o. answer_of g.P.PureFn.meaning o c.args.arguments.now) (sym (there _ _ _ c.in-Some.ensures.place)) ∙ c.ask_found.ensures.answer given is

pub returns-clause-refused : goal.returns-clause-refused
returns-clause-refused g c is = ap (λ o. answer_of g.P.PureFn.meaning o c.args.arguments.now) (sym (there _ _ _ c.in-Some.ensures.place)) ∙ c.ask_found.ensures.refused is

pub returns-clause-memory : goal.returns-clause-memory
returns-clause-memory g c is = ap (λ o. lacks_of g.P.PureFn.may_lack o c.args.arguments.now) (sym (there _ _ _ c.in-Some.ensures.place)) ∙ c.ask_found.ensures.memory is
