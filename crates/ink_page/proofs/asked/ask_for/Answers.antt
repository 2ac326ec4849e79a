use Rattle.std.proofs.Common.{rules, ◌∙◌, ap, is_some, sym, refl, inl, inr}
use Rattle.ink_host.specs.Desk.{at, kind_of}
use Rattle.ink_host.specs.declared.objects.Bound.TheVariants as bound
use Rattle.ink_page.proofs.Asking.{asks-same, asks-one, put-there, some-mapped}
use Rattle.ink_page.specs.declared.asked.Turn.TheVariants as turn
use Rattle.ink_tree.specs.Nodes.{node_place, story_tree}
use Rattle.ink_page.proofs.asked.ask_for.Goals.{then-is_some-via-then-is_some, then-is_some-via-else-is_some+then-is_some-2}
use Rattle.ink_page.proofs.asked.ask_for.Goals as goal

pub returns-then-is_some-clause-asks : goal.returns-then-is_some-clause-asks
returns-then-is_some-clause-asks g c = asks-same c.args.look (story_tree c.args.tree.now) c.args.desk.now c.args.desk.now refl

pub returns-then-is_some-clause-answered : goal.returns-then-is_some-clause-answered
returns-then-is_some-clause-answered g c =
    elim c.then-is_some.branch [
      | then-is_some-via-then-is_some w ↦ inl (some-mapped kind_of (at c.args.name.now c.args.desk.now.functions) c.kind.result (sym c.kind.ensures) ∙ sym c.is_some.ensures ∙ w.if-is_some.true)
      | then-is_some-via-else-is_some+then-is_some-2 w ↦
          inr (sym (some-mapped (node_place (story_tree c.args.tree.now)) w.knot.result _ w.knot.ensures.place) ∙ sym w.is_some-else-is_some.ensures ∙ w.if-is_some-2.true)
    ]

pub returns-in_err-asked-clause-asks : goal.returns-in_err-asked-clause-asks
returns-in_err-asked-clause-asks g c = asks-same c.args.look (story_tree c.args.tree.now) c.args.desk.now c.args.desk.now refl

pub returns-in-None-clause-asks : goal.returns-in-None-clause-asks
returns-in-None-clause-asks g c =
    asks-one c.args.look (story_tree c.args.tree.now) c.args.name.now c.in_ok-asked.asked c.args.desk.now c.bind_turn.new.self (sym c.in-Ok.ensures.old ∙ c.in-None.is) (search rules)
    (c.in_ok-asked.ensures.name, c.in_ok-asked.ensures.look, c.in_ok-asked.ensures.calls) c.in-Ok.ensures.kept

pub returns-in-None-clause-answered : goal.returns-in-None-clause-answered
returns-in-None-clause-answered g c =
    inl (ap (λ d. is_some (at c.args.name.now d.functions)) c.in-Ok.ensures.kept ∙ put-there c.args.name.now (bound.Turn (turn.Asked c.in_ok-asked.asked)) c.args.desk.now.functions)

pub returns-in-Err-Asked-clause-asks : goal.returns-in-Err-Asked-clause-asks
returns-in-Err-Asked-clause-asks g c = asks-same c.args.look (story_tree c.args.tree.now) c.args.desk.now c.bind_turn.new.self (search rules)
