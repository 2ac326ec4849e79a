use Rattle.std.proofs.Common.{sym, ap, ◌∙◌, subst, arith, ⊎_elim}
use Rattle.json.specs.Json.{value}
use Rattle.json_tape.proofs.Common.{LinkAt}
use Rattle.json_tape.proofs.Elements.{ends_by_link, ends_alone}
use Rattle.json_tape.proofs.element.behind.Goals as goal

pub returns-in_default : goal.returns-in_default
returns-in_default c = record {
  value = λ all link first depth j rest e. ends_alone c.args.node _ depth j rest c.in_default.not-Object c.in_default.not-Array (ap (value depth) (sym first) ∙ e);
  later = λ all link. omega arith;
}

pub returns-in-Object-clause-value : goal.returns-in-Object-clause-value
returns-in-Object-clause-value c all link first =
    ends_by_link all c.args.at c.in-Object.end (⊎_elim (λ is. subst (LinkAt all c.args.at) is link) (λ is. subst (LinkAt all c.args.at) is link) c.in-Object.is)

pub returns-in-Object-2-clause-value : goal.returns-in-Object-2-clause-value
returns-in-Object-2-clause-value c all link first =
    ends_by_link all c.args.at c.in-Object.end (⊎_elim (λ is. subst (LinkAt all c.args.at) is link) (λ is. subst (LinkAt all c.args.at) is link) c.in-Object.is)
