use Rattle.std.proofs.Common.{◌≡◌, ◌∙◌, ◌++◌, [], ◌∷◌, None, Some, ap, is_some, length, sym, subst}
use Rattle.ink_host.proofs.Entries.{not-there}
use Rattle.ink_model.specs.Run.Configuration.{fresh_flow}
use Rattle.ink_model.specs.Run.Flows.{goes_to}
use Rattle.ink_model.specs.Variables.Named.{at}
use Rattle.ink_tree.specs.Nodes.{place_of}
use Rattle.ink_flows.specs.Standing.{NamedAt, flows_of, listed, shown_rows}
use Rattle.ink_flows.proofs.Current.{current_more, named_last}
use Rattle.ink_flows.proofs.Going.{gone_made}
use Rattle.ink_flows.proofs.Laws.{begins_more}
use Rattle.ink_flows.proofs.Listed.{listed_behind}
use Rattle.ink_flows.proofs.aside.Aside.go.Goals as goal

pub returns-in-Some-clause-ok : goal.returns-in-Some-clause-ok
returns-in-Some-clause-ok c = λ s. c.go_to.ensures.gone c.args.name.now c.in-Some.ensures.index s (fresh_flow (place_of s c.args.start))

pub invariant_of-self-2 : goal.invariant_of-self-2
invariant_of-self-2 c =
    let name = c.args.name.now in
    let before = shown_rows c.self.inside.rows.entries in
    let made = c.in_ok-make.ensures.ok in
    rw (ap listed made.1 ∙ listed_behind before (name, Some made.0))
    (begins_more ((name, Some made.0) ∷ []) before c.self.invariant.0, current_more c.self.inside.current before name made.0 c.self.invariant.1)

pub returns-clause-ok : goal.returns-clause-ok
returns-clause-ok c = λ s.
    let name = c.args.name.now in
    let before = shown_rows c.self.inside.rows.entries in
    let made = c.in_ok-make.ensures.ok in
    let f = c.args.current.now in
    let fresh = fresh_flow (place_of s c.args.start) in
    let all = before ++ (name, Some made.0) ∷ [] in
    let shown : shown_rows c.make.new.rows.entries ≡ all = ap listed made.1 ∙ listed_behind before (name, Some made.0) in
    let absent : at name before ≡ None = not-there (at name before) (ap (λ rows. is_some (at name rows)) c.self.view_is ∙ sym c.index_of.ensures.found ∙ ap is_some c.in_default.is) in
    let last : length before ≡ c.len-last.result = ap length c.self.view_is ∙ sym c.len-last.ensures in
    let named = subst (NamedAt name c.len-last.result) (sym shown) (subst (λ n. NamedAt name n all) last (named_last name (Some made.0) before absent)) in
    c.go_to-2.ensures.gone name named s fresh ∙ ap (λ r. goes_to fresh name (flows_of s f r)) shown
    ∙ gone_made s name f made.0 fresh fresh before absent (made.2 s) ∙ ap (λ r. goes_to fresh name (flows_of s f r)) c.self.view_is
