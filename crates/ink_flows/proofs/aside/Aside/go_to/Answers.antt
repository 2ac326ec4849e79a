use Rattle.std.proofs.Common.{◌∙◌, ap, sym, subst, IsTrue, Some, None}
use Rattle.indexmap.specs.IndexMap.{set_value_at}
use Rattle.ink_model.specs.Run.Flows.{begins_with_default, current_name, goes_to}
use Rattle.ink_flows.specs.Standing.{CurrentAt, NamedAt, flows_of, rows_of, shown_rows}
use Rattle.ink_flows.proofs.Current.{at_named, current_is, moved_current, moved_named, moved_rows, moved_shown, none_written, part_shown, same_index, set_begins}
use Rattle.ink_flows.proofs.Going.{default_at, gone_at, stayed}
use Rattle.ink_flows.proofs.aside.Aside.go_to.Goals as goal

pub invariant_of-self : goal.invariant_of-self
invariant_of-self c =
    let es = c.self.inside.rows.entries in
    rw (c.replace_at.ensures.rows ∙ none_written c.args.index es (sym c.replace_at.ensures.before ∙ c.in_default.is)) c.self.invariant

-- it is the current one
pub returns-in_default-clause-gone : goal.returns-in_default-clause-gone
returns-in_default-clause-gone c = λ name k s x.
    let es = c.self.inside.rows.entries in
    let f = c.args.current.now in
    let j = c.args.index in
    let part = sym c.replace_at.ensures.before ∙ c.in_default.is in
    let named = subst (NamedAt name j) (sym c.self.view_is) k in
    let here = same_index name c.self.inside.current j es c.self.invariant.1 named part in
    ap (λ r. flows_of s f (shown_rows r)) (c.replace_at.ensures.rows ∙ none_written j es part)
    ∙ stayed s j name f x (shown_rows es) (subst (λ n. CurrentAt n (shown_rows es)) here c.self.invariant.1) named
    ∙ ap (λ r. goes_to x name (flows_of s f r)) c.self.view_is

pub returns-in_default-clause-named : goal.returns-in_default-clause-named
returns-in_default-clause-named c = λ name k.
    let es = c.self.inside.rows.entries in
    let j = c.args.index in
    let part = sym c.replace_at.ensures.before ∙ c.in_default.is in
    let named = subst (NamedAt name j) (sym c.self.view_is) k in
    let here = same_index name c.self.inside.current j es c.self.invariant.1 named part in
    ap (λ r. current_name (shown_rows r)) (c.replace_at.ensures.rows ∙ none_written j es part)
    ∙ current_is j (shown_rows es) name (subst (λ n. CurrentAt n (shown_rows es)) here c.self.invariant.1) named

pub invariant_of-self-2 : goal.invariant_of-self-2
invariant_of-self-2 c =
    let es = c.self.inside.rows.entries in
    let i = c.self.inside.current in
    let j = c.args.index in
    let f = c.args.current.now in
    let part = sym c.replace_at.ensures.before ∙ c.in-Some.is in
    let current = subst (CurrentAt i) (part_shown j c.in-Some.flow es part) c.self.invariant.1 in
    let moved = c.replace_at-none.ensures.rows ∙ ap (λ r. set_value_at r i (Some c.replace-left.result)) c.replace_at.ensures.rows
    ∙ ap (λ l. set_value_at (set_value_at es j None) i (Some l)) c.replace-left.ensures.value in
    rw moved (
      set_begins i (Some f) (set_value_at es j None) ∙ set_begins j None es ∙ c.self.invariant.0,
      subst (CurrentAt j) (sym (moved_shown i j f c.in-Some.flow es part)) (moved_current i j f c.in-Some.flow es current part),
    )

pub returns-clause-gone : goal.returns-clause-gone
returns-clause-gone c = λ name k s x.
    let es = c.self.inside.rows.entries in
    let i = c.self.inside.current in
    let j = c.args.index in
    let f = c.args.current.now in
    let g = c.in-Some.flow in
    let part = sym c.replace_at.ensures.before ∙ c.in-Some.is in
    let shown = part_shown j g es part in
    let current = subst (CurrentAt i) shown c.self.invariant.1 in
    let named = subst (NamedAt name j) (sym c.self.view_is ∙ shown) k in
    let moved = c.replace_at-none.ensures.rows ∙ ap (λ r. set_value_at r i (Some c.replace-left.result)) c.replace_at.ensures.rows
    ∙ ap (λ l. set_value_at (set_value_at es j None) i (Some l)) c.replace-left.ensures.value in
    ap (λ h. flows_of s h (shown_rows c.replace_at-none.new.rows.entries)) c.replace-left.ensures.after
    ∙ ap (λ r. flows_of s g (shown_rows r)) moved
    ∙ ap (flows_of s g) (moved_shown i j f g es part ∙ moved_rows name i j f g es current part named)
    ∙ gone_at s name f g x (rows_of es) (at_named name j g es named part)
    ∙ ap (λ r. goes_to x name (flows_of s f r)) (sym shown ∙ c.self.view_is)

pub returns-clause-named : goal.returns-clause-named
returns-clause-named c = λ name k.
    let es = c.self.inside.rows.entries in
    let i = c.self.inside.current in
    let j = c.args.index in
    let f = c.args.current.now in
    let g = c.in-Some.flow in
    let part = sym c.replace_at.ensures.before ∙ c.in-Some.is in
    let shown = part_shown j g es part in
    let current = subst (CurrentAt i) shown c.self.invariant.1 in
    let named = subst (NamedAt name j) (sym c.self.view_is ∙ shown) k in
    let moved = c.replace_at-none.ensures.rows ∙ ap (λ r. set_value_at r i (Some c.replace-left.result)) c.replace_at.ensures.rows
    ∙ ap (λ l. set_value_at (set_value_at es j None) i (Some l)) c.replace-left.ensures.value in
    ap (λ r. current_name (shown_rows r)) moved ∙ ap current_name (moved_shown i j f g es part)
    ∙ current_is j (rows_of (set_value_at (set_value_at es j None) i (Some f))) name (moved_current i j f g es current part) (moved_named name i j f es named)

pub returns-clause-first : goal.returns-clause-first
returns-clause-first c = default_at c.args.self.now (subst (λ r. IsTrue (begins_with_default r)) c.self.view_is c.self.invariant.0)

pub returns-in_default-clause-first : goal.returns-in_default-clause-first
returns-in_default-clause-first c = default_at c.args.self.now (subst (λ r. IsTrue (begins_with_default r)) c.self.view_is c.self.invariant.0)
