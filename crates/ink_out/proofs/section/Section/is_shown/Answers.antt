use Rattle.std.proofs.Common.{◌≡◌, length, reverse, ap, ◌∙◌, rules}
use Rattle.ink_model.specs.Text.Shown.{is_among, is_shown}
use Rattle.ink_out.proofs.Answering.{shown_other, shown_none}
use Rattle.ink_out.proofs.Standing.{settled_fall}
use Rattle.ink_out.proofs.section.Section.is_shown.Goals as goal
use Rattle.ink_out.proofs.section.Section.is_shown.Goals.{in_default-via-in-Some+else-newline-index, in_default-via-in_default}

pub returns-in_default : goal.returns-in_default
returns-in_default c =
    let s = c.self.inside in
    let stands = c.self.invariant.stands in
    let settled : c.is_settled.result ≡ is_among c.args.index (reverse s.settled.items) =
    rw c.as_slice.ensures.value at (c.is_settled.ensures (length (reverse s.marks.items)) (rw c.as_slice.ensures.value (settled_fall (reverse s.marks.items) s.state.tracker (reverse s.settled.items) stands.tracks))) in
    let shown : is_among c.args.index (reverse s.settled.items) ≡ is_shown s.marks.items c.args.index =
    elim c.in_default.branch [
      | in_default-via-in-Some+else-newline-index w ↦ shown_other s.marks.items (reverse s.settled.items) s.state w.in-Some.newline c.args.index (search rules) (search rules) stands
      | in_default-via-in_default w ↦ shown_none s.marks.items (reverse s.settled.items) s.state c.args.index (search rules) stands
    ] in
    settled ∙ shown ∙ ap (λ ms. is_shown ms c.args.index) c.self.view_is
