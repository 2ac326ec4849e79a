use Rattle.std.proofs.Common.{◌≡◌, ◌∙◌, ◌||◌, ap, false, true, is_some, reverse, sym}
use Rattle.std.specs.List.{list_any}
use Rattle.ink_model.specs.Text.Shown.{is_filled_blank, shows_more}
use Rattle.ink_out.proofs.Blanks.{more_is}
use Rattle.ink_out.proofs.section.Section.shows_more.Goals as goal

pub returns-then-not-shows_text : goal.returns-then-not-shows_text
returns-then-not-shows_text c =
    let s = c.self.inside in
    let is = more_is s.marks.items (reverse s.settled.items) s.state c.self.invariant.stands in
    let shows : (s.state.tracker.text || is_some s.state.tracker.blank) ≡ false = sym c.shows_text.ensures ∙ c.if-not-shows_text.true in
    (rw shows at is) ∙ ap shows_more c.self.view_is

pub returns-then-shows_line : goal.returns-then-shows_line
returns-then-shows_line c =
    let s = c.self.inside in
    let is = more_is s.marks.items (reverse s.settled.items) s.state c.self.invariant.stands in
    let shows : (s.state.tracker.text || is_some s.state.tracker.blank) ≡ true = sym c.shows_text.ensures ∙ c.if-not-shows_text.false in
    let line : (s.state.tracker.text || is_some s.state.tracker.newline) ≡ true = sym c.shows_line.ensures ∙ c.if-shows_line.true in
    (rw (shows, line) at is) ∙ ap shows_more c.self.view_is

pub returns : goal.returns
returns c =
    let s = c.self.inside in
    let is = more_is s.marks.items (reverse s.settled.items) s.state c.self.invariant.stands in
    let shows : (s.state.tracker.text || is_some s.state.tracker.blank) ≡ true = sym c.shows_text.ensures ∙ c.if-not-shows_text.false in
    let line : (s.state.tracker.text || is_some s.state.tracker.newline) ≡ false = sym c.shows_line.ensures ∙ c.if-shows_line.false in
    c.has_filled_blank.ensures ∙ ap (list_any is_filled_blank) c.as_slice.ensures.value ∙ (rw (shows, line) at is) ∙ ap shows_more c.self.view_is
