use Rattle.ink_out.proofs.Common.{OutOfMemory, Section, Mark, MAX_MARKS, piece_mark, GoesBack, Held, output_back, with_open, page_of, Trails, trail_of}
use Rattle.ink_out.proofs.Closing.{asks_mark, unchanged}
use Rattle.std.proofs.Common.{◌≡◌, ◌∙◌, ◌<◌, ◌≤◌, ◌-◌, ℕ, List, [], get_or, set, length, map, ap, arith, refl, subst, sym, inl}
use Rattle.std.proofs.lemmas.Grind.{common_steps}
use Rattle.std.proofs.lemmas.List.{length-set, nil_from_length}
use Rattle.ink_out.proofs.Noting.{noted_last}
use Rattle.ink_out.proofs.Undoing.{goes-as, goes-now, held_page, last_open, last_with, or_keeps, with_same}
use Rattle.ink_out.proofs.opened.note_all.Goals as goal

pub returns-in_ok-extend-in_default-clause-page : goal.returns-in_ok-extend-in_default-clause-page
returns-in_ok-extend-in_default-clause-page c =
    let some : 0 < length c.args.sections.now = grind arith in
    λ n. rw (noted_last (map piece_mark c.args.pieces.items) c.args.line.now c.args.sections.now n c.index-sections-open.result c.extend-in_default.new.self some c.in_ok-extend-in_default.ensures.ok) (refl, tt)

pub returns-in_ok-extend-in-0-clause-trail : goal.returns-in_ok-extend-in-0-clause-trail
returns-in_ok-extend-in-0-clause-trail c =
    rw (nil_from_length c.args.sections.now c.in-0.is) (λ n. c.in_ok-extend-in-0.ensures.trail (page_of c.args.line.now [] n))

pub returns-in_ok-extend-in-0-clause-back : goal.returns-in_ok-extend-in-0-clause-back
returns-in_ok-extend-in-0-clause-back c =
    let fits : length c.extend.new.self ≤ MAX_MARKS = grind (arith, common_steps) in
    rw (nil_from_length c.args.sections.now c.in-0.is)
    (λ n room went. c.in_ok-extend-in-0.ensures.back (page_of c.args.line.now [] n) room (fits, (goes-now room _ _ went).1) went)

-- the section that is open, as the page has it
was_open : (line : List Mark) (sections : List Section) (n : ℕ) (x : Section) → 0 < length sections → with_open (get_or sections (length sections - 1) x).marks (page_of line sections n) ≡ page_of line sections n
was_open line sections n x some = ap (λ ms. with_open ms (page_of line sections n)) (sym (last_open line sections n x some)) ∙ with_same (page_of line sections n)

same_set : (line : List Mark) (sections : List Section) (n : ℕ) (x y : Section) → 0 < length sections → y ≡ get_or sections (length sections - 1) x → page_of line (set sections (length sections - 1) y) n ≡ page_of line sections n
same_set line sections n x y some same =
    last_with line sections n x y some (ap (λ s. s.kind) same) ∙ ap (λ (s : Section). with_open s.marks (page_of line sections n)) same ∙ was_open line sections n x some

held_set : (room : ℕ) (line : List Mark) (sections : List Section) (n : ℕ) (y : Section) → Held room (page_of line sections n) → Held room (page_of line (set sections (length sections - 1) y) n)
held_set room line sections n y h = held_page room line line sections (set sections (length sections - 1) y) n (λ k. k) (length-set sections (length sections - 1) y) h

pub returns-in_ok-extend-in_default-clause-trail : goal.returns-in_ok-extend-in_default-clause-trail
returns-in_ok-extend-in_default-clause-trail c = λ n.
    let some : 0 < length c.args.sections.now = grind arith in
    let is = c.in_ok-extend-in_default.ensures.ok in
    let page = page_of c.args.line.now c.args.sections.now n in
    let was = was_open c.args.line.now c.args.sections.now n c.index-sections-open.result some in
    rw (last_with c.args.line.now c.args.sections.now n c.index-sections-open.result c.extend-in_default.new.self some (ap (λ s. s.kind) is))
    (subst (λ p. Trails output_back (length c.args.pieces.items) p c.args.trail.now (with_open c.extend-in_default.new.self.marks page) c.extend-in_default.new.trail) was
    (c.in_ok-extend-in_default.ensures.trail page))

pub returns-in_ok-extend-in_default-clause-back : goal.returns-in_ok-extend-in_default-clause-back
returns-in_ok-extend-in_default-clause-back c = λ n room went.
    let some : 0 < length c.args.sections.now = grind arith in
    let is = c.in_ok-extend-in_default.ensures.ok in
    let page = page_of c.args.line.now c.args.sections.now n in
    let new = c.extend-in_default.new.self in
    let last = c.index-sections-open.result in
    let as_open = last_with c.args.line.now c.args.sections.now n last new some (ap (λ s. s.kind) is) in
    let was = was_open c.args.line.now c.args.sections.now n last some in
    let held = held_set room c.args.line.now c.args.sections.now n new (goes-now room _ page went) in
    rw as_open
    (c.in_ok-extend-in_default.ensures.back page room (subst (λ p. Held room p) as_open held) (subst (λ p. GoesBack room (trail_of c.args.trail.now.undo) p) (sym was) went))

pub returns-in_err-extend-in-0-clause-trail : goal.returns-in_err-extend-in-0-clause-trail
returns-in_err-extend-in-0-clause-trail c = λ n.
    let failed = c.in_err-extend-in-0.ensures in
    or_keeps c.from_residual.result _ (length c.args.pieces.items) _ _ _ _ c.from_residual.ensures.1 (ap (λ line. page_of line c.args.sections.now n) failed.err)
    (failed.trail (page_of c.args.line.now c.args.sections.now n)).1

pub returns-in_err-extend-in-0-clause-back : goal.returns-in_err-extend-in-0-clause-back
returns-in_err-extend-in-0-clause-back c = λ n room went.
    let failed = c.in_err-extend-in-0.ensures in
    goes-as room room _ _ _ _ (failed.trail (page_of c.args.line.now c.args.sections.now n)).1.0 (ap (λ line. page_of line c.args.sections.now n) failed.err) (omega arith) went

pub returns-in_err-extend-in_default-clause-trail : goal.returns-in_err-extend-in_default-clause-trail
returns-in_err-extend-in_default-clause-trail c = λ n.
    let some : 0 < length c.args.sections.now = grind arith in
    let failed = c.in_err-extend-in_default.ensures in
    or_keeps c.from_residual-in_err-extend-in_default.result _ (length c.args.pieces.items) _ _ _ _ c.from_residual-in_err-extend-in_default.ensures.1
    (same_set c.args.line.now c.args.sections.now n c.index-sections-open.result c.extend-in_default.new.self some failed.err)
    (failed.trail (page_of c.args.line.now c.args.sections.now n)).1

pub returns-in_err-extend-in_default-clause-back : goal.returns-in_err-extend-in_default-clause-back
returns-in_err-extend-in_default-clause-back c = λ n room went.
    let some : 0 < length c.args.sections.now = grind arith in
    let failed = c.in_err-extend-in_default.ensures in
    goes-as room room _ _ _ _ (failed.trail (page_of c.args.line.now c.args.sections.now n)).1.0
    (same_set c.args.line.now c.args.sections.now n c.index-sections-open.result c.extend-in_default.new.self some failed.err) (omega arith) went

pub returns-in_err-extend-in_default-clause-page : goal.returns-in_err-extend-in_default-clause-page
returns-in_err-extend-in_default-clause-page c = λ n.
    let some : 0 < length c.args.sections.now = grind arith in
    let page = page_of c.args.line.now c.args.sections.now n in
    let same = same_set c.args.line.now c.args.sections.now n c.index-sections-open.result c.extend-in_default.new.self some c.in_err-extend-in_default.ensures.err in
    unchanged _ page _ OutOfMemory c.from_residual-in_err-extend-in_default.result same c.from_residual-in_err-extend-in_default.ensures.1 (inl (refl, asks_mark (map piece_mark c.args.pieces.items) page))
