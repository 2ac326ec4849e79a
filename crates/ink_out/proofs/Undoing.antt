-- What is put back of the text being written.
use Rattle.std.proofs.Common.{◌≡◌, ◌∙◌, ◌≤◌, ◌<◌, ◌-◌, ℕ, Bool, true, false, List, [], ◌∷◌, ◌++◌, Option, None, Some, Result, Ok, Err, OnOk, ◌^◌, ap, arith, cond, get_or, is_some, length, refl, reverse, set, subst, sym, take}
use Rattle.std.specs.Result.{IsErrAnd}
use Rattle.std.proofs.lemmas.List.{length-reverse, reverse-append}
use Rattle.ink_out.proofs.Common.{Page, Section, Fault, MAX_MARKS, Mark, page_of, State}
use Rattle.ink_model.specs.Text.Output.{is_crowded, noted, writes_marks}
use Rattle.ink_model.specs.declared.fault.Fault.TheVariants.{TooDeep}
use Rattle.ink_out.specs.Undo.{GoesBack, Held, KeepsState, open_in, open_marks, output_back, room_of, with_open, with_open_in}
use Rattle.ink_out.specs.declared.undo.OutputPair.{OutputPair}
use Rattle.ink_out.specs.declared.undo.OutputPair.TheVariants.{Wrote, Began, Closed, Sections}
use Rattle.ink_out.proofs.Noting.{last_is, last_set}
use Rattle.ink_trail.proofs.Ending.{but_last-snoc}
use Rattle.ink_trail.specs.Undo.{KeepsTrail, TrailView, TrailsOrKeeps, Undo, but_last, spare, spare_of, trail_of, with_pair}

-- ---- where no mark stands

pub noted_nowhere : (pair : OutputPair) (n : ℕ) (u : Option (Undo OutputPair)) → is_some u ≡ false → u ≡ with_pair pair n u
noted_nowhere pair n None none = refl
noted_nowhere pair n (Some noted) none = absurd (cc)

-- ---- what is open

pub open_with : (ms : List Mark) (page : Page) → open_marks (with_open ms page) ≡ ms
open_with ms page = elim page.sections as (λ xs. open_marks (with_open_in ms page.line xs page.next_enter) ≡ ms) [ [] ↦ refl | x ∷ rest ↦ refl ]

pub with_with : (ms ns : List Mark) (page : Page) → with_open ms (with_open ns page) ≡ with_open ms page
with_with ms ns page =
    elim page.sections as (λ xs. with_open ms (with_open_in ns page.line xs page.next_enter) ≡ with_open_in ms page.line xs page.next_enter) [ [] ↦ refl | x ∷ rest ↦ refl ]

pub with_same : (page : Page) → with_open (open_marks page) page ≡ page
with_same page =
    elim page.sections as (λ xs. with_open_in (open_in page.line xs) page.line xs page.next_enter ≡ record { line = page.line; sections = xs; next_enter = page.next_enter }) [ [] ↦ refl | x ∷ rest ↦ refl ]

-- a mark that was written
pub wrote_back : (s : State) (ms : List Mark) (m : Mark) (page : Page) → output_back (Wrote s) (with_open (ms ++ m ∷ []) page) ≡ with_open ms page
wrote_back s ms m page =
    ap (λ ns. with_open (but_last ns) (with_open (ms ++ m ∷ []) page)) (open_with (ms ++ m ∷ []) page) ∙ ap (λ ns. with_open ns (with_open (ms ++ m ∷ []) page)) (but_last-snoc ms m)
    ∙ with_with ms (ms ++ m ∷ []) page

pub noted_with : (ms : List Mark) (page : Page) → noted ms page ≡ with_open (open_marks page ++ ms) page
noted_with ms page =
    elim page.sections as (λ xs. noted ms (record { line = page.line; sections = xs; next_enter = page.next_enter }) ≡ with_open_in (open_in page.line xs ++ ms) page.line xs page.next_enter) [ [] ↦ refl | x ∷ rest ↦ refl ]

abbrev okay : Page → Result Page Fault
okay page = Ok page

pub noted_back : (s : State) (m : Mark) (page next : Page) → writes_marks (m ∷ []) page ≡ Ok next → output_back (Wrote s) next ≡ page
noted_back s m page next is = by (is_crowded (m ∷ []) page) is
  where
    same : (p q : Page) → okay p ≡ okay q → p ≡ q
    same p q h = cc

    by : (b : Bool) → cond b (Err TooDeep) (okay (noted (m ∷ []) page)) ≡ okay next → output_back (Wrote s) next ≡ page
    by true h = absurd (cc)
    by false h =
        subst (λ p. output_back (Wrote s) p ≡ page) (sym (noted_with (m ∷ []) page) ∙ same (noted (m ∷ []) page) next h)
        (wrote_back s (open_marks page) m page ∙ with_same page)

-- the last section of a list
pub last_with : (line : List Mark) (sections : List Section) (n : ℕ) (x y : Section) → 0 < length sections → y.kind ≡ (get_or sections (length sections - 1) x).kind
    → page_of line (set sections (length sections - 1) y) n ≡ with_open y.marks (page_of line sections n)
last_with line sections n x y some same =
    let rest = take (length sections - 1) sections in
    let last = get_or sections (length sections - 1) x in
    let turned : reverse sections ≡ last ∷ reverse rest = ap reverse (last_is sections x some) ∙ reverse-append rest (last ∷ []) in
    let turned_set : reverse (set sections (length sections - 1) y) ≡ y ∷ reverse rest = ap reverse (last_set sections y some) ∙ reverse-append rest (y ∷ []) in
    rw (turned, turned_set, ← same) refl

pub last_open : (line : List Mark) (sections : List Section) (n : ℕ) (x : Section) → 0 < length sections → open_marks (page_of line sections n) ≡ (get_or sections (length sections - 1) x).marks
last_open line sections n x some =
    let rest = take (length sections - 1) sections in
    let last = get_or sections (length sections - 1) x in
    let turned : reverse sections ≡ last ∷ reverse rest = ap reverse (last_is sections x some) ∙ reverse-append rest (last ∷ []) in
    ap (open_in line) turned

-- a section that was closed, and one that was opened
pub closed_back : (line : List Mark) (xs ys : List Section) (n : ℕ) (x : Section) → ys ≡ xs ++ x ∷ [] → output_back (Closed x) (page_of line xs n) ≡ page_of line ys n
closed_back line xs ys n x is =
    let turned : reverse ys ≡ x ∷ reverse xs = ap reverse is ∙ reverse-append xs (x ∷ []) in
    rw turned refl

pub began_back : (line : List Mark) (xs ys : List Section) (n : ℕ) (x : Section) → ys ≡ xs ++ x ∷ [] → output_back Began (page_of line ys n) ≡ page_of line xs n
began_back line xs ys n x is =
    let turned : reverse ys ≡ x ∷ reverse xs = ap reverse is ∙ reverse-append xs (x ∷ []) in
    rw turned refl

-- ---- room

pub held_page : (room : ℕ) (line new_line : List Mark) (sections new_sections : List Section) (n : ℕ) → (length line ≤ MAX_MARKS → length new_line ≤ MAX_MARKS) → length new_sections ≡ length sections
    → Held room (page_of line sections n) → Held room (page_of new_line new_sections n)
held_page room line new_line sections new_sections n within same h =
    (within h.0, omega (arith, h.1, same, length-reverse sections, length-reverse new_sections))

pub held_less : (room : ℕ) (ms ns : List Mark) (page : Page) → length ms ≤ length ns → Held room (with_open ns page) → Held room (with_open ms page)
held_less room ms ns page less h = by page.line page.sections page.next_enter h
  where
    by : (line : List Mark) (sections : List Section) (n : ℕ) → Held room (with_open_in ns line sections n) → Held room (with_open_in ms line sections n)
    by line [] n k = (omega (arith, less, k.0), k.1)
    by line (x ∷ rest) n k = (k.0, k.1)

more_of : (e : OutputPair) (r s : ℕ) → r ≤ s → room_of e r ≤ room_of e s
more_of (Sections xs) r s more = omega arith
more_of e r s more = more

pub goes-now : (room : ℕ) (es : List OutputPair) (page : Page) → GoesBack room es page → Held room page
goes-now room [] page h = h
goes-now room (e ∷ es) page h = h.0

-- with more room
pub goes-more : (r s : ℕ) (es : List OutputPair) (page : Page) → r ≤ s → GoesBack r es page → GoesBack s es page
goes-more r s [] page more h = (h.0, omega (arith, more, h.1))
goes-more r s (e ∷ es) page more h =
    let held = h.0 in
    ((held.0, omega (arith, more, held.1)), h.1, goes-more (room_of e r) (room_of e s) es (output_back e page) (more_of e r s more) h.2)

-- with a pair more
pub goes-with : (e : OutputPair) (n : ℕ) (was is : Page) (u : Option (Undo OutputPair)) (r s : ℕ) → output_back e is ≡ was → Held s is → KeepsState e was → r ≤ room_of e s
    → GoesBack r (trail_of u) was → GoesBack s (trail_of (with_pair e n u)) is
goes-with e n was is None r s same held keeps more h = held
goes-with e n was is (Some u) r s same held keeps more h =
    (held, subst (λ p. KeepsState e p) (sym same) keeps, goes-more r (room_of e s) u.trail (output_back e is) more (subst (λ p. GoesBack r u.trail p) (sym same) h))

-- where no mark stands
pub goes-unmarked : (room : ℕ) (u : Option (Undo OutputPair)) (page : Page) → is_some u ≡ false → Held room page → GoesBack room (trail_of u) page
goes-unmarked room None page none held = held
goes-unmarked room (Some u) page none held = absurd (cc)

-- what becomes of the page and of the trail
pub goes-as : (r s : ℕ) (u v : Option (Undo OutputPair)) (p q : Page) → v ≡ u → q ≡ p → r ≤ s → GoesBack r (trail_of u) p → GoesBack s (trail_of v) q
goes-as r s u v p q undo same more h =
    subst (λ x. GoesBack s (trail_of v) x) (sym same) (subst (λ (w : Option (Undo OutputPair)). GoesBack s (trail_of w) p) (sym undo) (goes-more r s (trail_of u) p more h))

-- ---- a call that failed

pub or_keeps : {A F : Type 0} (r : Result A F) (P : F → Type 0) (n : ℕ) (was is : Page) (old new : TrailView OutputPair) → IsErrAnd r P → is ≡ was → KeepsTrail old new → TrailsOrKeeps output_back n was old is new r
or_keeps (Ok a) P n was is old new failed same kept = absurd failed
or_keeps (Err f) P n was is old new failed same kept = (same, kept)

-- ---- where no mark stands

pub unmarked_spare : (t : TrailView OutputPair) (n : ℕ) → is_some t.undo ≡ false → n ≤ 2 ^ 64 → n ≤ spare t
unfolding spare
unmarked_spare t n = by t.undo
  where
    by : (u : Option (Undo OutputPair)) → is_some u ≡ false → n ≤ 2 ^ 64 → n ≤ spare_of u t.room
    by None none fits = fits
    by (Some u) none fits = absurd (cc)

pub on_ok : {A E P : Type 0} (r : Result A E) → P → OnOk r P
on_ok (Ok a) p = p
on_ok (Err e) p = tt
