-- Marks written at the end of the open section.
use Rattle.std.proofs.Common.{◌≡◌, ℕ, suc, ◌+◌, ◌-◌, ◌<◌, ◌≤◌, nat_lt, Bool, true, false, not, ◌||◌, cond, List, [], ◌∷◌, ◌++◌, length, get_or, set, take, drop, reverse, Result, Ok, refl, sym, ap, ◌∙◌, arith}
use Rattle.std.proofs.Math.Bool.{and-false}
use Rattle.ink_out.proofs.Common.{list_any, Page, Section, cut, piece, MAX_MARKS, Fault, Mark, Text, Blank, page_of}
use Rattle.std.proofs.lemmas.Bool.{le-ltb, or_parts}
use Rattle.std.proofs.Math.Seq.{split_at}
use Rattle.std.proofs.lemmas.List.{append-nil, reverse-append, set_split, drop_all}
use Rattle.ink_model.specs.Text.Bytes.{is_blank, is_white, has_newline, leading, trailing}
use Rattle.ink_model.specs.Text.Output.{writes_marks, writes_text, let_through, noted_in, is_line}

-- ---- the section that is open

pub noted_onto : (ms line : List Mark) (rest : List Section) (n : ℕ) (x y : Section) → y ≡ record x { marks = x.marks ++ ms } → writes_marks ms (page_of line (rest ++ x ∷ []) n) ≡ Ok (page_of line (rest ++ y ∷ []) n)
noted_onto ms line rest n x y is = rw (reverse-append rest (x ∷ []), reverse-append rest (y ∷ []), is) refl

-- the last of a list
pub last_is : {X : Type 0} (xs : List X) (x : X) → 0 < length xs → xs ≡ take (length xs - 1) xs ++ get_or xs (length xs - 1) x ∷ []
last_is xs x some =
    let within : length xs - 1 < length xs = omega arith in
    let end : drop (suc (length xs - 1)) xs ≡ [] = drop_all (suc (length xs - 1)) xs (omega arith) in
    split_at xs (length xs - 1) x within ∙ rw end refl

pub last_set : {X : Type 0} (xs : List X) (y : X) → 0 < length xs → set xs (length xs - 1) y ≡ take (length xs - 1) xs ++ y ∷ []
last_set xs y some =
    let within : length xs - 1 < length xs = omega arith in
    let end : drop (suc (length xs - 1)) xs ≡ [] = drop_all (suc (length xs - 1)) xs (omega arith) in
    set_split xs (length xs - 1) y within ∙ rw end refl

written : Page → Result Page Fault
written page = Ok page

pub noted_last : (ms line : List Mark) (sections : List Section) (n : ℕ) (x y : Section) → 0 < length sections → y ≡ record (get_or sections (length sections - 1) x) { marks = (get_or sections (length sections - 1) x).marks ++ ms } → writes_marks ms (page_of line sections n) ≡ Ok (page_of line (set sections (length sections - 1) y) n)
unfolding written
noted_last ms line sections n x y some is =
    ap (λ (s : List Section). writes_marks ms (page_of line s n)) (last_is sections x some)
    ∙ (noted_onto ms line (take (length sections - 1) sections) n (get_or sections (length sections - 1) x) y is
    ∙ sym (ap (λ (s : List Section). written (page_of line s n)) (last_set sections y some)))

-- ---- where nothing is written

pub noted_in-nil : (line : List Mark) (sections : List Section) (n : ℕ) → noted_in [] line sections n ≡ record { line = line; sections = sections; next_enter = n }
noted_in-nil line [] n = rw append-nil refl
noted_in-nil line (x ∷ rest) n = rw append-nil refl

pub nothing_written : (line : List Mark) (sections : List Section) (n : ℕ) → length line ≤ MAX_MARKS → writes_marks [] (page_of line sections n) ≡ Ok (page_of line sections n)
nothing_written line sections n fits =
    let room : nat_lt MAX_MARKS (length line + 0) ≡ false = le-ltb MAX_MARKS (length line + 0) (omega arith) in
    rw (room, and-false (is_line (reverse sections)), noted_in-nil line (reverse sections) n) refl

-- a text without bytes
pub empty_text : (fresh : Bool) (text : List ℕ) (line : List Mark) (sections : List Section) (n : ℕ) → text ≡ [] → length line ≤ MAX_MARKS → writes_text fresh text (page_of line sections n) ≡ Ok (page_of line sections n)
unfolding cut
empty_text fresh text line sections n e fits = rw e (nothing_written line sections n fits)

pub let_through-false : (ms : List Mark) → let_through false ms ≡ ms
let_through-false [] = refl
let_through-false (Text t ∷ ms) = ap (λ (rest : List Mark). Text t ∷ rest) (let_through-false ms)
let_through-false (m ∷ ms) = ap (λ (rest : List Mark). m ∷ rest) (let_through-false ms)

-- one piece more
-- ---- a text of one piece

pub whole_cut : (cs : List ℕ) → (has_newline (leading is_white cs) || has_newline (trailing is_white cs)) ≡ false → cut cs ≡ piece cs
unfolding cut
whole_cut cs e =
    let (start, end) = or_parts (has_newline (leading is_white cs)) (has_newline (trailing is_white cs)) e in
    rw (start, end) refl

pub let_through-piece : (fresh : Bool) (cs : List ℕ) → let_through fresh (piece cs) ≡ piece cs
let_through-piece fresh [] = refl
let_through-piece true (c ∷ cs) =
    elim (list_any (λ x. not (is_blank x)) (c ∷ cs)) as (λ b. let_through true (cond b (Text (c ∷ cs) ∷ []) (Blank (c ∷ cs) ∷ [])) ≡ cond b (Text (c ∷ cs) ∷ []) (Blank (c ∷ cs) ∷ []))
    [ true ↦ refl | false ↦ refl ]
let_through-piece false (c ∷ cs) = let_through-false (piece (c ∷ cs))
