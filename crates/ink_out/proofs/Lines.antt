-- A text cleaned in one walk, which keeps what stands on the line before a character.
use Rattle.std.proofs.Common.{◌≡◌, ℕ, suc, ◌<◌, ◌≤◌, zero, ◌⊎◌, Bool, true, false, not, cond, if◌then◌else◌, List, [], ◌∷◌, ◌++◌, Option, None, Some, map, filter, length, take, drop, get_or, refl, sym, ap, ◌∙◌, arith, inl, inr}
use Rattle.std.specs.List.{list_any, prefix_len}
use Rattle.std.specs.Str.{IsUtf8, IsCharBoundary}
use Rattle.std.proofs.lemmas.Bool.{cases_lt, or_parts, not-false, not-true}
use Rattle.std.proofs.lemmas.List.{append-nil, append_assoc, take-append-drop, length-take-le, get_or-take}
use Rattle.std.proofs.Math.Seq.{drop-length, take-length}
use Rattle.std.proofs.lemmas.List.Sums.{prefix_len-le-length, prefix_len_passes, prefix_len_stops}
use Rattle.std.proofs.lemmas.Str.{IsCharBoundary-end, IsCharBoundary-before_ascii, IsCharBoundary-after_ascii}
use Rattle.ink_model.specs.Text.Bytes.{is_newline, is_blank, is_white, onto, pieces, joined, is_filled}
use Rattle.ink_model.specs.Text.Clean.{clean_line, clean}
use Rattle.ink_out.specs.Cleaning.{AreWords, space, gap, cleaned_on, shown_as, HoldsBytes}
use Rattle.ink_out.specs.declared.cleaning.Before.{Before}
use Rattle.ink_out.specs.declared.cleaning.Before.TheVariants.{Nothing, Word, Gap}
use Rattle.ink_out.proofs.WhiteEnds.{blank_no_newline, white_ascii}

-- ---- the walk

-- the same on one line
abbrev words_on : Before → List ℕ → List ℕ
words_on before [] = []
words_on before (c ∷ cs) = if is_blank c then words_on (gap before) cs else space before ++ c ∷ words_on Word cs

-- ---- a line

-- words behind a word
abbrev spaced : List (List ℕ) → List ℕ
spaced [] = []
spaced (word ∷ words) = 32 ∷ joined 32 (word ∷ words)

-- what a line's pieces give where a word or a gap stands before them
abbrev behind : Before → List (List ℕ) → List ℕ
behind Nothing ps = joined 32 (filter is_filled ps)
behind Gap ps = spaced (filter is_filled ps)
behind Word [] = []
behind Word (p ∷ ps) = p ++ spaced (filter is_filled ps)

joined_spaced : (word : List ℕ) (words : List (List ℕ)) → joined 32 (word ∷ words) ≡ word ++ spaced words
joined_spaced word [] = sym (append-nil word)
joined_spaced word (next ∷ words) = refl

-- a blank in front of a line's pieces
behind_blank : (before : Before) (ps : List (List ℕ)) → behind (gap before) ps ≡ behind before ([] ∷ ps)
behind_blank Nothing ps = refl
behind_blank before ps = refl

-- a word's byte in front of a line's pieces
behind_byte : (before : Before) (c : ℕ) (ps : List (List ℕ)) → space before ++ c ∷ behind Word ps ≡ behind before (onto c ps)
behind_byte Nothing c [] = refl
behind_byte Word c [] = refl
behind_byte Gap c [] = refl
behind_byte Nothing c (p ∷ ps) = sym (joined_spaced (c ∷ p) (filter is_filled ps))
behind_byte Word c (p ∷ ps) = refl
behind_byte Gap c (p ∷ ps) = ap (λ cs. 32 ∷ cs) (sym (joined_spaced (c ∷ p) (filter is_filled ps)))

words_on_is : (before : Before) (cs : List ℕ) → words_on before cs ≡ behind before (pieces is_blank cs)
words_on_is Nothing [] = refl
words_on_is Word [] = refl
words_on_is Gap [] = refl
words_on_is before (c ∷ cs) =
    elim (is_blank c) as (λ b. cond b (words_on (gap before) cs) (space before ++ c ∷ words_on Word cs) ≡ behind before (cond b ([] ∷ pieces is_blank cs) (onto c (pieces is_blank cs)))) [
      | true ↦ words_on_is (gap before) cs ∙ behind_blank before (pieces is_blank cs)
      | false ↦ ap (λ ds. space before ++ c ∷ ds) (words_on_is Word cs) ∙ behind_byte before c (pieces is_blank cs)
    ]

-- ---- a text

-- what a text's lines give, with this before the first
abbrev lines_on : Before → List (List ℕ) → List ℕ
lines_on before [] = []
lines_on before (line ∷ lines) = joined 10 (words_on before line ∷ map clean_line lines)

lines_on_is : (lines : List (List ℕ)) → joined 10 (map clean_line lines) ≡ lines_on Nothing lines
lines_on_is [] = refl
lines_on_is (line ∷ lines) = ap (λ cs. joined 10 (cs ∷ map clean_line lines)) (sym (words_on_is Nothing line))

-- a byte in front of a text's lines
joined_byte : (c : ℕ) (line : List ℕ) (lines : List (List ℕ)) → c ∷ joined 10 (line ∷ lines) ≡ joined 10 ((c ∷ line) ∷ lines)
joined_byte c line [] = refl
joined_byte c line (next ∷ lines) = refl

lines_byte : (before : Before) (c : ℕ) (line : List ℕ) (lines : List (List ℕ)) → space before ++ c ∷ joined 10 (line ∷ lines) ≡ joined 10 ((space before ++ c ∷ line) ∷ lines)
lines_byte Gap c line lines = ap (λ cs. 32 ∷ cs) (joined_byte c line lines) ∙ joined_byte 32 (c ∷ line) lines
lines_byte before c line lines = joined_byte c line lines

lines_onto : (before : Before) (c : ℕ) (lines : List (List ℕ)) → (if is_blank c then lines_on (gap before) lines else space before ++ c ∷ lines_on Word lines) ≡ lines_on before (onto c lines)
lines_onto before c [] =
    elim (is_blank c) as (λ b. cond b [] (space before ++ c ∷ []) ≡ cond b [] (space before ++ c ∷ [])) [ true ↦ refl | false ↦ refl ]
lines_onto before c (line ∷ lines) =
    elim (is_blank c) as (λ b. cond b (lines_on (gap before) (line ∷ lines)) (space before ++ c ∷ lines_on Word (line ∷ lines)) ≡ joined 10 (cond b (words_on (gap before) line) (space before ++ c ∷ words_on Word line) ∷ map clean_line lines))
    [ true ↦ refl | false ↦ lines_byte before c (words_on Word line) (map clean_line lines) ]

-- a text has a line
some_piece : (test : ℕ → Bool) (cs : List ℕ) → (p : List ℕ) × (ps : List (List ℕ)) × (pieces test cs ≡ p ∷ ps)
some_piece test [] = ([], [], refl)
some_piece test (c ∷ cs) =
    let (p, ps, e) = some_piece test cs in
    elim (test c) as (λ b. (q : List ℕ) × (qs : List (List ℕ)) × (cond b ([] ∷ pieces test cs) (onto c (pieces test cs)) ≡ q ∷ qs))
    [ true ↦ ([], pieces test cs, refl) | false ↦ (c ∷ p, ps, ap (onto c) e) ]

-- a newline in front of a text's lines
lines_newline : (before : Before) (cs : List ℕ) → 10 ∷ lines_on Nothing (pieces is_newline cs) ≡ lines_on before ([] ∷ pieces is_newline cs)
lines_newline before cs =
    let (line, lines, e) = some_piece is_newline cs in
    rw e (ap (λ ds. 10 ∷ ds) (sym (lines_on_is (line ∷ lines))))

cleaned_on_is : (before : Before) (cs : List ℕ) → cleaned_on before cs ≡ lines_on before (pieces is_newline cs)
cleaned_on_is before [] = refl
cleaned_on_is before (c ∷ cs) =
    elim (is_newline c) as (λ b. cond b (10 ∷ cleaned_on Nothing cs) (cond (is_blank c) (cleaned_on (gap before) cs) (space before ++ c ∷ cleaned_on Word cs)) ≡ lines_on before (cond b ([] ∷ pieces is_newline cs) (onto c (pieces is_newline cs)))) [
      | true ↦ ap (λ ds. 10 ∷ ds) (cleaned_on_is Nothing cs) ∙ lines_newline before cs
      | false ↦ rw (cleaned_on_is (gap before) cs, cleaned_on_is Word cs) (lines_onto before c (pieces is_newline cs))
    ]

pub clean_is : (cs : List ℕ) → clean cs ≡ cleaned_on Nothing cs
unfolding clean
clean_is cs = lines_on_is (pieces is_newline cs) ∙ sym (cleaned_on_is Nothing cs)

-- ---- a piece

abbrev IsWord : List ℕ → Type 0
IsWord cs = (k : ℕ) → k < length cs → is_white (get_or cs k 0) ≡ false

word_more : (cs rest : List ℕ) → IsWord cs → cleaned_on Word (cs ++ rest) ≡ cs ++ cleaned_on Word rest
word_more [] rest h = refl
word_more (c ∷ cs) rest h =
    let (blank, newline) = or_parts (is_blank c) (is_newline c) (h 0 (omega arith)) in
    rw (newline, blank) (ap (λ ds. c ∷ ds) (word_more cs rest (λ k l. h (suc k) (omega arith))))

word_first : (before : Before) (cs rest : List ℕ) → 0 < length cs → IsWord cs → cleaned_on before (cs ++ rest) ≡ space before ++ (cs ++ cleaned_on Word rest)
word_first before [] rest some h = absurd (omega arith)
word_first before (c ∷ cs) rest some h =
    let (blank, newline) = or_parts (is_blank c) (is_newline c) (h 0 (omega arith)) in
    rw (newline, blank) (ap (λ ds. space before ++ c ∷ ds) (word_more cs rest (λ k l. h (suc k) (omega arith))))

-- the bytes up to the first white one
abbrev pub word_of : List ℕ → ℕ
word_of cs = prefix_len (λ byte. not (is_white byte)) cs

word_within : (cs : List ℕ) (n : ℕ) → n ≡ word_of cs → n ≤ length cs
word_within cs n e = omega (arith, e, prefix_len-le-length (λ byte. not (is_white byte)) cs)

word_passes : (cs : List ℕ) (n : ℕ) → n ≡ word_of cs → IsWord (take n cs)
word_passes cs n e = λ k l.
    let len = length-take-le n cs (word_within cs n e) in
    let below : k < n = omega (arith, l, len) in
    let passes = prefix_len_passes (λ byte. not (is_white byte)) cs k 0 (omega (arith, below, e)) in
    rw (get_or-take n cs k 0 below) (not-true (is_white (get_or cs k 0)) passes)

ends_at : (cs : List ℕ) (n : ℕ) → n ≡ word_of cs → (n ≡ length cs) ⊎ (is_white (get_or cs n 0) ≡ true)
ends_at cs n e =
    elim (cases_lt n (length cs)) [
      | inl l ↦
          let stops = prefix_len_stops (λ byte. not (is_white byte)) cs 0 (omega (arith, l, e)) in
          inr (ap (λ k. is_white (get_or cs k 0)) e ∙ not-false (is_white (get_or cs (word_of cs) 0)) stops)
      | inr l ↦ inl (omega (arith, l, word_within cs n e))
    ]

word_cleaned : (cs more : List ℕ) (before : Before) (n : ℕ) → 0 < n → n ≡ word_of cs → cleaned_on before (cs ++ more) ≡ space before ++ (take n cs ++ cleaned_on Word (drop n cs ++ more))
word_cleaned cs more before n some e =
    let len = length-take-le n cs (word_within cs n e) in
    let filled : 0 < length (take n cs) = omega (arith, some, len) in
    ap (cleaned_on before) (ap (λ ds. ds ++ more) (sym (take-append-drop n cs)) ∙ append_assoc (take n cs) (drop n cs) more)
    ∙ word_first before (take n cs) (drop n cs ++ more) filled (word_passes cs n e)

-- one word
pub first_word : (cs : List ℕ) (n : ℕ) → n ≡ word_of cs → AreWords cs n
first_word cs n e = record { within = word_within cs n e; cleaned = λ some before more. word_cleaned cs more before n some e; ends = ends_at cs n e }

-- so many bytes are words, whatever stands behind them
abbrev pub Passed : List ℕ → ℕ → Type 0
Passed cs n = (before : Before) (more : List ℕ) → cleaned_on before (cs ++ more) ≡ space before ++ (take n cs ++ cleaned_on Word (drop n cs ++ more))

pub words_step : (out cs more : List ℕ) (before : Before) (n : ℕ) → 0 < n → AreWords cs n → ((out ++ space before) ++ take n cs) ++ cleaned_on Word (drop n cs ++ more) ≡ out ++ cleaned_on before (cs ++ more)
words_step out cs more before n some words =
    append_assoc (out ++ space before) (take n cs) (cleaned_on Word (drop n cs ++ more))
    ∙ append_assoc out (space before) (take n cs ++ cleaned_on Word (drop n cs ++ more))
    ∙ ap (λ ds. out ++ ds) (sym (words.cleaned some before more))

-- words and no more are left as they are
whole_words : (all : List ℕ) (k : ℕ) → k ≡ length all → take k all ++ cleaned_on Word (drop k all ++ []) ≡ all
whole_words all k is =
    ap (λ n. take n all ++ cleaned_on Word (drop n all ++ [])) is ∙ ap (λ xs. xs ++ cleaned_on Word (drop (length all) all ++ [])) (take-length all)
    ∙ ap (λ ys. all ++ cleaned_on Word (ys ++ [])) (drop-length all) ∙ append-nil all

pub words_clean : (cs : List ℕ) (n : ℕ) → AreWords cs n → n ≡ length cs → clean cs ≡ cs
words_clean [] n words is = clean_is []
words_clean (c ∷ cs) n words is =
    let all = c ∷ cs in
    clean_is all ∙ ap (cleaned_on Nothing) (sym (append-nil all)) ∙ words.cleaned (omega (arith, is)) Nothing [] ∙ whole_words all n is

-- ---- a newline at the end

ended : (newline blank : Bool) (before : List ℕ) (c : ℕ) (xs ys zs : List ℕ) → cond newline (10 ∷ (xs ++ 10 ∷ [])) (cond blank (ys ++ 10 ∷ []) (before ++ c ∷ (zs ++ 10 ∷ []))) ≡ cond newline (10 ∷ xs) (cond blank ys (before ++ c ∷ zs)) ++ 10 ∷ []
ended true blank before c xs ys zs = refl
ended false true before c xs ys zs = refl
ended false false before c xs ys zs = sym (append_assoc before (c ∷ zs) (10 ∷ []))

cleaned_newline : (before : Before) (cs : List ℕ) → cleaned_on before (cs ++ 10 ∷ []) ≡ cleaned_on before cs ++ 10 ∷ []
cleaned_newline before [] = refl
cleaned_newline before (c ∷ cs) =
    rw (cleaned_newline Nothing cs, cleaned_newline (gap before) cs, cleaned_newline Word cs)
    (ended (is_newline c) (is_blank c) (space before) c (cleaned_on Nothing cs) (cleaned_on (gap before) cs) (cleaned_on Word cs))

-- a newline stays at the end
pub clean_ended : (cs : List ℕ) → clean (cs ++ 10 ∷ []) ≡ clean cs ++ 10 ∷ []
clean_ended cs = clean_is (cs ++ 10 ∷ []) ∙ cleaned_newline Nothing cs ∙ ap (λ ds. ds ++ 10 ∷ []) (sym (clean_is cs))

-- a text that is clean stays so with a newline behind it
pub clean_newline : (cs : List ℕ) → clean cs ≡ cs → clean (cs ++ 10 ∷ []) ≡ cs ++ 10 ∷ []
clean_newline cs same = clean_ended cs ∙ ap (λ ds. ds ++ 10 ∷ []) same

-- ---- blanks at the end

blanks_gone : (before : Before) (cs : List ℕ) → list_any (λ byte. not (is_blank byte)) cs ≡ false → cleaned_on before cs ≡ []
blanks_gone before [] none = refl
blanks_gone before (c ∷ cs) none =
    let (first, rest) = or_parts (not (is_blank c)) (list_any (λ byte. not (is_blank byte)) cs) none in
    let blank : is_blank c ≡ true = not-false (is_blank c) first in
    rw (blank_no_newline c blank, blank) (blanks_gone (gap before) cs rest)

-- words with blanks alone behind them are what stays
pub words_stay : (cs : List ℕ) (n : ℕ) → AreWords cs n → list_any (λ byte. not (is_blank byte)) (drop n cs) ≡ false → clean cs ≡ take n cs
words_stay cs zero words none = clean_is cs ∙ blanks_gone Nothing cs none
words_stay cs (suc n) words none =
    let rest = drop (suc n) cs in
    clean_is cs ∙ ap (cleaned_on Nothing) (sym (append-nil cs)) ∙ words.cleaned (omega arith) Nothing []
    ∙ ap (λ ds. take (suc n) cs ++ ds) (ap (cleaned_on Word) (append-nil rest) ∙ blanks_gone Word rest none)
    ∙ append-nil (take (suc n) cs)

-- ---- where a text may be cut

-- a text may be cut behind words
pub words_boundary : (cs : List ℕ) (n : ℕ) → AreWords cs n → IsCharBoundary cs n
words_boundary cs n words =
    elim words.ends [
      | inl end ↦ rw end (IsCharBoundary-end cs)
      | inr white ↦
          elim (cases_lt n (length cs)) [
            | inl l ↦ IsCharBoundary-before_ascii cs n l (white_ascii (get_or cs n 0) white)
            | inr l ↦ let end : n ≡ length cs = omega (arith, l, words.within) in rw end (IsCharBoundary-end cs)
          ]
    ]

-- no word stands at a text's beginning
pub white_first : (cs : List ℕ) → 0 < length cs → word_of cs ≡ 0 → is_white (get_or cs 0 0) ≡ true
white_first cs some none =
    let stops = prefix_len_stops (λ byte. not (is_white byte)) cs 0 (omega (arith, some, none)) in
    ap (λ k. is_white (get_or cs k 0)) (sym none) ∙ not-false (is_white (get_or cs (word_of cs) 0)) stops

pub white_boundary : (cs : List ℕ) → IsUtf8 cs → 0 < length cs → is_white (get_or cs 0 0) ≡ true → IsCharBoundary cs 1
white_boundary cs u some white = IsCharBoundary-after_ascii cs 0 u some (white_ascii (get_or cs 0 0) white)

-- ---- what was written

pub all_held : (cleans : Bool) (before : Option Before) (bytes written : List ℕ) → HoldsBytes cleans before bytes written → bytes ≡ shown_as cleans written
all_held true (Some before) bytes written h =
    sym (append-nil bytes) ∙ h [] ∙ ap (cleaned_on Nothing) (append-nil written) ∙ sym (clean_is written)
all_held false None bytes written h = h
all_held cleans before bytes written h = absurd h

-- what is left begins with its first byte
pub first_on : (rest more : List ℕ) → 0 < length rest → get_or rest 0 0 ∷ (drop 1 rest ++ more) ≡ rest ++ more
first_on [] more some = absurd (omega (arith, some))
first_on (c ∷ cs) more some = refl
