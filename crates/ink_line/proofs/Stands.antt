-- A newline that is shown goes on to be shown where a text is written behind it, whatever stands behind that.
use Rattle.std.proofs.Common.{◌≡◌, ◌∙◌, refl, sym, ap, subst, inl, inr, ℕ, suc, eqb, List, [], ◌∷◌, ◌++◌, length, drop, reverse, Bool, true, false, not, ◌||◌, ◌&&◌, append-nil, append_assoc}
use Rattle.std.specs.List.{list_any}
use Rattle.std.proofs.lemmas.Bool.{cases_Bool, cond_both, or_cases, or_left, or_right, eq-eqb, eqb-true, false≢true}
use Rattle.std.proofs.lemmas.List.{length-reverse, reverse-append, reverse-reverse}
use Rattle.std.proofs.lemmas.List.Folds.{list_any-append}
use Rattle.std.proofs.lemmas.List.Sorted.{list_any-IsPermutation, IsPermutation-reverse}
use Rattle.ink_model.specs.Text.Bytes.{has_newline, is_blank, is_white, leading, trailing, trimmed, without}
use Rattle.ink_model.specs.Text.Mark.{cut, cut_end, piece}
use Rattle.ink_model.specs.Text.Output.{let_through}
use Rattle.ink_model.specs.Text.Shown.{blank_shown, newline_before, unhidden_newline, covered, newline_last, glued, glues, has_more, has_text, is_among, is_shown, more_from, newline_shown, newlines_before, passes, shown_before}
use Rattle.ink_model.specs.declared.mark.Mark.{Mark}
use Rattle.ink_model.specs.declared.mark.Mark.TheVariants.{Text, Blank, Newline, Glue, Tag, Enter, Leave}

-- ---- marks behind

-- what stands before two lists of marks is shown alike
record Alike (xs ys : List Mark) : Type 0 where
  pub glue : glued xs ≡ glued ys
  pub gluing : glues xs ≡ glues ys
  pub covers : (between : List Mark) → covered between xs ≡ covered between ys

same : (xs : List Mark) → Alike xs xs
same xs = record { glue = refl; gluing = refl; covers = λ between. refl }

one_more : (m : Mark) (xs ys : List Mark) → Alike xs ys → Alike (m ∷ xs) (m ∷ ys)
one_more (Text t) xs ys h = record { glue = refl; gluing = refl; covers = λ between. refl }
one_more (Blank t) xs ys h = record { glue = h.glue; gluing = h.gluing; covers = λ between. h.covers (Blank t ∷ between) }
one_more Newline xs ys h = record { glue = h.glue; gluing = h.gluing; covers = λ between. h.covers (Newline ∷ between) }
one_more Glue xs ys h = record { glue = refl; gluing = refl; covers = λ between. h.covers (Glue ∷ between) }
one_more (Tag t) xs ys h = record { glue = h.glue; gluing = refl; covers = λ between. h.covers (Tag t ∷ between) }
one_more (Enter n) xs ys h = record { glue = h.glue; gluing = h.gluing; covers = λ between. h.covers (Enter n ∷ between) }
one_more (Leave n) xs ys h = record { glue = h.glue; gluing = h.gluing; covers = λ between. ap (λ b. passes n between || b) (h.covers (Leave n ∷ between)) }

more : (ms xs ys : List Mark) → Alike xs ys → Alike (ms ++ xs) (ms ++ ys)
more [] xs ys h = h
more (m ∷ ms) xs ys h = one_more m (ms ++ xs) (ms ++ ys) (more ms xs ys h)

-- a text keeps apart what stands before and behind it
behind_text : (ms ns : List Mark) → has_text ms ≡ true → Alike ms (ms ++ ns)
behind_text [] ns h = absurd (false≢true h)
behind_text (Text t ∷ ms) ns h = record { glue = refl; gluing = refl; covers = λ between. refl }
behind_text (m ∷ ms) ns h = one_more m ms (ms ++ ns) (behind_text ms ns h)

blank_alike : (before xs ys : List Mark) → Alike xs ys → blank_shown before xs ≡ blank_shown before ys
blank_alike before xs ys h = ap (λ c. not (c || (newline_before before && glued xs))) (h.covers []) ∙ ap (λ g. not (covered [] ys || (newline_before before && g))) h.glue

clear_alike : (before xs ys : List Mark) → Alike xs ys → unhidden_newline before xs ≡ unhidden_newline before ys
clear_alike before xs ys h = ap (λ c. not (glued before || (glues xs || c))) (h.covers []) ∙ ap (λ g. not (glued before || (g || covered [] ys))) h.gluing

some_alike : (before xs ys : List Mark) → Alike xs ys → shown_before before xs ≡ shown_before before ys
some_alike [] xs ys h = refl
some_alike (Text t ∷ before) xs ys h = refl
some_alike (Blank t ∷ before) xs ys h = ap (λ b. b || shown_before before (Blank t ∷ xs)) (blank_alike before xs ys h) ∙ ap (λ b. blank_shown before ys || b) (some_alike before (Blank t ∷ xs) (Blank t ∷ ys) (one_more (Blank t) xs ys h))
some_alike (m ∷ before) xs ys h = some_alike before (m ∷ xs) (m ∷ ys) (one_more m xs ys h)

ends_alike : (before xs ys : List Mark) → Alike xs ys → newline_last before xs ≡ newline_last before ys
ends_alike [] xs ys h = refl
ends_alike (Text t ∷ before) xs ys h = refl
ends_alike (Newline ∷ before) xs ys h =
    let next = one_more Newline xs ys h in
    ap (λ c. (c && shown_before before (Newline ∷ xs)) || newline_last before (Newline ∷ xs)) (clear_alike before xs ys h)
    ∙ ap (λ b. (unhidden_newline before ys && b) || newline_last before (Newline ∷ xs)) (some_alike before (Newline ∷ xs) (Newline ∷ ys) next)
    ∙ ap (λ b. (unhidden_newline before ys && shown_before before (Newline ∷ ys)) || b) (ends_alike before (Newline ∷ xs) (Newline ∷ ys) next)
ends_alike (m ∷ before) xs ys h = ends_alike before (m ∷ xs) (m ∷ ys) (one_more m xs ys h)

shown_alike : (before xs ys : List Mark) → Alike xs ys → newline_shown before xs ≡ newline_shown before ys
shown_alike before xs ys h =
    let next = one_more Newline xs ys h in
    ap (λ c. c && (shown_before before (Newline ∷ xs) && not (newline_last before (Newline ∷ xs)))) (clear_alike before xs ys h)
    ∙ ap (λ b. unhidden_newline before ys && (b && not (newline_last before (Newline ∷ xs)))) (some_alike before (Newline ∷ xs) (Newline ∷ ys) next)
    ∙ ap (λ b. unhidden_newline before ys && (shown_before before (Newline ∷ ys) && not b)) (ends_alike before (Newline ∷ xs) (Newline ∷ ys) next)

-- ---- a shown newline among the marks

turned_onto : (m : Mark) (ms ns : List Mark) → reverse (m ∷ ms) ++ ns ≡ reverse ms ++ m ∷ ns
turned_onto m ms ns = ap (λ xs. xs ++ ns) (reverse-append (m ∷ []) ms) ∙ append_assoc (reverse ms) (m ∷ []) ns

-- a newline stands at this index, the marks before it are listed nearest first, and it is shown
pub record IsAt (i : ℕ) (ms : List Mark) : Type 0 where
  pub before : List Mark
  pub after : List Mark
  pub is : ms ≡ reverse before ++ Newline ∷ after
  pub at : length before ≡ i
  pub shown : newline_shown before after ≡ true

at_same : (i : ℕ) (ms ns : List Mark) → ms ≡ ns → IsAt i ns → IsAt i ms
at_same i ms ns e h = record { before = h.before; after = h.after; is = e ∙ h.is; at = h.at; shown = h.shown }

found_at : (before after : List Mark) (i : ℕ) → is_among i (newlines_before before after) ≡ true → IsAt i (reverse before ++ after)
found_at [] after i e = absurd (false≢true e)
found_at (Newline ∷ before) after i e =
    let turned = λ (there : IsAt i (reverse before ++ Newline ∷ after)). at_same i (reverse (Newline ∷ before) ++ after) (reverse before ++ Newline ∷ after) (turned_onto Newline before after) there in
    elim (cases_Bool (newline_shown before after)) [
      | inl s ↦ elim (or_cases (eqb i (length before)) (is_among i (newlines_before before (Newline ∷ after))) (rw s at e)) [
        | inl here ↦ record { before = before; after = after; is = turned_onto Newline before after; at = sym (eqb-true i (length before) here); shown = s }
        | inr there ↦ turned (found_at before (Newline ∷ after) i there)
      ]
      | inr s ↦ turned (found_at before (Newline ∷ after) i (rw s at e))
    ]
found_at (m ∷ before) after i e = at_same i (reverse (m ∷ before) ++ after) (reverse before ++ m ∷ after) (turned_onto m before after) (found_at before (m ∷ after) i e)

pub is_at : (ms : List Mark) (i : ℕ) → is_shown ms i ≡ true → IsAt i ms
is_at ms i shown = at_same i ms (reverse (reverse ms) ++ []) (sym (append-nil (reverse (reverse ms)) ∙ reverse-reverse ms)) (found_at (reverse ms) [] i shown)

-- and the other way round
among : (m : Mark) (before after : List Mark) (i : ℕ) → is_among i (newlines_before before (m ∷ after)) ≡ true → is_among i (newlines_before (m ∷ before) after) ≡ true
among Newline before after i e = cond_both (newline_shown before after) _ _ (λ ns. is_among i ns ≡ true)
    (λ _. or_right (eqb i (length before)) (is_among i (newlines_before before (Newline ∷ after))) e) (λ _. e)
among m before after i e = e

among_all : (ms before after : List Mark) (i : ℕ) → is_among i (newlines_before before (ms ++ after)) ≡ true → is_among i (newlines_before (reverse ms ++ before) after) ≡ true
among_all [] before after i e = e
among_all (m ∷ ms) before after i e = rw (turned_onto m ms before) (among_all ms (m ∷ before) after i (among m before (ms ++ after) i e))

at_shown : (i : ℕ) (ms : List Mark) → IsAt i ms → is_shown ms i ≡ true
at_shown i ms h =
    let listed : is_among i (newlines_before (Newline ∷ h.before) (h.after ++ [])) ≡ true = rw append-nil (rw h.shown (or_left (eqb i (length h.before)) (is_among i (newlines_before h.before (Newline ∷ h.after))) (eq-eqb i (length h.before) (sym h.at)))) in
    let turned : reverse ms ≡ reverse h.after ++ Newline ∷ h.before =
    ap reverse h.is ∙ reverse-append (reverse h.before) (Newline ∷ h.after) ∙ ap (λ xs. reverse (Newline ∷ h.after) ++ xs) (reverse-reverse h.before) ∙ turned_onto Newline h.after h.before in
    rw turned (among_all h.after (Newline ∷ h.before) [] i listed)

-- ---- a newline with a text behind it

pub record Stands (i : ℕ) (ms : List Mark) : Type 0 where
  pub place : IsAt i ms
  pub text : has_text place.after ≡ true

has_text-append : (ms ns : List Mark) → has_text (ms ++ ns) ≡ (has_text ms || has_text ns)
has_text-append [] ns = refl
has_text-append (Text t ∷ ms) ns = refl
has_text-append (m ∷ ms) ns = has_text-append ms ns

-- more marks behind
more_behind : (i : ℕ) (ms ns : List Mark) → (place : IsAt i ms) → Alike place.after (place.after ++ ns) → has_text (place.after ++ ns) ≡ true → Stands i (ms ++ ns)
more_behind i ms ns place alike text = record {
  place = record {
    before = place.before;
    after = place.after ++ ns;
    is = ap (λ xs. xs ++ ns) place.is ∙ append_assoc (reverse place.before) (Newline ∷ place.after) ns;
    at = place.at;
    shown = sym (shown_alike place.before place.after (place.after ++ ns) alike) ∙ place.shown;
  };
  text = text;
}

-- it goes on to stand
pub stands_on : (i : ℕ) (ms ns : List Mark) → Stands i ms → Stands i (ms ++ ns)
stands_on i ms ns h = more_behind i ms ns h.place (behind_text h.place.after ns h.text) (has_text-append h.place.after ns ∙ or_left (has_text h.place.after) (has_text ns) h.text)

more_has : (ms : List Mark) → has_text ms ≡ true → has_more ms ≡ true
more_has [] h = absurd (false≢true h)
more_has (Text t ∷ ms) h = refl
more_has (Tag t ∷ ms) h = refl
more_has (m ∷ ms) h = more_has ms h

drop_past : (front : List Mark) (m : Mark) (back : List Mark) → drop (suc (length front)) (front ++ m ∷ back) ≡ back
drop_past [] m back = refl
drop_past (x ∷ front) m back = drop_past front m back

pub stands_shown : (i : ℕ) (ms : List Mark) → Stands i ms → (is_shown ms i ≡ true) × (more_from ms (suc i) ≡ true)
stands_shown i ms h =
    let p = h.place in (
      at_shown i ms p,
      ap (λ xs. more_from xs (suc i)) p.is ∙ ap (λ k. more_from (reverse p.before ++ Newline ∷ p.after) (suc k)) (sym p.at ∙ sym (length-reverse p.before))
          ∙ ap has_more (drop_past (reverse p.before) Newline p.after) ∙ more_has p.after h.text,
    )

-- ---- a text that is written

-- no glue, tag or end of a function is among these
abbrev Plain : List Mark → Type 0
Plain [] = Unit {0}
Plain (Text t ∷ ms) = Plain ms
Plain (Blank t ∷ ms) = Plain ms
Plain (Newline ∷ ms) = Plain ms
Plain (m ∷ ms) = ⊥

plain-append : (ms ns : List Mark) → Plain ms → Plain ns → Plain (ms ++ ns)
plain-append [] ns h k = k
plain-append (Text t ∷ ms) ns h k = plain-append ms ns h k
plain-append (Blank t ∷ ms) ns h k = plain-append ms ns h k
plain-append (Newline ∷ ms) ns h k = plain-append ms ns h k
plain-append (m ∷ ms) ns h k = absurd h

plain_alike : (ms : List Mark) → Plain ms → Alike [] ms
plain_alike [] h = same []
plain_alike (Text t ∷ ms) h = record { glue = refl; gluing = refl; covers = λ between. refl }
plain_alike (Blank t ∷ ms) h = let k = plain_alike ms h in record { glue = k.glue; gluing = k.gluing; covers = λ between. k.covers (Blank t ∷ between) }
plain_alike (Newline ∷ ms) h = let k = plain_alike ms h in record { glue = k.glue; gluing = k.gluing; covers = λ between. k.covers (Newline ∷ between) }
plain_alike (m ∷ ms) h = absurd h

-- a byte among these is no white
abbrev pub has_words : List ℕ → Bool
has_words cs = list_any (λ c. not (is_white c)) cs

no_blank : (cs : List ℕ) → has_words cs ≡ true → list_any (λ c. not (is_blank c)) cs ≡ true
no_blank [] h = absurd (false≢true h)
no_blank (c ∷ cs) h = elim (cases_Bool (is_blank c)) [ inl e ↦ rw e (no_blank cs (rw e at h)) | inr e ↦ rw e refl ]

words_reverse : (cs : List ℕ) → has_words (reverse cs) ≡ has_words cs
words_reverse cs = sym (list_any-IsPermutation (λ c. not (is_white c)) cs (reverse cs) (IsPermutation-reverse cs))

words_without : (cs : List ℕ) → has_words (without is_white cs) ≡ has_words cs
words_without [] = refl
words_without (c ∷ cs) = elim (cases_Bool (is_white c)) [ inl e ↦ rw e (words_without cs) | inr e ↦ rw e (rw e refl) ]

words_trimmed : (cs : List ℕ) → has_words (trimmed is_white cs) ≡ has_words cs
words_trimmed cs = words_reverse (without is_white (reverse cs)) ∙ words_without (reverse cs) ∙ words_reverse cs

-- such marks, with a text among them where the text has words
record Written (words : Bool) (ms : List Mark) : Type 0 where
  pub plain : Plain ms
  pub text : words ≡ true → has_text ms ≡ true

written_piece : (cs : List ℕ) → Written (has_words cs) (piece cs)
written_piece [] = record { plain = tt; text = λ h. absurd (false≢true h) }
written_piece (c ∷ cs) = elim (cases_Bool (list_any (λ x. not (is_blank x)) (c ∷ cs))) [
  | inl e ↦ rw e (record { plain = tt; text = λ h. refl })
  | inr e ↦ rw e (record { plain = tt; text = λ h. absurd (false≢true (sym e ∙ no_blank (c ∷ cs) h)) })
]

-- marks with a newline behind them, and then these
written_around : (words : Bool) (xs ys : List Mark) → Plain xs → Plain ys → (words ≡ true → (has_text xs || has_text ys) ≡ true) → Written words (xs ++ Newline ∷ ys)
written_around words xs ys h k text = record { plain = plain-append xs (Newline ∷ ys) h k; text = λ w. has_text-append xs (Newline ∷ ys) ∙ text w }

written_end : (cs : List ℕ) → Written (has_words cs) (cut_end cs)
written_end cs =
    let front = trimmed is_white cs ++ leading is_blank (trailing is_white cs) in
    let xs = written_piece front in
    let words : has_words cs ≡ true → has_words front ≡ true =
    λ h. list_any-append (λ c. not (is_white c)) (trimmed is_white cs) (leading is_blank (trailing is_white cs))
    ∙ or_left (has_words (trimmed is_white cs)) (has_words (leading is_blank (trailing is_white cs))) (words_trimmed cs ∙ h) in
    cond_both (has_newline (trailing is_white cs)) _ _ (Written (has_words cs))
    (λ _. written_around (has_words cs) (piece front) (piece (trailing is_blank cs)) xs.plain (written_piece (trailing is_blank cs)).plain (λ h. or_left (has_text (piece front)) (has_text (piece (trailing is_blank cs))) (xs.text (words h))))
    (λ _. written_piece cs)

written_cut : (cs : List ℕ) → Written (has_words cs) (cut cs)
unfolding cut
written_cut cs =
    let back = trailing is_blank (leading is_white cs) ++ without is_white cs in
    let ys = written_end back in
    let words : has_words cs ≡ true → has_words back ≡ true =
    λ h. list_any-append (λ c. not (is_white c)) (trailing is_blank (leading is_white cs)) (without is_white cs)
    ∙ or_right (has_words (trailing is_blank (leading is_white cs))) (has_words (without is_white cs)) (words_without cs ∙ h) in
    cond_both (has_newline (leading is_white cs)) _ _ (Written (has_words cs))
    (λ _. written_around (has_words cs) (piece (leading is_blank cs)) (cut_end back) (written_piece (leading is_blank cs)).plain ys.plain (λ h. or_right (has_text (piece (leading is_blank cs))) (has_text (cut_end back)) (ys.text (words h))))
    (λ _. written_end cs)

let_plain : (fresh : Bool) (ms : List Mark) → Plain ms → Plain (let_through fresh ms)
let_plain fresh [] h = tt
let_plain fresh (Text t ∷ ms) h = let_plain false ms h
let_plain true (Newline ∷ ms) h = let_plain true ms h
let_plain false (Newline ∷ ms) h = let_plain false ms h
let_plain fresh (Blank t ∷ ms) h = let_plain fresh ms h
let_plain fresh (m ∷ ms) h = absurd h

let_text : (fresh : Bool) (ms : List Mark) → has_text ms ≡ true → has_text (let_through fresh ms) ≡ true
let_text fresh [] h = h
let_text fresh (Text t ∷ ms) h = refl
let_text true (m ∷ ms) h = let_text true ms h
let_text false (m ∷ ms) h = let_text false ms h

-- behind a shown newline a text with words is written
pub words_stand : (i : ℕ) (ms : List Mark) (fresh : Bool) (t : List ℕ) → is_shown ms i ≡ true → has_words t ≡ true → Stands i (ms ++ let_through fresh (cut t))
words_stand i ms fresh t shown words =
    let new = let_through fresh (cut t) in
    let written = written_cut t in
    let place = is_at ms i shown in
    let alike : Alike place.after (place.after ++ new) = subst (λ xs. Alike xs (place.after ++ new)) (append-nil place.after) (more place.after [] new (plain_alike new (let_plain fresh (cut t) written.plain))) in
    more_behind i ms new place alike (has_text-append place.after new ∙ or_right (has_text place.after) (has_text new) (let_text fresh (cut t) (written.text words)))
