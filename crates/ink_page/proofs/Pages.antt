-- A paragraph that is laid out is made of lines that fit.
use Rattle.std.proofs.Common.{◌≡◌, ◌∙◌, ◌+◌, ◌≤◌, ◌==◌, ◌&&◌, ◌||◌, ℕ, List, [], ◌∷◌, ◌++◌, Bool, true, false, not, nat_le, nat_lt, refl, sym, ap, ap₂, subst, arith, append_assoc, append-nil, replicate, length, add-zero, chars, codes, cond, true≢false, encode_utf8, encode_utf8_all, inl, inr}
use Rattle.std.proofs.lemmas.Bool.{and_parts, cond_both, leb-true, ltb-false}
use Rattle.std.proofs.lemmas.List.{length-replicate}
use Rattle.std.proofs.lemmas.Str.{chars-encodes, encodes-append}
use Rattle.std.specs.Char.{is_control}
use Rattle.std.specs.List.{list_all}
use Rattle.std.specs.Str.{all_scalars}
use Rattle.ink_page.proofs.Lines.{ArePrintable, blanks, broken-push, fits-before, fits-behind, letters, letters-written, lines-push, newline-encoded, plain-append, printable-encoded, printable-plain, printable-scalars, printable-width, scalars-append, sign-encoded, width-append, written-append}
use Rattle.ink_page.specs.Lines.{AreLines, FitsColumns, IsPage, Mark, Letter, Dim, Undim, lines_broken, is_plain, width, written}
use Rattle.ink_page.specs.Sheet.{SheetView, added, behind, columns_of, dimmed, sheet_text, is_blank, laid, opened, placed, roomy, with_character, spaced, undimmed}

-- a word that is open: its marks, and that it fits on a line of its own
pub record IsWord (dims : Bool) (columns margin : ℕ) (bytes : List ℕ) (wide : ℕ) : Type 0 where
  pub marks : List Mark
  pub spelled : bytes ≡ encode_utf8_all (written marks)
  pub scalars : all_scalars (written marks) ≡ true
  pub plain : list_all (is_plain dims) marks ≡ true
  pub takes : wide ≡ width marks
  pub fits : FitsColumns columns margin marks (margin + wide)

-- what is laid out: its lines, and how much of the last one is taken
pub record IsLaid (dims : Bool) (columns margin : ℕ) (done : List ℕ) (column : ℕ) : Type 0 where
  pub lines : List (List Mark)
  pub line : List Mark
  pub spelled : done ≡ encode_utf8_all (lines_broken lines ++ written line)
  pub scalars : all_scalars (lines_broken lines ++ written line) ≡ true
  pub above : AreLines dims columns margin lines
  pub plain : list_all (is_plain dims) line ≡ true
  pub takes : column ≡ width line
  pub least : margin ≤ column
  pub fits : FitsColumns columns margin line column

-- a paragraph of lines that fit
pub record Holds (dims : Bool) (columns margin : ℕ) (s : SheetView) : Type 0 where
  pub columns_are : s.columns ≡ columns
  pub margin_is : s.margin ≡ margin
  pub laid : IsLaid dims columns margin s.done s.column
  pub word : IsWord dims columns margin s.word s.wide

module _ (dims : Bool) (columns margin : ℕ) where
  no_word : IsWord dims columns margin [] 0
  no_word = record { marks = []; spelled = refl; scalars = refl; plain = refl; takes = refl; fits = inr (omega arith) }

  -- marks go behind the last line
  follow : (done : List ℕ) (column : ℕ) (l : IsLaid dims columns margin done column) (marks : List Mark) (bytes : List ℕ) (wide : ℕ)
      → bytes ≡ encode_utf8_all (written marks) → all_scalars (written marks) ≡ true → list_all (is_plain dims) marks ≡ true → wide ≡ width marks
      → FitsColumns columns margin (l.line ++ marks) (column + wide) → IsLaid dims columns margin (done ++ bytes) (column + wide)
  follow done column l marks bytes wide spelled scalars plain is fits =
      let text : (lines_broken l.lines ++ written l.line) ++ written marks ≡ lines_broken l.lines ++ written (l.line ++ marks) =
      append_assoc (lines_broken l.lines) (written l.line) (written marks) ∙ ap (λ x. lines_broken l.lines ++ x) (sym (written-append l.line marks)) in
      let sum = width-append l.line marks in
      let was = l.takes in
      let floor = l.least in
      record {
        lines = l.lines;
        line = l.line ++ marks;
        spelled = ap₂ (λ x y. x ++ y) l.spelled spelled ∙ sym (encodes-append (lines_broken l.lines ++ written l.line) (written marks)) ∙ ap encode_utf8_all text;
        scalars = subst (λ x. all_scalars x ≡ true) text (scalars-append (lines_broken l.lines ++ written l.line) (written marks) l.scalars scalars);
        above = l.above;
        plain = plain-append dims l.line marks l.plain plain;
        takes = omega arith;
        least = omega arith;
        fits = fits;
      }

  -- a new line begins behind the margin
  break : (done : List ℕ) (column : ℕ) → IsLaid dims columns margin done column → IsLaid dims columns margin ((done ++ 10 ∷ []) ++ replicate margin 32) margin
  break done column l =
      let spaces = letters (replicate margin 32) in
      let blank = blanks margin in
      let text : ((lines_broken l.lines ++ written l.line) ++ 10 ∷ []) ++ written spaces ≡ lines_broken (l.lines ++ l.line ∷ []) ++ written spaces =
      ap (λ x. x ++ written spaces) (append_assoc (lines_broken l.lines) (written l.line) (10 ∷ []) ∙ sym (broken-push l.lines l.line)) in
      let encoded : (done ++ 10 ∷ []) ++ replicate margin 32 ≡ encode_utf8_all (((lines_broken l.lines ++ written l.line) ++ 10 ∷ []) ++ written spaces) =
      ap₂ (λ x y. (x ++ 10 ∷ []) ++ y) l.spelled (sym (printable-encoded (replicate margin 32) blank) ∙ ap encode_utf8_all (sym (letters-written (replicate margin 32))))
      ∙ ap (λ x. x ++ encode_utf8_all (written spaces)) (ap (λ x. encode_utf8_all (lines_broken l.lines ++ written l.line) ++ x) (sym newline-encoded) ∙ sym (encodes-append (lines_broken l.lines ++ written l.line) (10 ∷ [])))
      ∙ sym (encodes-append ((lines_broken l.lines ++ written l.line) ++ 10 ∷ []) (written spaces)) in
      let sound = scalars-append ((lines_broken l.lines ++ written l.line) ++ 10 ∷ []) (written spaces) (scalars-append (lines_broken l.lines ++ written l.line) (10 ∷ []) l.scalars refl)
      (ap all_scalars (letters-written (replicate margin 32)) ∙ printable-scalars (replicate margin 32) blank) in
      let wide : width spaces ≡ margin = printable-width (replicate margin 32) blank ∙ length-replicate margin 32 in
      record {
        lines = l.lines ++ l.line ∷ [];
        line = spaces;
        spelled = encoded ∙ ap encode_utf8_all text;
        scalars = subst (λ x. all_scalars x ≡ true) text sound;
        above = lines-push dims columns margin l.lines l.line l.above (record { plain = l.plain; narrow = subst (λ n. FitsColumns columns margin l.line n) l.takes l.fits });
        plain = printable-plain dims (replicate margin 32) blank;
        takes = sym wide;
        least = omega arith;
        fits = inr (omega arith);
      }

  -- a word goes behind what is laid out, where it fits there
  join : (done : List ℕ) (column : ℕ) (bytes : List ℕ) (wide : ℕ) → IsLaid dims columns margin done column → (w : IsWord dims columns margin bytes wide)
      → FitsColumns columns margin w.marks (column + wide) → IsLaid dims columns margin (done ++ bytes) (column + wide)
  join done column bytes wide l w fits =
      follow done column l w.marks bytes wide w.spelled w.scalars w.plain w.takes (fits-behind columns margin (column + wide) l.line w.marks fits)

  -- a blank goes behind what is laid out
  part : (done : List ℕ) (column : ℕ) (wide : ℕ) → column + 1 + wide ≤ columns → IsLaid dims columns margin done column → IsLaid dims columns margin (done ++ 32 ∷ []) (column + 1)
  part done column wide room l =
      let one = printable-width (32 ∷ []) (omega arith, omega arith, tt) in
      follow done column l (Letter 32 ∷ []) (32 ∷ []) 1 (sym (printable-encoded (32 ∷ []) (omega arith, omega arith, tt))) refl refl (sym one) (inl (omega arith))

  -- with the word behind it, a paragraph holds
  pub placed-holds : (s : SheetView) → Holds dims columns margin s → Holds dims columns margin (placed s)
  placed-holds s h = cond_both (length s.word == 0) s (behind (spaced s)) (λ t. Holds dims columns margin (record t { word = []; wide = 0 })) (λ e. empty) (λ e. full)
    where
      empty : Holds dims columns margin (record s { word = []; wide = 0 })
      empty = record { columns_are = h.columns_are; margin_is = h.margin_is; laid = h.laid; word = no_word }

      by : (t : SheetView) → t.columns ≡ columns → t.margin ≡ margin → IsLaid dims columns margin (t.done ++ t.word) (t.column + t.wide) → Holds dims columns margin (record (behind t) { word = []; wide = 0 })
      by t cs m l = record { columns_are = cs; margin_is = m; laid = l; word = no_word }

      anew : FitsColumns columns margin h.word.marks (margin + s.wide)
      anew = h.word.fits

      same : nat_le s.column s.margin ≡ true → s.column ≡ margin
      same e = let below = leb-true s.column s.margin e in let m = h.margin_is in let least = h.laid.least in omega arith

      full : Holds dims columns margin (record (behind (spaced s)) { word = []; wide = 0 })
      full = cond_both (nat_le s.column s.margin) s (cond (nat_le (s.column + 1 + s.wide) s.columns) (record s { done = s.done ++ 32 ∷ []; column = s.column + 1 }) (record s { done = (s.done ++ 10 ∷ []) ++ replicate s.margin 32; column = s.margin }))
          (λ t. Holds dims columns margin (record (behind t) { word = []; wide = 0 }))
          (λ e. by s h.columns_are h.margin_is (join s.done s.column s.word s.wide h.laid h.word (subst (λ n. FitsColumns columns margin h.word.marks (n + s.wide)) (sym (same e)) anew)))
          (λ e. cond_both (nat_le (s.column + 1 + s.wide) s.columns) (record s { done = s.done ++ 32 ∷ []; column = s.column + 1 }) (record s { done = (s.done ++ 10 ∷ []) ++ replicate s.margin 32; column = s.margin })
          (λ t. Holds dims columns margin (record (behind t) { word = []; wide = 0 })) beside below)
        where
          beside : nat_le (s.column + 1 + s.wide) s.columns ≡ true → Holds dims columns margin (record (behind (record s { done = s.done ++ 32 ∷ []; column = s.column + 1 })) { word = []; wide = 0 })
          beside e =
              let room : s.column + 1 + s.wide ≤ columns = subst (λ n. s.column + 1 + s.wide ≤ n) h.columns_are (leb-true (s.column + 1 + s.wide) s.columns e) in
              by (record s { done = s.done ++ 32 ∷ []; column = s.column + 1 }) h.columns_are h.margin_is
              (join (s.done ++ 32 ∷ []) (s.column + 1) s.word s.wide (part s.done s.column s.wide room h.laid) h.word (inl room))

          below : nat_le (s.column + 1 + s.wide) s.columns ≡ false → Holds dims columns margin (record (behind (record s { done = (s.done ++ 10 ∷ []) ++ replicate s.margin 32; column = s.margin })) { word = []; wide = 0 })
          below e =
              by (record s { done = (s.done ++ 10 ∷ []) ++ replicate s.margin 32; column = s.margin }) h.columns_are h.margin_is
              (subst (λ m. IsLaid dims columns margin (((s.done ++ 10 ∷ []) ++ replicate m 32) ++ s.word) (m + s.wide)) (sym h.margin_is)
              (join ((s.done ++ 10 ∷ []) ++ replicate margin 32) margin s.word s.wide (break s.done s.column h.laid) h.word anew))

  -- a character is added where it has room
  added-holds : (c : ℕ) (s : SheetView) → all_scalars (c ∷ []) ≡ true → is_control c ≡ false → Holds dims columns margin s
      → FitsColumns columns margin (Letter c ∷ []) (margin + (s.wide + columns_of c)) → Holds dims columns margin (added c s)
  added-holds c s scalar plain h fits =
      let w = h.word in
      let sum = width-append w.marks (Letter c ∷ []) in
      let was = w.takes in
      record {
        columns_are = h.columns_are;
        margin_is = h.margin_is;
        laid = h.laid;
        word = record {
          marks = w.marks ++ Letter c ∷ [];
          spelled = ap₂ (λ x y. x ++ y) w.spelled (sym (append-nil (encode_utf8 c))) ∙ sym (encodes-append (written w.marks) (c ∷ [])) ∙ ap encode_utf8_all (sym (written-append w.marks (Letter c ∷ [])));
          scalars = ap all_scalars (written-append w.marks (Letter c ∷ [])) ∙ scalars-append (written w.marks) (c ∷ []) w.scalars scalar;
          plain = plain-append dims w.marks (Letter c ∷ []) w.plain (ap (λ b. not b && true) plain);
          takes = omega arith;
          fits = fits-behind columns margin (margin + (s.wide + columns_of c)) w.marks (Letter c ∷ []) fits;
        };
      }

  not_blank : (a b : Bool) → (a || b) ≡ false → b ≡ false
  not_blank true b e = absurd (true≢false e)
  not_blank false b e = e

  pub shown-holds : (c : ℕ) (s : SheetView) → all_scalars (c ∷ []) ≡ true → Holds dims columns margin s → Holds dims columns margin (with_character c s)
  shown-holds c s scalar h = cond_both (is_blank c) (placed s) (added c (roomy (columns_of c) s)) (λ t. Holds dims columns margin t) (λ e. placed-holds s h) (λ e. letter (not_blank (c == 32) (is_control c) e))
    where
      letter : is_control c ≡ false → Holds dims columns margin (added c (roomy (columns_of c) s))
      letter plain = cond_both (nat_lt s.columns (s.margin + s.wide + columns_of c)) (placed s) s (λ t. Holds dims columns margin (added c t)) alone beside
        where
          alone : nat_lt s.columns (s.margin + s.wide + columns_of c) ≡ true → Holds dims columns margin (added c (placed s))
          alone e = added-holds c (placed s) scalar plain (placed-holds s h) (inr (omega arith))

          beside : nat_lt s.columns (s.margin + s.wide + columns_of c) ≡ false → Holds dims columns margin (added c s)
          beside e =
              let room = ltb-false s.columns (s.margin + s.wide + columns_of c) e in
              let cs = h.columns_are in
              let m = h.margin_is in
              added-holds c s scalar plain h (inl (omega arith))

  pub laid-holds : (cs : List ℕ) (s : SheetView) → all_scalars cs ≡ true → Holds dims columns margin s → Holds dims columns margin (laid cs s)
  laid-holds [] s scalars h = h
  laid-holds (c ∷ cs) s scalars h =
      let both = and_parts _ _ scalars in
      laid-holds cs (with_character c s) both.1 (shown-holds c s (ap (λ b. b && true) both.0) h)

  -- a sign goes behind what is laid out
  signed : (sign : Mark) (bytes : List ℕ) (s : SheetView) → bytes ≡ encode_utf8_all (written (sign ∷ [])) → all_scalars (written (sign ∷ [])) ≡ true → list_all (is_plain dims) (sign ∷ []) ≡ true → 0 ≡ width (sign ∷ [])
      → Holds dims columns margin s → Holds dims columns margin (record s { done = s.done ++ bytes })
  signed sign bytes s spelled scalars plain none h =
      let l = h.laid in
      let fits : FitsColumns columns margin (l.line ++ sign ∷ []) (s.column + 0) = subst (λ n. FitsColumns columns margin (l.line ++ sign ∷ []) n) (sym (add-zero s.column)) (fits-before columns margin s.column l.line (sign ∷ []) l.fits) in
      record {
        columns_are = h.columns_are;
        margin_is = h.margin_is;
        laid = subst (λ n. IsLaid dims columns margin (s.done ++ bytes) n) (add-zero s.column) (follow s.done s.column l (sign ∷ []) bytes 0 spelled scalars plain none fits);
        word = h.word;
      }

  pub dimmed-holds : (s : SheetView) → dims ≡ true → Holds dims columns margin s → Holds dims columns margin (dimmed s)
  dimmed-holds s on h = signed Dim (27 ∷ codes "[2m") (placed s) (sym (sign-encoded (codes "[2m") (omega arith, omega arith, (omega arith, omega arith, (omega arith, omega arith, tt))))) refl (ap (λ b. b && true) on) refl (placed-holds s h)

  pub undimmed-holds : (s : SheetView) → dims ≡ true → Holds dims columns margin s → Holds dims columns margin (undimmed s)
  undimmed-holds s on h = signed Undim (27 ∷ codes "[0m") (placed s) (sym (sign-encoded (codes "[0m") (omega arith, omega arith, (omega arith, omega arith, (omega arith, omega arith, tt))))) refl (ap (λ b. b && true) on) refl (placed-holds s h)

  pub opened-holds : (lead : List ℕ) → ArePrintable lead → length lead ≡ margin → Holds dims columns margin (opened columns lead margin)
  opened-holds lead printable wide =
      let many = printable-width lead printable in
      record {
        columns_are = refl;
        margin_is = refl;
        laid = record {
          lines = [];
          line = letters lead;
          spelled = sym (printable-encoded lead printable) ∙ ap encode_utf8_all (sym (letters-written lead));
          scalars = ap all_scalars (letters-written lead) ∙ printable-scalars lead printable;
          above = tt;
          plain = printable-plain dims lead printable;
          takes = omega arith;
          least = omega arith;
          fits = inr (omega arith);
        };
        word = no_word;
      }

  pub ended-holds : (s : SheetView) → Holds dims columns margin s → IsPage dims columns margin (sheet_text s)
  ended-holds s h =
      let l = (placed-holds s h).laid in
      record {
        lines = l.lines;
        last = l.line;
        whole = ap chars l.spelled ∙ chars-encodes (lines_broken l.lines ++ written l.line) l.scalars;
        all = l.above;
        also_last = record { plain = l.plain; narrow = subst (λ n. FitsColumns columns margin l.line n) l.takes l.fits };
      }
