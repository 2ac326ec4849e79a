-- Pages of lines and of choices are made of lines that fit.
use Rattle.std.proofs.Common.{◌≡◌, ◌<◌, ◌^◌, ℕ, List, [], ◌∷◌, ◌++◌, Bool, IsUtf8, chars, codes, decimal, length, refl, sym, subst, arith, String, Global, string_bytes, Result, Ok, Err, IfOk}
use Rattle.std.proofs.lemmas.Bool.{cond_both}
use Rattle.std.proofs.lemmas.Fmt.{decimal_is_IsNumeral}
use Rattle.std.proofs.lemmas.Str.{scalars-chars}
use Rattle.std.proofs.lemmas.Str.Parse.{digit_from_value}
use Rattle.std.specs.Str.Parse.{AllDigits}
use Rattle.ink_page.proofs.Lines.{ArePrintable, printable-encoded}
use Rattle.ink_page.proofs.Pages.{Holds, dimmed-holds, ended-holds, laid-holds, opened-holds, undimmed-holds}
use Rattle.ink_page.specs.Lines.{AreTexts, IsPage}
use Rattle.ink_page.specs.Page.{lead_of, tag_laid, tagged, tags_laid}
use Rattle.ink_page.specs.Sheet.{SheetView, dimmed, sheet_text, laid, opened, undimmed}
use Rattle.ink_page.specs.declared.page.Look.{Look}

hash : IsUtf8 (codes " # ")
hash = (codes " # ", (refl, printable-encoded (codes " # ") (omega arith, omega arith, (omega arith, omega arith, (omega arith, omega arith, tt)))))

pub texts-push : (ts : List (List ℕ)) (t : List ℕ) → AreTexts ts → IsUtf8 t → AreTexts (ts ++ t ∷ [])
texts-push [] t all last = (last, tt)
texts-push (u ∷ ts) t all last = (all.0, texts-push ts t all.1 last)

module _ (look : Look) (margin : ℕ) where
  tag-holds : (dims : Bool) (t : List ℕ) (s : SheetView) → IsUtf8 t → Holds dims look.columns margin s → Holds dims look.columns margin (tag_laid t s)
  tag-holds dims t s text h =
      laid-holds dims look.columns margin (chars t) (laid (chars (codes " # ")) s) (scalars-chars t text)
      (laid-holds dims look.columns margin (chars (codes " # ")) s (scalars-chars (codes " # ") hash) h)

  tags-hold : (dims : Bool) (ts : List (List ℕ)) (s : SheetView) → AreTexts ts → Holds dims look.columns margin s → Holds dims look.columns margin (tags_laid ts s)
  tags-hold dims [] s texts h = h
  tags-hold dims (t ∷ ts) s texts h = tags-hold dims ts (tag_laid t s) texts.1 (tag-holds dims t s texts.0 h)

  pub tagged-holds : (ts : List (List ℕ)) (s : SheetView) → AreTexts ts → Holds look.dims look.columns margin s → Holds look.dims look.columns margin (tagged look ts s)
  tagged-holds [] s texts h = h
  tagged-holds (t ∷ ts) s texts h =
      cond_both look.dims (undimmed (tags_laid (t ∷ ts) (dimmed s))) (tags_laid (t ∷ ts) s) (λ p. Holds look.dims look.columns margin p)
      (λ on. undimmed-holds look.dims look.columns margin (tags_laid (t ∷ ts) (dimmed s)) on (tags-hold look.dims (t ∷ ts) (dimmed s) texts (dimmed-holds look.dims look.columns margin s on h)))
      (λ off. tags-hold look.dims (t ∷ ts) s texts h)

-- a text at a line's beginning
pub line-holds : (look : Look) (text : List ℕ) → IsUtf8 text → Holds look.dims look.columns 0 (laid (chars text) (opened look.columns [] 0))
line-holds look text utf8 = laid-holds look.dims look.columns 0 (chars text) (opened look.columns [] 0) (scalars-chars text utf8) (opened-holds look.dims look.columns 0 [] tt refl)

digits-printable : (ds : List ℕ) → AllDigits 10 ds → ArePrintable ds
digits-printable [] h = tt
digits-printable (c ∷ cs) h =
    let digit = digit_from_value c h.0 in (omega arith, omega arith, digits-printable cs h.1)

printable-append : (cs bs : List ℕ) → ArePrintable cs → ArePrintable bs → ArePrintable (cs ++ bs)
printable-append [] bs ha hb = hb
printable-append (c ∷ cs) bs ha hb = (ha.0, ha.1, printable-append cs bs ha.2 hb)

lead-printable : (number : ℕ) → number < 2 ^ 64 → ArePrintable (lead_of number)
lead-printable number small =
    printable-append (decimal number) (codes ". ") (digits-printable (decimal number) (decimal_is_IsNumeral number small).0.1) (omega arith, omega arith, (omega arith, omega arith, tt))

-- a text behind a choice's number
pub choice-holds : (look : Look) (number : ℕ) (text : List ℕ) → number < 2 ^ 64 → IsUtf8 text
    → Holds look.dims look.columns (length (lead_of number)) (laid (chars text) (opened look.columns (lead_of number) (length (lead_of number))))
choice-holds look number text small utf8 =
    let margin = length (lead_of number) in
    laid-holds look.dims look.columns margin (chars text) (opened look.columns (lead_of number) margin) (scalars-chars text utf8)
    (opened-holds look.dims look.columns margin (lead_of number) (lead-printable number small) refl)

-- what is told of such a paragraph at its end
pub page-lines : {E : Type 0} (look : Look) (margin : ℕ) (s : SheetView) (r : Result (String Global) E) → IfOk r (λ page. string_bytes page ≡ sheet_text s)
    → Holds look.dims look.columns margin s → IfOk r (λ page. IsPage look.dims look.columns margin (string_bytes page))
page-lines look margin s (Ok page) is h = subst (λ p. IsPage look.dims look.columns margin p) (sym is) (ended-holds look.dims look.columns margin s h)
page-lines look margin s (Err e) is h = tt
