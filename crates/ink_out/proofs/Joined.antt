-- What texts with a newline behind them show.
use Rattle.std.proofs.Common.{◌≡◌, ◌≢◌, ℕ, ◌+◌, List, [], ◌∷◌, ◌++◌, true, refl, sym, ap, ◌∙◌, reverse, drop, get_or, length, ◌≤◌, ◌<◌}
use Rattle.std.specs.List.{list_all}
use Rattle.std.proofs.lemmas.List.{append-nil, append_assoc, at_drop_more, drop_all, reverse-append}
use Rattle.ink_out.proofs.Common.{is_text, Mark, texts_of, mark_of}
use Rattle.ink_model.specs.Text.Shown.{shown_text, text_before, written}
use Rattle.ink_model.specs.declared.mark.Mark.TheVariants as kinds
use Rattle.ink_out.specs.declared.kept.Form.{Form}
use Rattle.ink_out.specs.declared.kept.Form.TheVariants as forms
use Rattle.ink_out.specs.declared.kept.Words.{Words}

-- one mark more in front
reversed : (m : Mark) (ms before : List Mark) → reverse (m ∷ ms) ++ before ≡ reverse ms ++ m ∷ before
reversed m ms before = ap (λ ns. ns ++ before) (reverse-append (m ∷ []) ms) ∙ append_assoc (reverse ms) (m ∷ []) before

-- texts are shown as they are, whatever stands around them
texts_shown : (texts before after : List Mark) → list_all is_text texts ≡ true → text_before (reverse texts ++ before) after ≡ text_before before (texts ++ after) ++ texts_of texts
texts_shown [] before after all = sym (append-nil (text_before before after))
texts_shown (kinds.Text t ∷ texts) before after all =
    ap (λ ms. text_before ms after) (reversed (kinds.Text t) texts before)
    ∙ texts_shown texts (kinds.Text t ∷ before) after all
    ∙ append_assoc (text_before before (kinds.Text t ∷ (texts ++ after))) t (texts_of texts)
texts_shown (m ∷ texts) before after all = absurd (cc)

-- behind texts a newline is shown
newline_behind : (texts : List Mark) (first : List ℕ) (before : List Mark) → list_all is_text texts ≡ true → written (reverse texts ++ kinds.Text first ∷ before) kinds.Newline [] ≡ 10 ∷ []
newline_behind [] first before all = refl
newline_behind (kinds.Text t ∷ texts) first before all =
    ap (λ ms. written ms kinds.Newline []) (reversed (kinds.Text t) texts (kinds.Text first ∷ before)) ∙ newline_behind texts t (kinds.Text first ∷ before) all
newline_behind (m ∷ texts) first before all = absurd (cc)

-- behind some texts, at the end
newline_shown_behind : (texts : List Mark) → texts ≢ [] → list_all is_text texts ≡ true → written (reverse texts) kinds.Newline [] ≡ 10 ∷ []
newline_shown_behind [] some all = absurd (some refl)
newline_shown_behind (kinds.Text t ∷ texts) some all = ap (λ ms. written ms kinds.Newline []) (reverse-append (kinds.Text t ∷ []) texts) ∙ newline_behind texts t [] all
newline_shown_behind (m ∷ texts) some all = absurd (cc)

-- a line of texts shows what they say, and a newline
pub texts_line : (marks texts : List Mark) → marks ≡ texts ++ kinds.Newline ∷ [] → texts ≢ [] → list_all is_text texts ≡ true → shown_text marks ≡ texts_of texts ++ 10 ∷ []
texts_line marks texts is some all =
    ap shown_text is
    ∙ ap (λ ms. text_before ms []) (reverse-append texts (kinds.Newline ∷ []))
    ∙ ap (λ x. text_before (reverse texts) (kinds.Newline ∷ []) ++ x) (newline_shown_behind texts some all)
    ∙ ap (λ x. x ++ 10 ∷ []) (ap (λ ms. text_before ms (kinds.Newline ∷ [])) (sym (append-nil (reverse texts))) ∙ texts_shown texts [] (kinds.Newline ∷ []) all)

-- ---- one mark after another

-- what is left begins with the next one
pub one_left : (texts : List Mark) (at : ℕ) (m : Mark) (written all : List ℕ) → at < length texts → m ≡ get_or texts at m → written ++ texts_of (drop at texts) ≡ all → written ++ texts_of (m ∷ drop (at + 1) texts) ≡ all
one_left texts at m written all within is rest =
    ap (λ (n : Mark). written ++ texts_of (n ∷ drop (at + 1) texts)) is ∙ sym (at_drop_more (λ ms. written ++ texts_of ms) texts at m within) ∙ rest

-- a mark that is no text says nothing
pub not_said : (f : Form) (rest : List Mark) → ((w : Words) → f ≡ forms.Text w → ⊥) → ((t : List ℕ) → f ≡ forms.Part t → ⊥) → texts_of (mark_of f ∷ rest) ≡ texts_of rest
not_said (forms.Text w) rest text part = absurd (text w refl)
not_said (forms.Part p) rest text part = absurd (part p refl)
not_said f rest text part = refl

-- when no text is left to be joined
pub all_joined : (at : ℕ) (texts : List Mark) (line all : List ℕ) → length texts ≤ at → line ++ texts_of (drop at texts) ≡ all → line ≡ all
all_joined at texts line all end joined = sym (append-nil line) ∙ ap (λ ms. line ++ texts_of ms) (sym (drop_all at texts end)) ∙ joined
