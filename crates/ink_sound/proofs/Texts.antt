-- What is written leaves no more sections open than may be; and the effects of values, evaluation mode, text, strings and tags.
use Rattle.std.proofs.Common.{◌≡◌, refl, arith, ℕ, suc, ◌^◌, List, [], ◌∷◌, length, Bool, true, false, nat_lt, Option, Result, Ok, Err, if◌then◌else◌, Some, None, IsTrue, inl, inr, ◌≤◌}
use Rattle.ink_sound.proofs.Common.{cond_both, cases_Bool, nat_tests, StoryTree, Fault, FrameKind, Function, fits_text, Value, pushed, popped}
use Rattle.ink_model.specs.Flow.Transfers.{Written, enter_for, leave_for, on_page, on_stack, void_for}
use Rattle.ink_model.specs.Text.Output.{begins_function, ends_function, is_crowded, noted, noted_in, opens, with_next, writes_marks, closes_string, closes_string_of, closes_tag, closes_tag_of, is_string, is_text, let_through, prints_text, tagged, writes_glue, writes_newline, writes_printed, writes_tag, writes_text, writes_value}
use Rattle.ink_model.specs.Text.Page.{Page, Section, SectionKind, string_section, tag_section}
use Rattle.ink_model.specs.declared.fault.Fault.TheVariants.{TooDeep}
use Rattle.ink_model.specs.declared.limits.TheConstants.{MAX_SECTIONS}
use Rattle.ink_model.specs.declared.mark.Mark.{Mark}
use Rattle.ink_model.specs.declared.mark.Mark.TheVariants.{Enter, Leave}
use Rattle.ink_model.specs.declared.value.Value.TheVariants.{Void}
use Rattle.ink_sound.specs.Kept.{Gives, WrittenFits, EffectFits, FieldsFit, Finds}
use Rattle.ink_model.specs.Save.Sound.{PageFits, StackFits}
use Rattle.ink_sound.proofs.Values.{pushed_fits, TakenFits, or_fault_fits, popped_fits, popping_fits, pushing_fits}
use Rattle.std.specs.List.{list_any}
use Rattle.ink_model.specs.Text.Clean.{clean}
use Rattle.ink_model.specs.Run.Effect.{Fields, Moves, is_fresh, pushing, writing, writing_text}
use Rattle.ink_model.specs.Text.Mark.{cut}
use Rattle.ink_model.specs.Text.Shown.{shown_text}
use Rattle.ink_model.specs.Run.Step.Evaluation.{begin_eval, duplicate, end_eval, output_popped, output_value, pop}
use Rattle.ink_model.specs.Run.Step.Text.{begin_string, begin_tag, beside, closed_tag, end_string, end_tag, in_tag, keeps_tag, write_glue, write_newline, write_tag, write_text}
use Rattle.ink_model.specs.Values.Value.{printed}
use Rattle.ink_model.specs.declared.mark.Mark.TheVariants as mark
use Rattle.ink_model.specs.declared.value.Value.TheVariants as value

as_many : (ms line : List Mark) (xs : List Section) (n : ℕ) → length (noted_in ms line xs n).sections ≡ length xs
as_many ms line [] n = refl
as_many ms line (x ∷ xs) n = refl

pub noted_fits : (ms : List Mark) (page : Page) → PageFits page → PageFits (noted ms page)
noted_fits ms page h = record { few = omega (arith, as_many ms page.line page.sections page.next_enter, h.few) }

pub marks_fit : (ms : List Mark) (page : Page) → PageFits page → Gives PageFits (writes_marks ms page)
marks_fit ms page h = cond_both (is_crowded ms page) _ _ (Gives PageFits) (λ _. tt) (λ _. noted_fits ms page h)

pub begins_fit : (page : Page) → PageFits page → Gives PageFits (begins_function page)
begins_fit page h = cond_both (nat_lt (suc page.next_enter) (2 ^ 64)) _ _ (Gives PageFits) (λ _. marks_fit (Enter page.next_enter ∷ []) (with_next page) (record { few = h.few })) (λ _. tt)

pub opens_fit : (kind : SectionKind) (page : Page) → PageFits page → Gives PageFits (opens kind page)
opens_fit kind page h = cond_both (nat_lt (length page.sections) MAX_SECTIONS) _ _ (Gives PageFits) (λ e. record { few = grind (arith, nat_tests, e) }) (λ _. tt)

-- ---- stack and page

module _ (s : StoryTree) (w : Written) (h : WrittenFits s w) where
  page_fits : (r : Result Page Fault) → Gives PageFits r → Gives (WrittenFits s) (on_page r w)
  page_fits (Ok page) k = record { stack = h.stack; page = k }
  page_fits (Err f) k = tt

  pub enter_fits : (k : FrameKind) → Gives (WrittenFits s) (enter_for k w)
  enter_fits Function = page_fits (begins_function w.page) (begins_fit w.page h.page)
  enter_fits k = h

  pub leave_fits : (k : FrameKind) (number : Option ℕ) → Gives (WrittenFits s) (leave_for k number w)
  leave_fits Function number = page_fits (ends_function number w.page) (marks_fit (Leave number ∷ []) w.page h.page)
  leave_fits k number = h

  pub void_fits : (evaluating : Bool) → Gives (WrittenFits s) (void_for evaluating w)
  void_fits false = h
  void_fits true = (elim (pushed Void w.stack) as (λ r. Gives (StackFits s) r → Gives (WrittenFits s) (on_stack r w))
      [ Ok vs ↦ λ k. record { stack = k; page = h.page } | Err f ↦ λ k. tt ]) (pushed_fits s Void w.stack tt h.stack)

-- ---- values, evaluation mode, text, strings and tags

-- a text within its limit, and a page
abbrev TextFits : List ℕ × Page → Type 0
TextFits r = IsTrue (fits_text r.0) × PageFits r.1

string_fits : (page : Page) (xs : List Section) → length xs ≤ MAX_SECTIONS → Gives TextFits (closes_string_of page xs)
string_fits page [] h = tt
string_fits page (x ∷ rest) h = elim x.kind as (λ k. Gives TextFits (closes_string_of page (record x { kind = k } ∷ rest)))
    [ string_section ↦ cond_both (fits_text (shown_text x.marks)) _ _ (Gives TextFits) (λ e. (e, record { few = omega (arith, h) })) (λ _. tt) | tag_section ↦ tt ]

-- a text within its limit, where there is one, and a page
abbrev TagFits : Option (List ℕ) × Page → Type 0
TagFits r = Finds (λ t. IsTrue (fits_text t)) r.0 × PageFits r.1

tagged_fits : (t : List ℕ) (page : Page) → fits_text t ≡ true → PageFits page → Gives TagFits (tagged t page)
tagged_fits t page e h = elim (cases_Bool (list_any is_string page.sections)) [
  | inl d ↦ rw d (e, h)
  | inr d ↦ elim (cases_Bool (is_crowded (mark.Tag t ∷ []) page)) [
    | inl c ↦ rw d (rw c tt)
    | inr c ↦ rw d (rw c (tt, noted_fits (mark.Tag t ∷ []) page h))
  ]
]

cleaned_fits : (t : List ℕ) (page : Page) → PageFits page → Gives TagFits (if fits_text t then tagged t page else Err TooDeep)
cleaned_fits t page h = cond_both (fits_text t) _ _ (Gives TagFits) (λ e. tagged_fits t page e h) (λ _. tt)

tag_fits : (page : Page) (xs : List Section) → length xs ≤ MAX_SECTIONS → Gives TagFits (closes_tag_of page xs)
tag_fits page [] h = tt
tag_fits page (x ∷ rest) h = elim x.kind as (λ k. Gives TagFits (closes_tag_of page (record x { kind = k } ∷ rest)))
    [ string_section ↦ tt | tag_section ↦ cleaned_fits (clean (shown_text x.marks)) (record page { sections = rest }) (record { few = omega (arith, h) }) ]

module _ (s : StoryTree) where
  abbrev BothFit : List Value × Page → Type 0
  BothFit r = StackFits s r.0 × PageFits r.1

  beside_fits : (p : Page) (r : Result (List Value) Fault) → PageFits p → Gives (StackFits s) r → Gives BothFit (beside p r)
  beside_fits p (Ok ws) x y = (y, x)
  beside_fits p (Err f) x y = tt

  keeps_fits : (vs : List Value) (r : Result (Option (List ℕ) × Page) Fault) → StackFits s vs → Gives TagFits r → Gives BothFit (keeps_tag vs r)
  keeps_fits vs (Ok (None, p)) h x = (h, x.1)
  keeps_fits vs (Ok (Some t, p)) h x = beside_fits p (pushed (value.Tag t) vs) x.1 (pushed_fits s (value.Tag t) vs x.0 h)
  keeps_fits vs (Err f) h x = tt

  closed_fits : (vs : List Value) (page : Page) → StackFits s vs → PageFits page → Gives BothFit (closed_tag vs page)
  closed_fits vs page h k = keeps_fits vs (closes_tag page) h (tag_fits page page.sections k.few)

  -- where a tag is on top it is closed
  no_tag_fits : (f : Fields) → FieldsFit s f → Gives BothFit (if in_tag f.page.sections then closed_tag f.stack f.page else Ok (f.stack, f.page))
  no_tag_fits f fits = cond_both (in_tag f.page.sections) _ _ (Gives BothFit) (λ _. closed_fits f.stack f.page fits.stack fits.page) (λ _. (fits.stack, fits.page))

  module _ (f : Fields) (fits : FieldsFit s f) where
    writing_fits : (r : Result Page Fault) → Gives PageFits r → EffectFits s (writing r f)
    writing_fits r h = or_fault_fits s PageFits r _ h (λ page k. record { stack = fits.stack; globals = fits.globals; page = k })

    writing_text_fits : (b : Bool) (r : Result Page Fault) → Gives PageFits r → EffectFits s (writing_text b r f)
    writing_text_fits b r h = or_fault_fits s PageFits r _ h (λ page k. record { stack = fits.stack; globals = fits.globals; page = k })

    -- ---- text

    pub write_text_fits : (t : List ℕ) → fits_text t ≡ true → EffectFits s (write_text t f)
    write_text_fits t e = cond_both f.evaluating _ _ (EffectFits s) (λ _. pushing_fits s (value.Text t) f e fits)
        (λ _. writing_text_fits (list_any is_text (cut t)) (writes_text (is_fresh f) t f.page) (marks_fit (let_through (is_fresh f) (cut t)) f.page fits.page))

    pub write_newline_fits : EffectFits s (write_newline f)
    write_newline_fits = cond_both f.evaluating _ _ (EffectFits s)
        (λ _. pushing_fits s (value.Text (10 ∷ [])) f refl fits) (λ _. writing_fits (writes_newline (is_fresh f) f.page) (marks_fit (let_through (is_fresh f) (mark.Newline ∷ [])) f.page fits.page))

    pub write_glue_fits : EffectFits s (write_glue f)
    write_glue_fits = cond_both f.evaluating _ _ (EffectFits s) (λ _. tt) (λ _. writing_fits (writes_glue f.page) (marks_fit (mark.Glue ∷ []) f.page fits.page))

    -- ---- evaluation

    pub begin_eval_fits : EffectFits s (begin_eval f)
    begin_eval_fits = cond_both f.evaluating _ _ (EffectFits s) (λ _. tt) (λ _. record { stack = fits.stack; globals = fits.globals; page = fits.page })

    pub end_eval_fits : EffectFits s (end_eval f)
    end_eval_fits = cond_both f.evaluating _ _ (EffectFits s) (λ _. record { stack = fits.stack; globals = fits.globals; page = fits.page }) (λ _. tt)

    pub pop_fits : EffectFits s (pop f)
    pop_fits = popping_fits s f (λ v left. Moves left) fits (λ v left p h. h)

    pub duplicate_fits : EffectFits s (duplicate f)
    duplicate_fits = popping_fits s f (λ v left. pushing v f) fits (λ v left p h. pushing_fits s v f p fits)

  printed_fits : (fresh : Bool) (page : Page) (r : Result (List ℕ) Fault) → PageFits page → Gives PageFits (writes_printed fresh r page)
  printed_fits fresh page (Ok t) h = marks_fit (let_through fresh (cut t)) page h
  printed_fits fresh page (Err f) h = tt

  pub output_fits : (f : Fields) → FieldsFit s f → EffectFits s (output_value f)
  output_fits f fits = (elim (popped f.stack) as (λ o. Finds (TakenFits s f.stack) o → EffectFits s (output_popped o f)) [
    | None ↦ λ h. fits
    | Some r ↦ λ h. writing_text_fits (record f { stack = r.1 })
        (record { stack = record { each = h.left; few = omega (arith, h.less, fits.stack.few) }; globals = fits.globals; page = fits.page })
        (prints_text (printed r.0)) (writes_value (is_fresh f) r.0 f.page) (printed_fits (is_fresh f) f.page (printed r.0) fits.page)
  ]) (popped_fits s f.stack fits.stack.each)

  -- ---- strings and tags

  pub begin_string_fits : (f : Fields) → FieldsFit s f → EffectFits s (begin_string f)
  begin_string_fits f fits = cond_both f.evaluating _ _ (EffectFits s)
      (λ _. writing_fits (record f { evaluating = false }) (record { stack = fits.stack; globals = fits.globals; page = fits.page }) (opens string_section f.page) (opens_fit string_section f.page fits.page)) (λ _. tt)

  pub end_string_fits : (f : Fields) → FieldsFit s f → EffectFits s (end_string f)
  end_string_fits f fits = or_fault_fits s TextFits (closes_string f.page) _ (string_fits f.page f.page.sections fits.page.few)
      (λ r h. pushing_fits s (value.Text r.0) (record f { page = r.1; evaluating = true }) h.0 (record { stack = fits.stack; globals = fits.globals; page = h.1 }))

  pub end_tag_fits : (f : Fields) → FieldsFit s f → EffectFits s (end_tag f)
  end_tag_fits f fits = or_fault_fits s BothFit (closed_tag f.stack f.page) _ (closed_fits f.stack f.page fits.stack fits.page)
      (λ r h. record { stack = h.0; globals = fits.globals; page = h.1 })

  pub begin_tag_fits : (f : Fields) → FieldsFit s f → EffectFits s (begin_tag f)
  begin_tag_fits f fits = or_fault_fits s BothFit (if in_tag f.page.sections then closed_tag f.stack f.page else Ok (f.stack, f.page)) _ (no_tag_fits f fits)
      (λ r h. writing_fits (record f { stack = r.0 }) (record { stack = h.0; globals = fits.globals; page = fits.page }) (opens tag_section r.1) (opens_fit tag_section r.1 h.1))

  pub write_tag_fits : (f : Fields) → FieldsFit s f → (t : List ℕ) → EffectFits s (write_tag t f)
  write_tag_fits f fits t = or_fault_fits s BothFit (if in_tag f.page.sections then closed_tag f.stack f.page else Ok (f.stack, f.page)) _ (no_tag_fits f fits)
      (λ r h. or_fault_fits s BothFit (keeps_tag r.0 (writes_tag t r.1)) _ (keeps_fits r.0 (writes_tag t r.1) h.0 (cleaned_fits (clean t) r.1 h.1))
      (λ q k. record { stack = k.0; globals = fits.globals; page = k.1 }))
