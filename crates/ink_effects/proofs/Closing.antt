-- Strings and tags that end where none is open, or where there is no room for their text.
use Rattle.std.proofs.Common.{◌≡◌, inl, refl, subst, sym, ℕ, List, [], ◌∷◌, ◌++◌, length, nat_lt, Bool, true, false, not, ◌||◌, if◌then◌else◌, Ok, Err}
use Rattle.std.specs.List.{list_any}
use Rattle.ink_model.specs.Memory.Asks.{has_room, has_tag_room}
use Rattle.ink_model.specs.Text.Bytes.{fits_text}
use Rattle.ink_effects.proofs.Common.{Effect, Fields, Moves, or_fault, pushing, has_string, StoryTree, MAX_STACK, Value, Performs}
use Rattle.ink_model.specs.Text.Output.{closes_string, closes_string_of, closes_tag, closes_tag_of, is_string, tagged, writes_tag}
use Rattle.ink_model.specs.Text.Page.{Page, Section, SectionKind, string_section, tag_section}
use Rattle.ink_model.specs.Run.Step.Text.{closed_tag, end_string, in_string, in_tag, keeps_tag, write_tag}
use Rattle.ink_model.specs.declared.fault.Fault.TheVariants.{BadMode, TooDeep}
use Rattle.ink_model.specs.declared.mark.Mark.{Mark}
use Rattle.ink_model.specs.declared.value.Value.TheVariants as value
use Rattle.ink_model.specs.Text.Shown.{shown_text}
use Rattle.ink_model.specs.Text.Clean.{clean}

-- ---- none is open on top

no_string_of : (page : Page) (k : SectionKind) (ms : List Mark) (rest : List Section) → in_string (record { kind = k; marks = ms } ∷ rest) ≡ false
    → closes_string_of page (record { kind = k; marks = ms } ∷ rest) ≡ Err BadMode
no_string_of page string_section ms rest h = absurd (cc)
no_string_of page tag_section ms rest h = refl

no_string_in : (page : Page) (xs : List Section) → in_string xs ≡ false → closes_string_of page xs ≡ Err BadMode
no_string_in page [] h = refl
no_string_in page (x ∷ rest) h = no_string_of page x.kind x.marks rest h

pub no_string : (page : Page) → in_string page.sections ≡ false → closes_string page ≡ Err BadMode
no_string page h = no_string_in page page.sections h

no_tag_of : (page : Page) (k : SectionKind) (ms : List Mark) (rest : List Section) → in_tag (record { kind = k; marks = ms } ∷ rest) ≡ false
    → closes_tag_of page (record { kind = k; marks = ms } ∷ rest) ≡ Err BadMode
no_tag_of page string_section ms rest h = refl
no_tag_of page tag_section ms rest h = absurd (cc)

no_tag_in : (page : Page) (xs : List Section) → in_tag xs ≡ false → closes_tag_of page xs ≡ Err BadMode
no_tag_in page [] h = refl
no_tag_in page (x ∷ rest) h = no_tag_of page x.kind x.marks rest h

pub no_tag : (page : Page) → in_tag page.sections ≡ false → closes_tag page ≡ Err BadMode
no_tag page h = no_tag_in page page.sections h

-- ---- no room is left

module _ (s : StoryTree) (asks : Bool) (f new : Fields) (full : has_room f.stack ≡ false) where
  full_text : (t : List ℕ) (p : Page) (fits : Bool)
      → Performs s asks (or_fault {A = List ℕ × Page} (if fits then Ok (t, p) else Err TooDeep) (λ r. pushing (value.Text r.0) (record f { page = r.1; evaluating = true }))) new (Err TooDeep)
  full_text t p true = subst (λ b. Performs s asks (or_fault (if b then Ok (f.stack ++ value.Text t ∷ []) else Err TooDeep) (λ vs. Moves (record f { page = p; evaluating = true; stack = vs }))) new (Err TooDeep))
      (sym full) (inl refl)
  full_text t p false = inl refl

  full_of : (k : SectionKind) (ms : List Mark) (rest : List Section) → in_string (record { kind = k; marks = ms } ∷ rest) ≡ true
      → Performs s asks (or_fault (closes_string_of f.page (record { kind = k; marks = ms } ∷ rest)) (λ r. pushing (value.Text r.0) (record f { page = r.1; evaluating = true }))) new (Err TooDeep)
  full_of string_section ms rest h = full_text (shown_text ms) (record f.page { sections = rest }) (fits_text (shown_text ms))
  full_of tag_section ms rest h = absurd (cc)

  full_in : (xs : List Section) → in_string xs ≡ true
      → Performs s asks (or_fault (closes_string_of f.page xs) (λ r. pushing (value.Text r.0) (record f { page = r.1; evaluating = true }))) new (Err TooDeep)
  full_in [] h = absurd (cc)
  full_in (x ∷ rest) h = full_of x.kind x.marks rest h

  pub full_string : in_string f.page.sections ≡ true → Performs s asks (end_string f) new (Err TooDeep)
  full_string h = full_in f.page.sections h

neither : (a b : Bool) → (not a || b) ≡ false → (a ≡ true) × (b ≡ false)
neither true true h = absurd (cc)
neither true false h = (refl, refl)
neither false b h = absurd (cc)

module _ (vs : List Value) (full : nat_lt (length vs) MAX_STACK ≡ false) where
  full_tag_text : (t : List ℕ) (p : Page) → list_any is_string p.sections ≡ true → (fits : Bool) → keeps_tag vs (if fits then tagged t p else Err TooDeep) ≡ Err TooDeep
  full_tag_text t p string true = rw (string, full) refl
  full_tag_text t p string false = refl

  full_tag_of : (page : Page) (k : SectionKind) (ms : List Mark) (rest : List Section) → in_tag (record { kind = k; marks = ms } ∷ rest) ≡ true
      → has_string (record { kind = k; marks = ms } ∷ rest) ≡ true → keeps_tag vs (closes_tag_of page (record { kind = k; marks = ms } ∷ rest)) ≡ Err TooDeep
  full_tag_of page string_section ms rest tag string = absurd (cc)
  full_tag_of page tag_section ms rest tag string =
      full_tag_text (clean (shown_text ms)) (record page { sections = rest }) string (fits_text (clean (shown_text ms)))

  full_tag_in : (page : Page) (xs : List Section) → in_tag xs ≡ true → has_string xs ≡ true → keeps_tag vs (closes_tag_of page xs) ≡ Err TooDeep
  full_tag_in page [] tag string = absurd (cc)
  full_tag_in page (x ∷ rest) tag string = full_tag_of page x.kind x.marks rest tag string

pub full_tag : (page : Page) (vs : List Value) → in_tag page.sections ≡ true → has_tag_room page.sections vs ≡ false → closed_tag vs page ≡ Err TooDeep
full_tag page vs tag none = let n = neither (has_string page.sections) (has_room vs) none in full_tag_in vs n.1 page page.sections tag n.0

-- a tag that is given whole finds none either
pub full_whole_tag : (s : StoryTree) (asks : Bool) (t : List ℕ) (f new : Fields) → has_tag_room f.page.sections f.stack ≡ false → Performs s asks (write_tag t f) new (Err TooDeep)
full_whole_tag s asks t f new none = by (in_tag f.page.sections) refl
  where
    n : (has_string f.page.sections ≡ true) × (has_room f.stack ≡ false)
    n = neither (has_string f.page.sections) (has_room f.stack) none

    so : List Value × Page → Effect
    so r = or_fault (keeps_tag r.0 (writes_tag t r.1)) (λ q. Moves (record f { stack = q.0; page = q.1 }))

    by : (b : Bool) → in_tag f.page.sections ≡ b → Performs s asks (or_fault (if b then closed_tag f.stack f.page else Ok (f.stack, f.page)) so) new (Err TooDeep)
    by true tag = rw (full_tag f.page f.stack tag none) (inl refl)
    by false tag = rw (full_tag_text f.stack n.1 (clean t) f.page n.0 (fits_text (clean t))) (inl refl)
