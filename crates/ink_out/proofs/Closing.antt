-- What is open on top is closed.
use Rattle.std.proofs.Common.{◌≡◌, ℕ, suc, IfErr, ◌+◌, ◌-◌, ◌^◌, ◌<◌, nat_lt, List, [], ◌∷◌, ◌++◌, length, take, drop, reverse, get_or, slice_get, if◌then◌else◌, ◌||◌, Bool, true, false, Option, Some, None, Result, Ok, Err, inl, inr, refl, sym, ap, ◌∙◌, subst, arith}
use Rattle.ink_out.proofs.Common.{list_any, clean, shown_text, Fault, Mark, Enter, Tag, page_of, closed}
use Rattle.std.specs.Result.{IsErrAnd}
use Rattle.std.proofs.lemmas.Bool.{lt-ltb}
use Rattle.std.proofs.lemmas.List.{append-nil, length-reverse, length-take-le, reverse-append, drop_all, take_all}
use Rattle.std.proofs.lemmas.List.Folds.{list_any-append}
use Rattle.std.proofs.lemmas.Option.{get_or_from_slice_get, slice_get-get_or, slice_get_within}
use Rattle.ink_model.specs.Memory.Asks.{asks_for}
use Rattle.ink_model.specs.Text.Bytes.{fits_text}
use Rattle.ink_model.specs.Run.Configuration.{Page, Section, SectionKind, string_section, tag_section}
use Rattle.ink_model.specs.Memory.Refusals.{Gives, Hands, Leaves}
use Rattle.ink_model.specs.Text.Output.{begins_function, closes_string, closes_string_of, closes_tag, closes_tag_of, is_crowded, is_string, kept_text, opens, tagged, writes_marks, writes_tag}
use Rattle.ink_model.specs.declared.fault.Fault.TheVariants.{BadMode, OutOfMemory, TooDeep}
use Rattle.ink_model.specs.declared.limits.TheConstants.{MAX_SECTIONS}
use Rattle.ink_out.proofs.Noting.{last_is}

any_section : Section
any_section = record { kind = string_section; marks = [] }

below_last : (sections : List Section) → 0 < length sections → drop 1 (reverse sections) ≡ reverse (take (length sections - 1) sections)
below_last sections some =
    let below = take (length sections - 1) sections in
    let last = get_or sections (length sections - 1) any_section ∷ [] in
    ap (λ (s : List Section). drop 1 (reverse s)) (last_is sections any_section some) ∙ rw (reverse-append below last) refl

page_with : List Mark → ℕ → List Section → Page
page_with line n sections = record { line = line; sections = sections; next_enter = n }

pub closed_page : (line : List Mark) (sections : List Section) (n : ℕ) → 0 < length sections → closed (page_of line sections n) ≡ page_of line (take (length sections - 1) sections) n
unfolding page_with
closed_page line sections n some = ap (page_with line n) (below_last sections some)

pub closed_is : (line : List Mark) (xs below : List Section) (n : ℕ) (x : Section) → xs ≡ below ++ x ∷ [] → closed (page_of line xs n) ≡ page_of line below n
closed_is line xs below n x is =
    let turned : reverse xs ≡ x ∷ reverse below = ap reverse is ∙ reverse-append below (x ∷ []) in
    rw turned refl

pub closed_popped : (line : List Mark) (xs popped : List Section) (len n : ℕ) → len ≡ length xs → 0 < length xs → popped ≡ take (len - 1) xs → closed (page_of line xs n) ≡ page_of line popped n
unfolding page_with
closed_popped line xs popped len n fits some gone = closed_page line xs n some ∙ ap (page_with line n) (ap (λ (s : List Section). reverse s) (ap (λ (k : ℕ). take (k - 1) xs) (sym fits) ∙ sym gone))

-- something is open
pub some_open : (sections there : List Section) → reverse sections ≡ there → 0 < length there → 0 < length sections
some_open sections there turned some = omega (arith, some, length-reverse sections, ap (λ (s : List Section). length s) turned)

-- what was lent comes back whole
pub refilled : (xs slice ys : List Section) (n : ℕ) → n ≡ length xs → slice ≡ xs → length ys ≡ length slice → take n (ys ++ drop (length ys) xs) ≡ ys
refilled xs slice ys n fits lent same =
    let kept : length ys ≡ length xs = same ∙ ap (λ (s : List Section). length s) lent in
    rw (drop_all (length ys) xs (omega arith), append-nil ys) (take_all n ys (omega arith))

-- and nothing was changed in it
pub stays_as : (line new_line : List Mark) (xs slice ys : List Section) (len n : ℕ) → len ≡ length xs → slice ≡ xs → length ys ≡ length slice → (new_line ≡ line) × (ys ≡ slice)
    → page_of new_line (take len (ys ++ drop (length ys) xs)) n ≡ page_of line xs n
stays_as line new_line xs slice ys len n fits lent same stays =
    let items : take len (ys ++ drop (length ys) xs) ≡ xs = refilled xs slice ys len fits lent same ∙ stays.1 ∙ lent in
    ap (λ (l : List Mark). page_of l (take len (ys ++ drop (length ys) xs)) n) stays.0 ∙ ap (λ (s : List Section). page_of line s n) items

abbrev written : Page → Result Page Fault
written page = Ok page

-- the mark stands in what is open below, and what was open on top is gone
pub closed_ok : (ms line new_line : List Mark) (xs slice ys popped : List Section) (len n : ℕ) → slice ≡ xs → len ≡ length xs → 0 < length xs → length ys ≡ length slice → popped ≡ take (len - 1) (take len (ys ++ drop (length ys) xs)) → Leaves {A = Unit {0}} (writes_marks ms (page_of line (take (length slice - 1) slice) n)) (page_of line (take (length slice - 1) slice) n) (page_of new_line (take (length slice - 1) ys) n) (Ok tt) → writes_marks ms (closed (page_of line xs n)) ≡ Ok (page_of new_line popped n)
closed_ok ms line new_line xs slice ys popped len n same fits some kept gone is =
    let lent : length slice ≡ length xs = ap (λ (s : List Section). length s) same in
    let whole = refilled xs slice ys len fits same kept in
    let left_over : take (length slice - 1) ys ≡ popped = ap (λ (k : ℕ). take (k - 1) ys) (lent ∙ sym fits) ∙ sym (gone ∙ ap (λ (s : List Section). take (len - 1) s) whole) in
    ap (writes_marks ms) (closed_page line xs n some)
    ∙ (ap (λ (s : List Section). writes_marks ms (page_of line (take (length s - 1) s) n)) (sym same)
    ∙ (is.0
    ∙ ap (λ (s : List Section). written (page_of new_line s n)) left_over))

-- what was taken away was put back, since the mark found no room below it
pub put_back : (line new_line : List Mark) (xs below slice ys back : List Section) (len n : ℕ) (x : Section) → len ≡ length below → slice ≡ below → length ys ≡ length slice → (new_line ≡ line) × (ys ≡ slice) → xs ≡ below ++ x ∷ []
    → back ≡ take len (ys ++ drop (length ys) below) ++ x ∷ [] → page_of new_line back n ≡ page_of line xs n
put_back line new_line xs below slice ys back len n x fits lent same stays is pushed =
    let whole = refilled below slice ys len fits lent same in
    let items : back ≡ xs = pushed ∙ ap (λ (s : List Section). s ++ x ∷ []) (whole ∙ stays.1 ∙ lent) ∙ sym is in
    ap (λ (l : List Mark). page_of l back n) stays.0 ∙ ap (λ (s : List Section). page_of line s n) items

-- memory may be refused for a mark
pub asks_mark : (ms : List Mark) (page : Page) → asks_for (writes_marks ms page) ≡ true
asks_mark ms page = by (is_crowded ms page) refl
  where
    by : (crowded : Bool) → is_crowded ms page ≡ crowded → asks_for (writes_marks ms page) ≡ true
    by true full = rw full refl
    by false full = rw full refl

pub unchanged : {A : Type 0} (r : Result Page Fault) (page next : Page) (g : Fault) (answer : Result A Fault) → next ≡ page → IsErrAnd answer (λ f. f ≡ g) → Gives {A = Page} (Err g) r → Leaves r page next answer
unchanged r page next g (Err f) same told is = (subst (λ (e : Fault). Gives {A = Page} (Err e) r) (sym told) is, same)
unchanged r page next g (Ok b) same told is = absurd told

-- where the mark found no room all is as it was
pub closed_err : (ms line new_line : List Mark) (xs slice ys : List Section) (len n : ℕ) (g : Fault) (answer : Result (Unit {0}) Fault) → slice ≡ xs → len ≡ length xs → 0 < length xs → length ys ≡ length slice → (new_line ≡ line) × (ys ≡ slice) → IsErrAnd answer (λ f. f ≡ g) → Leaves {A = Unit {0}} (writes_marks ms (page_of line (take (length slice - 1) slice) n)) (page_of line (take (length slice - 1) slice) n) (page_of new_line (take (length slice - 1) ys) n) (Err g) → Leaves {A = Unit {0}} (writes_marks ms (closed (page_of line xs n))) (page_of line xs n) (page_of new_line (take len (ys ++ drop (length ys) xs)) n) answer
closed_err ms line new_line xs slice ys len n g answer same fits some kept stays told is =
    let as_before = stays_as line new_line xs slice ys len n fits same kept stays in
    let is_below : page_of line (take (length slice - 1) slice) n ≡ closed (page_of line xs n) = ap (λ (s : List Section). page_of line (take (length s - 1) s) n) same ∙ sym (closed_page line xs n some) in
    subst (λ (p : Page). Leaves {A = Unit {0}} (writes_marks ms p) (page_of line xs n) (page_of new_line (take len (ys ++ drop (length ys) xs)) n) answer) is_below (unchanged (writes_marks ms (page_of line (take (length slice - 1) slice) n)) (page_of line xs n) (page_of new_line (take len (ys ++ drop (length ys) xs)) n) g answer as_before told is.0)

-- ---- a closed tag

turned_or : (a b : Bool) → (a || (b || false)) ≡ (b || a)
turned_or true true = refl
turned_or true false = refl
turned_or false true = refl
turned_or false false = refl

-- a string is open, whichever section is looked at first
pub any_turned : (sections : List Section) → list_any is_string (reverse sections) ≡ list_any is_string sections
any_turned [] = refl
any_turned (x ∷ xs) =
    ap (list_any is_string) (reverse-append (x ∷ []) xs)
    ∙ list_any-append is_string (reverse xs) (x ∷ [])
    ∙ turned_or (list_any is_string (reverse xs)) (is_string x)
    ∙ ap (λ (b : Bool). is_string x || b) (any_turned xs)

-- what is open below what is open on top
pub any_below : (sections slice there : List Section) (n : ℕ) (b : Bool) → reverse sections ≡ there → slice ≡ sections → 0 < length there → n ≡ length there → b ≡ list_any is_string (reverse (take (n - 1) slice)) → list_any is_string (drop 1 there) ≡ b
any_below sections slice there n b turned lent some is told =
    let len : length sections ≡ length there = sym (length-reverse sections) ∙ ap (λ (s : List Section). length s) turned in
    ap (λ (s : List Section). list_any is_string (drop 1 s)) (sym turned)
    ∙ ap (list_any is_string) (below_last sections (omega (arith, len, some)))
    ∙ ap (λ (k : ℕ). list_any is_string (reverse (take (k - 1) sections))) (len ∙ sym is)
    ∙ ap (λ (s : List Section). list_any is_string (reverse (take (n - 1) s))) (sym lent)
    ∙ sym told

handing_out : List ℕ → Result Page Fault → Result (Option (List ℕ) × Page) Fault
handing_out t (Ok page) = Ok (Some t, page)
handing_out t (Err f) = Err f

-- so many are open below it
pub below_len : (sections slice there : List Section) (n : ℕ) → reverse sections ≡ there → slice ≡ sections → n ≡ length there → n - 1 ≡ length (take (n - 1) slice)
below_len sections slice there n turned lent is =
    let len : length sections ≡ length there = sym (length-reverse sections) ∙ ap (λ (s : List Section). length s) turned in
    sym (length-take-le (n - 1) slice (omega (arith, is, len, ap (λ (s : List Section). length s) lent)))

-- it is handed out where a string is open below it
pub handed_out : (t : List ℕ) (page next : Page) → list_any is_string (drop 1 page.sections) ≡ true → written (closed page) ≡ written next → tagged t (closed page) ≡ Ok (Some t, next)
unfolding handing_out
handed_out t page next is same = rw is (ap (handing_out t) same)

-- else it is a mark
pub marked : (t : List ℕ) (page next : Page) → list_any is_string (drop 1 page.sections) ≡ false → writes_marks (Tag t ∷ []) (closed page) ≡ Ok next → tagged t (closed page) ≡ Ok (None, next)
marked t page next is written = rw (is, written) refl

-- ---- what is open on top

pub on_top : (sections slice there : List Section) (x : Section) → reverse sections ≡ there → slice ≡ sections → slice_get slice (length slice - 1) ≡ Some x → there ≡ x ∷ drop 1 there
on_top sections slice there x turned lent is =
    let below = take (length slice - 1) slice in
    let within = slice_get_within slice (length slice - 1) x is in
    let last : slice ≡ below ++ x ∷ [] = last_is slice x (omega (arith, within)) ∙ ap (λ (y : Section). below ++ y ∷ []) (get_or_from_slice_get slice (length slice - 1) x x is) in
    let shown : there ≡ x ∷ reverse below = sym turned ∙ ap (λ (s : List Section). reverse s) (sym lent ∙ last) ∙ reverse-append below (x ∷ []) in
    shown ∙ ap (λ (s : List Section). x ∷ drop 1 s) (sym shown)

pub nothing_open : (sections slice there : List Section) → reverse sections ≡ there → slice ≡ sections → slice_get slice (length slice - 1) ≡ None → there ≡ []
nothing_open sections [] there turned lent is = sym turned ∙ ap (λ (s : List Section). reverse s) (sym lent)
nothing_open sections (y ∷ ys) there turned lent is = absurd (grind (slice_get-get_or (y ∷ ys) (length (y ∷ ys) - 1) y (omega arith), is, arith))

-- nothing is closed where none is open
pub none_closed : (page : Page) → page.sections ≡ [] → (closes_string page ≡ Err BadMode) × (closes_tag page ≡ Err BadMode)
none_closed page is = (ap (closes_string_of page) is, ap (closes_tag_of page) is)

pub no_tag : (page : Page) (x : Section) → page.sections ≡ x ∷ drop 1 page.sections → true ≡ is_string x → closes_tag page ≡ Err BadMode
no_tag page x top is =
    let by : true ≡ is_string x → closes_tag_of page (x ∷ drop 1 page.sections) ≡ Err BadMode =
    elim x.kind as (λ kind. true ≡ is_string (record { kind = kind; marks = x.marks }) → closes_tag_of page (record { kind = kind; marks = x.marks } ∷ drop 1 page.sections) ≡ Err BadMode) [ string_section ↦ λ is. refl | tag_section ↦ λ is. absurd (cc) ] in
    ap (closes_tag_of page) top ∙ by is

-- what is made of a text that fits
abbrev if_fits : {A : Type 0} → Bool → Result A Fault → Result A Fault
if_fits fits r = if fits then r else Err TooDeep

kept_fits : {A : Type 0} (fits : Bool) (t text : List ℕ) (r : List ℕ → Result A Fault) → if_fits {A = List ℕ} fits (Ok t) ≡ Ok text → if_fits {A = A} fits (r t) ≡ r text
kept_fits true t text r kept = ap r cc
kept_fits false t text r kept = absurd (cc)

refused_fits : {A : Type 0} (fits : Bool) (t : List ℕ) (r : Result A Fault) (f : Fault) → asks_for {A = A} r ≡ true → Gives {A = List ℕ} (Err f) (if_fits {A = List ℕ} fits (Ok t)) → Gives {A = A} (Err f) (if_fits {A = A} fits r)
refused_fits true t r f asks (inl p) = inl (p.0, asks)
refused_fits true t r f asks (inr e) = absurd (cc)
refused_fits false t r f asks (inl p) = inl p
refused_fits false t r f asks (inr e) = inr cc

asks_fits : {A : Type 0} (fits : Bool) (r : Result A Fault) → asks_for {A = A} r ≡ true → asks_for {A = A} (if_fits {A = A} fits r) ≡ true
asks_fits true r asks = asks
asks_fits false r asks = refl

-- a tag is closed by its text
closing : List ℕ → Page → Bool → Result (Option (List ℕ) × Page) Fault
closing t page fits = if_fits fits (tagged t page)

by_text : (page : Page) (x : Section) (t : List ℕ) → page.sections ≡ x ∷ drop 1 page.sections → false ≡ is_string x → t ≡ clean (shown_text x.marks) → closes_tag page ≡ closing t (closed page) (fits_text t)
unfolding closing
by_text page x t top is text = ap (closes_tag_of page) top ∙ by x.kind x.marks is text
  where
    by : (kind : SectionKind) (marks : List Mark) → false ≡ is_string (record { kind = kind; marks = marks }) → t ≡ clean (shown_text marks) → closes_tag_of page (record { kind = kind; marks = marks } ∷ drop 1 page.sections) ≡ closing t (closed page) (fits_text t)
    by string_section marks is text = absurd (cc)
    by tag_section marks is text = rw text refl

pub tag_closed : (page : Page) (x : Section) (t text : List ℕ) → page.sections ≡ x ∷ drop 1 page.sections → false ≡ is_string x → t ≡ clean (shown_text x.marks) → kept_text t t ≡ Ok text → closes_tag page ≡ tagged text (closed page)
unfolding closing
tag_closed page x t text top is cleaned kept = by_text page x t top is cleaned ∙ kept_fits (fits_text t) t text (λ s. tagged s (closed page)) kept

-- ---- a tag that is not closed

asks_tagged : (t : List ℕ) (page : Page) → asks_for (tagged t page) ≡ true
asks_tagged t page = by (list_any is_string page.sections) (is_crowded (Tag t ∷ []) page) refl refl
  where
    by : (inside crowded : Bool) → list_any is_string page.sections ≡ inside → is_crowded (Tag t ∷ []) page ≡ crowded → asks_for (tagged t page) ≡ true
    by true crowded is full = rw is refl
    by false true is full = rw (is, full) refl
    by false false is full = rw (is, full) refl

-- where a tag is open, what is refused for its text is refused for the whole
pub tag_refused : (page : Page) (x : Section) (t : List ℕ) (f : Fault) → page.sections ≡ x ∷ drop 1 page.sections → false ≡ is_string x → t ≡ clean (shown_text x.marks) → Gives {A = List ℕ} (Err f) (kept_text t t) → Gives {A = Option (List ℕ) × Page} (Err f) (closes_tag page)
unfolding closing
tag_refused page x t f top is cleaned refused = rw (by_text page x t top is cleaned) (refused_fits (fits_text t) t (tagged t (closed page)) f (asks_tagged t (closed page)) refused)

-- an open tag's text is made in memory
pub tag_asks : (page : Page) (x : Section) → page.sections ≡ x ∷ drop 1 page.sections → false ≡ is_string x → asks_for (closes_tag page) ≡ true
unfolding closing
tag_asks page x top is =
    let t = clean (shown_text x.marks) in
    rw (by_text page x t top is refl) (asks_fits (fits_text t) (tagged t (closed page)) (asks_tagged t (closed page)))

pub hands_nothing : {A : Type 0} (r : Result (A × Page) Fault) (page next : Page) (g : Fault) (answer : Result A Fault) → next ≡ page → IsErrAnd answer (λ f. f ≡ g) → Gives {A = A × Page} (Err g) r → Hands r page next answer
hands_nothing {A} r page next g (Err f) same told is = (subst (λ (e : Fault). Gives {A = A × Page} (Err e) r) (sym told) is, same)
hands_nothing r page next g (Ok a) same told is = absurd told

-- ---- a closed string

pub no_string : (page : Page) (x : Section) → page.sections ≡ x ∷ drop 1 page.sections → false ≡ is_string x → closes_string page ≡ Err BadMode
no_string page x top is =
    let by : false ≡ is_string x → closes_string_of page (x ∷ drop 1 page.sections) ≡ Err BadMode =
    elim x.kind as (λ kind. false ≡ is_string (record { kind = kind; marks = x.marks }) → closes_string_of page (record { kind = kind; marks = x.marks } ∷ drop 1 page.sections) ≡ Err BadMode) [ string_section ↦ λ is. absurd (cc) | tag_section ↦ λ is. refl ] in
    ap (closes_string_of page) top ∙ by is

by_raw_text : (page : Page) (x : Section) (t : List ℕ) → page.sections ≡ x ∷ drop 1 page.sections → true ≡ is_string x → t ≡ shown_text x.marks → closes_string page ≡ kept_text t (t, closed page)
by_raw_text page x t top is text = ap (closes_string_of page) top ∙ by x.kind x.marks is text
  where
    by : (kind : SectionKind) (marks : List Mark) → true ≡ is_string (record { kind = kind; marks = marks }) → t ≡ shown_text marks → closes_string_of page (record { kind = kind; marks = marks } ∷ drop 1 page.sections) ≡ kept_text t (t, closed page)
    by string_section marks is text = rw text refl
    by tag_section marks is text = absurd (cc)

handing : List ℕ → Page → Result (List ℕ × Page) Fault
handing t page = Ok (t, page)

pub string_closed : (page next : Page) (x : Section) (t text : List ℕ) → page.sections ≡ x ∷ drop 1 page.sections → true ≡ is_string x → t ≡ shown_text x.marks → kept_text t t ≡ Ok text → written (closed page) ≡ written next → closes_string page ≡ Ok (text, next)
unfolding handing
string_closed page next x t text top is shown kept left =
    let same : closed page ≡ next = cc in
    by_raw_text page x t top is shown ∙ kept_fits {A = List ℕ × Page} (fits_text t) t text (λ s. Ok (s, closed page)) kept ∙ ap (handing text) same

-- where a string is open, what is refused for its text is refused for the whole
pub string_refused : (page : Page) (x : Section) (t : List ℕ) (f : Fault) → page.sections ≡ x ∷ drop 1 page.sections → true ≡ is_string x → t ≡ shown_text x.marks → Gives {A = List ℕ} (Err f) (kept_text t t) → Gives {A = List ℕ × Page} (Err f) (closes_string page)
string_refused page x t f top is shown refused = rw (by_raw_text page x t top is shown) (refused_fits {A = List ℕ × Page} (fits_text t) t (Ok (t, closed page)) f refl refused)

-- an open string's text is made in memory
pub string_asks : (page : Page) (x : Section) → page.sections ≡ x ∷ drop 1 page.sections → true ≡ is_string x → asks_for (closes_string page) ≡ true
string_asks page x top is =
    let t = shown_text x.marks in
    rw (by_raw_text page x t top is refl) (asks_fits {A = List ℕ × Page} (fits_text t) (Ok (t, closed page)) refl)

-- what is refused where a section is closed is memory
pub close_asks : (page : Page) (f : Fault) → Gives {A = Page} (Err f) (Ok (closed page)) → f ≡ OutOfMemory
close_asks page f (inl p) = p.0
close_asks page f (inr e) = absurd (cc)

-- ---- what is opened

pub opens_one : (kind : SectionKind) (line : List Mark) (xs ys : List Section) (n depth : ℕ) (x : Section) → depth ≡ length (reverse xs) → depth < MAX_SECTIONS → ys ≡ xs ++ x ∷ [] → x ≡ record { kind = kind; marks = [] } → opens kind (page_of line xs n) ≡ Ok (page_of line ys n)
opens_one kind line xs ys n depth x len few pushed is =
    let room : nat_lt (length (reverse xs)) MAX_SECTIONS ≡ true = lt-ltb (length (reverse xs)) MAX_SECTIONS (omega (arith, len, few)) in
    let all : reverse ys ≡ x ∷ reverse xs = ap (λ (s : List Section). reverse s) pushed ∙ reverse-append xs (x ∷ []) in
    rw (all, is, room) refl

-- a function begins
pub begins : (line : List Mark) (xs : List Section) (n next : ℕ) → next ≡ n + 1 → next < 2 ^ 64 → begins_function (page_of line xs n) ≡ writes_marks (Enter n ∷ []) (page_of line xs next)
begins line xs n next is few =
    let same : suc n ≡ next = omega (arith, is) in
    let room : nat_lt next (2 ^ 64) ≡ true = lt-ltb next (2 ^ 64) few in
    rw (same, room) refl

abbrev refuses : Fault → Result (Unit {0}) Fault
refuses f = Err f

-- a limit that is found is what is answered
pub limited : {A : Type 0} (r : Result Page Fault) (g : Fault) (answer : Result A Fault) → IsErrAnd answer (λ f. f ≡ g) → IfErr r (λ f. refuses g ≡ refuses f) → IfErr r (λ f. answer ≡ Err f)
limited (Ok page) g answer told h = tt
limited (Err e) g (Err f) told h = cc
limited (Err e) g (Ok a) told h = absurd told

-- what is refused for a tag that is given whole is refused for its text
pub whole_refused : (page : Page) (t : List ℕ) (f : Fault) → Gives {A = List ℕ} (Err f) (kept_text (clean t) (clean t)) → Gives {A = Option (List ℕ) × Page} (Err f) (writes_tag t page)
whole_refused page t f refused = refused_fits (fits_text (clean t)) (clean t) (tagged (clean t) page) f (asks_tagged (clean t) page) refused
