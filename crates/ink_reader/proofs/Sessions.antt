-- Lines that are typed, one after another.
use Rattle.std.proofs.Common.{◌≡◌, ◌∙◌, ℕ, List, [], ◌∷◌, ◌++◌, Bool, true, false, ◌&&◌, MatchBool, Option, Some, None, Result, Ok, Err, IfOk, is_ok, not, refl, sym, ap, subst, append_assoc, append-nil, true≢false}
use Rattle.ink_reader.proofs.Common.{Refuses, Deed, Asks, Gives, Says, Refused}
use Rattle.ink_model.specs.Protocol.Command as command
use Rattle.ink_model.specs.declared.fault.Refusal.TheVariants as refusal
use Rattle.ink_page.specs.Typed.{Asked, asked_by}
use Rattle.ink_page.specs.declared.typed.Typed.{Typed}
use Rattle.ink_page.specs.declared.typed.Typed.TheVariants as as_typed
use Rattle.ink_reader.specs.Course.{EndsAt, IsBeginning, IsCourse, IsEnding, IsLoading, Places, UpTo, has_loaded}
use Rattle.ink_reader.specs.Session.{AreNext, Begins, Follows, IsReading, ReadBy, ReadTo, Resumes, asked_for, quits}
use Rattle.ink_reader.proofs.Courses.{any-telling, up-behind, up-well}

pub next-append : (lines more : List (Option (List ℕ))) (old mid new : Option (List (List ℕ))) → AreNext old lines mid → AreNext mid more new → AreNext old (lines ++ more) new
next-append [] more old mid new a b = subst (λ x. AreNext x more new) a b
next-append (line ∷ lines) more old mid new a b = (a.0, a.1, next-append lines more a.0 mid new a.2 b)

-- it was done to its end
up-done : {C : List Deed → Places → Type 0} {ds : List Deed} {new : Places} → UpTo true C ds new → C ds new
up-done {C} {ds} {new} h =
    let whole = h.whole refl in
    subst (λ x. C ds x) whole.1 (subst (λ x. C x h.end) (append-nil ds) (subst (λ x. C (ds ++ x) h.end) whole.0 h.course))

-- ---- what follows

pub not-quit : (t : Typed) → (t ≡ as_typed.Quit → ⊥) → quits (asked_by t) ≡ false
not-quit (as_typed.Choice n) h = refl
not-quit as_typed.Save h = refl
not-quit as_typed.Load h = refl
not-quit as_typed.Back h = refl
not-quit as_typed.Restart h = refl
not-quit (as_typed.Variable name) h = refl
not-quit as_typed.Help h = refl
not-quit as_typed.Quit h = absurd (h refl)
not-quit as_typed.Unclear h = refl

module _ (saves : Bool) (old : Places) where
  follows-course : (asked : Asked) (ds : List Deed) (new : Places) → quits asked ≡ false → Follows saves old asked ds new → IsCourse saves old asked ds new
  follows-course asked ds new is h = subst (λ b. MatchBool b (IsEnding saves old ds new) (IsCourse saves old asked ds new)) is h

  follows-ending : (asked : Asked) (ds : List Deed) (new : Places) → quits asked ≡ true → Follows saves old asked ds new → IsEnding saves old ds new
  follows-ending asked ds new is h = subst (λ b. MatchBool b (IsEnding saves old ds new) (IsCourse saves old asked ds new)) is h

  pub course-follows : {well : Bool} {ds : List Deed} {new : Places} (asked : Asked) → quits asked ≡ false → UpTo well (IsCourse saves old asked) ds new → UpTo well (Follows saves old asked) ds new
  course-follows asked is h = up-behind [] (λ rest end g. subst (λ b. MatchBool b (IsEnding saves old rest end) (IsCourse saves old asked rest end)) (sym is) g) h

  pub ending-follows : {well : Bool} {ds : List Deed} {new : Places} (asked : Asked) → quits asked ≡ true → UpTo well (IsEnding saves old) ds new → UpTo well (Follows saves old asked) ds new
  ending-follows asked is h = up-behind [] (λ rest end g. subst (λ b. MatchBool b (IsEnding saves old rest end) (IsCourse saves old asked rest end)) (sym is) g) h

-- ---- one line

abbrev Reads : Bool → Bool → Places → Option (List ℕ) → List (Option (List ℕ)) → List Deed → Places → Type 0
Reads b saves old line lines ds new = MatchBool b
    ((lines ≡ []) × IsEnding saves old ds new)
    ((first : List Deed) × (rest : List Deed) × (mid : Places) × (ds ≡ first ++ rest) × IsCourse saves old (asked_for line) first mid × IsReading saves mid lines rest new)

module _ (saves : Bool) (old : Places) (line : Option (List ℕ)) where
  reads-last : (ds : List Deed) (new : Places) → quits (asked_for line) ≡ true → IsEnding saves old ds new → IsReading saves old (line ∷ []) (Asks ∷ ds) new
  reads-last ds new is h = subst (λ b. Reads b saves old line [] ds new) (sym is) (refl, h)

  reads-more : (ds rest : List Deed) (mid end : Places) (others : List (Option (List ℕ))) → quits (asked_for line) ≡ false → IsCourse saves old (asked_for line) ds mid → IsReading saves mid others rest end
      → IsReading saves old (line ∷ others) (Asks ∷ (ds ++ rest)) end
  reads-more ds rest mid end others is h r = subst (λ b. Reads b saves old line others (ds ++ rest) end) (sym is) (ds, rest, mid, refl, h, r)

any-ends : (saves : Bool) (here : Option (List ℕ)) → (rest : List Deed) × EndsAt saves here rest
any-ends saves None = ([], refl)
any-ends false (Some place) = ([], refl)
any-ends true (Some place) = (Gives command.Save (Refuses refusal.OutOfMemory) ∷ Says (Refused refusal.OutOfMemory) ∷ [], refl)

-- the end of the lines comes next
any-reading : (saves : Bool) (old : Places) → (rest : List Deed) × IsReading saves old (None ∷ []) (Asks ∷ rest) old
any-reading saves old = let end = any-ends saves old.here in (end.0, reads-last saves old None end.0 old refl (end.1, refl))

-- a line was asked for, and something failed
pub asks-only : {E : Type 0} {r : Result Bool E} {x : E} (saves : Bool) (old new : Places) → r ≡ Err x → ReadBy r (IsReading saves old) saves [] (Asks ∷ []) new
asks-only saves old new is =
    let end = any-reading saves old in subst (λ y. ReadBy y (IsReading saves old) saves [] (Asks ∷ []) new) (sym is) (None ∷ [], end.0, old, end.1)

-- it was typed, and what it asks for was done
module _ (saves : Bool) (old : Places) (line : Option (List ℕ)) (ds : List Deed) (new : Places) where
  off : (h : UpTo false (Follows saves old (asked_for line)) ds new) (b : Bool) → quits (asked_for line) ≡ b
      → (others : List (Option (List ℕ))) × (rest : List Deed) × (end : Places) × IsReading saves old (line ∷ others) (Asks ∷ (ds ++ rest)) end
  off h true is = ([], h.rest, h.end, reads-last saves old line (ds ++ h.rest) h.end is (follows-ending saves old (asked_for line) (ds ++ h.rest) h.end is h.course))
  off h false is =
      let end = any-reading saves h.end in
      let all = reads-more saves old line (ds ++ h.rest) (Asks ∷ end.0) h.end h.end (None ∷ []) is (follows-course saves old (asked_for line) (ds ++ h.rest) h.end is h.course) end.1 in
      (None ∷ [], h.rest ++ (Asks ∷ end.0), h.end, subst (λ x. IsReading saves old (line ∷ None ∷ []) (Asks ∷ x) h.end) (append_assoc ds h.rest (Asks ∷ end.0)) all)

  pub read-by : {E : Type 0} (r : Result Bool E) → UpTo (is_ok r) (Follows saves old (asked_for line)) ds new → IfOk r (λ goes. quits (asked_for line) ≡ not goes) → ReadBy r (IsReading saves old) saves (line ∷ []) (Asks ∷ ds) new
  read-by (Ok true) h is = λ others rest end r. reads-more saves old line ds rest new end others is (follows-course saves old (asked_for line) ds new is (up-done h)) r
  read-by (Ok false) h is = reads-last saves old line ds new is (follows-ending saves old (asked_for line) ds new is (up-done h))
  read-by (Err e) h is = off h (quits (asked_for line)) refl

-- ---- parts one after another

abbrev pub Readings : Type 1
Readings = List (Option (List ℕ)) → List Deed → Places → Type 0

-- behind these, lines are read from there
abbrev pub Continues : Readings → Bool → List (Option (List ℕ)) → List Deed → Places → Type 0
Continues Reading saves lines ds mid = (others : List (Option (List ℕ))) (rest : List Deed) (end : Places) → IsReading saves mid others rest end → Reading (lines ++ others) (ds ++ rest) end

module _ (Reading : Readings) (saves : Bool) (mid : Places) (lines more : List (Option (List ℕ))) (ds es : List Deed) (before : Continues Reading saves lines ds mid) where
  joined : (others : List (Option (List ℕ))) (rest : List Deed) (end : Places) → IsReading saves mid (more ++ others) (es ++ rest) end → Reading ((lines ++ more) ++ others) ((ds ++ es) ++ rest) end
  joined others rest end h =
      subst (λ x. Reading x ((ds ++ es) ++ rest) end) (sym (append_assoc lines more others))
      (subst (λ x. Reading (lines ++ (more ++ others)) x end) (sym (append_assoc ds es rest)) (before (more ++ others) (es ++ rest) end h))

  pub continues-more : (new : Places) → Continues (IsReading saves mid) saves more es new → Continues Reading saves (lines ++ more) (ds ++ es) new
  continues-more new after = λ others rest end h. joined others rest end (after others rest end h)

  pub continues-to : {well : Bool} (new : Places) → ReadTo well (IsReading saves mid) more es new → ReadTo well Reading (lines ++ more) (ds ++ es) new
  continues-to new h = record { others = h.others; rest = h.rest; end = h.end; reading = joined h.others h.rest h.end h.reading; whole = h.whole }

-- it was read to its end
pub read-whole : {well : Bool} (Reading : Readings) (lines : List (Option (List ℕ))) (ds : List Deed) (new : Places) → Reading lines ds new → ReadTo well Reading lines ds new
read-whole Reading lines ds new h = record {
  others = [];
  rest = [];
  end = new;
  reading = subst (λ x. Reading x (ds ++ []) new) (sym (append-nil lines)) (subst (λ x. Reading lines x new) (sym (append-nil ds)) h);
  whole = λ e. (refl, refl, refl);
}

-- something failed
pub read-part : {T E : Type 0} {r : Result T E} {x : E} (Reading : Readings) (lines : List (Option (List ℕ))) (ds : List Deed) (new : Places) → r ≡ Err x
    → (others : List (Option (List ℕ))) × (rest : List Deed) × (end : Places) × Reading (lines ++ others) (ds ++ rest) end → ReadTo (is_ok r) Reading lines ds new
read-part Reading lines ds new is h = record { others = h.0; rest = h.1; end = h.2; reading = h.3; whole = λ e. absurd (true≢false (sym e ∙ ap is_ok is)) }

pub part-read : {E : Type 0} {r : Result Bool E} {x : E} (Reading : Readings) (saves : Bool) (lines : List (Option (List ℕ))) (ds : List Deed) (new : Places) → r ≡ Err x
    → (others : List (Option (List ℕ))) × (rest : List Deed) × (end : Places) × Reading (lines ++ others) (ds ++ rest) end → ReadBy r Reading saves lines ds new
part-read Reading saves lines ds new is h = subst (λ y. ReadBy y Reading saves lines ds new) (sym is) h

-- no more lines are read
pub continues-so-far : (Reading : Readings) (saves : Bool) (mid new : Places) (lines : List (Option (List ℕ))) (ds : List Deed) → Continues Reading saves lines ds mid → ReadTo false Reading lines ds new
continues-so-far Reading saves mid new lines ds before =
    let end = any-reading saves mid in
    record { others = None ∷ []; rest = Asks ∷ end.0; end = mid; reading = before (None ∷ []) (Asks ∷ end.0) mid end.1; whole = λ e. absurd (true≢false (sym e)) }

-- behind what was typed and done first
pub read-behind : {E : Type 0} (r : Result Bool E) (Reading Rest : Readings) (saves saves' : Bool) (first lines : List (Option (List ℕ))) (before ds : List Deed) (new : Places) → saves' ≡ saves
    → ((others : List (Option (List ℕ))) (rest : List Deed) (end : Places) → Rest others rest end → Reading (first ++ others) (before ++ rest) end)
    → ReadBy r Rest saves lines ds new → ReadBy r Reading saves' (first ++ lines) (before ++ ds) new
read-behind (Ok true) Reading Rest saves saves' first lines before ds new same f h = λ others rest end g.
    subst (λ x. Reading x ((before ++ ds) ++ rest) end) (sym (append_assoc first lines others))
    (subst (λ x. Reading (first ++ (lines ++ others)) x end) (sym (append_assoc before ds rest)) (f (lines ++ others) (ds ++ rest) end (h others rest end (subst (λ b. IsReading b new others rest end) same g))))
read-behind (Ok false) Reading Rest saves saves' first lines before ds new same f h = f lines ds new h
read-behind (Err e) Reading Rest saves saves' first lines before ds new same f h = (
  h.0,
  h.1,
  h.2,
  subst (λ x. Reading x ((before ++ ds) ++ h.1) h.2) (sym (append_assoc first lines h.0))
      (subst (λ x. Reading (first ++ (lines ++ h.0)) x h.2) (sym (append_assoc before ds h.1)) (f (lines ++ h.0) (ds ++ h.1) h.2 h.3)),
)

-- ---- how it begins

-- the story began, and lines are read
begins-behind : (saves : Bool) (old : Places) (ds : List Deed) (mid : Places) → IsBeginning saves old ds mid → Continues (Begins saves old) saves [] ds mid
begins-behind saves old ds mid h = λ others rest end g. (ds, rest, mid, refl, h, g)

begins-off : (saves : Bool) (old : Places) (ds more : List Deed) (mid : Places) → IsBeginning saves old (ds ++ more) mid
    → (others : List (Option (List ℕ))) × (rest : List Deed) × (end : Places) × Begins saves old others (ds ++ rest) end
begins-off saves old ds more mid h =
    let end = any-reading saves mid in (None ∷ [], more ++ (Asks ∷ end.0), mid, (ds ++ more, Asks ∷ end.0, mid, sym (append_assoc ds more (Asks ∷ end.0)), h, end.1))

pub begun : {T E : Type 0} {r : Result T E} {x : T} (saves : Bool) (old : Places) (ds : List Deed) (new : Places) → r ≡ Ok x → UpTo (is_ok r) (IsBeginning saves old) ds new
    → Continues (Begins saves old) saves [] ds new
begun saves old ds new is h = begins-behind saves old ds new (up-done (up-well is h))

pub begun-part : {well : Bool} {new : Places} (saves : Bool) (old : Places) (ds : List Deed) → UpTo well (IsBeginning saves old) ds new
    → (others : List (Option (List ℕ))) × (rest : List Deed) × (end : Places) × Begins saves old ([] ++ others) (ds ++ rest) end
begun-part saves old ds h = begins-off saves old ds h.rest h.end h.course

-- some beginning
any-begins : (saves : Bool) (old : Places) → (rest : List Deed) × (end : Places) × Begins saves old (None ∷ []) rest end
any-begins saves old =
    let told = any-telling saves in
    let mid : Places = record { before = old.before; here = None } in
    let end = any-reading saves mid in (told.0 ++ (Asks ∷ end.0), mid, (told.0, Asks ∷ end.0, mid, refl, (refl, told.1), end.1))

-- the save was loaded, or was not
module _ (saves : Bool) (old : Places) where
  pub resumed : {T E : Type 0} {r : Result T E} {x : T} (saves' : Bool) (ds : List Deed) (new : Places) → r ≡ Ok x → UpTo (is_ok r) (IsLoading saves old) ds new → saves' ≡ saves → has_loaded ds ≡ true
      → Continues (Resumes saves old) saves' [] ds new
  resumed saves' ds new is h same loaded = λ others rest end g.
      (ds, rest, new, refl, up-done (up-well is h), subst (λ b. MatchBool b (IsReading saves new others rest end) (Begins false new others rest end)) (sym loaded) (subst (λ b. IsReading b new others rest end) same g))

  pub resumed-not : {T E : Type 0} {r : Result T E} {x : T} (ds : List Deed) (new : Places) → r ≡ Ok x → UpTo (is_ok r) (IsLoading saves old) ds new → has_loaded ds ≡ false
      → (others : List (Option (List ℕ))) (rest : List Deed) (end : Places) → Begins false new others rest end → Resumes saves old others (ds ++ rest) end
  resumed-not ds new is h loaded = λ others rest end g.
      (ds, rest, new, refl, up-done (up-well is h), subst (λ b. MatchBool b (IsReading saves new others rest end) (Begins false new others rest end)) (sym loaded) g)

  pub resumed-part : {well : Bool} {new : Places} (ds : List Deed) → UpTo well (IsLoading saves old) ds new
      → (others : List (Option (List ℕ))) × (rest : List Deed) × (end : Places) × Resumes saves old ([] ++ others) (ds ++ rest) end
  resumed-part ds h = by (has_loaded (ds ++ h.rest)) refl
    where
      by : (b : Bool) → has_loaded (ds ++ h.rest) ≡ b → (others : List (Option (List ℕ))) × (rest : List Deed) × (end : Places) × Resumes saves old others (ds ++ rest) end
      by true e =
          let end = any-reading saves h.end in (
            None ∷ [],
            h.rest ++ (Asks ∷ end.0),
            h.end,
            (
              ds ++ h.rest,
              Asks ∷ end.0,
              h.end,
              sym (append_assoc ds h.rest (Asks ∷ end.0)),
              h.course,
              subst (λ b. MatchBool b (IsReading saves h.end (None ∷ []) (Asks ∷ end.0) h.end) (Begins false h.end (None ∷ []) (Asks ∷ end.0) h.end)) (sym e) end.1,
            ),
          )
      by false e =
          let more = any-begins false h.end in (
            None ∷ [],
            h.rest ++ more.0,
            more.1,
            (
              ds ++ h.rest,
              more.0,
              h.end,
              sym (append_assoc ds h.rest more.0),
              h.course,
              subst (λ b. MatchBool b (IsReading saves h.end (None ∷ []) more.0 more.1) (Begins false h.end (None ∷ []) more.0 more.1)) (sym e) more.2,
            ),
          )

pub and-true : (b c : Bool) → c ≡ true → (b && c) ≡ b
and-true true c is = is
and-true false c is = refl

pub and-left : (b c d : Bool) → d ≡ (b && c) → d ≡ true → b ≡ true
and-left true c d is h = refl
and-left false c d is h = absurd (true≢false (sym h ∙ is))

pub and-false : (b c : Bool) → c ≡ false → (b && c) ≡ false
and-false true c is = is
and-false false c is = refl
