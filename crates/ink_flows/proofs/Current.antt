-- The index of the current flow, at which alone nothing stands.
use Rattle.std.proofs.Common.{◌≡◌, ◌∙◌, ◌+◌, ◌-◌, ◌<◌, ◌≤◌, ◌⊎◌, inl, inr, ◌++◌, eq-or-lt_of_le, subst, true≢false, ap, arith, refl, sym, ℕ, zero, suc, List, [], ◌∷◌, Bool, true, false, IfSome, length, if◌then◌else◌, Option, Some, None, String, Global, bytes_eq, string_bytes, slice_get, get_or, position}
use Rattle.std.proofs.lemmas.Bool.{cond_both}
use Rattle.std.proofs.lemmas.List.Quantifiers.{position-Some}
use Rattle.std.proofs.lemmas.Slice.Eq.{bytes_eq-Decides}
use Rattle.std.specs.Map.{keys_of}
use Rattle.std.specs.Option.{option_map}
use Rattle.indexmap.specs.IndexMap.{set_value_at}
use Rattle.ink_flows.specs.Standing.{CurrentAt, NamedAt, part_at, parts_of, rows_of, shown_rows}
use Rattle.ink_flows.specs.declared.flow.Flow.{Flow}
use Rattle.ink_flows.proofs.Laws.{same_name}
use Rattle.ink_flows.proofs.Mapped.{holes_seen}
use Rattle.ink_model.specs.Run.Flows.{AsideOf, begins_with_default, current_name, default_flow, filled, holes}
use Rattle.ink_model.specs.Variables.Named.{at, each, put, without}

module _ {F : Type 0} where
  -- its name is the current one's
  pub current_is : (i : ℕ) (rows : AsideOf F) (name : List ℕ) → CurrentAt i rows → NamedAt name i rows → current_name rows ≡ name
  current_is i [] name h k = absurd h
  current_is zero ((n, None) ∷ rows) name h k = sym (same_name name n k)
  current_is zero ((n, Some f) ∷ rows) name h k = let never = h.0 in absurd (cc)
  current_is (suc i) ((n, None) ∷ rows) name h k = let never = h.0 in absurd (cc)
  current_is (suc i) ((n, Some f) ∷ rows) name h k = current_is i rows name h.1 k.1

  -- going to the current one changes nothing
  pub stays_there : (i : ℕ) (rows : AsideOf F) (name : List ℕ) (f : F) → CurrentAt i rows → NamedAt name i rows → at name (filled f rows) ≡ Some (Some f)
  stays_there i [] name f h k = absurd h
  stays_there zero ((n, None) ∷ rows) name f h k = ap (λ b. if b then Some (Some f) else at name rows) k
  stays_there zero ((n, Some g) ∷ rows) name f h k = let never = h.0 in absurd (cc)
  stays_there (suc i) ((n, None) ∷ rows) name f h k = let never = h.0 in absurd (cc)
  stays_there (suc i) ((n, Some g) ∷ rows) name f h k = ap (λ b. if b then Some (Some g) else at name (filled f rows)) k.0 ∙ stays_there i rows name f h.1 k.1

  pub stays_aside : (i : ℕ) (rows : AsideOf F) (name : List ℕ) (f : F) → CurrentAt i rows → NamedAt name i rows → put name None (filled f rows) ≡ rows
  stays_aside i [] name f h k = absurd h
  stays_aside zero ((n, None) ∷ rows) name f h k = ap (λ b. if b then (n, None) ∷ rows else (n, Some f) ∷ put name None rows) k
  stays_aside zero ((n, Some g) ∷ rows) name f h k = let never = h.0 in absurd (cc)
  stays_aside (suc i) ((n, None) ∷ rows) name f h k = let never = h.0 in absurd (cc)
  stays_aside (suc i) ((n, Some g) ∷ rows) name f h k =
      ap (λ b. if b then (n, None) ∷ filled f rows else (n, Some g) ∷ put name None (filled f rows)) k.0 ∙ ap (λ rs. (n, Some g) ∷ rs) (stays_aside i rows name f h.1 k.1)

  -- a flow that stands aside stays when another is put aside
  pub at_filled : (name : List ℕ) (f g : F) (rows : AsideOf F) → at name rows ≡ Some (Some g) → at name (filled f rows) ≡ Some (Some g)
  at_filled name f g [] h = h
  at_filled name f g ((n, None) ∷ rows) h = by (bytes_eq name n) h
    where
      by : (b : Bool) → (if b then Some None else at name rows) ≡ Some (Some g) → (if b then Some (Some f) else at name rows) ≡ Some (Some g)
      by true k = absurd (cc)
      by false k = k
  at_filled name f g ((n, Some x) ∷ rows) h = by (bytes_eq name n) h (at_filled name f g rows)
    where
      by : (b : Bool) → (if b then Some (Some x) else at name rows) ≡ Some (Some g) → (at name rows ≡ Some (Some g) → at name (filled f rows) ≡ Some (Some g))
          → (if b then Some (Some x) else at name (filled f rows)) ≡ Some (Some g)
      by true k more = k
      by false k more = more k

  -- ---- a flow that is made

  pub current_more : (i : ℕ) (rows : AsideOf F) (name : List ℕ) (f : F) → CurrentAt i rows → CurrentAt i (rows ++ (name, Some f) ∷ [])
  current_more i [] name f h = absurd h
  current_more zero (r ∷ rows) name f h = (h.0, holes_more rows ∙ h.1)
    where
      holes_more : (rows : AsideOf F) → holes (rows ++ (name, Some f) ∷ []) ≡ holes rows
      holes_more [] = refl
      holes_more ((n, None) ∷ rows) = ap suc (holes_more rows)
      holes_more ((n, Some x) ∷ rows) = holes_more rows
  current_more (suc i) (r ∷ rows) name f h = (h.0, current_more i rows name f h.1)

  pub named_last : (name : List ℕ) (x : Option F) (rows : AsideOf F) → at name rows ≡ None → NamedAt name (length rows) (rows ++ (name, x) ∷ [])
  named_last name x [] h = (bytes_eq-Decides name name).1 refl
  named_last name x (r ∷ rows) h = by (bytes_eq name r.0) refl h (named_last name x rows)
    where
      by : (b : Bool) → bytes_eq name r.0 ≡ b → (if b then Some r.1 else at name rows) ≡ None → (at name rows ≡ None → NamedAt name (length rows) (rows ++ (name, x) ∷ []))
          → NamedAt name (length (r ∷ rows)) (r ∷ rows ++ (name, x) ∷ [])
      by true is k more = absurd (cc)
      by false is k more = (is, more k)

  -- ---- a flow that is taken away

  none_left : (name : List ℕ) (rows : AsideOf F) → holes rows ≡ 0 → holes (without name rows) ≡ 0
  none_left name [] h = refl
  none_left name ((n, None) ∷ rows) h = absurd (cc)
  none_left name ((n, Some f) ∷ rows) h = cond_both (bytes_eq name n) rows ((n, Some f) ∷ without name rows) (λ l. holes l ≡ 0) (λ _. h) (λ _. none_left name rows h)

  -- one that was made later
  later_gone : (c i : ℕ) (rows : AsideOf F) (name : List ℕ) → CurrentAt c rows → NamedAt name i rows → c < i → CurrentAt c (without name rows)
  later_gone c i [] name h k l = h
  later_gone zero zero (r ∷ rows) name h k l = absurd (omega arith)
  later_gone zero (suc i) (r ∷ rows) name h k l =
      rw k.0 (h.0, none_left name rows h.1)
  later_gone (suc c) zero (r ∷ rows) name h k l = absurd (omega arith)
  later_gone (suc c) (suc i) (r ∷ rows) name h k l = let less : c < i = omega arith in rw k.0 (h.0, later_gone c i rows name h.1 k.1 less)

  -- one that was made before
  earlier_gone : (c i : ℕ) (rows : AsideOf F) (name : List ℕ) → CurrentAt (suc c) rows → NamedAt name i rows → i ≤ c → CurrentAt c (without name rows)
  earlier_gone c i [] name h k l = h
  earlier_gone c zero (r ∷ rows) name h k l = rw k h.1
  earlier_gone zero (suc i) (r ∷ rows) name h k l = absurd (omega arith)
  earlier_gone (suc c) (suc i) (r ∷ rows) name h k l = let less : i ≤ c = omega arith in rw k.0 (h.0, earlier_gone c i rows name h.1 k.1 less)

  pub one_earlier : (c i : ℕ) (rows : AsideOf F) (name : List ℕ) → CurrentAt c rows → NamedAt name i rows → i < c → CurrentAt (c - 1) (without name rows)
  one_earlier zero i rows name h k l = absurd (omega arith)
  one_earlier (suc c) i rows name h k l =
      let less : i ≤ c = omega arith in
      let same : c ≡ suc c - 1 = omega arith in
      subst (λ n. CurrentAt n (without name rows)) same (earlier_gone c i rows name h k less)

  pub one_later : (c i : ℕ) (rows : AsideOf F) (name : List ℕ) → CurrentAt c rows → NamedAt name i rows → bytes_eq (current_name rows) name ≡ false → c ≤ i → CurrentAt c (without name rows)
  one_later c i rows name h k other l = by (eq-or-lt_of_le l)
    where
      by : (c ≡ i) ⊎ (c < i) → CurrentAt c (without name rows)
      by (inl same) =
          let its : current_name rows ≡ name = current_is c rows name h (subst (λ j. NamedAt name j rows) (sym same) k) in
          absurd (true≢false (sym (ap (λ n. bytes_eq n name) its ∙ (bytes_eq-Decides name name).1 refl) ∙ other))
      by (inr less) = later_gone c i rows name h k less

-- ---- entries

abbrev Entries : Type 0
Entries = List (String Global × Option Flow)

-- an entry's name is the current one's, where its index is
pub current_named : (es : Entries) (i : ℕ) (e : String Global × Option Flow) → CurrentAt i (shown_rows es) → slice_get es i ≡ Some e → current_name (shown_rows es) ≡ string_bytes e.0
current_named [] i e h k = absurd (cc)
current_named (x ∷ es) i e h k = within (x ∷ es) i h k
  where
    within : (es : Entries) (i : ℕ) → CurrentAt i (rows_of es) → slice_get es i ≡ Some e → current_name (rows_of es) ≡ string_bytes e.0
    within [] i h k = absurd h
    within ((n, None) ∷ es) zero h k = let same : ◌≡◌ {A = String Global × Option Flow} (n, None) e = cc in ap (λ y. string_bytes y.0) same
    within ((n, Some f) ∷ es) zero h k = let never = h.0 in absurd (cc)
    within ((n, None) ∷ es) (suc i) h k = let never = h.0 in absurd (cc)
    within ((n, Some f) ∷ es) (suc i) h k = within es i h.1 k

-- there is such an entry, where there is one at all
pub current_default : (es : Entries) (i : ℕ) → CurrentAt i (shown_rows es) → slice_get es i ≡ None → current_name (shown_rows es) ≡ default_flow
current_default [] i h k = refl
current_default (x ∷ es) i h k = absurd (within (x ∷ es) i h k)
  where
    within : (es : Entries) (i : ℕ) → CurrentAt i (rows_of es) → slice_get es i ≡ None → ⊥
    within [] i h k = h
    within (e ∷ es) zero h k = cc
    within (e ∷ es) (suc i) h k = within es i h.1 k

-- where a name is found
pub found_at : (name : List ℕ) (es : Entries) (i : ℕ) → position (λ k. bytes_eq name (string_bytes k)) (keys_of es) ≡ Some i → NamedAt name i (shown_rows es)
found_at name [] i h = absurd (cc)
found_at name (x ∷ es) i h =
    let there = position-Some (λ k. bytes_eq name (string_bytes k)) (keys_of (x ∷ es)) i x.0 h in
    first (x ∷ es) i there.0 there.1 there.2
  where
    first : (es : Entries) (i : ℕ) → i < length (keys_of es) → bytes_eq name (string_bytes (get_or (keys_of es) i x.0)) ≡ true
        → ((k : ℕ) → k < i → bytes_eq name (string_bytes (get_or (keys_of es) k x.0)) ≡ false) → NamedAt name i (rows_of es)
    first [] i l h before = absurd (omega arith)
    first (e ∷ es) zero l h before = h
    first (e ∷ es) (suc i) l h before =
        let more : i < length (keys_of es) = omega arith in
        let front : 0 < suc i = omega arith in
        (before 0 front, first es i more h (λ k under. let further : suc k < suc i = omega arith in before (suc k) further))

pub found_some : (name : List ℕ) (es : Entries) (o : Option ℕ) → o ≡ position (λ k. bytes_eq name (string_bytes k)) (keys_of es) → IfSome o (λ i. NamedAt name i (shown_rows es))
found_some name es None h = tt
found_some name es (Some i) h = found_at name es i (sym h)

-- what is written at an index
put_at : (name : List ℕ) (y : Option Flow) (j : ℕ) (es : Entries) → NamedAt name j (rows_of es) → rows_of (set_value_at es j y) ≡ put name y (rows_of es)
put_at name y j [] k = absurd k
put_at name y zero (e ∷ es) k = sym (ap (λ b. if b then (string_bytes e.0, y) ∷ rows_of es else (string_bytes e.0, e.1) ∷ put name y (rows_of es)) k)
put_at name y (suc j) (e ∷ es) k =
    ap (λ rs. (string_bytes e.0, e.1) ∷ rs) (put_at name y j es k.1)
    ∙ sym (ap (λ b. if b then (string_bytes e.0, y) ∷ rows_of es else (string_bytes e.0, e.1) ∷ put name y (rows_of es)) k.0)

filled_at : (f : Flow) (i : ℕ) (es : Entries) → CurrentAt i (rows_of es) → rows_of (set_value_at es i (Some f)) ≡ filled f (rows_of es)
filled_at f i [] h = absurd h
filled_at f zero ((n, None) ∷ es) h = refl
filled_at f zero ((n, Some g) ∷ es) h = let never = h.0 in absurd (cc)
filled_at f (suc i) ((n, None) ∷ es) h = let never = h.0 in absurd (cc)
filled_at f (suc i) ((n, Some g) ∷ es) h = ap (λ rs. (string_bytes n, Some g) ∷ rs) (filled_at f i es h.1)

named_set : (name : List ℕ) (i j : ℕ) (y : Option Flow) (es : Entries) → NamedAt name j (rows_of es) → NamedAt name j (rows_of (set_value_at es i y))
named_set name i j y [] k = k
named_set name zero zero y (e ∷ es) k = k
named_set name zero (suc j) y (e ∷ es) k = k
named_set name (suc i) zero y (e ∷ es) k = k
named_set name (suc i) (suc j) y (e ∷ es) k = (k.0, named_set name i j y es k.1)

set_apart : (i j : ℕ) (f g : Flow) (es : Entries) → CurrentAt i (rows_of es) → part_at j es ≡ Some g
    → set_value_at (set_value_at es j None) i (Some f) ≡ set_value_at (set_value_at es i (Some f)) j None
set_apart i j f g [] h k = refl
set_apart zero zero f g ((n, None) ∷ es) h k = absurd (cc)
set_apart zero zero f g ((n, Some x) ∷ es) h k = let never = h.0 in absurd (cc)
set_apart zero (suc j) f g (e ∷ es) h k = refl
set_apart (suc i) zero f g (e ∷ es) h k = refl
set_apart (suc i) (suc j) f g (e ∷ es) h k = ap (λ rs. e ∷ rs) (set_apart i j f g es h.1 k)

-- a flow is taken, and the one before is put aside
pub moved_rows : (name : List ℕ) (i j : ℕ) (f g : Flow) (es : Entries) → CurrentAt i (rows_of es) → part_at j es ≡ Some g → NamedAt name j (rows_of es)
    → rows_of (set_value_at (set_value_at es j None) i (Some f)) ≡ put name None (filled f (rows_of es))
moved_rows name i j f g es h k named =
    ap rows_of (set_apart i j f g es h k) ∙ put_at name None j (set_value_at es i (Some f)) (named_set name i j (Some f) es named) ∙ ap (put name None) (filled_at f i es h)

pub moved_named : (name : List ℕ) (i j : ℕ) (f : Flow) (es : Entries) → NamedAt name j (rows_of es) → NamedAt name j (rows_of (set_value_at (set_value_at es j None) i (Some f)))
moved_named name i j f es k = named_set name i j (Some f) (set_value_at es j None) (named_set name j j None es k)

pub at_named : (name : List ℕ) (j : ℕ) (g : Flow) (es : Entries) → NamedAt name j (rows_of es) → part_at j es ≡ Some g → at name (rows_of es) ≡ Some (Some g)
at_named name j g [] k h = absurd k
at_named name zero g ((n, None) ∷ es) k h = absurd (cc)
at_named name zero g ((n, Some x) ∷ es) k h = ap (λ b. if b then Some (Some x) else at name (rows_of es)) k ∙ ap (λ o. Some o) h
at_named name (suc j) g (e ∷ es) k h = ap (λ b. if b then Some e.1 else at name (rows_of es)) k.0 ∙ at_named name j g es k.1 h

-- nothing stands at its index then
pub moved_current : (i j : ℕ) (f g : Flow) (es : Entries) → CurrentAt i (rows_of es) → part_at j es ≡ Some g → CurrentAt j (rows_of (set_value_at (set_value_at es j None) i (Some f)))
moved_current i j f g [] h k = absurd h
moved_current zero zero f g ((n, None) ∷ es) h k = absurd (cc)
moved_current zero zero f g ((n, Some x) ∷ es) h k = let never = h.0 in absurd (cc)
moved_current zero (suc j) f g (e ∷ es) h k = (refl, taken j es h.1 k)
  where
    taken : (j : ℕ) (es : Entries) → holes (rows_of es) ≡ 0 → part_at j es ≡ Some g → CurrentAt j (rows_of (set_value_at es j None))
    taken j [] h k = absurd (cc)
    taken j ((n, None) ∷ es) h k = absurd (cc)
    taken zero ((n, Some x) ∷ es) h k = (refl, h)
    taken (suc j) ((n, Some x) ∷ es) h k = (refl, taken j es h k)
moved_current (suc i) zero f g (e ∷ es) h k = (refl, none (suc i) i es h.1)
  where
    none : (n i : ℕ) (es : Entries) → CurrentAt i (rows_of es) → holes (rows_of (set_value_at es i (Some f))) ≡ 0
    none n i [] h = absurd h
    none n zero (e ∷ es) h = h.1
    none n (suc i) ((m, None) ∷ es) h = let never = h.0 in absurd (cc)
    none n (suc i) ((m, Some x) ∷ es) h = none n i es h.1
moved_current (suc i) (suc j) f g (e ∷ es) h k = (h.0, moved_current i j f g es h.1 k)

-- where nothing stands is the current flow's index
pub same_index : (name : List ℕ) (i j : ℕ) (es : Entries) → CurrentAt i (shown_rows es) → NamedAt name j (shown_rows es) → part_at j es ≡ None → i ≡ j
same_index name zero zero [] h k e = refl
same_index name zero (suc j) [] h k e = absurd k.1
same_index name (suc i) j [] h k e = absurd h.1
same_index name i j (x ∷ es) h k e = within (x ∷ es) i j h k e
  where
    within : (es : Entries) (i j : ℕ) → CurrentAt i (rows_of es) → NamedAt name j (rows_of es) → part_at j es ≡ None → i ≡ j
    within [] i j h k e = absurd h
    within (x ∷ es) zero zero h k e = refl
    within ((n, None) ∷ es) (suc i) zero h k e = let never = h.0 in absurd (cc)
    within ((n, Some f) ∷ es) (suc i) zero h k e = absurd (cc)
    within (x ∷ es) zero (suc j) h k e = absurd (never j es h.1 k.1 e)
      where
        never : (j : ℕ) (es : Entries) → holes (rows_of es) ≡ 0 → NamedAt name j (rows_of es) → part_at j es ≡ None → ⊥
        never j [] h k e = k
        never j ((n, None) ∷ es) h k e = cc
        never zero ((n, Some f) ∷ es) h k e = cc
        never (suc j) ((n, Some f) ∷ es) h k e = never j es h k.1 e
    within (x ∷ es) (suc i) (suc j) h k e = ap suc (within es i j h.1 k.1 e)

-- and nothing is written there
pub none_written : (j : ℕ) (es : Entries) → part_at j es ≡ None → set_value_at es j None ≡ es
none_written j [] e = refl
none_written zero ((n, None) ∷ es) e = refl
none_written zero ((n, Some f) ∷ es) e = absurd (cc)
none_written (suc j) (x ∷ es) e = ap (λ rs. x ∷ rs) (none_written j es e)

-- rows of some entries are no others
pub moved_shown : (i j : ℕ) (f g : Flow) (es : Entries) → part_at j es ≡ Some g → shown_rows (set_value_at (set_value_at es j None) i (Some f)) ≡ rows_of (set_value_at (set_value_at es j None) i (Some f))
moved_shown i j f g [] k = absurd (cc)
moved_shown zero zero f g (e ∷ es) k = refl
moved_shown zero (suc j) f g (e ∷ es) k = refl
moved_shown (suc i) zero f g (e ∷ es) k = refl
moved_shown (suc i) (suc j) f g (e ∷ es) k = refl

pub part_shown : (j : ℕ) (g : Flow) (es : Entries) → part_at j es ≡ Some g → shown_rows es ≡ rows_of es
part_shown j g [] k = absurd (cc)
part_shown j g (e ∷ es) k = refl

-- the names stay
pub set_begins : (i : ℕ) (y : Option Flow) (es : Entries) → begins_with_default (shown_rows (set_value_at es i y)) ≡ begins_with_default (shown_rows es)
set_begins i y [] = refl
set_begins zero y (e ∷ es) = refl
set_begins (suc i) y (e ∷ es) = refl

-- written beyond the last
pub beyond : (j : ℕ) (y : Option Flow) (es : Entries) → slice_get (parts_of es) j ≡ None → set_value_at es j y ≡ es
beyond j y [] e = refl
beyond zero y (x ∷ es) e = absurd (cc)
beyond (suc j) y (x ∷ es) e = ap (λ rs. x ∷ rs) (beyond j y es e)

-- ---- by what flows stand for

module _ {F G : Type 0} (g : F → G) where
  pub current_as : (i : ℕ) (rows : AsideOf F) → CurrentAt i rows → CurrentAt i (each (option_map g) rows)
  current_as i [] h = h
  current_as zero ((n, None) ∷ rows) h = (refl, holes_seen g rows ∙ h.1)
  current_as zero ((n, Some f) ∷ rows) h = let never = h.0 in absurd (cc)
  current_as (suc i) ((n, None) ∷ rows) h = let never = h.0 in absurd (cc)
  current_as (suc i) ((n, Some f) ∷ rows) h = (refl, current_as i rows h.1)

  pub named_as : (name : List ℕ) (i : ℕ) (rows : AsideOf F) → NamedAt name i rows → NamedAt name i (each (option_map g) rows)
  named_as name i [] k = k
  named_as name zero (r ∷ rows) k = k
  named_as name (suc i) (r ∷ rows) k = (k.0, named_as name i rows k.1)
