-- What is to be told of globals, one after another.
use Rattle.std.proofs.Common.{◌≡◌, ◌≢◌, ◌∙◌, ◌++◌, ◌∷◌, ◌+◌, ◌&&◌, ◌<◌, ◌≤◌, ℕ, zero, suc, List, [], Bool, true, false, Option, Some, None, ap, append_assoc, arith, cond, drop, get_or, if◌then◌else◌, length, map, refl, slice_get, sym, take}
use Rattle.std.proofs.lemmas.List.{append-nil, take-append-drop, take_all, take_more}
use Rattle.std.proofs.lemmas.Option.{get_or_from_slice_get, slice_get_within}
use Rattle.std.specs.List.{filter}
use Rattle.ink_model.specs.Variables.Store.{Values, stored}
use Rattle.ink_model.specs.Host.Told.{change_of, is_other, is_told, told}
use Rattle.ink_model.specs.declared.host.Change.{Change}
use Rattle.ink_model.specs.declared.value.Value.{Value}
use Rattle.ink_host.specs.Desk.{Rows, has_rows, watches}
use Rattle.ink_vars.specs.Changes.{changed_from, changed_indices}

-- ---- by indices

module _ (now : Values) where
  abbrev pub told_one : Option (List ℕ × Value) → List Change
  told_one None = []
  told_one (Some e) = change_of e ∷ []

  abbrev pub told_at : List ℕ → List Change
  told_at [] = []
  told_at (i ∷ is) = told_one (slice_get now i) ++ told_at is

  pub told_more : (is : List ℕ) (i : ℕ) → told_at (is ++ i ∷ []) ≡ told_at is ++ told_one (slice_get now i)
  told_more [] i = append-nil (told_one (slice_get now i))
  told_more (j ∷ is) i = ap (λ rest. told_one (slice_get now j) ++ rest) (told_more is i) ∙ sym (append_assoc (told_one (slice_get now j)) (told_at is) (told_one (slice_get now i)))

  -- ---- those that changed, and are watched

  module _ (watches : List ℕ → Bool) (start : Values) where
    told_from : (n : ℕ) (es : Values) → ((i : ℕ) → slice_get now (n + i) ≡ slice_get es i) → told_at (changed_from watches start n es) ≡ told watches start es
    told_from n [] at = refl
    told_from n (e ∷ es) at =
        let here : n + 0 ≡ n = omega arith in
        let first : slice_get now n ≡ Some e = ap (slice_get now) (sym here) ∙ at 0 in
        let further : (i : ℕ) → slice_get now (suc n + i) ≡ slice_get es i =
        λ i. (let next : suc n + i ≡ n + suc i = omega arith in ap (slice_get now) next ∙ at (suc i)) in
        by (is_told watches start e) first (told_from (suc n) es further)
      where
        by : (b : Bool) → slice_get now n ≡ Some e → told_at (changed_from watches start (suc n) es) ≡ told watches start es
            → told_at (if b then n ∷ changed_from watches start (suc n) es else changed_from watches start (suc n) es) ≡ map change_of (cond b (e ∷ filter (is_told watches start) es) (filter (is_told watches start) es))
        by true first so = ap (λ o. told_one o ++ told_at (changed_from watches start (suc n) es)) first ∙ ap (λ cs. change_of e ∷ cs) so
        by false first so = so

    pub told_changed : told_at (changed_indices watches start now) ≡ told watches start now
    told_changed = told_from 0 now (λ i. (let same : 0 + i ≡ i = omega arith in ap (slice_get now) same))

    -- where nothing is told of, none is among these
    none_changed : (n : ℕ) (es : Values) → told watches start es ≡ [] → changed_from watches start n es ≡ []
    none_changed n [] none = refl
    none_changed n (e ∷ es) none = by (is_told watches start e) none (none_changed (suc n) es)
      where
        by : (b : Bool) → map change_of (cond b (e ∷ filter (is_told watches start) es) (filter (is_told watches start) es)) ≡ [] → (told watches start es ≡ [] → changed_from watches start (suc n) es ≡ [])
            → (if b then n ∷ changed_from watches start (suc n) es else changed_from watches start (suc n) es) ≡ []
        by true none on = absurd (cc)
        by false none on = on none

    pub told_some_of : changed_indices watches start now ≢ [] → told watches start now ≢ []
    told_some_of some none = some (none_changed 0 now none)

    pub told_some_at : (ns : List ℕ) (i : ℕ) → ns ≡ changed_indices watches start now → i < length ns → told watches start now ≢ []
    told_some_at ns i is within = told_some_of (λ none. absurd (omega (arith, within, ap length is, ap length none)))

  -- ---- a loop's step

  -- one index more
  pub told_next : (ns : List ℕ) (i : ℕ) (so_far more : List Change) (o : Option (List ℕ × Value)) → i < length ns → slice_get now (get_or ns i 0) ≡ o → so_far ≡ told_at (take i ns)
      → more ≡ so_far ++ told_one o → more ≡ told_at (take (i + 1) ns)
  told_next ns i so_far more o within at h added =
      added ∙ ap (λ cs. cs ++ told_one o) h ∙ ap (λ x. told_at (take i ns) ++ told_one x) (sym at) ∙ sym (told_more (take i ns) (get_or ns i 0))
      ∙ ap told_at (sym (take_more ns i 0 within))

-- where nobody watches nothing is told
pub told_nobody : {W : Type 0} (rows : Rows W) (start now : Values) → has_rows rows ≡ false → [] ≡ told (watches rows) start now
told_nobody {W} [] start [] h = refl
told_nobody {W} [] start (e ∷ es) h = told_nobody {W = W} [] start es h
told_nobody {W} (r ∷ rows) start now h = absurd (cc)

-- ---- of two lists of globals

module _ (watches : List ℕ → Bool) (start : Values) where
  pub told_split : (es fs : Values) → told watches start (es ++ fs) ≡ told watches start es ++ told watches start fs
  told_split [] fs = refl
  told_split (e ∷ es) fs = by (is_told watches start e) (told_split es fs)
    where
      by : (b : Bool) → told watches start (es ++ fs) ≡ told watches start es ++ told watches start fs
          → map change_of (cond b (e ∷ filter (is_told watches start) (es ++ fs)) (filter (is_told watches start) (es ++ fs))) ≡ map change_of (cond b (e ∷ filter (is_told watches start) es) (filter (is_told watches start) es)) ++ told watches start fs
      by true h = ap (λ cs. change_of e ∷ cs) h
      by false h = h

  -- up to the global at an index
  told_up : (now : Values) (i : ℕ) (e : List ℕ × Value) (b : Bool) → slice_get now i ≡ Some e → is_told watches start e ≡ b → told watches start (take (i + 1) now) ≡ told watches start (take i now) ++ cond b (change_of e ∷ []) []
  told_up now i e b at is =
      ap (told watches start) (take_more now i e (slice_get_within now i e at) ∙ ap (λ p. take i now ++ p ∷ []) (get_or_from_slice_get now i e e at))
      ∙ told_split (take i now) (e ∷ [])
      ∙ ap (λ cs. told watches start (take i now) ++ cs) (ap (λ b. map change_of (cond b (e ∷ []) [])) is ∙ one b)
    where
      one : (b : Bool) → map change_of (cond b (e ∷ []) []) ≡ cond b (change_of e ∷ []) []
      one true = refl
      one false = refl

  pub told_there : (now : Values) (i : ℕ) (e : List ℕ × Value) → slice_get now i ≡ Some e → watches e.0 ≡ true → is_other (stored e.0 start) e.1 ≡ true
      → told watches start (take (i + 1) now) ≡ told watches start (take i now) ++ change_of e ∷ []
  told_there now i e at watched other = told_up now i e true at (rw (watched, other) refl)

  pub told_unwatched : (now : Values) (i : ℕ) (e : List ℕ × Value) → slice_get now i ≡ Some e → watches e.0 ≡ false → told watches start (take (i + 1) now) ≡ told watches start (take i now)
  told_unwatched now i e at watched = told_up now i e false at (ap (λ b. b && is_other (stored e.0 start) e.1) watched) ∙ append-nil (told watches start (take i now))

  and_false : (a b : Bool) → b ≡ false → a && b ≡ false
  and_false true b h = h
  and_false false b h = refl

  pub told_same : (now : Values) (i : ℕ) (e : List ℕ × Value) → slice_get now i ≡ Some e → is_other (stored e.0 start) e.1 ≡ false → told watches start (take (i + 1) now) ≡ told watches start (take i now)
  told_same now i e at same = told_up now i e false at (and_false (watches e.0) _ same) ∙ append-nil (told watches start (take i now))

  past_end : (now : Values) (i : ℕ) → slice_get now i ≡ None → length now ≤ i
  past_end [] i h = omega arith
  past_end (e ∷ es) zero h = absurd (cc)
  past_end (e ∷ es) (suc i) h = omega (arith, past_end es i h)

  -- past the last one
  pub told_past : (now : Values) (i : ℕ) → slice_get now i ≡ None → told watches start (take (i + 1) now) ≡ told watches start (take i now)
  told_past now i none =
      let past : length now ≤ i = past_end now i none in
      ap (told watches start) (take_all (i + 1) now (omega (arith, past)) ∙ sym (take_all i now past))

  -- what is told is not nothing
  pub told_some : (now : Values) (i : ℕ) (e : List ℕ × Value) → slice_get now i ≡ Some e → watches e.0 ≡ true → is_other (stored e.0 start) e.1 ≡ true → told watches start now ≢ []
  told_some now i e at watched other none =
      absurd (never (told watches start (take i now)) (change_of e) (told watches start (drop (i + 1) now)) (
      sym (ap (λ cs. cs ++ told watches start (drop (i + 1) now)) (told_there now i e at watched other)) ∙ sym (told_split (take (i + 1) now) (drop (i + 1) now))
      ∙ ap (told watches start) (take-append-drop (i + 1) now) ∙ none))
    where
      never : (before : List Change) (c : Change) (after : List Change) → before ++ c ∷ [] ++ after ≡ [] → ⊥
      never [] c after h = absurd (cc)
      never (b ∷ before) c after h = absurd (cc)
