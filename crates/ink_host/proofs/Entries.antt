-- The entries of a map as rows.
use Rattle.std.proofs.Common.{◌≡◌, ◌∙◌, ◌<◌, ap, arith, refl, subst, sym, ℕ, zero, suc, List, [], ◌∷◌, ◌++◌, Bool, true, false, cond, is_some, Option, Some, None, String, Global, string_bytes, bytes_eq, get_or, length, position, slice_get, if◌then◌else◌}
use Rattle.std.proofs.lemmas.List.{append-nil}
use Rattle.std.proofs.lemmas.List.Quantifiers.{position-Some}
use Rattle.std.proofs.lemmas.Slice.Eq.{bytes_eq-Decides}
use Rattle.std.specs.Bool.{one_answer}
use Rattle.std.specs.Map.{keys_of, lookup, remove_entry, set_value, values_of}
use Rattle.std.specs.List.{AllByRecursion, IsDistinct}
use Rattle.std.specs.String.{string_eq}
use Rattle.std.specs.Option.{option_map}
use Rattle.indexmap.specs.IndexMap.{insert_entry, set_value_at}
use Rattle.ink_model.specs.declared.host.Event.{Event}
use Rattle.ink_model.specs.declared.host.Event.TheVariants.{Call}
use Rattle.ink_model.specs.declared.host.Given.{Given}
use Rattle.ink_model.specs.declared.value.Value.{Value}
use Rattle.ink_host.specs.Desk.{DeskView, Rows, StandsAt, among, at, by_log, called, each, logs, names, noting, put, entries_as_rows, value_at, without}
use Rattle.ink_host.specs.declared.objects.Bound.{Bound}
use Rattle.ink_host.specs.declared.objects.Bound.TheVariants as bound
use Rattle.ink_host.specs.declared.objects.Called.{Called}

-- ---- rows of entries

module _ {X : Type 0} where
  abbrev pub rows_of : List (String Global × X) → Rows X
  rows_of es = entries_as_rows string_bytes (λ x. x) es

  pub found : (name : List ℕ) (es : List (String Global × X)) → lookup (λ k. bytes_eq name (string_bytes k)) es ≡ at name (rows_of es)
  found name [] = refl
  found name (e ∷ es) = ap (λ r. if bytes_eq name (string_bytes e.0) then Some e.1 else r) (found name es)

  -- what was found and written is found
  pub found-written : (name : List ℕ) (x y : X) (es : List (String Global × X)) → lookup (λ k. bytes_eq name (string_bytes k)) es ≡ Some x
      → at name (rows_of (set_value (λ k. bytes_eq name (string_bytes k)) es y)) ≡ Some y
  found-written name x y [] h = absurd (cc)
  found-written name x y (e ∷ es) h = by (bytes_eq name (string_bytes e.0)) refl (found-written name x y es) h
    where
      by : (b : Bool) → bytes_eq name (string_bytes e.0) ≡ b
          → (lookup (λ k. bytes_eq name (string_bytes k)) es ≡ Some x → at name (rows_of (set_value (λ k. bytes_eq name (string_bytes k)) es y)) ≡ Some y)
          → cond b (Some e.1) (lookup (λ k. bytes_eq name (string_bytes k)) es) ≡ Some x
          → at name (rows_of (cond b ((e.0, y) ∷ es) (e ∷ set_value (λ k. bytes_eq name (string_bytes k)) es y))) ≡ Some y
      by true is more k = ap (λ b. if b then Some y else at name (rows_of es)) is
      by false is more k = ap (λ b. if b then Some e.1 else at name (rows_of (set_value (λ k. bytes_eq name (string_bytes k)) es y))) is ∙ more k

  pub none-there : (o : Option X) → None ≡ o → is_some o ≡ true → ⊥
  none-there None e h = cc
  none-there (Some x) e h = cc

  pub not-there : (o : Option X) → is_some o ≡ false → o ≡ None
  not-there None h = refl
  not-there (Some x) h = absurd (cc)

  -- what is written at a name that is there is put there
  pub rewritten : (name : List ℕ) (x y : X) (es : List (String Global × X)) → lookup (λ k. bytes_eq name (string_bytes k)) es ≡ Some x
      → rows_of (set_value (λ k. bytes_eq name (string_bytes k)) es y) ≡ put name y (rows_of es)
  rewritten name x y [] h = absurd (cc)
  rewritten name x y (e ∷ es) h = by (bytes_eq name (string_bytes e.0)) (rewritten name x y es) h
    where
      by : (b : Bool) → (lookup (λ k. bytes_eq name (string_bytes k)) es ≡ Some x → rows_of (set_value (λ k. bytes_eq name (string_bytes k)) es y) ≡ put name y (rows_of es))
          → cond b (Some e.1) (lookup (λ k. bytes_eq name (string_bytes k)) es) ≡ Some x
          → rows_of (cond b ((e.0, y) ∷ es) (e ∷ set_value (λ k. bytes_eq name (string_bytes k)) es y))
          ≡ (if b then (string_bytes e.0, y) ∷ rows_of es else (string_bytes e.0, e.1) ∷ put name y (rows_of es))
      by true more k = refl
      by false more k = ap (λ rows. (string_bytes e.0, e.1) ∷ rows) (more k)

  -- what stands at other names is as it was
  pub others-written : (name : List ℕ) (y : X) (es : List (String Global × X)) → without name (rows_of (set_value (λ k. bytes_eq name (string_bytes k)) es y)) ≡ without name (rows_of es)
  others-written name y [] = refl
  others-written name y (e ∷ es) = by (bytes_eq name (string_bytes e.0)) refl (others-written name y es)
    where
      by : (b : Bool) → bytes_eq name (string_bytes e.0) ≡ b → without name (rows_of (set_value (λ k. bytes_eq name (string_bytes k)) es y)) ≡ without name (rows_of es)
          → without name (rows_of (cond b ((e.0, y) ∷ es) (e ∷ set_value (λ k. bytes_eq name (string_bytes k)) es y)))
          ≡ (if b then rows_of es else (string_bytes e.0, e.1) ∷ without name (rows_of es))
      by true is more = ap (λ b. if b then rows_of es else (string_bytes e.0, y) ∷ without name (rows_of es)) is
      by false is more =
          ap (λ b. if b then rows_of (set_value (λ k. bytes_eq name (string_bytes k)) es y) else (string_bytes e.0, e.1) ∷ without name (rows_of (set_value (λ k. bytes_eq name (string_bytes k)) es y))) is
          ∙ ap (λ rows. (string_bytes e.0, e.1) ∷ rows) more

  pub kept : (key : String Global) (x : X) (es : List (String Global × X)) → rows_of (insert_entry string_eq es key x) ≡ put (string_bytes key) x (rows_of es)
  kept key x [] = refl
  kept key x (e ∷ es) = by (bytes_eq (string_bytes key) (string_bytes e.0)) (kept key x es)
    where
      by : (b : Bool) → rows_of (insert_entry string_eq es key x) ≡ put (string_bytes key) x (rows_of es)
          → rows_of (if b then (e.0, x) ∷ es else e ∷ insert_entry string_eq es key x) ≡ (if b then (string_bytes e.0, x) ∷ rows_of es else (string_bytes e.0, e.1) ∷ put (string_bytes key) x (rows_of es))
      by true more = refl
      by false more = ap (λ rows. (string_bytes e.0, e.1) ∷ rows) more

  pub removed : (name : List ℕ) (es : List (String Global × X)) → rows_of (remove_entry (λ k. bytes_eq name (string_bytes k)) es) ≡ without name (rows_of es)
  removed name [] = refl
  removed name (e ∷ es) = by (bytes_eq name (string_bytes e.0)) (removed name es)
    where
      by : (b : Bool) → rows_of (remove_entry (λ k. bytes_eq name (string_bytes k)) es) ≡ without name (rows_of es)
          → rows_of (cond b es (e ∷ remove_entry (λ k. bytes_eq name (string_bytes k)) es)) ≡ (if b then rows_of es else (string_bytes e.0, e.1) ∷ without name (rows_of es))
      by true more = refl
      by false more = ap (λ rows. (string_bytes e.0, e.1) ∷ rows) more

  -- ---- at a place

  -- the value of the row there, and of the entry
  pub there : (name : List ℕ) (i : ℕ) (rows : Rows X) → StandsAt name i rows → value_at i rows ≡ at name rows
  there name i [] h = absurd h
  there name zero (r ∷ rows) h = sym (ap (λ b. if b then Some r.1 else at name rows) h)
  there name (suc i) (r ∷ rows) h = there name i rows h.1 ∙ sym (ap (λ b. if b then Some r.1 else at name rows) h.0)

  pub pair-there : (i : ℕ) (es : List (String Global × X)) → option_map (λ p. p.1) (slice_get es i) ≡ value_at i (rows_of es)
  pair-there i [] = refl
  pair-there zero (e ∷ es) = refl
  pair-there (suc i) (e ∷ es) = pair-there i es

  pub value-there : (i : ℕ) (es : List (String Global × X)) → slice_get (values_of es) i ≡ value_at i (rows_of es)
  value-there i [] = refl
  value-there zero (e ∷ es) = refl
  value-there (suc i) (e ∷ es) = value-there i es

  -- what is written there is written at the name
  pub written-there : (name : List ℕ) (i : ℕ) (y : X) (es : List (String Global × X)) → StandsAt name i (rows_of es)
      → set_value_at es i y ≡ set_value (λ k. bytes_eq name (string_bytes k)) es y
  written-there name i y [] h = absurd h
  written-there name zero y (e ∷ es) h = sym (ap (λ b. cond b ((e.0, y) ∷ es) (e ∷ set_value (λ k. bytes_eq name (string_bytes k)) es y)) h)
  written-there name (suc i) y (e ∷ es) h =
      ap (λ l. e ∷ l) (written-there name i y es h.1) ∙ sym (ap (λ b. cond b ((e.0, y) ∷ es) (e ∷ set_value (λ k. bytes_eq name (string_bytes k)) es y)) h.0)

  pub looked-up : (name : List ℕ) (i : ℕ) (x : X) (es : List (String Global × X)) → StandsAt name i (rows_of es) → Some x ≡ slice_get (values_of es) i
      → lookup (λ k. bytes_eq name (string_bytes k)) es ≡ Some x
  looked-up name i x es h is = found name es ∙ sym (is ∙ value-there i es ∙ there name i (rows_of es) h)

  -- where a name is found
  pub found-place : (name : List ℕ) (es : List (String Global × X)) (i : ℕ) → position (λ k. bytes_eq name (string_bytes k)) (keys_of es) ≡ Some i → StandsAt name i (rows_of es)
  found-place name [] i h = absurd (cc)
  found-place name (x ∷ es) i h =
      let place = position-Some (λ k. bytes_eq name (string_bytes k)) (keys_of (x ∷ es)) i x.0 h in
      first (x ∷ es) i place.0 place.1 place.2
    where
      first : (es : List (String Global × X)) (i : ℕ) → i < length (keys_of es) → bytes_eq name (string_bytes (get_or (keys_of es) i x.0)) ≡ true
          → ((k : ℕ) → k < i → bytes_eq name (string_bytes (get_or (keys_of es) k x.0)) ≡ false) → StandsAt name i (rows_of es)
      first [] i l h before = absurd (omega arith)
      first (e ∷ es) zero l h before = h
      first (e ∷ es) (suc i) l h before =
          let more : i < length (keys_of es) = omega arith in
          let front : 0 < suc i = omega arith in
          (before 0 front, first es i more h (λ k under. let further : suc k < suc i = omega arith in before (suc k) further))

-- a name of a row is among the names
pub watched : {X : Type 0} (name : List ℕ) (rows : Rows X) → is_some (at name rows) ≡ among (names rows) name
watched name [] = refl
watched name (r ∷ rows) = by (bytes_eq name r.0) (watched name rows)
  where
    by : (b : Bool) → is_some (at name rows) ≡ among (names rows) name → is_some (if b then Some r.1 else at name rows) ≡ (if b then true else among (names rows) name)
    by true more = refl
    by false more = more

abbrev pub desk_of : {P T W : Type 0} → Rows (Bound P T) → Rows W → List Event → ℕ → DeskView P T W
desk_of fs ws es n = record { functions = fs; watchers = ws; events = es; next = n }

-- a place in a desk, as it is seen
pub seen : {P T W : Type 0} {a b : DeskView P T W} (name : List ℕ) (i : ℕ) → a ≡ b → StandsAt name i b.functions → StandsAt name i a.functions
seen name i is h = subst (λ d. StandsAt name i d.functions) (sym is) h

-- ---- calls

module _ {P T : Type 0} where
  pub none-not-some : (b : Bound P T) → ◌≡◌ {A = Option (Bound P T)} None (Some b) → ⊥
  none-not-some b h = cc

pub bytes_eq-sym : (a b : List ℕ) → bytes_eq a b ≡ bytes_eq b a
bytes_eq-sym a b =
    one_answer {P = a ≡ b} (bytes_eq a b) (bytes_eq b a) (bytes_eq-Decides a b) ((λ h. sym ((bytes_eq-Decides b a).0 h)), (λ h. (bytes_eq-Decides b a).1 (sym h)))

abbrev onto : {P : Type 0} → List ℕ → Bound P (List Called) → Rows (Bound P (List Called)) → Rows (Bound P (List Called))
onto k b rows = (k, b) ∷ rows

module _ {P T : Type 0} (log : T → List Called) where
  -- a function of another name is not called
  other : (name k : List ℕ) (arguments : List Value) (gave : Option Given) (n : ℕ) (b : Bound P (List Called)) → bytes_eq k name ≡ false
      → b ≡ called (Call name arguments gave n ∷ []) k b
  other name k arguments gave n (bound.Pure p) h = refl
  other name k arguments gave n (bound.Turn l) h =
      by (bytes_eq k name) h
    where
      by : (b : Bool) → b ≡ false → ◌≡◌ {A = Bound P (List Called)} (bound.Turn l) (bound.Turn (l ++ (if b then (record { stamp = n; arguments = arguments; gave = gave }) ∷ [] else [])))
      by true e = absurd (cc)
      by false e = ap (λ m. bound.Turn m) (sym (append-nil l))

  others : (name : List ℕ) (key : String Global) (arguments : List Value) (gave : Option Given) (n : ℕ) (es : List (String Global × Bound P T))
      → name ≡ string_bytes key → AllByRecursion (λ k. string_eq key k ≡ false) (keys_of es)
      → logs log (rows_of es) ≡ each (called (Call name arguments gave n ∷ [])) (logs log (rows_of es))
  others name key arguments gave n [] same all = refl
  others name key arguments gave n (e ∷ es) same all =
      let apart : bytes_eq (string_bytes e.0) name ≡ false = bytes_eq-sym (string_bytes e.0) name ∙ ap (λ m. bytes_eq m (string_bytes e.0)) same ∙ all.0 in
      ap (λ b. onto (string_bytes e.0) b (logs log (rows_of es))) (other name (string_bytes e.0) arguments gave n (by_log log e.1) apart)
      ∙ ap (onto (string_bytes e.0) (called (Call name arguments gave n ∷ []) (string_bytes e.0) (by_log log e.1))) (others name key arguments gave n es same all.1)

  -- the function of the name is called
  this : (name k : List ℕ) (arguments : List Value) (gave : Option Given) (n : ℕ) (b : Bound P (List Called)) → bytes_eq k name ≡ true
      → noting (record { stamp = n; arguments = arguments; gave = gave }) b ≡ called (Call name arguments gave n ∷ []) k b
  this name k arguments gave n (bound.Pure p) h = refl
  this name k arguments gave n (bound.Turn l) h = by (bytes_eq k name) h
    where
      by : (b : Bool) → b ≡ true → ◌≡◌ {A = Bound P (List Called)} (bound.Turn (l ++ (record { stamp = n; arguments = arguments; gave = gave }) ∷ []))
          (bound.Turn (l ++ (if b then (record { stamp = n; arguments = arguments; gave = gave }) ∷ [] else [])))
      by true e = refl
      by false e = absurd (cc)

  pub called-write : (name : List ℕ) (arguments : List Value) (gave : Option Given) (n : ℕ) (b b' : Bound P T) (es : List (String Global × Bound P T))
      → IsDistinct string_eq (keys_of es) → lookup (λ k. bytes_eq name (string_bytes k)) es ≡ Some b
      → by_log log b' ≡ noting (record { stamp = n; arguments = arguments; gave = gave }) (by_log log b)
      → logs log (rows_of (set_value (λ k. bytes_eq name (string_bytes k)) es b')) ≡ each (called (Call name arguments gave n ∷ [])) (logs log (rows_of es))
  unfolding IsDistinct
  called-write name arguments gave n b b' [] apart h more = refl
  called-write name arguments gave n b b' (e ∷ es) apart h more =
      by (bytes_eq name (string_bytes e.0)) refl (λ k. called-write name arguments gave n b b' es apart.1 k more) h
    where
      by : (yes : Bool) → bytes_eq name (string_bytes e.0) ≡ yes
          → (lookup (λ k. bytes_eq name (string_bytes k)) es ≡ Some b
          → logs log (rows_of (set_value (λ k. bytes_eq name (string_bytes k)) es b')) ≡ each (called (Call name arguments gave n ∷ [])) (logs log (rows_of es)))
          → cond yes (Some e.1) (lookup (λ k. bytes_eq name (string_bytes k)) es) ≡ Some b
          → logs log (rows_of (cond yes ((e.0, b') ∷ es) (e ∷ set_value (λ k. bytes_eq name (string_bytes k)) es b')))
          ≡ each (called (Call name arguments gave n ∷ [])) (logs log (rows_of (e ∷ es)))
      by true is rest k =
          let same : b ≡ e.1 = cc in
          let key : name ≡ string_bytes e.0 = (bytes_eq-Decides name (string_bytes e.0)).0 is in
          ap (λ rows. onto (string_bytes e.0) (by_log log b') rows) (others name e.0 arguments gave n es key apart.0)
          ∙ ap (λ b. onto (string_bytes e.0) b (each (called (Call name arguments gave n ∷ [])) (logs log (rows_of es))))
          (more ∙ this name (string_bytes e.0) arguments gave n (by_log log b) (bytes_eq-sym (string_bytes e.0) name ∙ is)
          ∙ ap (λ b. called (Call name arguments gave n ∷ []) (string_bytes e.0) (by_log log b)) same)
      by false is rest k =
          ap (λ b. onto (string_bytes e.0) b (logs log (rows_of (set_value (λ k. bytes_eq name (string_bytes k)) es b'))))
          (other name (string_bytes e.0) arguments gave n (by_log log e.1) (bytes_eq-sym (string_bytes e.0) name ∙ is))
          ∙ ap (onto (string_bytes e.0) (called (Call name arguments gave n ∷ []) (string_bytes e.0) (by_log log e.1))) (rest k)

  pub quiet-write : (name : List ℕ) (b b' : Bound P T) (es : List (String Global × Bound P T))
      → lookup (λ k. bytes_eq name (string_bytes k)) es ≡ Some b → by_log log b' ≡ by_log log b
      → logs log (rows_of (set_value (λ k. bytes_eq name (string_bytes k)) es b')) ≡ logs log (rows_of es)
  quiet-write name b b' [] h more = refl
  quiet-write name b b' (e ∷ es) h more = by (bytes_eq name (string_bytes e.0)) (λ k. quiet-write name b b' es k more) h
    where
      by : (yes : Bool)
          → (lookup (λ k. bytes_eq name (string_bytes k)) es ≡ Some b
          → logs log (rows_of (set_value (λ k. bytes_eq name (string_bytes k)) es b')) ≡ logs log (rows_of es))
          → cond yes (Some e.1) (lookup (λ k. bytes_eq name (string_bytes k)) es) ≡ Some b
          → logs log (rows_of (cond yes ((e.0, b') ∷ es) (e ∷ set_value (λ k. bytes_eq name (string_bytes k)) es b'))) ≡ logs log (rows_of (e ∷ es))
      by true rest k =
          let same : b ≡ e.1 = cc in
          ap (λ b. onto (string_bytes e.0) b (logs log (rows_of es))) (more ∙ ap (by_log log) same)
      by false rest k = ap (λ rows. onto (string_bytes e.0) (by_log log e.1) rows) (rest k)
