-- Rows of watchers, changed by name.
use Rattle.std.proofs.Common.{◌≡◌, ◌∙◌, refl, sym, ap, ℕ, List, [], ◌∷◌, Bool, true, false, cond, if◌then◌else◌, Some, None, String, Global, string_bytes, bytes_eq, Result, Ok, Err, OnOk, OnErr}
use Rattle.std.specs.Map.{keys_of, lookup, set_value}
use Rattle.std.specs.String.{string_eq}
use Rattle.std.specs.List.{IsDistinct, AllByRecursion}
use Rattle.std.proofs.lemmas.Slice.Eq.{bytes_eq-Decides}
use Rattle.ink_host.specs.Desk.{Rows, Resting, each, entries_as_rows}
use Rattle.ink_host.specs.Telling.{Watching, Stand, change, rests, standing}

-- ---- names

pub same_name : (m n : List ℕ) → bytes_eq m n ≡ true → m ≡ n
same_name m n h = (bytes_eq-Decides m n).0 h

pub other_name : (m n : List ℕ) → bytes_eq m n ≡ false → bytes_eq n m ≡ false
other_name m n h = by (bytes_eq n m) refl
  where
    by : (b : Bool) → bytes_eq n m ≡ b → bytes_eq n m ≡ false
    by false e = e
    by true e = absurd (cc ((bytes_eq-Decides m n).1 (sym (same_name n m e)), h))

-- ---- rows

pub each-each : {X Y Z : Type 0} (g : List ℕ → Y → Z) (f : List ℕ → X → Y) (rows : Rows X) → each g (each f rows) ≡ each (λ n x. g n (f n x)) rows
each-each g f [] = refl
each-each g f (r ∷ rows) = ap (λ rs. (r.0, g r.0 (f r.0 r.1)) ∷ rs) (each-each g f rows)

pub each-same : {X Y : Type 0} (f g : List ℕ → X → Y) → ((n : List ℕ) (x : X) → f n x ≡ g n x) → (rows : Rows X) → each f rows ≡ each g rows
each-same f g h [] = refl
each-same f g h (r ∷ rows) = ap (λ y. (r.0, y) ∷ each f rows) (h r.0 r.1) ∙ ap (λ rs. (r.0, g r.0 r.1) ∷ rs) (each-same f g h rows)

-- ---- a write in a map

module _ {W : Type 0} (state : W → Watching) where
  pub change-absent : (n : List ℕ) (f : Watching → Watching) (es : List (String Global × W)) → lookup (λ k. bytes_eq n (string_bytes k)) es ≡ None
      → standing string_bytes state es ≡ change n f (standing string_bytes state es)
  change-absent n f [] h = refl
  change-absent n f (e ∷ es) h = by (bytes_eq n (string_bytes e.0)) (change-absent n f es) h
    where
      by : (b : Bool) → (lookup (λ k. bytes_eq n (string_bytes k)) es ≡ None → standing string_bytes state es ≡ change n f (standing string_bytes state es))
          → cond b (Some e.1) (lookup (λ k. bytes_eq n (string_bytes k)) es) ≡ None
          → (string_bytes e.0, state e.1) ∷ standing string_bytes state es
          ≡ (string_bytes e.0, if b then f (state e.1) else state e.1) ∷ change n f (standing string_bytes state es)
      by true more k = absurd (cc)
      by false more k = ap (λ rs. (string_bytes e.0, state e.1) ∷ rs) (more k)

  -- no key past an equal one
  past : (n : List ℕ) (key : String Global) (es : List (String Global × W)) → bytes_eq n (string_bytes key) ≡ true
      → AllByRecursion (λ k. string_eq key k ≡ false) (keys_of es) → lookup (λ k. bytes_eq n (string_bytes k)) es ≡ None
  past n key [] h a = refl
  past n key (e ∷ es) h a =
      let other : bytes_eq n (string_bytes e.0) ≡ false = ap (λ m. bytes_eq m (string_bytes e.0)) (same_name n (string_bytes key) h) ∙ a.0 in
      ap (λ b. cond b (Some e.1) (lookup (λ k. bytes_eq n (string_bytes k)) es)) other ∙ past n key es h a.1

  pub change-write : (n : List ℕ) (f : Watching → Watching) (es : List (String Global × W)) (w v : W) → IsDistinct string_eq (keys_of es)
      → lookup (λ k. bytes_eq n (string_bytes k)) es ≡ Some w → state v ≡ f (state w)
      → standing string_bytes state (set_value (λ k. bytes_eq n (string_bytes k)) es v) ≡ change n f (standing string_bytes state es)
  unfolding IsDistinct
  change-write n f [] w v d h s = refl
  change-write n f (e ∷ es) w v d h s = by (bytes_eq n (string_bytes e.0)) refl (change-write n f es w v d.1) h
    where
      by : (b : Bool) → bytes_eq n (string_bytes e.0) ≡ b
          → (lookup (λ k. bytes_eq n (string_bytes k)) es ≡ Some w → state v ≡ f (state w) → standing string_bytes state (set_value (λ k. bytes_eq n (string_bytes k)) es v) ≡ change n f (standing string_bytes state es))
          → cond b (Some e.1) (lookup (λ k. bytes_eq n (string_bytes k)) es) ≡ Some w
          → standing string_bytes state (cond b ((e.0, v) ∷ es) (e ∷ set_value (λ k. bytes_eq n (string_bytes k)) es v))
          ≡ (string_bytes e.0, if b then f (state e.1) else state e.1) ∷ change n f (standing string_bytes state es)
      by true is more k =
          let same : w ≡ e.1 = cc in
          ap (λ t. (string_bytes e.0, t) ∷ standing string_bytes state es) (s ∙ ap (λ x. f (state x)) same)
          ∙ ap (λ rs. (string_bytes e.0, f (state e.1)) ∷ rs) (change-absent n f es (past n e.0 es is d.0))
      by false is more k = ap (λ rs. (string_bytes e.0, state e.1) ∷ rs) (more k s)

  -- what stands of the one that is found
  pub stands_found : (n : List ℕ) (b : Bool) (es : List (String Global × W)) (w : W) → lookup (λ k. bytes_eq n (string_bytes k)) es ≡ Some w
      → Stand (bytes_eq n) b (standing string_bytes state es) → (state w).resting ≡ b
  stands_found n b [] w h a = absurd (cc)
  stands_found n b (e ∷ es) w h a = by (bytes_eq n (string_bytes e.0)) (stands_found n b es w) h a.0 a.1
    where
      by : (t : Bool) → (lookup (λ k. bytes_eq n (string_bytes k)) es ≡ Some w → Stand (bytes_eq n) b (standing string_bytes state es) → (state w).resting ≡ b)
          → cond t (Some e.1) (lookup (λ k. bytes_eq n (string_bytes k)) es) ≡ Some w → (t ≡ true → (state e.1).resting ≡ b) → Stand (bytes_eq n) b (standing string_bytes state es) → (state w).resting ≡ b
      by true more k here rest = let same : w ≡ e.1 = cc in ap (λ x. (state x).resting) same ∙ here refl
      by false more k here rest = more k rest

  -- all at rest
  pub stand-resting : (test : List ℕ → Bool) (es : List (String Global × W)) → Resting (rests state) (entries_as_rows string_bytes (λ w. w) es) → Stand test true (standing string_bytes state es)
  stand-resting test [] h = tt
  stand-resting test (e ∷ es) h = (λ _. h.0, stand-resting test es h.1)

  pub resting-stand : (es : List (String Global × W)) → Stand (λ n. true) true (standing string_bytes state es) → Resting (rests state) (entries_as_rows string_bytes (λ w. w) es)
  resting-stand [] h = tt
  resting-stand (e ∷ es) h = (h.0 refl, resting-stand es h.1)

-- ---- who is at rest after a change of all rows

pub stand-each : (test over : List ℕ → Bool) (b d : Bool) (g : List ℕ → Watching → Watching) (rows : Rows Watching)
    → ((n : List ℕ) (s : Watching) → over n ≡ true → (test n ≡ true → s.resting ≡ b) → (g n s).resting ≡ d) → Stand test b rows → Stand over d (each g rows)
stand-each test over b d g [] h a = tt
stand-each test over b d g (r ∷ rows) h a = (λ t. h r.0 r.1 t a.0, stand-each test over b d g rows h a.1)

pub stand-fewer : (test over : List ℕ → Bool) (b : Bool) (rows : Rows Watching) → ((n : List ℕ) → over n ≡ true → test n ≡ true) → Stand test b rows → Stand over b rows
stand-fewer test over b [] h a = tt
stand-fewer test over b (r ∷ rows) h a = (λ t. a.0 (h r.0 t), stand-fewer test over b rows h a.1)

-- ---- results

pub on_ok : {A E P Q : Type 0} (r : Result A E) → (P → Q) → OnOk r P → OnOk r Q
on_ok (Ok x) f p = f p
on_ok (Err e) f p = tt

pub on_err : {A E P Q : Type 0} (r : Result A E) → (P → Q) → OnErr r P → OnErr r Q
on_err (Ok x) f p = tt
on_err (Err e) f p = f p

pub if_err : {A E P : Type 0} (r : Result A E) → P → OnErr r P
if_err (Ok x) p = tt
if_err (Err e) p = p
