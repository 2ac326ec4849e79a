-- What a thread keeps in mind of the frames below its top one, as frames come and go. In a list the nearest is the last.
use Rattle.std.proofs.Common.{◌≡◌, ◌∙◌, ◌<◌, ◌≤◌, ℕ, List, [], ◌∷◌, ◌++◌, true, Option, Some, None, IfSome, IsSomeAnd, ap, arith, length, reverse, subst, sym}
use Rattle.ink_stack.proofs.Common.{length-append, reverse-append, BaseFirst, FrameOf, is_function, FrameKind, MAX_FRAMES, Covers, IsQuiet, Settled}
use Rattle.ink_stack.proofs.Bases.{base_popped, base_same}
use Rattle.ink_stack.proofs.Quietness.{quiet_weaker}
use Rattle.ink_stack.proofs.Settling.{settled_fewer}

module _ {P : Type 0} where
  -- ---- a frame more

  pub quiet_more : (f : FrameOf P) (items : List (FrameOf P)) (old new : Option ℕ) → IfSome old (λ n. IsQuiet n (reverse items)) → Covers old f new
      → IfSome new (λ n. IsQuiet n (reverse (items ++ f ∷ [])))
  quiet_more f items old None quiet covers = tt
  quiet_more f items old (Some n) quiet covers = subst (λ fs. IsQuiet n fs) (sym (reverse-append items (f ∷ []))) (λ function. let c = covers function in (c.0, by old quiet c.1))
    where
      by : (old : Option ℕ) → IfSome old (λ m. IsQuiet m (reverse items)) → IsSomeAnd old (λ m. m ≤ n) → IsQuiet n (reverse items)
      by None quiet least = absurd least
      by (Some m) quiet least = quiet_weaker m n (reverse items) least quiet

  pub base_more : (j k : FrameKind) (f g : FrameOf P) (items : List (FrameOf P)) → j ≡ k → f ≡ g → BaseFirst k (g ∷ reverse items) → BaseFirst j (reverse (items ++ f ∷ []))
  base_more j k f g items kind same h =
      subst (λ fs. BaseFirst j fs) (sym (reverse-append items (f ∷ []))) (base_same k j (f ∷ reverse items) kind (subst (λ e. BaseFirst k (e ∷ reverse items)) (sym same) h))

  -- ---- a frame fewer

  whole : (f : FrameOf P) (rest items : List (FrameOf P)) → items ≡ rest ++ f ∷ [] → reverse items ≡ f ∷ reverse rest
  whole f rest items is = ap reverse is ∙ reverse-append rest (f ∷ [])

  quiet_fewer : (f : FrameOf P) (rest items : List (FrameOf P)) (old new : Option ℕ) → items ≡ rest ++ f ∷ [] → IfSome old (λ n. IsQuiet n (reverse items))
      → IfSome new (λ n. (is_function f.kind ≡ true) × (old ≡ Some n)) → IfSome new (λ n. IsQuiet n (reverse rest))
  quiet_fewer f rest items old None is h k = tt
  quiet_fewer f rest items old (Some n) is h k =
      let all : IsQuiet n (reverse items) = subst (λ q. IfSome q (λ m. IsQuiet m (reverse items))) k.1 h in
      (subst (λ fs. IsQuiet n fs) (whole f rest items is) all k.0).1

  base_fewer : (j k : FrameKind) (f : FrameOf P) (rest items : List (FrameOf P)) → j ≡ f.kind → items ≡ rest ++ f ∷ [] → BaseFirst k (reverse items) → BaseFirst j (reverse rest)
  base_fewer j k f rest items kind is h = base_same f.kind j (reverse rest) kind (base_popped k rest f (subst (λ fs. BaseFirst k (reverse fs)) is h))

  -- what is kept in mind of frames below one of a kind
  abbrev Kept : Option ℕ → FrameKind → ℕ → List (FrameOf P) → Type 0
  Kept quiet kind settled items =
      (length items < MAX_FRAMES) × IfSome quiet (λ n. IsQuiet n (reverse items)) × BaseFirst kind (reverse items) × Settled settled items

  pub kept_fewer : (j k : FrameKind) (f : FrameOf P) (rest items : List (FrameOf P)) (old new : Option ℕ) (m n : ℕ) → j ≡ f.kind → items ≡ rest ++ f ∷ []
      → IfSome new (λ d. (is_function f.kind ≡ true) × (old ≡ Some d)) → m ≤ n → m ≤ length rest → Kept old k n items → Kept new j m rest
  kept_fewer j k f rest items old new m n kind is quiet few inside h = (
    omega (arith, ap length is ∙ length-append rest (f ∷ []), h.0),
    quiet_fewer f rest items old new is h.1 quiet,
    base_fewer j k f rest items kind is h.2,
    settled_fewer m n rest (f ∷ []) few inside (subst (Settled n) is h.3),
  )
