-- Headers of which the lowest do not have the number of their Enter. In a list the bottom one is the first.
use Rattle.std.proofs.Common.{◌≡◌, ◌∙◌, ◌≤◌, ◌+◌, ◌-◌, ℕ, zero, suc, List, [], ◌∷◌, ◌++◌, ap, append_assoc, arith, drop, length, map, refl, subst, sym, take}
use Rattle.std.proofs.Math.Seq.{drop-append-add, take-append-add}
use Rattle.ink_frames.proofs.Common.{FrameOf, Values, framed, Settled}
use Rattle.ink_frames.specs.Frames.{unnumbered}
use Rattle.ink_frames.specs.declared.frame.Header.{Header}

module _ {P : Type 0} where
  pub settled_within : (n : ℕ) (fs : List (FrameOf P)) → Settled n fs → n ≤ length fs
  settled_within zero fs h = omega arith
  settled_within (suc n) [] h = absurd h
  settled_within (suc n) (f ∷ fs) h = omega (arith, settled_within n fs h.1)

  -- only from a header on
  unnumbered_from : (n : ℕ) (hs : List (Header P)) (ts : List Values) → Settled n (framed hs ts) → take n hs ++ map unnumbered (drop n hs) ≡ map unnumbered hs
  unnumbered_from zero hs ts h = refl
  unnumbered_from (suc n) [] ts h = absurd h
  unnumbered_from (suc n) (x ∷ hs) [] h = ap (λ e. record x { enter = e } ∷ (take n hs ++ map unnumbered (drop n hs))) h.0 ∙ ap (λ xs. unnumbered x ∷ xs) (unnumbered_from n hs [] h.1)
  unnumbered_from (suc n) (x ∷ hs) (t ∷ ts) h = ap (λ e. record x { enter = e } ∷ (take n hs ++ map unnumbered (drop n hs))) h.0 ∙ ap (λ xs. unnumbered x ∷ xs) (unnumbered_from n hs ts h.1)

  pub unnumbered_own : (ls own : List (Header P)) (ts : List Values) (n : ℕ) → length ls ≤ n → Settled n (framed (ls ++ own) ts)
      → ls ++ (take (n - length ls) own ++ map unnumbered (drop (n - length ls) own)) ≡ map unnumbered (ls ++ own)
  unnumbered_own ls own ts n shared h =
      let k = n - length ls in
      let is : n ≡ length ls + k = omega arith in
      sym (append_assoc ls (take k own) (map unnumbered (drop k own)))
      ∙ (λ i. sym (take-append-add ls own k) i ++ map unnumbered (sym (drop-append-add ls own k) i))
      ∙ unnumbered_from (length ls + k) (ls ++ own) ts (subst (λ m. Settled m (framed (ls ++ own) ts)) is h)
