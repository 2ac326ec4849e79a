-- The bottom frame alone is the base, as it is tested.
use Rattle.std.proofs.Common.{◌≡◌, ◌∙◌, sym, ap, refl, List, [], ◌∷◌, ◌++◌, reverse, Bool, true, false, not, ◌&&◌}
use Rattle.std.proofs.Math.Bool.{and_comm, and-true}
use Rattle.ink_stack.proofs.Common.{reverse-append, BaseFirst, FrameOf, FrameKind}
use Rattle.std.proofs.lemmas.List.Folds.{list_all-append}
use Rattle.std.specs.List.{list_all}
use Rattle.ink_model.specs.declared.frame.FrameKind.TheVariants.{Base, Function, Tunnel}
use Rattle.ink_stack.specs.Saving.{base_first, is_call}

all_reversed : {A : Type 0} (test : A → Bool) (xs : List A) → list_all test (reverse xs) ≡ list_all test xs
all_reversed test [] = refl
all_reversed test (x ∷ xs) =
    ap (list_all test) (reverse-append (x ∷ []) xs) ∙ list_all-append test (reverse xs) (x ∷ []) ∙ ap (λ b. b && (test x && true)) (all_reversed test xs)
    ∙ and_comm (list_all test xs) (test x && true) ∙ ap (λ b. b && list_all test xs) (and-true (test x))

-- two that come first change places
swapped : (a b r : Bool) → (a && (b && r)) ≡ (b && (a && r))
swapped true b r = refl
swapped false true r = refl
swapped false false r = refl

module _ {P : Type 0} where
  abbrev calls : FrameOf P → Bool
  calls f = is_call f.kind

  -- of a frame of a kind and those below it, the nearest first, the bottom one alone is the base
  abbrev pub based : FrameKind → List (FrameOf P) → Bool
  based k [] = not (is_call k)
  based k (f ∷ fs) = is_call k && based f.kind fs

  based_last : (k : FrameKind) (fs : List (FrameOf P)) (b : FrameOf P) → based k (fs ++ b ∷ []) ≡ (not (is_call b.kind) && (is_call k && list_all calls fs))
  based_last k [] b = and_comm (is_call k) (not (is_call b.kind)) ∙ ap (λ x. not (is_call b.kind) && x) (sym (and-true (is_call k)))
  based_last k (f ∷ fs) b = ap (λ x. is_call k && x) (based_last f.kind fs b) ∙ swapped (is_call k) (not (is_call b.kind)) (calls f && list_all calls fs)

  pub base_is : (bs : List (FrameOf P)) (t : FrameOf P) → base_first (bs ++ t ∷ []) ≡ based t.kind (reverse bs)
  base_is [] t = and-true (not (is_call t.kind))
  base_is (b ∷ bs) t =
      ap (λ x. not (is_call b.kind) && x)
      (list_all-append calls bs (t ∷ []) ∙ swapped (list_all calls bs) (calls t) true ∙ ap (λ x. calls t && x) (and-true (list_all calls bs) ∙ sym (all_reversed calls bs)))
      ∙ sym (ap (based t.kind) (reverse-append (b ∷ []) bs) ∙ based_last t.kind (reverse bs) b)

pub based_to : {P : Type 0} (k : FrameKind) (fs : List (FrameOf P)) → based k fs ≡ true → BaseFirst k fs
based_to Base [] e = refl
based_to Function [] e = absurd cc
based_to Tunnel [] e = absurd cc
based_to Base (f ∷ fs) e = absurd cc
based_to Function (f ∷ fs) e = (λ h. cc, based_to f.kind fs e)
based_to Tunnel (f ∷ fs) e = (λ h. cc, based_to f.kind fs e)

pub based_from : {P : Type 0} (k : FrameKind) (fs : List (FrameOf P)) → BaseFirst k fs → based k fs ≡ true
based_from Base [] h = refl
based_from Function [] h = absurd cc
based_from Tunnel [] h = absurd cc
based_from Base (f ∷ fs) h = absurd (h.0 refl)
based_from Function (f ∷ fs) h = based_from f.kind fs h.1
based_from Tunnel (f ∷ fs) h = based_from f.kind fs h.1

-- the frames from the bottom one up, as a thread holds them
pub bottom_base : {P : Type 0} (bs : List (FrameOf P)) (t : FrameOf P) (fs : List (FrameOf P)) → fs ≡ bs ++ t ∷ [] → base_first fs ≡ true → BaseFirst t.kind (reverse bs)
bottom_base bs t fs e h = based_to t.kind (reverse bs) (sym (base_is bs t) ∙ sym (ap base_first e) ∙ h)
