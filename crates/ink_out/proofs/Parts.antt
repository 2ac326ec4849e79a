-- The pieces of a text, as parts of it.
use Rattle.std.proofs.Common.{◌≡◌, ◌∙◌, ◌+◌, ◌-◌, ℕ, List, [], ◌∷◌, ◌++◌, true, false, drop, take, length, arith, ap, refl, sym}
use Rattle.std.proofs.lemmas.List.{append_assoc, drop-drop, take_rest}
use Rattle.ink_model.specs.Text.Bytes.{has_newline, is_blank, is_white, leading, trailing, trimmed, without}
use Rattle.ink_model.specs.Text.Mark.{cut, cut_end, piece}
use Rattle.ink_out.proofs.Common.{Mark, Newline}

part_behind : (cs : List ℕ) (from k : ℕ) → take (from + k - from) (drop from cs) ≡ take k (drop from cs)
part_behind cs from k = let e : from + k - from ≡ k = omega arith in ap (λ n. take n (drop from cs)) e

rest_behind : (cs : List ℕ) (from k : ℕ) → take (length cs - (from + k)) (drop (from + k) cs) ≡ drop k (drop from cs)
rest_behind cs from k = take_rest cs (from + k) ∙ sym (drop-drop k from cs ∙ ap (λ n. drop n cs) (omega arith))

-- ---- what follows a white beginning

end_is : (s : List ℕ) → true ≡ has_newline (trailing is_white s) → piece (trimmed is_white s ++ leading is_blank (trailing is_white s)) ++ Newline ∷ piece (trailing is_blank s) ≡ cut_end s
end_is s found = rw (sym found) refl

pub end_cut : (cs s : List ℕ) (m0 m1 m2 : List Mark) (from before after : ℕ) → s ≡ drop from cs → true ≡ has_newline (trailing is_white s)
    → take before s ≡ trimmed is_white s ++ leading is_blank (trailing is_white s) → drop after s ≡ trailing is_blank s
    → m1 ≡ m0 ++ (piece (take (from + before - from) (drop from cs)) ++ Newline ∷ [])
    → m2 ≡ m1 ++ piece (take (length cs - (from + after)) (drop (from + after) cs)) → m2 ≡ m0 ++ cut_end (drop from cs)
end_cut cs s m0 m1 m2 from before after is found first last one two =
    let front = trimmed is_white s ++ leading is_blank (trailing is_white s) in
    let back = trailing is_blank s in
    let a : take (from + before - from) (drop from cs) ≡ front = part_behind cs from before ∙ ap (take before) (sym is) ∙ first in
    let b : take (length cs - (from + after)) (drop (from + after) cs) ≡ back = rest_behind cs from after ∙ ap (drop after) (sym is) ∙ last in
    two ∙ ap (λ t. m1 ++ piece t) b
    ∙ ap (λ ms. ms ++ piece back) (one ∙ ap (λ t. m0 ++ (piece t ++ Newline ∷ [])) a)
    ∙ append_assoc m0 (piece front ++ Newline ∷ []) (piece back)
    ∙ ap (λ ms. m0 ++ ms) (append_assoc (piece front) (Newline ∷ []) (piece back) ∙ end_is s found ∙ ap cut_end is)

-- ---- a white beginning

pub start_cut : (cs : List ℕ) (m0 m1 m2 : List Mark) (before after : ℕ) → true ≡ has_newline (leading is_white cs) → take before cs ≡ leading is_blank cs
    → drop after cs ≡ trailing is_blank (leading is_white cs) ++ without is_white cs → m1 ≡ m0 ++ (piece (take (before - 0) (drop 0 cs)) ++ Newline ∷ [])
    → m2 ≡ m1 ++ cut_end (drop after cs) → m2 ≡ m0 ++ cut cs
unfolding cut
start_cut cs m0 m1 m2 before after found first last one two =
    let front = leading is_blank cs in
    let back = trailing is_blank (leading is_white cs) ++ without is_white cs in
    let all : before - 0 ≡ before = omega arith in
    let a : take (before - 0) (drop 0 cs) ≡ front = ap (λ n. take n cs) all ∙ first in
    rw (sym found)
    (two ∙ ap (λ t. m1 ++ cut_end t) last
    ∙ ap (λ ms. ms ++ cut_end back) (one ∙ ap (λ t. m0 ++ (piece t ++ Newline ∷ [])) a)
    ∙ append_assoc m0 (piece front ++ Newline ∷ []) (cut_end back)
    ∙ ap (λ ms. m0 ++ ms) (append_assoc (piece front) (Newline ∷ []) (cut_end back)))

pub no_start_cut : (cs : List ℕ) (m0 m1 : List Mark) → false ≡ has_newline (leading is_white cs) → m1 ≡ m0 ++ cut_end (drop 0 cs) → m1 ≡ m0 ++ cut cs
unfolding cut
no_start_cut cs m0 m1 found one = rw (sym found) one
