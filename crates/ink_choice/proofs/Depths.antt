-- Values by their depths.
use Rattle.std.proofs.Common.{◌≡◌, ◌∙◌, ◌≤◌, ◌-◌, ◌+◌, ℕ, List, ◌∷◌, ◌++◌, drop, if◌then◌else◌, length, nat_le, option_map, reverse, take, true, None, Some, ap, arith, slice_get, subst, sym}
use Rattle.std.proofs.Math.Seq.{drop-append_seam}
use Rattle.std.proofs.lemmas.Bool.Decides.{nat_tests}
use Rattle.std.proofs.lemmas.List.{drop_more, length-drop, length-reverse, reverse-append, take-append-drop}
use Rattle.std.proofs.lemmas.Option.{get_or_from_slice_get, slice_get_within}
use Rattle.ink_model.specs.Run.Step.Host.{arguments_on}
use Rattle.ink_model.specs.declared.value.Value.{Value}
use Rattle.ink_trail.proofs.Undoing.{trails-after}
use Rattle.ink_trail.specs.Undo.{KeepsTrail, TrailView, Trails}
use Rattle.ink_value.specs.Undo.{stack_back}
use Rattle.ink_value.specs.declared.undo.StackPair.{StackPair}

pub drop_found : {X : Type 0} (xs : List X) (i : ℕ) (x : X) → slice_get xs i ≡ Some x → drop i xs ≡ x ∷ drop (i + 1) xs
drop_found xs i x h = drop_more xs i x (slice_get_within xs i x h) ∙ ap (λ y. y ∷ drop (i + 1) xs) (get_or_from_slice_get xs i x x h)

-- ---- popping

pub dropped_some : (old new : List Value) (n : ℕ) → n ≤ length old → option_map (λ (r : List Value × List Value). r.1) (arguments_on n old) ≡ Some new → reverse new ≡ drop n (reverse old)
dropped_some old new n h is =
    let m = length old - n in
    let test : nat_le n (length old) ≡ true = grind (arith, nat_tests) in
    let found : Some (take m old) ≡ Some new = sym (ap (λ b. option_map (λ (r : List Value × List Value). r.1) (if b then Some (drop m old, take m old) else None)) test) ∙ is in
    let rest : take m old ≡ new = cc in
    let parts : reverse old ≡ reverse (drop m old) ++ reverse (take m old) = ap reverse (sym (take-append-drop m old)) ∙ reverse-append (take m old) (drop m old) in
    let long : length (reverse (drop m old)) ≡ n = omega (arith, length-reverse (drop m old), length-drop m old, h) in
    ap reverse (sym rest)
    ∙ sym (ap (drop n) parts ∙ ap (λ k. drop k (reverse (drop m old) ++ reverse (take m old))) (sym long) ∙ drop-append_seam (reverse (drop m old)) (reverse (take m old)))

pub dropped_count : (old new : List Value) (n : ℕ) → n ≤ length old → reverse new ≡ drop n (reverse old) → n ≡ length old - length new
dropped_count old new n h is =
    omega (arith, ap length is, length-reverse new, length-drop n (reverse old), length-reverse old, h)

-- what there is room for is popped
pub popped : (n : ℕ) (was there is : List Value) (old ready new : TrailView StackPair) → there ≡ was → KeepsTrail old ready → n ≡ length there - length is
    → Trails stack_back n there ready is new → Trails stack_back (length was - length is) was old is new
popped n was there is old ready new same kept count h =
    trails-after stack_back (length was - length is) was is old ready new kept
    (subst (λ vs. Trails stack_back (length vs - length is) vs ready is new) same (subst (λ k. Trails stack_back k there ready is new) count h))
