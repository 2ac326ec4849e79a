-- Components joined by dots, one more at a time.
use Rattle.std.proofs.Common.{◌≡◌, ◌≢◌, ℕ, zero, suc, ◌+◌, ◌<◌, ◌≤◌, List, [], ◌∷◌, ◌++◌, length, map, take, get_or, cond, if◌then◌else◌, Bool, true, false, ap, subst, ◌∙◌, sym, refl, arith, append_assoc, append-nil, decimal, ◌^◌}
use Rattle.std.proofs.lemmas.List.{take_more, map-append, length-map, length-take-le}
use Rattle.std.proofs.lemmas.Bool.{lt-ltb}
use Rattle.std.proofs.lemmas.Fmt.{decimal_nonempty}
use Rattle.ink_model.specs.Story.Path.{part_text}
use Rattle.ink_model.specs.Text.Bytes.{joined}
use Rattle.ink_model.specs.declared.place.Part.{Part}
use Rattle.ink_path.specs.Laws.{dot_before}

joined_next : (x : List ℕ) (xs : List (List ℕ)) (y : List ℕ) → joined 46 (x ∷ (xs ++ y ∷ [])) ≡ joined 46 (x ∷ xs) ++ 46 ∷ y
joined_next x [] y = refl
joined_next x (z ∷ zs) y = ap (λ l. x ++ 46 ∷ l) (joined_next z zs y) ∙ sym (append_assoc x (46 ∷ joined 46 (z ∷ zs)) (46 ∷ y))

some_next : (ps : List Part) (p : Part) → 0 < length ps → joined 46 (map part_text (ps ++ p ∷ [])) ≡ joined 46 (map part_text ps) ++ 46 ∷ part_text p
some_next [] p h = let no : ⊥ = omega arith in absurd no
some_next (q ∷ qs) p h = ap (λ l. joined 46 (part_text q ∷ l)) (map-append part_text qs (p ∷ [])) ∙ joined_next (part_text q) (map part_text qs) (part_text p)

-- a list taken up to an element and with it
more : (ps : List Part) (i : ℕ) (p : Part) → i < length ps → p ≡ get_or ps i p → take (i + 1) ps ≡ take i ps ++ p ∷ []
more ps i p h e = take_more ps i p h ∙ ap (λ x. take i ps ++ x ∷ []) (sym e)

first_written : (ps : List Part) (i : ℕ) (p : Part) (old now new : List ℕ) → i < length ps → p ≡ get_or ps i p → i ≤ 0
    → now ≡ old ++ joined 46 (map part_text (take i ps)) → new ≡ now ++ part_text p → new ≡ old ++ joined 46 (map part_text (take (i + 1) ps))
first_written ps i p old now new h e none n w =
    let zeroth : i ≡ 0 = omega arith in
    let none_yet : take i ps ≡ [] = ap (λ k. take k ps) zeroth in
    let start : now ≡ old = n ∙ ap (λ l. old ++ joined 46 (map part_text l)) none_yet ∙ append-nil old in
    w ∙ ap (λ l. l ++ part_text p) start ∙ ap (λ l. old ++ joined 46 (map part_text l)) (sym (more ps i p h e ∙ ap (λ l. l ++ p ∷ []) none_yet))

next_written : (ps : List Part) (i : ℕ) (p : Part) (old now dot new : List ℕ) → i < length ps → p ≡ get_or ps i p → 0 < i
    → now ≡ old ++ joined 46 (map part_text (take i ps)) → dot ≡ now ++ 46 ∷ [] → new ≡ dot ++ part_text p → new ≡ old ++ joined 46 (map part_text (take (i + 1) ps))
next_written ps i p old now dot new h e some n d w =
    let any : 0 < length (take i ps) = omega (arith, length-take-le i ps) in
    w ∙ ap (λ l. l ++ part_text p) d ∙ append_assoc now (46 ∷ []) (part_text p) ∙ ap (λ l. l ++ 46 ∷ part_text p) n
    ∙ append_assoc old (joined 46 (map part_text (take i ps))) (46 ∷ part_text p) ∙ ap (λ l. old ++ l) (sym (some_next (take i ps) p any) ∙ ap (λ l. joined 46 (map part_text l)) (sym (more ps i p h e)))

-- what is written so far, with the component at an index behind it
pub part_written : (ps : List Part) (i : ℕ) (p : Part) (old now dot new : List ℕ) → i < length ps → p ≡ get_or ps i p
    → now ≡ old ++ joined 46 (map part_text (take i ps)) → dot ≡ now ++ dot_before i → new ≡ dot ++ part_text p → new ≡ old ++ joined 46 (map part_text (take (i + 1) ps))
part_written ps zero p old now dot new h e n d w = first_written ps zero p old now new h e (omega arith) n (w ∙ ap (λ l. l ++ part_text p) (d ∙ append-nil now))
part_written ps (suc i) p old now dot new h e n d w = next_written ps (suc i) p old now dot new h e (omega arith) n (d ∙ ap (λ b. now ++ cond b (46 ∷ []) []) (lt-ltb 0 (suc i) (omega arith))) w

-- ---- whether anything is written

filled_behind : (x : List ℕ) (y : ℕ) (z : List ℕ) → x ++ y ∷ z ≢ []
filled_behind [] y z e = absurd (cc)
filled_behind (c ∷ cs) y z e = absurd (cc)

several_joined : (xs : List (List ℕ)) → 1 < length xs → joined 46 xs ≢ []
several_joined [] h = absurd (omega arith)
several_joined (x ∷ []) h = absurd (omega arith)
several_joined (x ∷ y ∷ xs) h = filled_behind x 46 (joined 46 (y ∷ xs))

-- a dot is written
pub dots_written : (ps : List Part) (i : ℕ) → i < length ps → 0 < i → joined 46 (map part_text ps) ≢ []
dots_written ps i h some = several_joined (map part_text ps) (omega (arith, length-map ps part_text))

-- text of a component is written
pub texts_written : (ps : List Part) (i : ℕ) (p : Part) → i < length ps → p ≡ get_or ps i p → part_text p ≢ [] → joined 46 (map part_text ps) ≢ []
texts_written (q ∷ []) zero p h is some = subst (λ r. part_text r ≢ []) is some
texts_written (q ∷ r ∷ qs) i p h is some = filled_behind (part_text q) 46 (joined 46 (map part_text (r ∷ qs)))
texts_written [] i p h is some = absurd (omega arith)
texts_written (q ∷ []) (suc i) p h is some = absurd (omega arith)

pub relative_written : (relative : Bool) (text : List ℕ) → relative ≡ true → (if relative then 46 ∷ [] else []) ++ text ≢ []
relative_written true text h e = absurd (cc)
relative_written false text h e = absurd (cc)

pub text_written : (relative : Bool) (text : List ℕ) → text ≢ [] → (if relative then 46 ∷ [] else []) ++ text ≢ []
text_written true text some = filled_behind [] 46 text
text_written false text some = some

pub index_written : (n : ℕ) → n < 2 ^ 64 → decimal n ≢ []
index_written n wide e = omega (arith, decimal_nonempty n wide, ap length e)
