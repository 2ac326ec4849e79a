-- Texts that begin as values are spelled.
use Rattle.std.proofs.Common.{◌≡◌, ◌∙◌, ◌+◌, ◌<◌, ℕ, suc, Bool, true, false, ◌&&◌, List, [], ◌∷◌, ◌++◌, Option, None, Some, ap, ap₂, bytes_eq, drop, eq-eqb, eqb-true, get_or, length, map, nat_eq, option_map, refl, sym, take, add-one, Bor}
use Rattle.std.proofs.Math.Seq.{drop-cons}
use Rattle.std.specs.Cmp.Lexicographic.{pointwise}
use Rattle.std.specs.Option.{MatchOption}
use Rattle.serde_json.specs.Written.{comma_if, compact_text, items_text}
use Rattle.ink_model.specs.Host.Events.{items_of}
use Rattle.ink_model.specs.Protocol.ValueJson.{value_data}
use Rattle.ink_model.specs.declared.value.Value.{Value}
use Rattle.ink_words.specs.Simple.{goes_on}

and_next : (a b c : Bool) → (a && b) && c ≡ a && (b && c)
and_next true b c = refl
and_next false b c = refl

same_truth : (a b : Bool) → (a ≡ true → b ≡ true) → (b ≡ true → a ≡ true) → a ≡ b
same_truth true b f g = sym (f refl)
same_truth false true f g = g refl
same_truth false false f g = refl

eq_turned : (x y : ℕ) → nat_eq x y ≡ nat_eq y x
eq_turned x y = same_truth (nat_eq x y) (nat_eq y x) (λ h. eq-eqb y x (sym (eqb-true x y h))) (λ h. eq-eqb x y (sym (eqb-true y x h)))

-- a text is these two, where it begins with the first and goes on with the second
by_front : (p more t : List ℕ) → bytes_eq (p ++ more) t ≡ pointwise nat_eq (take (length p) t) p && bytes_eq more (drop (length p) t)
by_front [] more t = refl
by_front (x ∷ p) more [] = refl
by_front (x ∷ p) more (y ∷ t) = ap₂ (λ a b. a && b) (eq_turned x y) (by_front p more t) ∙ sym (and_next (nat_eq y x) (pointwise nat_eq (take (length p) t) p) (bytes_eq more (drop (length p) t)))

-- a front that is taken off
pub taken_off : (p more t : List ℕ) (r : Option (Bor (List ℕ)))
    → MatchOption r (pointwise nat_eq (take (length p) t) p ≡ false) (λ x. (pointwise nat_eq (take (length p) t) p ≡ true) × (x.now ≡ drop (length p) t) × (length x.now + length p ≡ length t))
    → bytes_eq (p ++ more) t ≡ goes_on more (option_map (λ x. x.now) r)
taken_off p more t None is = by_front p more t ∙ ap (λ b. b && bytes_eq more (drop (length p) t)) is
taken_off p more t (Some x) is = by_front p more t ∙ ap₂ (λ b rest. b && bytes_eq more rest) is.0 (sym is.1)

-- the same of another front that is this one
pub taken_as : (q p more t u : List ℕ) (r : Option (Bor (List ℕ))) → q ≡ p → u ≡ t
    → MatchOption r (pointwise nat_eq (take (length p) u) p ≡ false) (λ x. (pointwise nat_eq (take (length p) u) p ≡ true) × (x.now ≡ drop (length p) u) × (length x.now + length p ≡ length u))
    → bytes_eq (q ++ more) t ≡ goes_on more (option_map (λ x. x.now) r)
taken_as q p more t u r same text is = ap₂ (λ f w. bytes_eq (f ++ more) w) same (sym text) ∙ taken_off p more u r is

-- what is to be spelled from here on
abbrev pub left_of : Bool → ℕ → List Value → List ℕ
left_of follows i vs = items_text follows (items_of (map value_data (drop i vs)))

-- one value more
pub next_left : (follows : Bool) (i : ℕ) (vs : List Value) (v : Value) → i < length vs → v ≡ get_or vs i v
    → left_of follows i vs ≡ comma_if follows ++ (compact_text (value_data v) ++ left_of true (i + 1) vs)
next_left follows i vs v there is =
    ap (λ xs. items_text follows (items_of (map value_data xs))) (drop-cons vs i v there ∙ ap (λ y. y ∷ drop (suc i) vs) (sym is) ∙ ap (λ n. v ∷ drop n vs) (sym (add-one i)))
