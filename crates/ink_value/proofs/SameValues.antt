-- Values are the same exactly where they are equal.
use Rattle.std.proofs.Common.{◌≡◌, ◌∙◌, Bool, true, false, ◌&&◌, bytes_eq, List, [], ◌∷◌, Decides, ap, refl}
use Rattle.std.proofs.lemmas.Bool.Decides.{Decides-eqb, Decides-int_eq}
use Rattle.std.proofs.lemmas.Slice.Eq.{bytes_eq-Decides}
use Rattle.std.specs.Ordering.{int_eq}
use Rattle.ink_model.specs.Values.Same.{same_value}
use Rattle.ink_model.specs.Values.Value.{same_part, same_parts, same_path, same_truth}
use Rattle.ink_model.specs.declared.place.Part.{Part}
use Rattle.ink_model.specs.declared.place.Part.TheVariants.{Index, Name}
use Rattle.ink_model.specs.declared.place.Path.{Path}
use Rattle.ink_model.specs.declared.value.Value.{Value}
use Rattle.ink_model.specs.declared.value.Value.TheVariants.{Int, Bool as Truth, Text, Target, Pointer, Void, Tag}

both : {P Q : Type 0} (b c : Bool) → Decides b P → Decides c Q → Decides (b && c) (P × Q)
both true true p q = (λ e. (p.0 refl, q.0 refl), λ h. refl)
both true false p q = (λ e. absurd (cc), λ h. q.1 h.1)
both false c p q = (λ e. absurd (cc), λ h. p.1 h.0)

truths : (b c : Bool) → Decides (same_truth b c) (b ≡ c)
truths true true = (λ e. refl, λ e. refl)
truths true false = (λ e. absurd (cc), λ e. absurd (cc))
truths false true = (λ e. absurd (cc), λ e. absurd (cc))
truths false false = (λ e. refl, λ e. refl)

parts_are : (p q : Part) → Decides (same_part p q) (p ≡ q)
parts_are (Index i) (Index j) = let d = Decides-eqb i j in (λ e. ap Index (d.0 e), λ e. d.1 (cc))
parts_are (Name n) (Name m) = let d = bytes_eq-Decides n m in (λ e. ap Name (d.0 e), λ e. d.1 (cc))
parts_are (Index i) (Name m) = (λ e. absurd (cc), λ e. absurd (cc))
parts_are (Name n) (Index j) = (λ e. absurd (cc), λ e. absurd (cc))

lists_are : (ps qs : List Part) → Decides (same_parts ps qs) (ps ≡ qs)
lists_are [] [] = (λ e. refl, λ e. refl)
lists_are [] (q ∷ qs) = (λ e. absurd (cc), λ e. absurd (cc))
lists_are (p ∷ ps) [] = (λ e. absurd (cc), λ e. absurd (cc))
lists_are (p ∷ ps) (q ∷ qs) =
    let d = both (same_part p q) (same_parts ps qs) (parts_are p q) (lists_are ps qs) in
    (λ e. ap (λ x. x ∷ ps) (d.0 e).0 ∙ ap (λ xs. q ∷ xs) (d.0 e).1, λ e. d.1 (cc, cc))

paths_are : (p q : Path) → Decides (same_path p q) (p ≡ q)
paths_are p q =
    let d = both (same_truth p.relative q.relative) (same_parts p.parts q.parts) (truths p.relative q.relative) (lists_are p.parts q.parts) in
    (λ e. ap (λ r. record p { relative = r }) (d.0 e).0 ∙ ap (λ ps. record q { parts = ps }) (d.0 e).1, λ e. d.1 (ap (λ x. x.relative) e, ap (λ x. x.parts) e))

pub values_are : (v w : Value) → Decides (same_value v w) (v ≡ w)
values_are (Int i) (Int j) = let d = Decides-int_eq i j in (λ e. ap Int (d.0 e), λ e. d.1 (cc))
values_are (Truth b) (Truth c) = let d = truths b c in (λ e. ap Truth (d.0 e), λ e. d.1 (cc))
values_are (Text t) (Text u) = let d = bytes_eq-Decides t u in (λ e. ap Text (d.0 e), λ e. d.1 (cc))
values_are (Target p) (Target q) = let d = paths_are p q in (λ e. ap Target (d.0 e), λ e. d.1 (cc))
values_are (Pointer i n) (Pointer j m) =
    let d = both (int_eq i j) (bytes_eq n m) (Decides-int_eq i j) (bytes_eq-Decides n m) in
    (λ e. ap (λ x. Pointer x n) (d.0 e).0 ∙ ap (λ x. Pointer j x) (d.0 e).1, λ e. d.1 (cc, cc))
values_are Void Void = (λ e. refl, λ e. refl)
values_are (Tag t) (Tag u) = let d = bytes_eq-Decides t u in (λ e. ap Tag (d.0 e), λ e. d.1 (cc))
values_are v w = (λ e. absurd (cc), λ e. absurd (cc))
