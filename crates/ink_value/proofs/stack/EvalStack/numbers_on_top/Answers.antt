use Rattle.std.proofs.Common.{◌≡◌, ◌∙◌, ◌+◌, ◌-◌, ◌∷◌, [], ap, arith, drop, length, refl, rules, sym, take}
use Rattle.std.proofs.lemmas.Int.{to_z-of_z}
use Rattle.std.specs.Int.{w32}
use Rattle.std.specs.Int.RustNames.{FitsSigned}
use Rattle.ink_model.specs.declared.value.Value.TheVariants.{Int}
use Rattle.ink_value.proofs.Tops.{counted, numbers_at, numbers_make}
use Rattle.ink_value.proofs.stack.EvalStack.numbers_on_top.Goals as goal

pub returns-in_err-below : goal.returns-in_err-below
returns-in_err-below c = record {
  numbers = rw c.from_residual.ensures tt;
  there = rw c.from_residual.ensures tt;
  unmarked = rw c.from_residual.ensures tt;
}

pub returns-in_err-left-in-len2 : goal.returns-in_err-left-in-len2
returns-in_err-left-in-len2 c = record {
  numbers = rw c.from_residual-in_err-left-in-len2.ensures tt;
  there = rw c.from_residual-in_err-left-in-len2.ensures tt;
  unmarked = rw c.from_residual-in_err-left-in-len2.ensures tt;
}

pub returns-in_err-right-in-len2 : goal.returns-in_err-right-in-len2
returns-in_err-right-in-len2 c = record {
  numbers = rw c.from_residual-in_err-right-in-len2.ensures tt;
  there = rw c.from_residual-in_err-right-in-len2.ensures tt;
  unmarked = rw c.from_residual-in_err-right-in-len2.ensures tt;
}

pub returns-in-Int-clause-there : goal.returns-in-Int-clause-there
returns-in-Int-clause-there c =
    let enough = counted c.len.result 2 c.in_ok-below.below c.self.inside.items c.args.self.now.items c.len.ensures (ap (λ s. s.items) c.self.view_is) c.in_ok-below.ensures in
    omega (arith, enough)

pub returns-in-Int-clause-numbers : goal.returns-in-Int-clause-numbers
returns-in-Int-clause-numbers c operator made h =
    let vs = c.args.self.now.items in
    let xs = c.deref.result.now in
    let below = c.in_ok-below.below in
    let same : xs ≡ vs = c.deref.ensures.value ∙ ap (λ s. s.items) c.self.view_is in
    let enough : length vs ≡ below + 2 = counted c.len.result 2 below c.self.inside.items vs c.len.ensures (ap (λ s. s.items) c.self.view_is) c.in_ok-below.ensures in
    let two : take (length xs - below) (drop below xs) ≡ Int c.in-Int.left ∷ Int c.in-Int.right ∷ [] = search rules in
    search (rules, numbers_make vs xs below _ _ _ _ same enough two refl refl operator made)

pub returns-in_ok-right-in-len2-clause-there : goal.returns-in_ok-right-in-len2-clause-there
returns-in_ok-right-in-len2-clause-there c =
    let enough = counted c.len.result 2 c.in_ok-below.below c.self.inside.items c.args.self.now.items c.len.ensures (ap (λ s. s.items) c.self.view_is) c.in_ok-below.ensures in
    omega (arith, enough)

pub returns-in_ok-right-in-len2-clause-numbers : goal.returns-in_ok-right-in-len2-clause-numbers
returns-in_ok-right-in-len2-clause-numbers c operator made h =
    let vs = c.args.self.now.items in
    let xs = c.deref.result.now in
    let below = c.in_ok-below.below in
    let same : xs ≡ vs = c.deref.ensures.value ∙ ap (λ s. s.items) c.self.view_is in
    let enough : length vs ≡ below + 2 = counted c.len.result 2 below c.self.inside.items vs c.len.ensures (ap (λ s. s.items) c.self.view_is) c.in_ok-below.ensures in
    let left = c.in_ok-left-in-len2.left in
    let right = c.in_ok-right-in-len2.right in
    let fits_left : FitsSigned w32 left = search rules in
    let fits_right : FitsSigned w32 right = search rules in
    numbers_at vs xs below c.lower-item.result c.upper-item.result _ _ left right same enough c.lower-item.is c.upper-item.is
    (sym c.in_ok-left-in-len2.ensures) (sym c.in_ok-right-in-len2.ensures) operator made (rw (to_z-of_z w32 left fits_left, to_z-of_z w32 right fits_right) at h)
