-- One of two, and both.
use Rattle.std.proofs.Common.{◌≡◌, ◌⊎◌, ◌&&◌, ◌||◌, inl, inr, refl, subst, sym, Bool, true, false}
use Rattle.ink_model.specs.Memory.Refusals.{LacksMemory}
use Rattle.ink_model.specs.declared.fault.Fault.{Fault}

pub or_more : (a b : Bool) → b ≡ true → a || b ≡ true
or_more true b h = refl
or_more false b h = h

pub or_first : (a b : Bool) → a ≡ true → a || b ≡ true
or_first a b h = subst (λ x. x || b ≡ true) (sym h) refl

pub and_both : (a b : Bool) → a ≡ true → b ≡ true → a && b ≡ true
and_both true b h k = k
and_both false b h k = absurd (cc)

-- a fault of the rule is the call's, where memory is not asked for then
pub same_fault : {f g : Fault} → (f ≡ g) ⊎ LacksMemory false f → f ≡ g
same_fault h = elim h [ inl is ↦ is | inr short ↦ absurd (let no : false ≡ true = short.1 in cc) ]
