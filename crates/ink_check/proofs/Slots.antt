-- Slots, and the links that they stand for.
use Rattle.std.proofs.Common.{◌≡◌, ◌∙◌, ℕ, suc, ◌+◌, ◌-◌, ◌<◌, ◌≤◌, List, [], ◌∷◌, ◌++◌, All, ap, ap₂, arith, get_or, get_or-append-add, length, refl, sym}
use Rattle.std.proofs.Math.ListN.{get_or-append, get_or-map}
use Rattle.std.proofs.lemmas.List.{get_or_default, length-append, map-append}
use Rattle.std.proofs.lemmas.List.Elements.{All-head, All-push, All-tail, All-weaker}
use Rattle.ink_check.specs.Links.{AreSlots, link_in, spread}
use Rattle.ink_check.specs.declared.link.Link.{Link}
use Rattle.ink_check.specs.declared.link.Link.TheVariants.{Nothing}

-- ---- a slot more

module _ (links : List Link) (l : Link) where
  abbrev is_slot : ℕ → Type 0
  is_slot slot = slot ≤ length links

  -- a link more changes nothing for the slots that there are
  same : (slots : List ℕ) → All is_slot slots → spread (links ++ l ∷ []) slots ≡ spread links slots
  same [] h = refl
  same (slot ∷ slots) h =
      let within : slot ≤ length links = All-head is_slot slot slots h in
      ap₂ (λ x xs. x ∷ xs) (get_or-append (Nothing ∷ links) (l ∷ []) Nothing slot (omega arith)) (same slots (All-tail is_slot slot slots h))

  last : link_in (links ++ l ∷ []) (length links + 1) ≡ l
  last =
      let next : length links + 1 ≡ suc (length links + 0) = omega arith in
      ap (link_in (links ++ l ∷ [])) next ∙ get_or-append-add links (l ∷ []) 0 Nothing

  pub with_link : (slots : List ℕ) (n : ℕ) → AreSlots links slots → n ≡ length links + 1 → spread (links ++ l ∷ []) (slots ++ n ∷ []) ≡ spread links slots ++ l ∷ []
  with_link slots n h is =
      map-append (link_in (links ++ l ∷ [])) slots (n ∷ []) ∙ ap₂ (λ xs x. xs ++ x ∷ []) (same slots h.0) (ap (link_in (links ++ l ∷ [])) is ∙ last)

pub slots_more : (links now : List Link) (slots new : List ℕ) (n : ℕ) → new ≡ slots ++ n ∷ [] → length links ≤ length now → length now ≤ length links + 1 → n ≤ length now → AreSlots links slots → AreSlots now new
slots_more links now slots new n is more few within h =
    let kept = All-weaker (λ slot. slot ≤ length links) (λ slot. slot ≤ length now) (λ slot k. omega (arith, k, more)) slots h.0 in
    rw is (All-push (λ slot. slot ≤ length now) slots n kept within, omega (arith, length-append slots (n ∷ []), h.1, few))

-- ---- looking up

-- the link of a slot
pub in_slot : (links : List Link) (slot : ℕ) (l : Link) → 0 < slot → slot ≤ length links → l ≡ get_or links (slot - 1) l → l ≡ link_in links slot
in_slot links slot l some within is =
    let next : slot ≡ suc (slot - 1) = omega arith in
    is ∙ get_or_default links (slot - 1) l Nothing (omega arith) ∙ sym (ap (link_in links) next)

-- the slot of a number, and what is spread there
pub looked_up : (links : List Link) (slots : List ℕ) (number : ℕ) → link_in links (get_or slots number (get_or slots 0 0)) ≡ get_or (spread links slots) number (get_or (spread links slots) 0 Nothing)
looked_up links slots number =
    sym (ap (get_or (spread links slots) number) (get_or-map (link_in links) slots 0 0) ∙ get_or-map (link_in links) slots number (get_or slots 0 0))
