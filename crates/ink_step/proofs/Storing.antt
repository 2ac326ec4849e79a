-- Content that stores something takes a value, and copies it while a mark stands.
use Rattle.std.proofs.Common.{◌≡◌, ◌&&◌, ◌||◌, refl, ℕ, List, Bool, is_some, true, false, Option, Some, None, Result, Ok, Err}
use Rattle.ink_model.specs.Story.Acceptance.{lands}
use Rattle.ink_model.specs.Choices.Making.{added, make}
use Rattle.ink_step.proofs.Common.{ChoiceOf, StoryTree, container, leaf, Leaf, Fault, Part, AsksToStore, Performs, Transfer, Machine, stack_stood, globals_stood}
use Rattle.ink_model.specs.Run.Effect.{Context, Fields, Effect, Stores, or_else, or_fault}
use Rattle.ink_model.specs.Run.Step.{effect, leaf_effect}
use Rattle.ink_model.specs.Run.Step.Choices.{offering, was_visited}
use Rattle.ink_model.specs.declared.content.Leaf.TheVariants as leaves
use Rattle.ink_model.specs.declared.fault.Fault.TheVariants.{BadTarget}
use Rattle.ink_effects.proofs.Bools.{and_both, or_first, or_more}
use Rattle.ink_effects.proofs.Effects.{performs_where}
use Rattle.ink_effects.proofs.Plain.{leaf_plain, stores_plain}
use Rattle.ink_step.specs.Marks.{keeps_mark, stood_of, takes_there, takes_value}

stores_or : {A : Type 0} (asks : Bool) (r : Result A Fault) (so : A → Effect) → ((a : A) → AsksToStore (so a) asks) → AsksToStore (or_fault r so) asks
stores_or asks (Ok a) so stores = stores a
stores_or asks (Err f) so stores = tt

stores_where : (e : Effect) (asks : Bool) → asks ≡ true → AsksToStore e asks
stores_where (Stores t f) asks h = h
stores_where e asks h = tt

module _ (s : StoryTree) (p : List Part) (seen : Context) (f : Fields) (asks : Bool) where
  offering_stores : (choice : Option (ChoiceOf (List Part))) (g : Fields) → AsksToStore (offering s p seen choice g) asks
  offering_stores None g = tt
  offering_stores (Some choice) g = stores_or asks (added choice seen.choices) _ (λ choices. tt)

  offer_stores : (text : List ℕ) (flags : ℕ) (to : Option (List Part))
      → AsksToStore (or_else BadTarget to (λ q. or_fault (make flags q (was_visited s p seen text flags) seen.thread f.stack) (λ r. offering s p seen r.0 (record f { stack = r.1 })))) asks
  offer_stores text flags None = tt
  offer_stores text flags (Some q) = stores_or asks (make flags q (was_visited s p seen text flags) seen.thread f.stack) _ (λ r. offering_stores r.0 (record f { stack = r.1 }))

  leaf_stores : (l : Leaf) → (takes_value l ≡ true → asks ≡ true) → AsksToStore (leaf_effect s p seen l f) asks
  leaf_stores (leaves.Declare name) takes = stores_where _ asks (takes refl)
  leaf_stores (leaves.DeclareTemp name) takes = stores_where _ asks (takes refl)
  leaf_stores (leaves.Assign name) takes = stores_where _ asks (takes refl)
  leaf_stores (leaves.AssignTemp name) takes = stores_where _ asks (takes refl)
  leaf_stores (leaves.Choice text flags) takes = offer_stores text flags (lands s p text)
  leaf_stores l takes = stores_plain (leaf_effect s p seen l f) asks (leaf_plain s p seen l f tt)

  effect_stores : (found : Option StoryTree) → (takes_there found ≡ true → asks ≡ true) → AsksToStore (effect s p found seen f) asks
  effect_stores None takes = tt
  effect_stores (Some (leaf l)) takes = leaf_stores l takes
  effect_stores (Some (container name flags content named)) takes = tt

-- so while a mark stands it copies the value before, too
module _ (s : StoryTree) (old : Machine) (found : Option StoryTree) (asking : Bool) where
  abbrev copies : Bool
  copies = takes_there found && keeps_mark (stood_of old)

  pub stores_marked : (p : List Part) (seen : Context) (f : Fields) → is_some (globals_stood old.shared.globals) ≡ true → AsksToStore (effect s p found seen f) (copies || asking)
  stores_marked p seen f marked =
      effect_stores s p seen f (copies || asking) found
      (λ takes. or_first copies asking (and_both (takes_there found) _ takes (or_more (is_some (stack_stood old.flow.stack)) _ marked)))

  pub performs_marked : (e : Effect) (new : Fields) (r : Result Transfer Fault) → Performs s ((takes_there found && is_some (stack_stood old.flow.stack)) || asking) e new r → Performs s (copies || asking) e new r
  performs_marked = performs_where s _ _ (more (takes_there found) (is_some (stack_stood old.flow.stack)) (is_some (globals_stood old.shared.globals)) asking)
    where
      more : (t a b k : Bool) → (t && a) || k ≡ true → (t && (a || b)) || k ≡ true
      more true true b k h = refl
      more true false b k h = or_more b k h
      more false a b k h = h
