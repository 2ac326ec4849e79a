-- Where a host's path leads.
use Rattle.std.proofs.Common.{◌≡◌, ◌⊎◌, ◌∙◌, ap, refl, sym, inl, inr, ℕ, List, [], false, cond, IsSome, Option, None, Some, Ok, Err}
use Rattle.ink_model.specs.Story.Path.{absolute_target, read_path, target, walked}
use Rattle.ink_model.specs.Story.Tree.{StoryTree}
use Rattle.ink_model.specs.declared.fault.Refusal.{Refusal}
use Rattle.ink_model.specs.declared.fault.Refusal.TheVariants as refusal
use Rattle.ink_model.specs.declared.place.Part.{Part}
use Rattle.ink_model.specs.declared.place.Path.{Path}
use Rattle.ink_commands.specs.Paths.{FindsBy}

-- a path that is not relative leads from everywhere to the same
pub absolute_leads : (s : StoryTree) (from : List Part) (path : Path) → path.relative ≡ false → target s from path ≡ absolute_target s path
unfolding target
absolute_leads s from path e = ap (λ b. walked s (cond b from []) path.parts) e ∙ sym (ap (λ b. cond b None (walked s (cond b [] []) path.parts)) e)

-- ---- what is found by a path

module _ {A B : Type 0} (path : List ℕ) (gives : A → B → Type 0) where
  pub was_found : (rule : Option A) (b : B) → FindsBy path gives rule (Ok b) → (a : A) × (rule ≡ Some a) × gives a b
  was_found None b h = absurd h
  was_found (Some a) b h = (a, refl, h)

  pub was_not_found : (rule : Option A) (r : Refusal) → FindsBy path gives rule (Err r)
      → ((r ≡ refusal.NoSuchPath) × (rule ≡ None)) ⊎ ((r ≡ refusal.OutOfMemory) × IsSome (read_path path))
  was_not_found None r (inl none) = inl (none, refl)
  was_not_found None r (inr short) = inr short
  was_not_found (Some a) r short = inr short
