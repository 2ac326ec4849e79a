-- What choices are made of.
use Rattle.std.proofs.Common.{◌≡◌, ◌∙◌, ap, ℕ, List, IsTrue, Some}
use Rattle.ink_restore.proofs.Common.{AllByRecursion, fits_text, ChoiceOf, map_choice, StoryTree, Part, Builds, place_of, Spot}
use Rattle.ink_model.specs.Flow.Frames.{ThreadOf, map_thread}
use Rattle.ink_model.specs.Save.Sound.{ChoiceFits, PlaceFits, ThreadStands}

pub choice_built : (s : StoryTree) (c : ChoiceOf (List Part)) (text : List ℕ) (tags : List (List ℕ)) (target : Spot) (thread : ThreadOf Spot)
    → (text ≡ c.text) × IsTrue (fits_text c.text) → (tags ≡ c.tags) × AllByRecursion (λ t. IsTrue (fits_text t)) c.tags
    → (place_of s target ≡ c.target) × PlaceFits s c.target → (map_thread (place_of s) thread ≡ c.thread) × ThreadStands s c.thread
    → Builds (map_choice (place_of s)) (ChoiceFits s) c (Some (record { text = text; tags = tags; target = target; hidden = c.hidden; thread = thread }))
choice_built s c text tags target thread t g p h =
    let was : ChoiceOf (List Part) = record { text = text; tags = tags; target = place_of s target; hidden = c.hidden; thread = map_thread (place_of s) thread } in (
      ap (λ x. record was { text = x }) t.0 ∙ ap (λ x. record was { text = c.text; tags = x }) g.0
          ∙ ap (λ x. record was { text = c.text; tags = c.tags; target = x }) p.0 ∙ ap (λ x. record c { thread = x }) h.0,
      record { text = t.1; tags = g.1; target = p.1; thread = h.1 },
    )
