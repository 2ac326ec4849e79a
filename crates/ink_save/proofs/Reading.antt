-- What is read of a JSON value, and what is made of a game.
use Rattle.std.proofs.Common.{◌≡◌, ◌∙◌, sym, ap, refl, subst, [], Option, Some, None, option_and_then, Result, IfOk}
use Rattle.serde_json.specs.Data.{Data}
use Rattle.ink_model.specs.Story.Acceptance.{bad_places}
use Rattle.ink_model.specs.Run.Flows.{Game}
use Rattle.ink_model.specs.Story.Grammar.{IsSpelled}
use Rattle.ink_model.specs.Save.Reads.{Reads, Stands}
use Rattle.ink_model.specs.Save.Unspelled.{layout_of, unspelled}
use Rattle.ink_model.specs.Save.Unspelled as save
use Rattle.ink_model.specs.Story.Tree.{StoryTree}
use Rattle.ink_restore.specs.Parts.{Restores, restored_as}
use Rattle.ink_restore.specs.declared.restoring.Restored.{Restored}
use Rattle.ink_save.specs.Loads.{Finds}
use Rattle.ink_sound.proofs.Respelling.{aside_sound, reads_back, reads_so}
use Rattle.ink_sound.proofs.Stories.{spelled_fits}
use Rattle.ink_sound.specs.Kept.{StoryFits}
use Rattle.ink_spelling.specs.Layouts.{layout_as}
use Rattle.ink_spelling.specs.declared.layout.SavedLayout.{SavedLayout}
use Rattle.ink_step.specs.Standing.{game_of}
use Rattle.ink_step.specs.declared.machine.Machine.{Machine}

-- ---- what is made

pub finds_machine : (s : StoryTree) (o : Option Game) (made : Option Restored) (r : Restored) (m : Machine) → made ≡ Some r → game_of s m ≡ restored_as s r → Restores s o made → Finds s o (Some m)
finds_machine s o made r m is same h = by o (subst (Restores s o) is h)
  where
    by : (o : Option Game) → Restores s o (Some r) → Finds s o (Some m)
    by None k = k
    by (Some g) k = (same ∙ k.0, k.1)

pub finds_nothing : (s : StoryTree) (o : Option Game) (made : Option Restored) → made ≡ None → Restores s o made → Finds s o None
finds_nothing s o made is h = by o (subst (Restores s o) is h)
  where
    by : (o : Option Game) → Restores s o None → Finds s o None
    by None k = k
    by (Some g) k = k

module _ (s : StoryTree) (j : Data) where
  pub found_of : {E : Type 0} (saved : SavedLayout) (r : Result (Option Machine) E) → Some (layout_as saved) ≡ layout_of j → IfOk r (λ made. Finds s (save.game_of (layout_as saved)) made)
      → IfOk r (λ made. Finds s (unspelled j) made)
  found_of saved r is h = subst (λ o. IfOk r (λ made. Finds s (option_and_then save.game_of o) made)) is h

  pub none_of : None ≡ layout_of j → Finds s (unspelled j) None
  none_of is = subst (λ o. Finds s (option_and_then save.game_of o) None) is tt

-- ---- what is read

module _ (s : StoryTree) (story : StoryFits s) (j : Data) where
  reads_machine : (m : Machine) → Finds s (unspelled j) (Some m) → Reads s j (game_of s m)
  reads_machine m h = by (unspelled j) refl h
    where
      by : (o : Option Game) → unspelled j ≡ o → Finds s o (Some m) → Reads s j (game_of s m)
      by None is k = absurd k
      by (Some g) is k =
          let stands : Stands s (game_of s m) = subst (Stands s) (sym k.0) k.1 in
          reads_so s story j (game_of s m) (is ∙ ap (λ d. Some d) (sym k.0)) stands.sound (aside_sound s story (game_of s m).aside stands.aside)

  reads_nothing : Finds s (unspelled j) None → (g : Game) → Reads s j g → ⊥
  reads_nothing h g r = by (unspelled j) refl h
    where
      by : (o : Option Game) → unspelled j ≡ o → Finds s o None → ⊥
      by None is k = let never : Some g ≡ None = sym (reads_back s story j g r) ∙ is in absurd cc
      by (Some d) is k =
          let both : Some g ≡ Some d = sym (reads_back s story j g r) ∙ is in
          let same : g ≡ d = cc in
          k (subst (Stands s) same r.stands)

pub reads_found : (s t : StoryTree) (j : Data) (o : Option Machine) (m : Machine) → t ≡ s → IsSpelled s → bad_places s ≡ [] → o ≡ Some m → Finds t (unspelled j) o
    → Reads s j (game_of s m)
reads_found s t j o m same spelled good is h =
    reads_machine s (spelled_fits s spelled good) j m (subst (λ x. Finds x (unspelled j) (Some m)) same (subst (λ p. Finds t (unspelled j) p) is h))

pub reads_none : (s t : StoryTree) (j : Data) (o : Option Machine) → t ≡ s → IsSpelled s → bad_places s ≡ [] → o ≡ None → Finds t (unspelled j) o
    → (g : Game) → Reads s j g → ⊥
reads_none s t j o same spelled good is h =
    reads_nothing s (spelled_fits s spelled good) j (subst (λ x. Finds x (unspelled j) None) same (subst (λ p. Finds t (unspelled j) p) is h))
