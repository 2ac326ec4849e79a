use Rattle.std.proofs.Common.{◌∙◌, ℕ, List, Some, ap, map, refl, subst, sym, IsTrue}
use Rattle.ink_restore.proofs.Common.{AllByRecursion, Global, Vec, fits_text, ChoiceOf, map_choice, ChoiceFits, ThreadStands, or_else, place_of, story_tree, Spot}
use Rattle.ink_model.specs.Flow.Frames.{map_thread}
use Rattle.ink_restore.specs.Building.{Builds, ChoiceAsks, ThreadAsks}
use Rattle.ink_restore.proofs.Asking.{list_later, stands_asks}
use Rattle.ink_restore.proofs.Making.{built}
use Rattle.ink_restore.proofs.ChoiceParts.{choice_built}
use Rattle.ink_restore.proofs.Standing.{same_list}
use Rattle.ink_restore.proofs.offering.SavedChoiceBuilt.build.Goals as goal

abbrev Tag : List ℕ → Type 0
Tag t = IsTrue (fits_text t)

pub returns-clause-builds : goal.returns-clause-builds
returns-clause-builds c =
    let s = story_tree c.args.tree.now in
    let tags = built (λ (v : Vec (List ℕ) Global). map (λ t. t) v.items) (AllByRecursion Tag) _ c.self.inside.tags c.in_ok-tags.field-0 c.in-Some-2.tags c.as_slice.ensures c.in-Some-2.is c.in_ok-tags.ensures.builds in
    let thread = built (map_thread (place_of s)) (ThreadStands s) c.self.inside.thread c.self.inside.thread c.in_ok-thread.field-0 c.in-Some-3.thread refl c.in-Some-3.is c.in_ok-thread.ensures.builds in
    let choice : ChoiceOf Spot = record { text = c.in_ok-clone_in.field-0; tags = c.from_vec.result; target = c.in-Some.target; hidden = c.self.inside.hidden; thread = c.in-Some-3.thread } in
    subst (λ x. Builds (map_choice (place_of s)) (ChoiceFits s) x (Some choice)) c.self.view_is
    (choice_built s _ choice.text choice.tags choice.target choice.thread (c.in_ok-clone_in.ensures, ap fits_text (sym c.as_str.ensures) ∙ sym c.text_fits.ensures ∙ c.if-not-text_fits.false)
    (c.from_vec.ensures ∙ sym (same_list c.in-Some-2.tags.items) ∙ tags.0, tags.1) c.in-Some.ensures thread)

pub returns-in_err-clone_in-clause-memory : goal.returns-in_err-clone_in-clause-memory
returns-in_err-clone_in-clause-memory c =
    let s = story_tree c.args.tree.now in
    let tags = built (λ (v : Vec (List ℕ) Global). map (λ t. t) v.items) (AllByRecursion Tag) _ c.self.inside.tags c.in_ok-tags.field-0 c.in-Some-2.tags c.as_slice.ensures c.in-Some-2.is c.in_ok-tags.ensures.builds in
    let thread = built (map_thread (place_of s)) (ThreadStands s) c.self.inside.thread c.self.inside.thread c.in_ok-thread.field-0 c.in-Some-3.thread refl c.in-Some-3.is c.in_ok-thread.ensures.builds in
    or_else _ (subst (ChoiceAsks s) c.self.view_is (
      ap fits_text (sym c.as_str.ensures) ∙ sym c.text_fits.ensures ∙ c.if-not-text_fits.false,
      c.in-Some.ensures.1,
      list_later Tag Tag c.self.inside.tags (ThreadAsks s c.self.inside.thread) (λ t k. k) tags.1 (stands_asks s c.self.inside.thread thread.1),
    ))
