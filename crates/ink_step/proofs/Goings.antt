-- A step goes in: what a machine stands for then.
use Rattle.std.proofs.Common.{◌≡◌, ◌∙◌, ap, refl, sym, ℕ, List, [], ◌++◌, Option, Some, None}
use Rattle.std.proofs.lemmas.List.{append-nil}
use Rattle.ink_model.specs.Run.Configuration.{put_at, with_counts}
use Rattle.ink_step.proofs.Common.{CountsOf, gone_in, StoryTree, leaf, container, at, all_visited, Leaf, Part, config_of, counts_in, Machine, leaf_in, place_of, Spot}
use Rattle.ink_model.specs.Run.Entered.{passed_at, passed_places}
use Rattle.ink_model.specs.Flow.Frames.{ThreadsOf, on_top, put_in}
use Rattle.ink_model.specs.Run.Place.{content_place, first_content_at}

module _ (s : StoryTree) (p : List Part) (m : Machine) (here : Spot) (ts : ThreadsOf Spot) (is : ts ≡ on_top (put_in (Some here)) m.flow.threads.threads) where
  -- the containers on the way were entered, and flow is put at the first content
  pub went_in : (counts : CountsOf ℕ) → place_of s here ≡ content_place s p → counts_in s counts ≡ all_visited s m.shared.turn (passed_places s p) (counts_in s m.shared.counts.rows)
      → config_of s (record m { flow = record m.flow { threads = record m.flow.threads { threads = ts } }; shared = record m.shared { counts = record m.shared.counts { rows = counts } } }) ≡ gone_in s p (config_of s m)
  went_in counts at_place entering =
      ap (λ t. config_of s (record m { flow = record m.flow { threads = record m.flow.threads { threads = t } }; shared = record m.shared { counts = record m.shared.counts { rows = counts } } })) is
      ∙ ap (λ q. put_at (Some q) (config_of s (record m { shared = record m.shared { counts = record m.shared.counts { rows = counts } } }))) at_place
      ∙ ap (λ cs. put_at (Some (content_place s p)) (with_counts cs (config_of s m))) entering

-- ---- where nothing stands

module _ (s : StoryTree) (p : List Part) (nothing : at s p ≡ None) where
  pub goes_nowhere_in : p ≡ content_place s p
  unfolding content_place
  goes_nowhere_in = sym (append-nil p) ∙ ap (λ o. p ++ first_content_at o) (sym nothing)

  pub passes_none : passed_places s p ≡ []
  unfolding passed_places
  passes_none = ap (passed_at p) nothing

-- ---- where content stands that holds no other

stands_alone : (o : Option StoryTree) (l : Leaf) → leaf_in o ≡ Some l → (first_content_at o ≡ []) × ((p : List Part) → passed_at p o ≡ [])
stands_alone None l h = absurd cc
stands_alone (Some (leaf k)) l h = (refl, λ p. refl)
stands_alone (Some (container name flags content named)) l h = absurd cc

module _ (s : StoryTree) (p : List Part) (l : Leaf) (stands : leaf_in (at s p) ≡ Some l) where
  pub stays_in : p ≡ content_place s p
  unfolding content_place
  stays_in = sym (append-nil p) ∙ ap (λ ps. p ++ ps) (sym (stands_alone (at s p) l stands).0)

  pub passes_no_container : passed_places s p ≡ []
  unfolding passed_places
  passes_no_container = (stands_alone (at s p) l stands).1 p

  -- a machine that is there is as one that goes in
  pub is_in : (m : Machine) (here : Spot) → m.flow.threads.threads.thread.frame.place ≡ Some here → place_of s here ≡ p → config_of s m ≡ gone_in s p (config_of s m)
  is_in m here at_here at_place =
      let same : m.flow.threads.threads ≡ on_top (put_in (Some here)) m.flow.threads.threads = ap (λ q. on_top (put_in q) m.flow.threads.threads) at_here in
      went_in s p m here m.flow.threads.threads same m.shared.counts.rows (at_place ∙ stays_in) (ap (λ ps. all_visited s m.shared.turn ps (counts_in s m.shared.counts.rows)) (sym passes_no_container))
