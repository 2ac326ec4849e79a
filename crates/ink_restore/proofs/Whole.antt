-- What is restored, whole.
use Rattle.std.proofs.Common.{◌≡◌, ◌∙◌, sym, ap, refl, subst, ℕ, length, List, [], ◌∷◌, ◌≤◌, Bool, true, false, true≢false, ◌&&◌, bytes_eq, nat_le, if◌then◌else◌, Option, Some, None, is_none, option_map, IfSome, arith}
use Rattle.ink_restore.proofs.Common.{length-map, AllByRecursion, Rows, at, once, StoryTree, Part, Builds}
use Rattle.ink_flows.specs.Standing.{aside_of, flow_of}
use Rattle.ink_flows.specs.declared.flow.Flow.{Flow}
use Rattle.ink_model.specs.Run.Configuration.{Configuration, FlowOf, settled, unnumbered_flow}
use Rattle.ink_model.specs.Run.Flows.{Aside, AsideOf, Game, alone, holes, one_flow}
use Rattle.ink_model.specs.Text.Output.{empty_page}
use Rattle.ink_model.specs.Save.Reads.{Rests, Stands}
use Rattle.ink_model.specs.Save.Sound.{AsideFits, FlowSound, FlowStandsAside, NamedFits, PageFits, SharedSound}
use Rattle.ink_model.specs.Save.Unspelled.{Spelled, aside_but, game_spelled, game_with}
use Rattle.ink_model.specs.declared.limits.TheConstants.{MAX_FLOWS}
use Rattle.ink_restore.specs.Gathered.{AllStand, CurrentSound, FlowsFit, NamedSound, first_is_default, flows_as, parts_of, with_rows}
use Rattle.ink_restore.specs.Parts.{Restores, restored_as, shared_as}
use Rattle.ink_restore.specs.declared.restoring.AllFlows.{AllFlows}
use Rattle.ink_restore.specs.declared.restoring.SharedParts.{SharedParts}
use Rattle.ink_flows.proofs.Mapped.{holes_seen}
use Rattle.ink_restore.proofs.Joining.{begins_but, once_but, one_hole, same_names}
use Rattle.ink_restore.proofs.Standing.{both, within}

abbrev FlowHere : Type 0
FlowHere = FlowOf (List Part)

-- no frame of it has the number of an Enter
abbrev pub Plain : List ℕ × FlowHere → Type 0
Plain r = unnumbered_flow r.1 ≡ r.1

-- ---- one flow

page_of : (c : Configuration) → Rests c → empty_page ≡ c.page
unfolding settled
page_of c h = ap (λ x. x.page) h

no_page : (c : Configuration) → empty_page ≡ c.page → PageFits c.page
no_page c h = subst PageFits h (record { few = omega arith })

-- the flow that is always there stands alone
one_fits : (s : StoryTree) → AsideFits s one_flow
one_fits s = record { first = refl; names = refl; current = refl; few = omega arith; each = ((refl, tt), tt) }

pub alone_built : (s : StoryTree) (c : Configuration) (flow : Flow) (aside : AsideOf Flow) (shared : SharedParts) → Rests c → aside ≡ one_flow
    → (flow_of s flow ≡ c.flow) × FlowSound s c.flow → (shared_as s shared ≡ c.shared) × SharedSound s c.shared
    → (restored_as s (record { flow = flow; aside = aside; shared = shared }) ≡ alone c) × Stands s (alone c)
alone_built s c flow aside shared rests one f h =
    let page = page_of c rests in (
      λ i. record { now = record { flow = f.0 i; shared = h.0 i; page = page i }; aside = aside_of s (one i) },
      record { sound = record { flow = f.1; shared = h.1; page = no_page c page }; rests = rests; aside = one_fits s },
    )

-- ---- the flows of a save

-- the current one among them is sound
current_sound : (s : StoryTree) (cur : List ℕ) (xs : Rows FlowHere) (f : FlowHere) → AllByRecursion (NamedSound s) xs → at cur xs ≡ Some f → FlowSound s f
current_sound s cur [] f h e = absurd cc
current_sound s cur (x ∷ xs) f h e = by (bytes_eq cur x.0) e (current_sound s cur xs f h.1)
  where
    by : (b : Bool) → (if b then Some x.1 else at cur xs) ≡ Some f → (at cur xs ≡ Some f → FlowSound s f) → FlowSound s f
    by true e so = let same : x.1 ≡ f = cc in subst (FlowSound s) same h.0.1
    by false e so = so e

current_plain : (cur : List ℕ) (xs : Rows FlowHere) (f : FlowHere) → AllByRecursion Plain xs → at cur xs ≡ Some f → unnumbered_flow f ≡ f
current_plain cur [] f h e = absurd cc
current_plain cur (x ∷ xs) f h e = by (bytes_eq cur x.0) e (current_plain cur xs f h.1)
  where
    by : (b : Bool) → (if b then Some x.1 else at cur xs) ≡ Some f → (at cur xs ≡ Some f → unnumbered_flow f ≡ f) → unnumbered_flow f ≡ f
    by true e so = let same : x.1 ≡ f = cc in subst (λ g. unnumbered_flow g ≡ g) same h.0
    by false e so = so e

each_aside : (s : StoryTree) (cur : List ℕ) (xs : Rows FlowHere) → AllByRecursion Plain xs → AllByRecursion (NamedSound s) xs → AllByRecursion (NamedFits s) (aside_but cur xs)
each_aside s cur [] plain h = tt
each_aside s cur (x ∷ xs) plain h = ((h.0.0, by (bytes_eq cur x.0)), each_aside s cur xs plain.1 h.1)
  where
    by : (b : Bool) → FlowStandsAside s (if b then None else Some x.1)
    by true = tt
    by false = (h.0.1, plain.0)

-- those that stand aside, and the current one, are all
each_sound : (s : StoryTree) (cur : List ℕ) (xs : Rows FlowHere) → ((f : FlowHere) → at cur xs ≡ Some f → FlowSound s f) → once xs ≡ true
    → AllByRecursion (NamedFits s) (aside_but cur xs) → AllByRecursion (NamedSound s) xs
each_sound s cur [] now o h = tt
each_sound s cur (x ∷ xs) now o h =
    let parts = both (is_none (at x.0 xs)) (once xs) o in
    let one = by (bytes_eq cur x.0) refl (λ f e. now f e) h.0.1 parts.0 in
    ((h.0.0, one.0), each_sound s cur xs one.1 parts.1 h.1)
  where
    nothing : (o : Option FlowHere) → at x.0 xs ≡ o → is_none o ≡ true → bytes_eq cur x.0 ≡ true → (f : FlowHere) → at cur xs ≡ Some f → ⊥
    nothing None is k e f there = let none : at cur xs ≡ None = ap (λ n. at n xs) (same_names cur x.0 e) ∙ is in let both : Some f ≡ None = sym there ∙ none in absurd cc
    nothing (Some g) is k e f there = absurd (true≢false (sym k))

    by : (b : Bool) → bytes_eq cur x.0 ≡ b → ((f : FlowHere) → (if b then Some x.1 else at cur xs) ≡ Some f → FlowSound s f) → FlowStandsAside s (if b then None else Some x.1) → is_none (at x.0 xs) ≡ true
        → FlowSound s x.1 × ((f : FlowHere) → at cur xs ≡ Some f → FlowSound s f)
    by true e so aside none = (so x.1 refl, λ f there. absurd (nothing (at x.0 xs) refl none e f there))
    by false e so aside none = (aside.0, so)

module _ (s : StoryTree) (cur : List ℕ) (xs : Rows FlowHere) where
  abbrev Found : Option FlowHere × Aside
  Found = (at cur xs, aside_but cur xs)

  now_sound : (o : Option FlowHere) → at cur xs ≡ o → CurrentSound s o → (f : FlowHere) → at cur xs ≡ Some f → FlowSound s f
  now_sound None is h f there = absurd h
  now_sound (Some g) is h f there = let both : Some g ≡ Some f = sym is ∙ there in let same : g ≡ f = cc in subst (FlowSound s) same h

  -- where they stand they fit
  pub stand_fit : AllStand s Found → FlowsFit s xs
  stand_fit h =
      let names : once xs ≡ true = sym (once_but cur xs) ∙ h.1.names in
      record { each = each_sound s cur xs (now_sound (at cur xs) refl h.0) names h.1.each; names = names }

  pub gather_refused : (FlowsFit s xs → ⊥) → AllStand s Found → ⊥
  gather_refused never h = never (stand_fit h)

  -- nothing stands at one name, where the current one is among them
  pub rows_current : (rows : AsideOf Flow) (current : Option Flow) → (◌≡◌ {A = Aside × Option FlowHere} (aside_of s rows, option_map (flow_of s) current) (aside_but cur xs, at cur xs)) × FlowsFit s xs
      → IfSome current (λ _. holes rows ≡ 1)
  rows_current rows None h = tt
  rows_current rows (Some f) h = sym (holes_seen (flow_of s) rows) ∙ ap (λ p. holes p.0) h.0 ∙ one_hole cur xs (flow_of s f) h.1.names (sym (ap (λ p. p.1) h.0))

  aside_fits : (f : FlowHere) → at cur xs ≡ Some f → AllByRecursion Plain xs → (first_is_default xs && nat_le (length xs) MAX_FLOWS) ≡ true → FlowsFit s xs → AsideFits s (aside_but cur xs)
  aside_fits f there plain e fit =
      let begin = both (first_is_default xs) (nat_le (length xs) MAX_FLOWS) e in
      record {
        first = begins_but cur xs ∙ begin.0;
        names = once_but cur xs ∙ fit.names;
        current = one_hole cur xs f fit.names there;
        few = subst (λ n. n ≤ MAX_FLOWS) (sym (length-map xs _)) (within (length xs) MAX_FLOWS begin.1);
        each = each_aside s cur xs plain fit.each;
      }

  -- all of them, if the current one is among them
  pub flows_built : (rows : AsideOf Flow) (current : Option Flow) (made : Option AllFlows) → AllByRecursion Plain xs → (first_is_default xs && nat_le (length xs) MAX_FLOWS) ≡ true
      → (◌≡◌ {A = Aside × Option FlowHere} (aside_of s rows, option_map (flow_of s) current) (aside_but cur xs, at cur xs)) × FlowsFit s xs
      → option_map parts_of made ≡ option_map (with_rows rows) current → Builds (flows_as s) (AllStand s) Found made
  flows_built rows None None plain e h is =
      let none : at cur xs ≡ None = sym (ap (λ p. p.1) h.0) in
      λ k. absurd (subst (CurrentSound s) none k.0)
  flows_built rows None (Some v) plain e h is = absurd cc
  flows_built rows (Some f) None plain e h is = absurd cc
  flows_built rows (Some f) (Some v) plain e h is =
      let there : at cur xs ≡ Some (flow_of s f) = sym (ap (λ p. p.1) h.0) in
      let parts : parts_of v ≡ with_rows rows f = cc in
      let same : v.flow ≡ f = ap (λ p. p.0) parts in
      let rows_same : v.aside ≡ rows = ap (λ p. p.1) parts in
      let shown : aside_of s v.aside ≡ aside_but cur xs = ap (aside_of s) rows_same ∙ ap (λ p. p.0) h.0 in
      let found : Some (flow_of s v.flow) ≡ at cur xs = ap (λ g. Some (flow_of s g)) same ∙ sym there in
      (λ i. (found i, shown i), (subst (CurrentSound s) (sym there) (current_sound s cur xs (flow_of s f) h.1.each there), aside_fits (flow_of s f) there plain e h.1))

-- ---- the game

module _ (s : StoryTree) (x : Spelled) where
  abbrev Flows : Option FlowHere × Aside
  Flows = (at x.current x.flows, aside_but x.current x.flows)

  abbrev game_of_flow : FlowHere → Game
  game_of_flow f = record { now = record { flow = f; shared = x.shared; page = empty_page }; aside = aside_but x.current x.flows }

  -- the same by another name and list that are those
  pub flows_found : (cur : List ℕ) (xs : Rows FlowHere) → cur ≡ x.current → xs ≡ x.flows → (made : Option AllFlows) → Builds (flows_as s) (AllStand s) (at cur xs, aside_but cur xs) made
      → Builds (flows_as s) (AllStand s) Flows made
  flows_found cur xs named listed made h =
      subst (λ n. Builds (flows_as s) (AllStand s) (at n x.flows, aside_but n x.flows) made) named (subst (λ rs. Builds (flows_as s) (AllStand s) (at cur rs, aside_but cur rs) made) listed h)

  stands_all : (f : FlowHere) → at x.current x.flows ≡ Some f → Stands s (game_of_flow f) → AllStand s Flows
  stands_all f there k = (subst (CurrentSound s) (sym there) k.sound.flow, k.aside)

  pub flows_refused : (AllStand s Flows → ⊥) → Restores s (game_spelled x) None
  flows_refused never = by (at x.current x.flows) refl
    where
      by : (o : Option FlowHere) → at x.current x.flows ≡ o → Restores s (game_with x o) None
      by None there = tt
      by (Some f) there = λ k. never (stands_all f there k)

  pub shared_refused : (SharedSound s x.shared → ⊥) → Restores s (game_spelled x) None
  shared_refused never = by (at x.current x.flows)
    where
      by : (o : Option FlowHere) → Restores s (game_with x o) None
      by None = tt
      by (Some f) = λ k. never k.sound.shared

  rests : (f : FlowHere) → unnumbered_flow f ≡ f → Rests (record { flow = f; shared = x.shared; page = empty_page })
  unfolding settled
  rests f h = ap (λ g. record { flow = g; shared = x.shared; page = empty_page }) h

  pub game_built : (flow : Flow) (aside : AsideOf Flow) (shared : SharedParts) → AllByRecursion Plain x.flows → ((Some (flow_of s flow), aside_of s aside) ≡ Flows) × AllStand s Flows
      → (shared_as s shared ≡ x.shared) × SharedSound s x.shared → Restores s (game_spelled x) (Some (record { flow = flow; aside = aside; shared = shared }))
  game_built flow aside shared plain f h =
      by (at x.current x.flows) refl
    where
      by : (o : Option FlowHere) → at x.current x.flows ≡ o → Restores s (game_with x o) (Some (record { flow = flow; aside = aside; shared = shared }))
      by None there = let none : Some (flow_of s flow) ≡ None = ap (λ p. p.0) f.0 ∙ there in absurd cc
      by (Some g) there =
          let found : Some (flow_of s flow) ≡ Some g = ap (λ p. p.0) f.0 ∙ there in
          let same : flow_of s flow ≡ g = cc in
          let shown : aside_of s aside ≡ aside_but x.current x.flows = ap (λ p. p.1) f.0 in (
            λ i. record { now = record { flow = same i; shared = h.0 i; page = empty_page }; aside = shown i },
            record {
              sound = record { flow = subst (CurrentSound s) there f.1.0; shared = h.1; page = record { few = omega arith } };
              rests = rests g (current_plain x.current x.flows g plain there);
              aside = f.1.1;
            },
          )
