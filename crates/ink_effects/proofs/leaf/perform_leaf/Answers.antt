use Rattle.std.proofs.Common.{◌≡◌, ◌∙◌, List, OnOk, Result, Some, ap, inl, inr, of_z, refl, rules, subst, sym, to_z, to_z-of_z, w32}
use Rattle.ink_effects.proofs.Common.{story_tree, ChoiceOf, Effect, Fields, ThreadsOf, Page, Values, StoryTree, leaf, Leaf, Fault, Value, Transfer, place_of, Spot}
use Rattle.ink_model.specs.declared.scope.Scope.TheVariants.{Global, Temporary}
use Rattle.ink_effects.specs.Flows.{fields_of_flow, leaf_asks_in, leaf_effect_in}
use Rattle.ink_effects.specs.Performs.{KeepsThreads, KeepsChoices, Performs, fields_in, leading}
use Rattle.ink_effects.specs.Standing.{Rest, rest_in, seen_by}
use Rattle.ink_effects.proofs.Landings.{leaf_landing}
use Rattle.ink_effects.proofs.Stored.{fields_kept}
use Rattle.ink_effects.proofs.Plain.{IsPlainLeaf, assign_offers_none, control_plain, declare_offers_none, keeps_plain, leaf_plain, offer_stores_none, offers_plain, when_ok}
use Rattle.ink_effects.proofs.leaf.perform_leaf.Goals as goal
use Rattle.ink_effects.proofs.leaf.perform_leaf.Goals.{Start}

-- ---- what is performed, where

module _ (c : Start) where
  abbrev tree : StoryTree
  tree = story_tree c.args.story.now

  abbrev before : ThreadsOf Spot
  before = c.args.flow.now.threads.threads

  abbrev rest : Rest
  rest = rest_in c.args.flow.now.choices.items c.args.shared.now

  abbrev old : Fields
  old = fields_of_flow c.args.flow.now c.args.output.now.page c.args.shared.now.globals.rows

  -- ---- content that is known

  abbrev does_there : Leaf → Effect
  does_there l = leaf_effect_in tree c.args.here l c.args.flow.now c.args.output.now.page c.args.shared.now

  abbrev Does : Leaf → Fields → Result Transfer Fault → Type 0
  Does l new r =
      let page = c.args.output.now.page in
      Performs tree (leaf_asks_in tree c.args.here l c.args.flow.now page c.args.shared.now) (does_there l) new r

  does : (l k : Leaf) (new : Fields) (led r : Result Transfer Fault) → l ≡ k → led ≡ r → Does k new r → Does l new led
  does l k new led r is leads h = subst (λ x. Does x new led) (sym is) (subst (Does k new) (sym leads) h)

  -- it leaves a thread of which only temporaries are others
  does_storing : (l k : Leaf) (after : ThreadsOf Spot) (stack : List Value) (page : Page) (globals : Values) (r : Result Transfer Fault) → l ≡ k
      → after.thread.frame ≡ record before.thread.frame { temps = after.thread.frame.temps } → Does k (fields_in before.thread.frame stack page globals) r → Does l (fields_in after.thread.frame stack page globals) r
  does_storing l k after stack page globals r is kept h =
      does l k _ r r is refl (subst (λ f. Does k f r) (fields_kept before after stack page globals kept) h)

  module _ {A : Type 0} where
    abbrev KeptBy : Leaf → ThreadsOf Spot → Result A Fault → Type 0
    KeptBy l after r = OnOk r (KeepsThreads tree (does_there l) before after)

    keeps : (l k : Leaf) (after : ThreadsOf Spot) (r : Result A Fault) → l ≡ k → KeptBy k after r → KeptBy l after r
    keeps l k after r is h = subst (λ x. KeptBy x after r) (sym is) h

    abbrev OffersBy : Leaf → List (ChoiceOf Spot) → Result A Fault → Type 0
    OffersBy l after r = OnOk r (KeepsChoices tree (does_there l) c.args.flow.now.choices.items after)

    offers : (l k : Leaf) (after : List (ChoiceOf Spot)) (r : Result A Fault) → l ≡ k → OffersBy k after r → OffersBy l after r
    offers l k after r is h = subst (λ x. OffersBy x after r) (sym is) h

    -- content that neither stores nor offers keeps threads and choices
    kept_plain : (l k : Leaf) (r : Result A Fault) → l ≡ k → IsPlainLeaf k → KeptBy l before r
    kept_plain l k r is plain =
        keeps l k before r is (when_ok r _ (keeps_plain tree _ before before (leaf_plain tree (place_of tree c.args.here) (seen_by tree before rest) k old plain) refl))

    offers_none : (l k : Leaf) (r : Result A Fault) → l ≡ k → IsPlainLeaf k → OffersBy l c.args.flow.now.choices.items r
    offers_none l k r is plain =
        offers l k c.args.flow.now.choices.items r is (when_ok r _ (offers_plain tree _ c.args.flow.now.choices.items (leaf_plain tree (place_of tree c.args.here) (seen_by tree before rest) k old plain)))

-- ---- each content

pub perform_divert-requires-clause-path : goal.perform_divert-requires-clause-path
perform_divert-requires-clause-path c = leaf_landing (story_tree c.args.story.now) (place_of (story_tree c.args.story.now) c.args.here) _ (c.requires.stands ∙ ap (λ l. Some (leaf l)) c.in-Divert.is)

pub call-requires-clause-path : goal.call-requires-clause-path
call-requires-clause-path c = leaf_landing (story_tree c.args.story.now) (place_of (story_tree c.args.story.now) c.args.here) _ (c.requires.stands ∙ ap (λ l. Some (leaf l)) c.in-Call.is)

pub call-requires-in-Tunnel-clause-path : goal.call-requires-in-Tunnel-clause-path
call-requires-in-Tunnel-clause-path c = leaf_landing (story_tree c.args.story.now) (place_of (story_tree c.args.story.now) c.args.here) _ (c.requires.stands ∙ ap (λ l. Some (leaf l)) c.in-Tunnel.is)

pub returns-in-Control-clause-effect : goal.returns-in-Control-clause-effect
returns-in-Control-clause-effect c =
    let w = (goal.at.returns-in-Control-clause-effect c).Start in
    does w _ _ _ _ _ c.in-Control.is refl (c.perform_control.ensures.effect _)

pub returns-in-Control-clause-threads : goal.returns-in-Control-clause-threads
returns-in-Control-clause-threads c =
    let w = (goal.at.returns-in-Control-clause-threads c).Start in
    keeps w _ _ _ _ c.in-Control.is
    (when_ok c.perform_control.result _ (keeps_plain (tree w) _ (before w) c.perform_control.new.flow.threads.threads (control_plain (tree w) (place_of (tree w) c.args.here) (seen_by (tree w) (before w) (rest w)) c.in-Control.control (old w)) c.perform_control.ensures.threads))

pub returns-in-Text-clause-effect : goal.returns-in-Text-clause-effect
returns-in-Text-clause-effect c =
    let w = (goal.at.returns-in-Text-clause-effect c).Start in
    does w _ _ _ _ _ c.in-Text.is (c.after_text.ensures) (rw (c.is_evaluating-evaluating.ensures, c.fresh_depth.ensures) at (c.write_text.ensures.effect (old w).globals (tree w)))

pub returns-in-Newline-clause-effect : goal.returns-in-Newline-clause-effect
returns-in-Newline-clause-effect c =
    let w = (goal.at.returns-in-Newline-clause-effect c).Start in
    does w _ _ _ _ _ c.in-Newline.is (ap (leading c.write_newline.result) c.requires.on) (rw (c.is_evaluating-evaluating.ensures, c.fresh_depth-in-Newline.ensures) at (c.write_newline.ensures.effect (old w).globals (tree w)))

pub returns-in-Glue-clause-effect : goal.returns-in-Glue-clause-effect
returns-in-Glue-clause-effect c =
    let w = (goal.at.returns-in-Glue-clause-effect c).Start in
    does w _ _ _ _ _ c.in-Glue.is (ap (leading c.write_glue.result) c.requires.on) (rw c.is_evaluating-evaluating.ensures at (c.write_glue.ensures.effect (old w).fresh (old w).stack (old w).globals (tree w)))

pub returns-in-Int-clause-effect : goal.returns-in-Int-clause-effect
returns-in-Int-clause-effect c =
    let w = (goal.at.returns-in-Int-clause-effect c).Start in
    let is : to_z w32 (of_z w32 c.in-Int.number) ≡ c.in-Int.number = search (rules, to_z-of_z) in
    does w _ _ _ _ _ c.in-Int.is (ap (leading c.push_value.result) c.requires.on) (rw (is, c.is_evaluating-evaluating.ensures) at (c.push_value.ensures.effect (old w).fresh (old w).page (old w).globals (tree w)))

pub returns-in-Bool-clause-effect : goal.returns-in-Bool-clause-effect
returns-in-Bool-clause-effect c =
    let w = (goal.at.returns-in-Bool-clause-effect c).Start in
    does w _ _ _ _ _ c.in-Bool.is (ap (leading c.push_value-in-Bool.result) c.requires.on) (rw c.is_evaluating-evaluating.ensures at (c.push_value-in-Bool.ensures.effect (old w).fresh (old w).page (old w).globals (tree w)))

pub returns-in-Void-clause-effect : goal.returns-in-Void-clause-effect
returns-in-Void-clause-effect c =
    let w = (goal.at.returns-in-Void-clause-effect c).Start in
    does w _ _ _ _ _ c.in-Void.is (ap (leading c.push_value-in-Void.result) c.requires.on) (rw c.is_evaluating-evaluating.ensures at (c.push_value-in-Void.ensures.effect (old w).fresh (old w).page (old w).globals (tree w)))

pub returns-in-Target-clause-effect : goal.returns-in-Target-clause-effect
returns-in-Target-clause-effect c =
    let w = (goal.at.returns-in-Target-clause-effect c).Start in
    does w _ _ _ _ _ c.in-Target.is (ap (leading c.push_target.result) c.requires.on) (rw c.is_evaluating-evaluating.ensures at (c.push_target.ensures.effect (old w).fresh (old w).page (old w).globals (tree w)))

pub returns-in-Op-clause-effect : goal.returns-in-Op-clause-effect
returns-in-Op-clause-effect c =
    let w = (goal.at.returns-in-Op-clause-effect c).Start in
    does w _ _ _ _ _ c.in-Op.is (ap (leading c.operate.result) c.requires.on) (c.operate.ensures.effect (old w).evaluating (old w).fresh (old w).page (old w).globals (tree w))

pub returns-in-Tag-clause-effect : goal.returns-in-Tag-clause-effect
returns-in-Tag-clause-effect c =
    let w = (goal.at.returns-in-Tag-clause-effect c).Start in
    does w _ _ _ _ _ c.in-Tag.is (ap (leading c.write_tag.result) c.requires.on) (rw c.as_str.ensures at (c.write_tag.ensures.effect (old w).evaluating (old w).fresh (old w).globals (tree w)))

pub returns-in-Divert-clause-effect : goal.returns-in-Divert-clause-effect
returns-in-Divert-clause-effect c =
    let w = (goal.at.returns-in-Divert-clause-effect c).Start in
    does w _ _ _ _ _ c.in-Divert.is refl (c.perform_divert.ensures.effect _ _ _ (rest w))

pub returns-in-Call-clause-effect : goal.returns-in-Call-clause-effect
returns-in-Call-clause-effect c =
    let w = (goal.at.returns-in-Call-clause-effect c).Start in
    does w _ _ _ _ _ c.in-Call.is refl (c.call.ensures.effect _ _ _ (rest w))

pub returns-in-Tunnel-clause-effect : goal.returns-in-Tunnel-clause-effect
returns-in-Tunnel-clause-effect c =
    let w = (goal.at.returns-in-Tunnel-clause-effect c).Start in
    does w _ _ _ _ _ c.in-Tunnel.is refl (c.call-in-Tunnel.ensures.effect _ _ _ (rest w))

pub returns-in-Count-clause-effect : goal.returns-in-Count-clause-effect
returns-in-Count-clause-effect c =
    let w = (goal.at.returns-in-Count-clause-effect c).Start in
    does w _ _ _ _ _ c.in-Count.is (ap (leading c.push_count.result) c.requires.on) (c.push_count.ensures.effect (before w) (rest w) _ _ _ _ (tree w))

pub returns-in-Variable-clause-effect : goal.returns-in-Variable-clause-effect
returns-in-Variable-clause-effect c =
    let w = (goal.at.returns-in-Variable-clause-effect c).Start in
    does w _ _ _ _ _ c.in-Variable.is (ap (leading c.push_variable.result) c.requires.on) (c.push_variable.ensures.effect (tree w) (rest w) _ _ _ (tree w))

pub returns-in-Pointer-clause-effect : goal.returns-in-Pointer-clause-effect
returns-in-Pointer-clause-effect c =
    let w = (goal.at.returns-in-Pointer-clause-effect c).Start in
    let is : to_z w32 (of_z w32 c.in-Pointer.frame) ≡ c.in-Pointer.frame = search (rules, to_z-of_z) in
    let pushed = rw (is, c.is_evaluating-evaluating.ensures) at (c.push_pointer.ensures.effect (tree w) (rest w) (old w).fresh (old w).page (old w).globals (tree w)) in
    does w _ _ _ _ _ c.in-Pointer.is (ap (leading c.push_pointer.result) c.requires.on) pushed

pub returns-in-Declare-clause-effect : goal.returns-in-Declare-clause-effect
returns-in-Declare-clause-effect c =
    let w = (goal.at.returns-in-Declare-clause-effect c).Start in
    does_storing w _ _ c.declare.new.threads.threads _ _ _ _ c.in-Declare.is c.declare.ensures.frame (c.declare.ensures.effect (tree w) (rest w) _ _ _)

pub returns-in-Declare-clause-threads : goal.returns-in-Declare-clause-threads
returns-in-Declare-clause-threads c =
    let w = (goal.at.returns-in-Declare-clause-threads c).Start in
    keeps w _ _ _ _ c.in-Declare.is (c.declare.ensures.threads (tree w) (rest w) _ _ _)

pub returns-in-DeclareTemp-clause-effect : goal.returns-in-DeclareTemp-clause-effect
returns-in-DeclareTemp-clause-effect c =
    let w = (goal.at.returns-in-DeclareTemp-clause-effect c).Start in
    does_storing w _ _ c.declare-in-DeclareTemp.new.threads.threads _ _ _ _ c.in-DeclareTemp.is c.declare-in-DeclareTemp.ensures.frame (c.declare-in-DeclareTemp.ensures.effect (tree w) (rest w) _ _ _)

pub returns-in-DeclareTemp-clause-threads : goal.returns-in-DeclareTemp-clause-threads
returns-in-DeclareTemp-clause-threads c =
    let w = (goal.at.returns-in-DeclareTemp-clause-threads c).Start in
    keeps w _ _ _ _ c.in-DeclareTemp.is (c.declare-in-DeclareTemp.ensures.threads (tree w) (rest w) _ _ _)

pub returns-in-Assign-clause-effect : goal.returns-in-Assign-clause-effect
returns-in-Assign-clause-effect c =
    let w = (goal.at.returns-in-Assign-clause-effect c).Start in
    let after = c.assign.new.threads.threads in
    elim c.in-Assign.is [
      | inl is ↦ does_storing w _ _ after _ _ _ _ is c.assign.ensures.frame (c.assign.ensures.effect (tree w) (rest w) _ _ _)
      | inr is ↦ does_storing w _ _ after _ _ _ _ is c.assign.ensures.frame (c.assign.ensures.effect (tree w) (rest w) _ _ _)
    ]

pub returns-in-Assign-clause-threads : goal.returns-in-Assign-clause-threads
returns-in-Assign-clause-threads c =
    let w = (goal.at.returns-in-Assign-clause-threads c).Start in
    elim c.in-Assign.is [
      | inl is ↦ keeps w _ _ _ _ is (c.assign.ensures.threads (tree w) (rest w) _ _ _)
      | inr is ↦ keeps w _ _ _ _ is (c.assign.ensures.threads (tree w) (rest w) _ _ _)
    ]

pub returns-in-Choice-clause-effect : goal.returns-in-Choice-clause-effect
returns-in-Choice-clause-effect c =
    let w = (goal.at.returns-in-Choice-clause-effect c).Start in
    let same = c.share_frames.ensures in
    rw same (does w _ _ _ _ _ c.in-Choice.is (ap (leading c.offer.result) c.requires.on) (rw same at (c.offer.ensures.effect (rest w) (old w).evaluating (old w).fresh (old w).page (old w).globals (tree w))))

pub returns-in-Choice-clause-choices : goal.returns-in-Choice-clause-choices
returns-in-Choice-clause-choices c =
    let w = (goal.at.returns-in-Choice-clause-choices c).Start in
    offers w _ _ _ _ c.in-Choice.is (rw c.share_frames.ensures at (c.offer.ensures.choices (rest w) (old w).evaluating (old w).fresh (old w).page (old w).globals))

pub returns-in-Control-clause-choices : goal.returns-in-Control-clause-choices
returns-in-Control-clause-choices c =
    let w = (goal.at.returns-in-Control-clause-choices c).Start in
    rw (ap (λ f. f.choices.items) c.perform_control.ensures.same) (offers w _ _ _ _ c.in-Control.is (when_ok c.perform_control.result _ (offers_plain (tree w) _ c.args.flow.now.choices.items (control_plain (tree w) (place_of (tree w) c.args.here) (seen_by (tree w) (before w) (rest w)) c.in-Control.control (old w)))))

pub returns-in-Declare-clause-choices : goal.returns-in-Declare-clause-choices
returns-in-Declare-clause-choices c =
    let w = (goal.at.returns-in-Declare-clause-choices c).Start in
    offers w _ _ _ _ c.in-Declare.is (when_ok c.declare.result _ (declare_offers_none (tree w) c.args.flow.now.choices.items Global c.in-Declare.name (seen_by (tree w) (before w) (rest w)) (old w)))

pub returns-in-DeclareTemp-clause-choices : goal.returns-in-DeclareTemp-clause-choices
returns-in-DeclareTemp-clause-choices c =
    let w = (goal.at.returns-in-DeclareTemp-clause-choices c).Start in
    offers w _ _ _ _ c.in-DeclareTemp.is (when_ok c.declare-in-DeclareTemp.result _ (declare_offers_none (tree w) c.args.flow.now.choices.items Temporary c.in-DeclareTemp.name (seen_by (tree w) (before w) (rest w)) (old w)))

pub returns-in-Assign-clause-choices : goal.returns-in-Assign-clause-choices
returns-in-Assign-clause-choices c =
    let w = (goal.at.returns-in-Assign-clause-choices c).Start in
    elim c.in-Assign.is [
      | inl is ↦ offers w _ _ _ _ is (when_ok c.assign.result _ (assign_offers_none (tree w) c.args.flow.now.choices.items _ (seen_by (tree w) (before w) (rest w)) (old w)))
      | inr is ↦ offers w _ _ _ _ is (when_ok c.assign.result _ (assign_offers_none (tree w) c.args.flow.now.choices.items _ (seen_by (tree w) (before w) (rest w)) (old w)))
    ]

pub returns-in-Choice-clause-threads : goal.returns-in-Choice-clause-threads
returns-in-Choice-clause-threads c =
    let w = (goal.at.returns-in-Choice-clause-threads c).Start in
    rw c.share_frames.ensures (keeps w _ _ _ _ c.in-Choice.is (when_ok c.offer.result _ (offer_stores_none (tree w) (before w) (place_of (tree w) c.args.here) (seen_by (tree w) (before w) (rest w)) c.in-Choice.target c.in-Choice.flags (old w))))

pub returns-in-Text-clause-threads : goal.returns-in-Text-clause-threads
returns-in-Text-clause-threads c = kept_plain (goal.at.returns-in-Text-clause-threads c).Start _ _ c.after_text.result c.in-Text.is tt

pub returns-in-Text-clause-choices : goal.returns-in-Text-clause-choices
returns-in-Text-clause-choices c = offers_none (goal.at.returns-in-Text-clause-choices c).Start _ _ c.after_text.result c.in-Text.is tt

pub returns-in-Newline-clause-threads : goal.returns-in-Newline-clause-threads
returns-in-Newline-clause-threads c = kept_plain (goal.at.returns-in-Newline-clause-threads c).Start _ _ c.write_newline.result c.in-Newline.is tt

pub returns-in-Newline-clause-choices : goal.returns-in-Newline-clause-choices
returns-in-Newline-clause-choices c = offers_none (goal.at.returns-in-Newline-clause-choices c).Start _ _ c.write_newline.result c.in-Newline.is tt

pub returns-in-Glue-clause-threads : goal.returns-in-Glue-clause-threads
returns-in-Glue-clause-threads c = kept_plain (goal.at.returns-in-Glue-clause-threads c).Start _ _ c.write_glue.result c.in-Glue.is tt

pub returns-in-Glue-clause-choices : goal.returns-in-Glue-clause-choices
returns-in-Glue-clause-choices c = offers_none (goal.at.returns-in-Glue-clause-choices c).Start _ _ c.write_glue.result c.in-Glue.is tt

pub returns-in-Tag-clause-threads : goal.returns-in-Tag-clause-threads
returns-in-Tag-clause-threads c = kept_plain (goal.at.returns-in-Tag-clause-threads c).Start _ _ c.write_tag.result c.in-Tag.is tt

pub returns-in-Tag-clause-choices : goal.returns-in-Tag-clause-choices
returns-in-Tag-clause-choices c = offers_none (goal.at.returns-in-Tag-clause-choices c).Start _ _ c.write_tag.result c.in-Tag.is tt

pub returns-in-Int-clause-threads : goal.returns-in-Int-clause-threads
returns-in-Int-clause-threads c = kept_plain (goal.at.returns-in-Int-clause-threads c).Start _ _ c.push_value.result c.in-Int.is tt

pub returns-in-Int-clause-choices : goal.returns-in-Int-clause-choices
returns-in-Int-clause-choices c = offers_none (goal.at.returns-in-Int-clause-choices c).Start _ _ c.push_value.result c.in-Int.is tt

pub returns-in-Bool-clause-threads : goal.returns-in-Bool-clause-threads
returns-in-Bool-clause-threads c = kept_plain (goal.at.returns-in-Bool-clause-threads c).Start _ _ c.push_value-in-Bool.result c.in-Bool.is tt

pub returns-in-Bool-clause-choices : goal.returns-in-Bool-clause-choices
returns-in-Bool-clause-choices c = offers_none (goal.at.returns-in-Bool-clause-choices c).Start _ _ c.push_value-in-Bool.result c.in-Bool.is tt

pub returns-in-Void-clause-threads : goal.returns-in-Void-clause-threads
returns-in-Void-clause-threads c = kept_plain (goal.at.returns-in-Void-clause-threads c).Start _ _ c.push_value-in-Void.result c.in-Void.is tt

pub returns-in-Void-clause-choices : goal.returns-in-Void-clause-choices
returns-in-Void-clause-choices c = offers_none (goal.at.returns-in-Void-clause-choices c).Start _ _ c.push_value-in-Void.result c.in-Void.is tt

pub returns-in-Target-clause-threads : goal.returns-in-Target-clause-threads
returns-in-Target-clause-threads c = kept_plain (goal.at.returns-in-Target-clause-threads c).Start _ _ c.push_target.result c.in-Target.is tt

pub returns-in-Target-clause-choices : goal.returns-in-Target-clause-choices
returns-in-Target-clause-choices c = offers_none (goal.at.returns-in-Target-clause-choices c).Start _ _ c.push_target.result c.in-Target.is tt

pub returns-in-Op-clause-threads : goal.returns-in-Op-clause-threads
returns-in-Op-clause-threads c = kept_plain (goal.at.returns-in-Op-clause-threads c).Start _ _ c.operate.result c.in-Op.is tt

pub returns-in-Op-clause-choices : goal.returns-in-Op-clause-choices
returns-in-Op-clause-choices c = offers_none (goal.at.returns-in-Op-clause-choices c).Start _ _ c.operate.result c.in-Op.is tt

pub returns-in-Divert-clause-threads : goal.returns-in-Divert-clause-threads
returns-in-Divert-clause-threads c = kept_plain (goal.at.returns-in-Divert-clause-threads c).Start _ _ c.perform_divert.result c.in-Divert.is tt

pub returns-in-Divert-clause-choices : goal.returns-in-Divert-clause-choices
returns-in-Divert-clause-choices c = offers_none (goal.at.returns-in-Divert-clause-choices c).Start _ _ c.perform_divert.result c.in-Divert.is tt

pub returns-in-Variable-clause-threads : goal.returns-in-Variable-clause-threads
returns-in-Variable-clause-threads c = kept_plain (goal.at.returns-in-Variable-clause-threads c).Start _ _ c.push_variable.result c.in-Variable.is tt

pub returns-in-Variable-clause-choices : goal.returns-in-Variable-clause-choices
returns-in-Variable-clause-choices c = offers_none (goal.at.returns-in-Variable-clause-choices c).Start _ _ c.push_variable.result c.in-Variable.is tt

pub returns-in-Pointer-clause-threads : goal.returns-in-Pointer-clause-threads
returns-in-Pointer-clause-threads c = kept_plain (goal.at.returns-in-Pointer-clause-threads c).Start _ _ c.push_pointer.result c.in-Pointer.is tt

pub returns-in-Pointer-clause-choices : goal.returns-in-Pointer-clause-choices
returns-in-Pointer-clause-choices c = offers_none (goal.at.returns-in-Pointer-clause-choices c).Start _ _ c.push_pointer.result c.in-Pointer.is tt

pub returns-in-Count-clause-threads : goal.returns-in-Count-clause-threads
returns-in-Count-clause-threads c = kept_plain (goal.at.returns-in-Count-clause-threads c).Start _ _ c.push_count.result c.in-Count.is tt

pub returns-in-Count-clause-choices : goal.returns-in-Count-clause-choices
returns-in-Count-clause-choices c = offers_none (goal.at.returns-in-Count-clause-choices c).Start _ _ c.push_count.result c.in-Count.is tt

pub returns-in-Call-clause-threads : goal.returns-in-Call-clause-threads
returns-in-Call-clause-threads c = kept_plain (goal.at.returns-in-Call-clause-threads c).Start _ _ c.call.result c.in-Call.is tt

pub returns-in-Call-clause-choices : goal.returns-in-Call-clause-choices
returns-in-Call-clause-choices c = offers_none (goal.at.returns-in-Call-clause-choices c).Start _ _ c.call.result c.in-Call.is tt

pub returns-in-Tunnel-clause-threads : goal.returns-in-Tunnel-clause-threads
returns-in-Tunnel-clause-threads c = kept_plain (goal.at.returns-in-Tunnel-clause-threads c).Start _ _ c.call-in-Tunnel.result c.in-Tunnel.is tt

pub returns-in-Tunnel-clause-choices : goal.returns-in-Tunnel-clause-choices
returns-in-Tunnel-clause-choices c = offers_none (goal.at.returns-in-Tunnel-clause-choices c).Start _ _ c.call-in-Tunnel.result c.in-Tunnel.is tt
