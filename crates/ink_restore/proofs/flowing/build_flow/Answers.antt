use Rattle.std.proofs.Common.{◌∙◌, ap, map, subst}
use Rattle.ink_choice.specs.Choices.{ChoicesView}
use Rattle.ink_restore.proofs.Common.{map_choice, or_else, place_of, story_tree, Spot}
use Rattle.ink_model.specs.Save.Sound.{ChoiceFits, ChoicesFit, StackFits, ValueFits}
use Rattle.ink_restore.specs.Building.{ChoiceAsks, FirstAsks, ListAsks, ThreadsAsk}
use Rattle.ink_restore.proofs.Asking.{choice_asks, list_later, list_now}
use Rattle.ink_restore.proofs.Making.{built}
use Rattle.ink_value.specs.Stack.{Stack}
use Rattle.ink_restore.proofs.flowing.build_flow.Goals as goal

pub returns-in_err-stack-clause-memory : goal.returns-in_err-stack-clause-memory
returns-in_err-stack-clause-memory c =
    let s = story_tree c.args.tree.now in
    let f = c.args.saved.now in
    or_else _ (list_now (ValueFits s) (ValueFits s) f.stack (ListAsks (ChoiceAsks s) f.choices (ThreadsAsk s f.threads)) (λ v k. k)
    (subst (FirstAsks (ValueFits s) (ValueFits s)) (c.as_slice.ensures ∙ ap (λ x. x.stack) c.saved.view_is) c.in_err-stack.ensures.memory))

pub returns-in_err-choices-clause-memory : goal.returns-in_err-choices-clause-memory
returns-in_err-choices-clause-memory c =
    let s = story_tree c.args.tree.now in
    let f = c.args.saved.now in
    let stack = built (λ (v : Stack). v.items) (StackFits s) c.as_slice.result.now f.stack c.in_ok-stack.field-0 c.in-Some.stack (c.as_slice.ensures ∙ ap (λ x. x.stack) c.saved.view_is) c.in-Some.is c.in_ok-stack.ensures.builds in
    or_else _ (list_later (ValueFits s) (ValueFits s) f.stack (ListAsks (ChoiceAsks s) f.choices (ThreadsAsk s f.threads)) (λ v k. k) stack.1.each
    (list_now (ChoiceFits s) (ChoiceAsks s) f.choices (ThreadsAsk s f.threads) (choice_asks s)
    (subst (FirstAsks (ChoiceFits s) (ChoiceAsks s)) (c.as_slice-2.ensures ∙ ap (λ x. x.choices) c.saved.view_is) c.in_err-choices.ensures.memory)))

pub returns-in_err-threads-clause-memory : goal.returns-in_err-threads-clause-memory
returns-in_err-threads-clause-memory c =
    let s = story_tree c.args.tree.now in
    let f = c.args.saved.now in
    let stack = built (λ (v : Stack). v.items) (StackFits s) c.as_slice.result.now f.stack c.in_ok-stack.field-0 c.in-Some.stack (c.as_slice.ensures ∙ ap (λ x. x.stack) c.saved.view_is) c.in-Some.is c.in_ok-stack.ensures.builds in
    let choices = built (λ (v : ChoicesView Spot). map (map_choice (place_of s)) v.items) (ChoicesFit s) c.as_slice-2.result.now f.choices c.in_ok-choices.field-0 c.in-Some-2.choices
    (c.as_slice-2.ensures ∙ ap (λ x. x.choices) c.saved.view_is) c.in-Some-2.is c.in_ok-choices.ensures.builds in
    or_else _ (list_later (ValueFits s) (ValueFits s) f.stack (ListAsks (ChoiceAsks s) f.choices (ThreadsAsk s f.threads)) (λ v k. k) stack.1.each
    (list_later (ChoiceFits s) (ChoiceAsks s) f.choices (ThreadsAsk s f.threads) (choice_asks s) choices.1.each
    (subst (ThreadsAsk s) (ap (λ x. x.threads) c.saved.view_is) c.in_err-threads.ensures.memory)))
