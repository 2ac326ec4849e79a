use Rattle.std.proofs.Common.{◌≡◌, ◌∙◌, None, ap, arith, is_some, length, sym, vec_len}
use Rattle.std.specs.List.{length_refill}
use Rattle.std.proofs.lemmas.List.{with_items_is}
use Rattle.ink_trail.proofs.Undoing.{none-stood, stood-none}
use Rattle.ink_choice.proofs.Settling.{settled-all, settled-walked, settled-within}
use Rattle.ink_choice.proofs.Undoing.{held-unmarked}
use Rattle.ink_choice.specs.Undo.{choices_back, choices_spare, choices_stood}
use Rattle.ink_choice.proofs.choices.Choices.clear_numbers.Goals as goal

pub clear_numbers_from-requires : goal.clear_numbers_from-requires
clear_numbers_from-requires g c =
    omega (arith, settled-within c.self.inside.settled c.self.inside.items.items c.self.invariant.2, ap length c.as_mut_slice.ensures.value)

pub invariant_of-self : goal.invariant_of-self
unfolding choices_stood
invariant_of-self g c =
    let old = c.self.inside.items in
    let new = c.clear_numbers_from.new.choices in
    let none : c.self.inside.trail.undo ≡ None =
    ap (λ s. s.trail.undo) c.self.view_is ∙ none-stood choices_back c.args.self.now.trail c.args.self.now.items c.requires.unmarked in
    let long = length_refill old.len old.items new old.ok.0 in
    let kept : length new ≡ vec_len old = c.clear_numbers_from.auto.choices ∙ c.as_mut_slice.ensures.len in
    let walked = settled-walked c.self.inside.settled old.items _ new c.as_mut_slice.ensures.value c.clear_numbers_from.ensures c.self.invariant.2 in (
      omega (arith, long, old.ok.0, c.self.invariant.0),
      held-unmarked old.cap c.self.inside.trail.undo _ (ap is_some none) (omega (arith, long, old.ok.0, c.self.invariant.0), omega (arith, long, old.ok.1)),
      rw (with_items_is old new kept, walked, c.len-self-inside.ensures, old.ok.0) (settled-all old.items),
    )

pub returns-clause-items : goal.returns-clause-items
returns-clause-items g c =
    let old = c.self.inside.items in
    let new = c.clear_numbers_from.new.choices in
    let kept : length new ≡ vec_len old = c.clear_numbers_from.auto.choices ∙ c.as_mut_slice.ensures.len in
    rw (← c.self.view_is)
    (with_items_is old new kept ∙ settled-walked c.self.inside.settled old.items _ new c.as_mut_slice.ensures.value c.clear_numbers_from.ensures c.self.invariant.2)

pub returns-clause-stood : goal.returns-clause-stood
unfolding choices_stood
returns-clause-stood g c =
    let none : c.self.inside.trail.undo ≡ None =
    ap (λ s. s.trail.undo) c.self.view_is ∙ none-stood choices_back c.args.self.now.trail c.args.self.now.items c.requires.unmarked in
    stood-none choices_back c.self.inside.trail _ none ∙ sym c.requires.unmarked

pub returns-clause-spare : goal.returns-clause-spare
unfolding choices_spare
returns-clause-spare g c = omega (arith, ap choices_spare c.self.view_is)
