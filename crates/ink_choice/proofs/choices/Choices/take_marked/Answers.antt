use Rattle.std.proofs.Common.{◌≡◌, ◌∙◌, ◌<◌, Some, ap, arith, inl, inr, length, refl, slice_get, vec_capacity, get_or, subst}
use Rattle.std.proofs.lemmas.Option.{slice_get_read}
use Rattle.std.proofs.lemmas.Result.{err_from_is_err_and}
use Rattle.std.specs.List.{insert}
use Rattle.ink_trail.proofs.Undoing.{spare-kept, stood-kept, stood-trails, trails-after, trails-one}
use Rattle.ink_trail.specs.Undo.{trail_of}
use Rattle.ink_model.specs.Choices.Making.{option_asks}
use Rattle.ink_choice.specs.Undo.{choices_back, choices_spare, choices_stood}
use Rattle.ink_choice.specs.declared.undo.ChoicePair.TheVariants.{Taken}
use Rattle.ink_choice.proofs.Settling.{settled-removed}
use Rattle.ink_choice.proofs.Undoing.{held-as, held-now, held-with, taken_back}
use Rattle.ink_choice.proofs.Lists.{in_list}
use Rattle.std.proofs.lemmas.List.{get_or_default}
use Rattle.ink_choice.proofs.choices.Choices.take_marked.Goals as goal

pub invariant_of-self-2 : goal.invariant_of-self-2
invariant_of-self-2 g c =
    let old = c.self.inside.items in
    let new = c.remove-choice.new.self in
    let choice = c.remove-choice.result in
    let within : c.args.index < length old.items = omega (arith, c.requires, ap (λ s. length s.items) c.self.view_is) in
    let back : choices_back (Taken c.args.index choice) new.items ≡ old.items =
    ap (λ cs. insert cs c.args.index choice) c.remove-choice.ensures.items ∙ taken_back old.items c.args.index choice within c.remove-choice.ensures.value in
    let held = held-now (vec_capacity old) (trail_of c.self.inside.trail.undo) old.items c.self.invariant.1 in
    let room : vec_capacity new ≡ vec_capacity old = c.remove-choice.ensures.capacity in
    rw c.note.ensures.undo (
      omega (arith, c.self.invariant.0, c.remove-choice.ensures.len, old.ok.0, new.ok.0),
      held-with (Taken c.args.index choice) 1 old.items new.items c.ready.new.self.undo (vec_capacity old) (vec_capacity new) back
          (omega (arith, held.0, c.remove-choice.ensures.len, old.ok.0, new.ok.0), omega (arith, held.1, room, c.remove-choice.ensures.len, old.ok.0, new.ok.0)) (omega (arith, room))
          (held-as _ _ c.self.inside.trail.undo _ old.items _ c.ready.ensures.kept.0 refl (omega arith) c.self.invariant.1),
      rw c.remove-choice.ensures.items (settled-removed c.min-self-inside.result c.self.inside.settled c.args.index old.items (omega arith) (omega arith) c.self.invariant.2),
    )

pub returns-clause-trail : goal.returns-clause-trail
returns-clause-trail g c =
    let old = c.self.inside.items in
    let choice = c.remove-choice.result in
    let within : c.args.index < length old.items = omega (arith, c.requires, ap (λ s. length s.items) c.self.view_is) in
    let back : choices_back (Taken c.args.index choice) c.remove-choice.new.self.items ≡ old.items =
    ap (λ cs. insert cs c.args.index choice) c.remove-choice.ensures.items ∙ taken_back old.items c.args.index choice within c.remove-choice.ensures.value in
    rw (← c.self.view_is) (trails-after choices_back 1 _ _ _ c.ready.new.self _ c.ready.ensures.kept
    (trails-one choices_back (Taken c.args.index choice) 1 _ _ _ _ (omega arith) back c.note.ensures.undo c.note.ensures.room))

pub returns-clause-stood : goal.returns-clause-stood
unfolding choices_stood
returns-clause-stood g c = stood-trails choices_back (returns-clause-trail g c)

pub invariant_of-self : goal.invariant_of-self
invariant_of-self g c = (
  c.self.invariant.0,
  held-as _ _ c.self.inside.trail.undo _ c.self.inside.items.items _ c.ready.ensures.kept.0 refl (omega arith) c.self.invariant.1,
  c.self.invariant.2,
)

pub invariant_of-self-in_err-copy : goal.invariant_of-self-in_err-copy
invariant_of-self-in_err-copy g c = (
  c.self.invariant.0,
  held-as _ _ c.self.inside.trail.undo _ c.self.inside.items.items _ c.ready.ensures.kept.0 refl (omega arith) c.self.invariant.1,
  c.self.invariant.2,
)

pub returns-in_err-ready-clause-stood : goal.returns-in_err-ready-clause-stood
unfolding choices_stood
returns-in_err-ready-clause-stood g c = stood-kept choices_back c.self.inside.items.items c.self.inside.items.items c.self.inside.trail c.ready.new.self refl c.ready.ensures.kept ∙ ap choices_stood c.self.view_is

pub returns-in_err-ready-clause-spare : goal.returns-in_err-ready-clause-spare
unfolding choices_spare
returns-in_err-ready-clause-spare g c = omega (arith, spare-kept c.self.inside.trail c.ready.new.self c.ready.ensures.kept, ap choices_spare c.self.view_is)

pub returns-in_err-copy-clause-stood : goal.returns-in_err-copy-clause-stood
unfolding choices_stood
returns-in_err-copy-clause-stood g c = stood-kept choices_back c.self.inside.items.items c.self.inside.items.items c.self.inside.trail c.ready.new.self refl c.ready.ensures.kept ∙ ap choices_stood c.self.view_is

pub returns-in_err-copy-clause-spare : goal.returns-in_err-copy-clause-spare
unfolding choices_spare
returns-in_err-copy-clause-spare g c = omega (arith, spare-kept c.self.inside.trail c.ready.new.self c.ready.ensures.kept, ap choices_spare c.self.view_is)

pub returns-in_err-ready-clause-asks : goal.returns-in_err-ready-clause-asks
unfolding choices_spare
returns-in_err-ready-clause-asks g c =
    let p = err_from_is_err_and c.from_residual.result c.from_residual.ensures.1 in
    let short : choices_spare c.args.self.now < 1 = omega (arith, c.in_err-ready.ensures.lacks, ap choices_spare c.self.view_is) in
    rw p.1 (inl short)

pub returns-in_err-copy-clause-asks : goal.returns-in_err-copy-clause-asks
returns-in_err-copy-clause-asks g c =
    let p = err_from_is_err_and c.from_residual-in_err-copy.result c.from_residual-in_err-copy.ensures.1 in
    let items = c.args.self.now.items in
    let there : slice_get items c.args.index ≡ Some c.index.result.now = slice_get_read items (length items) c.args.index c.index.result.now refl c.requires (subst (λ s. c.index.result.now ≡ get_or s.items c.args.index c.index.result.now) c.self.view_is c.index.ensures) in
    rw p.1 (inr (ap option_asks there ∙ c.in_err-copy.ensures.memory))

pub returns-clause-choice : goal.returns-clause-choice
returns-clause-choice g c =
    let items = c.args.self.now.items in
    let read : c.index.result.now ≡ get_or items c.args.index c.index.result.now = subst (λ s. c.index.result.now ≡ get_or s.items c.args.index c.index.result.now) c.self.view_is c.index.ensures in
    c.in_ok-copy.ensures.copy ∙ read ∙ get_or_default items c.args.index c.index.result.now c.in_ok-copy.copy c.requires

pub remove-choice-requires : goal.remove-choice-requires
remove-choice-requires g c = in_list c.self.inside.items c.args.self.now.items c.args.index (ap (λ s. s.items) c.self.view_is) c.requires

pub index-requires : goal.index-requires
index-requires g c = in_list c.self.inside.items c.args.self.now.items c.args.index (ap (λ s. s.items) c.self.view_is) c.requires
