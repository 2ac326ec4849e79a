use Rattle.std.proofs.Common.{◌≡◌, ◌∙◌, [], ◌∷◌, ◌++◌, ap, arith, length, vec_capacity}
use Rattle.std.proofs.lemmas.List.{length-append}
use Rattle.ink_trail.proofs.Undoing.{trails-one}
use Rattle.ink_trail.specs.Undo.{trail_of}
use Rattle.ink_value.specs.Undo.{Held, stack_back}
use Rattle.ink_value.specs.declared.undo.StackPair.TheVariants.{Replaced}
use Rattle.ink_value.proofs.Undoing.{held-now, held-with, replaced_back}
use Rattle.ink_value.proofs.undo.replace_noted.Goals as goal

pub returns-clause-trail : goal.returns-clause-trail
returns-clause-trail c =
    trails-one stack_back (Replaced c.in-Some.before) 1 _ _ _ _ (omega arith)
    (replaced_back _ c.pop.new.self.items _ c.args.value c.in-Some.before c.in-Some.ensures.items c.push_reserved.ensures.items) c.note.ensures.undo c.note.ensures.room

pub returns-clause-held : goal.returns-clause-held
returns-clause-held c =
    let old = c.args.items.now in
    let below = c.pop.new.self in
    let new = c.push_reserved.new.self in
    let was : old.items ≡ below.items ++ c.in-Some.before ∷ [] = c.in-Some.ensures.items in
    let is : new.items ≡ below.items ++ c.args.value ∷ [] = c.push_reserved.ensures.items in
    let same : length new.items ≡ length old.items =
    omega (arith, ap length was ∙ length-append below.items (c.in-Some.before ∷ []), ap length is ∙ length-append below.items (c.args.value ∷ [])) in
    let room : vec_capacity new ≡ vec_capacity old = c.push_reserved.ensures.capacity ∙ c.pop.ensures.capacity in
    let held : Held (vec_capacity old) old.items = held-now (vec_capacity old) (trail_of c.args.trail.now.undo) old.items c.requires.held in
    rw c.note.ensures.undo (held-with (Replaced c.in-Some.before) 1 old.items new.items c.args.trail.now.undo (vec_capacity old) (vec_capacity new)
    (replaced_back old.items below.items new.items c.args.value c.in-Some.before was is) (omega (arith, same, held.0), omega (arith, same, room, held.1)) (omega (arith, room)) c.requires.held)
