use Rattle.std.proofs.Common.{◌≡◌, ◌∙◌, ◌<◌, ◌≤◌, ◌++◌, ◌∷◌, [], None, ap, arith, is_some, length, subst, sym, true}
use Rattle.std.proofs.lemmas.Result.{on_ok_weaker}
use Rattle.ink_vars.proofs.Common.{Values, store, stored, Tracks, noted_at, global_index, with_noted}
use Rattle.ink_vars.proofs.Noting.{either_way, more_noted, none_of, noted, same_noted}
use Rattle.ink_vars.proofs.Numbers.{number_next, stored_within}
use Rattle.ink_vars.proofs.changes.Changes.put_new.Goals as goal
use Rattle.ink_vars.proofs.changes.Changes.put_new.Goals.{After-is_noted}

absent : (c : After-is_noted) → stored c.args.name.now c.args.globals.now ≡ None
absent c = none_of (stored c.args.name.now c.args.globals.now) c.requires.absent

-- a new global has the next number
is_next : (c : After-is_noted) → c.len-next.result ≡ global_index c.args.name.now c.args.globals.now
is_next c = c.len-next.ensures.len ∙ sym (number_next c.args.name.now c.args.globals.now (absent c))

-- whether it was noted
is_noted : (c : After-is_noted) → is_some (noted_at (global_index c.args.name.now c.args.globals.now) c.args.self.now.noted) ≡ c.is_noted.result
is_noted c = ap (λ i. is_some (noted_at i c.args.self.now.noted)) (sym (is_next c)) ∙ sym c.is_noted.ensures.noted

-- what the globals were stays known, and each has a slot
stays : (c : After-is_noted) (start : Values) → Tracks start c.args.self.now.noted c.args.globals.now
    → Tracks start (with_noted c.args.name.now c.args.globals.now c.args.self.now.noted) (store c.args.name.now c.args.value c.args.globals.now)
stays c start tracks = (noted c.args.name.now c.args.globals.now c.args.self.now.noted start tracks).1 c.args.value

-- ---- noted before

was_noted : (c : After-is_noted) → c.is_noted.result ≡ true → c.args.self.now.noted ≡ with_noted c.args.name.now c.args.globals.now c.args.self.now.noted
was_noted c mark = same_noted c.args.name.now c.args.globals.now c.args.self.now.noted (is_noted c ∙ mark)

pub returns-then-is_noted-clause-noted : goal.returns-then-is_noted-clause-noted
returns-then-is_noted-clause-noted c = on_ok_weaker c.add_at.result (λ is. was_noted (goal.at.returns-then-is_noted-clause-noted c).After-is_noted c.if-is_noted.true) c.add_at.ensures.ok

pub returns-then-is_noted-clause-tracks : goal.returns-then-is_noted-clause-tracks
returns-then-is_noted-clause-tracks c start tracks =
    let own = (goal.at.returns-then-is_noted-clause-tracks c).After-is_noted in
    either_way c.add_at.result c.add_at.ensures.ok c.add_at.ensures.err
    (λ is. rw (is, was_noted own c.if-is_noted.true) (stays own start tracks)) (λ is. subst (λ globals. Tracks start c.args.self.now.noted globals) (sym is) tracks)

pub returns-then-is_noted-clause-slots : goal.returns-then-is_noted-clause-slots
returns-then-is_noted-clause-slots c =
    let slots = c.args.self.now.slots in
    let own = (goal.at.returns-then-is_noted-clause-slots c).After-is_noted in
    let more = stored_within c.args.name.now c.args.value c.args.globals.now slots c.requires.slots (subst (λ i. i < slots) (is_next own) (c.is_noted.ensures.slot c.if-is_noted.true)) in
    either_way c.add_at.result c.add_at.ensures.ok c.add_at.ensures.err
    (λ is. subst (λ globals. length globals ≤ slots) (sym is) more) (λ is. subst (λ globals. length globals ≤ slots) (sym is) c.requires.slots)

-- ---- noted now

pub add-requires-clause-unnoted : goal.add-requires-clause-unnoted
add-requires-clause-unnoted c =
    let own = (goal.at.add-requires-clause-unnoted c).After-is_noted in
    ap (noted_at c.len-next.result) c.make_slot.ensures.noted ∙ ap (λ i. noted_at i c.args.self.now.noted) (is_next own)
    ∙ none_of (noted_at (global_index c.args.name.now c.args.globals.now) c.args.self.now.noted) (is_noted own ∙ c.if-is_noted.false)

pub returns-clause-noted : goal.returns-clause-noted
returns-clause-noted c =
    let own = (goal.at.returns-clause-noted c).After-is_noted in
    c.add.ensures.noted ∙ ap (λ bs. bs ++ record { index = c.len-next.result; value = None } ∷ []) c.make_slot.ensures.noted
    ∙ more_noted c.args.name.now c.args.globals.now c.args.self.now.noted c.len-next.result None (is_next own) (sym (absent own)) (is_noted own ∙ c.if-is_noted.false)

pub returns-clause-tracks : goal.returns-clause-tracks
returns-clause-tracks c start tracks = rw (returns-clause-noted c, c.in_ok-add_at.ensures.ok) (stays (goal.at.returns-clause-tracks c).After-is_noted start tracks)

pub returns-clause-slots : goal.returns-clause-slots
returns-clause-slots c =
    let own = (goal.at.returns-clause-slots c).After-is_noted in
    let more = stored_within c.args.name.now c.args.value c.args.globals.now c.add.new.self.slots (omega (arith, c.requires.slots, c.make_slot.ensures.more, c.add.ensures.slots))
    (omega (arith, is_next own, c.in_ok-make_slot.ensures.ok, c.add.ensures.slots)) in
    subst (λ globals. length globals ≤ c.add.new.self.slots) (sym c.in_ok-add_at.ensures.ok) more
