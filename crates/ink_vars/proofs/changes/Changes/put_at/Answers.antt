use Rattle.std.proofs.Common.{◌≡◌, ◌∙◌, ◌<◌, ap, arith, is_some, length, subst, sym, true}
use Rattle.ink_vars.proofs.Common.{Values, store, Tracks, noted_at, with_noted, set_value_at}
use Rattle.ink_vars.proofs.Covering.{changed_length}
use Rattle.ink_vars.proofs.Noting.{noted, same_noted}
use Rattle.ink_vars.proofs.Numbers.{there_within}
use Rattle.ink_vars.proofs.Taking.{written_over}
use Rattle.ink_vars.proofs.changes.Changes.put_at.Goals as goal
use Rattle.ink_vars.proofs.changes.Changes.put_at.Goals.{After-is_noted}

there : (c : After-is_noted) → c.args.index < length c.args.globals.now
there c = subst (λ i. i < length c.args.globals.now) (sym c.requires.index) (there_within c.args.name.now c.args.globals.now c.requires.there)

-- what is written there is stored
is_stored : (c : After-is_noted) → set_value_at c.args.globals.now c.args.index c.args.value ≡ store c.args.name.now c.args.value c.args.globals.now
is_stored c =
    ap (λ i. set_value_at c.args.globals.now i c.args.value) c.requires.index ∙ written_over c.args.name.now c.args.value c.args.globals.now (there_within c.args.name.now c.args.globals.now c.requires.there)

-- what the globals were stays known
stays : (c : After-is_noted) (start : Values) → Tracks start c.args.self.now.noted c.args.globals.now
    → Tracks start (with_noted c.args.name.now c.args.globals.now c.args.self.now.noted) (set_value_at c.args.globals.now c.args.index c.args.value)
stays c start tracks = rw (is_stored c) ((noted c.args.name.now c.args.globals.now c.args.self.now.noted start tracks).1 c.args.value)

-- ---- noted before

pub swap_at-before-requires : goal.swap_at-before-requires
swap_at-before-requires c = there (goal.at.swap_at-before-requires c).After-is_noted

pub returns-then-is_noted-clause-globals : goal.returns-then-is_noted-clause-globals
returns-then-is_noted-clause-globals c = c.swap_at-before.ensures.written ∙ is_stored (goal.at.returns-then-is_noted-clause-globals c).After-is_noted

-- what it was is noted
was_noted : (c : After-is_noted) → c.is_noted.result ≡ true → c.args.self.now.noted ≡ with_noted c.args.name.now c.args.globals.now c.args.self.now.noted
was_noted c mark =
    same_noted c.args.name.now c.args.globals.now c.args.self.now.noted (ap (λ i. is_some (noted_at i c.args.self.now.noted)) (sym c.requires.index) ∙ sym c.is_noted.ensures.noted ∙ mark)

pub returns-then-is_noted-clause-tracks : goal.returns-then-is_noted-clause-tracks
returns-then-is_noted-clause-tracks c start tracks =
    let own = (goal.at.returns-then-is_noted-clause-tracks c).After-is_noted in
    rw (was_noted own c.if-is_noted.true, c.swap_at-before.ensures.written) (stays own start tracks)

pub returns-then-is_noted-clause-slots : goal.returns-then-is_noted-clause-slots
returns-then-is_noted-clause-slots c =
    omega (arith, ap length c.swap_at-before.ensures.written, changed_length c.args.index c.args.value c.args.globals.now, c.requires.slots)

-- ---- not noted

pub put_first-requires-clause-there : goal.put_first-requires-clause-there
put_first-requires-clause-there c = there (goal.at.put_first-requires-clause-there c).After-is_noted

pub returns-clause-globals : goal.returns-clause-globals
returns-clause-globals c = c.put_first.ensures.globals ∙ is_stored (goal.at.returns-clause-globals c).After-is_noted

pub returns-clause-tracks : goal.returns-clause-tracks
returns-clause-tracks c start tracks =
    rw (c.put_first.ensures.noted c.args.name.now c.requires.index, c.put_first.ensures.globals) (stays (goal.at.returns-clause-tracks c).After-is_noted start tracks)

pub returns-clause-slots : goal.returns-clause-slots
returns-clause-slots c =
    omega (arith, ap length c.put_first.ensures.globals, changed_length c.args.index c.args.value c.args.globals.now, c.requires.slots, c.put_first.ensures.slots)
