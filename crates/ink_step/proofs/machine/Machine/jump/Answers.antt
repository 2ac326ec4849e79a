use Rattle.std.proofs.Common.{◌≡◌, ◌∙◌, ◌⊎◌, ◌*◌, ◌||◌, length, ap, subst, true, false, map, None, Some, ◌≤◌, arith, is_err, sym, Result, Ok, Err, OnOk}
use Rattle.ink_step.proofs.Common.{story_tree, Configuration, map_choice, entered_places, adds_rows, all_visited, threads_stood, threads_spare, config_of, counts_in, aside_in, place_of, counts_spare, counts_stood}
use Rattle.ink_model.specs.Flow.Frames.{map_threads, on_top, put_in}
use Rattle.ink_step.specs.Marks.{choices_lack, counts_lack, lacks, own_back, own_lacks, stood_of, threads_lack, turn_lacks, own_spare}
use Rattle.ink_step.proofs.Backs.{own_after}
use Rattle.ink_step.proofs.Chosen.{asks_or_lacks, jump_lands, jumped_in}
use Rattle.ink_choice.specs.Undo.{choices_spare}
use Rattle.ink_trail.proofs.Undoing.{trails-trails}
use Rattle.ink_step.proofs.machine.Machine.jump.Goals.{Else-is_err}
use Rattle.ink_step.proofs.machine.Machine.jump.Goals as goal

pub returns-in-Ok-clause-ok : goal.returns-in-Ok-clause-ok
returns-in-Ok-clause-ok c =
    let s = story_tree c.args.story.now in
    let old = config_of s c.args.self.now in
    let mid = c.make_choosing_room.new.self in
    let here = config_of s mid in
    let place = c.args.place in
    let q = place_of s place in
    let turn = c.next-turn.result in
    let after = c.enter_landed.new.counts.rows in
    let counts = counts_in s after in
    let entering = subst (λ t. counts_in t after ≡ all_visited t turn (entered_places t None (place_of t place)) (counts_in t mid.shared.counts.rows)) c.tree.ensures.tree c.in-Ok.ensures.ok in
    let turned : Configuration → Configuration = λ d. record d { shared = record d.shared { turn = turn } } in
    let there = jumped_in q here turn counts in
    let cleared = ap (λ cs. record there { flow = record there.flow { threads = map_threads (place_of s) c.put.new.self.threads; choices = map (map_choice (place_of s)) cs } }) c.clear.ensures.items in
    let alone = ap (λ ts. record there { flow = record there.flow { threads = map_threads (place_of s) ts } }) (c.put.ensures.threads ∙ ap (on_top (put_in (Some place))) c.reset.ensures.threads) in
    jump_lands s q old here (c.make_choosing_room.ensures.config s) counts turn _
    (ap (config_of s) c.set_turn.ensures.set ∙ ap (λ m. turned (config_of s m)) c.set_safe.ensures.set ∙ cleared ∙ alone) c.next-turn.ensures entering

pub returns-in-Ok-clause-mark : goal.returns-in-Ok-clause-mark
returns-in-Ok-clause-mark c =
    let stood = stood_of c.make_choosing_room.new.self in
    let counted = ap (λ o. record stood { counts = o }) c.in-Ok.ensures.mark in
    let alone = ap (λ o. record stood { threads = o; counts = counts_stood c.enter_landed.new.counts }) (c.put.ensures.stood ∙ c.reset.ensures.stood) in
    let cleared = ap (λ o. record stood { threads = threads_stood c.put.new.self; choices = o; counts = counts_stood c.enter_landed.new.counts }) c.clear.ensures.stood in
    c.set_turn.ensures.mark ∙ c.set_safe.ensures.mark ∙ cleared ∙ alone ∙ counted ∙ c.make_choosing_room.ensures.mark

pub returns-in-Err-clause-memory : goal.returns-in-Err-clause-memory
returns-in-Err-clause-memory c =
    let s = story_tree c.args.story.now in
    let mid = c.make_choosing_room.new.self in
    let left = c.enter_landed.new.counts in
    let new = record mid { shared = record mid.shared { counts = left } } in
    let ps = entered_places s None (place_of s c.args.place) in
    let refused = subst (λ t. let rs = entered_places t None (place_of t c.args.place) in (adds_rows t rs (counts_in t mid.shared.counts.rows) ≡ true) ⊎ (lacks (counts_stood left) (counts_spare left) (4 * length rs) ≡ true)) c.tree.ensures.tree c.in-Err.ensures.memory in
    let short = asks_or_lacks false (threads_lack 2 new) (choices_lack 2 new) (own_lacks 2 new) (counts_lack (4 * length ps) new) (adds_rows s ps (config_of s mid).shared.counts) refused in
    subst (λ d. (turn_lacks (length ps) new || adds_rows s ps d.shared.counts) ≡ true) (c.make_choosing_room.ensures.config s) short

pub returns-in-Ok-clause-aside : goal.returns-in-Ok-clause-aside
returns-in-Ok-clause-aside c = ap aside_in c.set_turn.ensures.set ∙ ap aside_in c.set_safe.ensures.set ∙ c.make_choosing_room.ensures.aside

pub returns-in-Err-clause-err : goal.returns-in-Err-clause-err
returns-in-Err-clause-err c =
    let s = story_tree c.args.story.now in
    let mid = c.make_choosing_room.new.self in
    ap (λ rows. config_of s (record mid { shared = record mid.shared { counts = record c.enter_landed.new.counts { rows = rows } } })) c.in-Err.ensures.kept ∙ c.make_choosing_room.ensures.config s

pub returns-in-Err-clause-mark : goal.returns-in-Err-clause-mark
returns-in-Err-clause-mark c = ap (λ o. record (stood_of c.make_choosing_room.new.self) { counts = o }) c.in-Err.ensures.mark ∙ c.make_choosing_room.ensures.mark

pub returns-then-is_err-clause-err : goal.returns-then-is_err-clause-err
returns-then-is_err-clause-err c = c.make_choosing_room.ensures.config (story_tree c.args.story.now)

-- ---- the machine's own fields

pub returns-in-Ok-clause-own : goal.returns-in-Ok-clause-own
returns-in-Ok-clause-own c =
    own_after 2 c.args.self.now c.make_choosing_room.new.self c.set_turn.new.self c.make_choosing_room.ensures.same c.make_choosing_room.ensures.kept
    (trails-trails own_back 1 1 _ _ _ _ _ _ c.set_safe.ensures.trail c.set_turn.ensures.trail)

-- ---- room

ready : {A B : Type 0} (r : Result A B) (P : Type 0) → is_err r ≡ false → OnOk r P → P
ready (Ok a) P h p = p
ready (Err e) P h p = absurd (cc)

module _ (c : Else-is_err) where
  made : is_err c.make_choosing_room.result ≡ false
  made = sym c.is_err.ensures.value ∙ c.if-is_err.false

  threads_room : 2 ≤ threads_spare c.make_choosing_room.new.self.flow.threads
  threads_room = ready c.make_choosing_room.result _ made c.make_choosing_room.ensures.threads

  choices_room : 2 ≤ choices_spare c.make_choosing_room.new.self.flow.choices
  choices_room = ready c.make_choosing_room.result _ made c.make_choosing_room.ensures.choices

  own_room : 2 ≤ own_spare c.make_choosing_room.new.self.trail
  own_room = ready c.make_choosing_room.result _ made c.make_choosing_room.ensures.own

pub reset-requires : goal.reset-requires
reset-requires c = record { room = omega (arith, threads_room (goal.at.reset-requires c).Else-is_err) }

pub put-requires : goal.put-requires
put-requires c = record { room = omega (arith, threads_room (goal.at.put-requires c).Else-is_err, c.reset.ensures.spare) }

pub clear-requires : goal.clear-requires
clear-requires c = record { room = omega (arith, choices_room (goal.at.clear-requires c).Else-is_err) }

pub set_safe-requires : goal.set_safe-requires
set_safe-requires c = record { room = omega (arith, own_room (goal.at.set_safe-requires c).Else-is_err) }

pub set_turn-requires : goal.set_turn-requires
set_turn-requires c = record { room = omega (arith, own_room (goal.at.set_turn-requires c).Else-is_err, c.set_safe.ensures.spare) }
