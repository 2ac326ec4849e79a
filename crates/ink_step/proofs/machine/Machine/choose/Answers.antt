use Rattle.std.proofs.Common.{◌≡◌, ◌∙◌, ◌⊎◌, ◌*◌, ◌||◌, Bool, List, Option, length, ap, refl, rules, subst, sym, true, false, is_some, slice_get, option_map, MatchOption, Some, None, Ok, Err, unwrap_or, arith}
use Rattle.ink_step.proofs.Common.{story_tree, choices_stood, Takes, ChoiceOf, can_go_on, map_choice, entered_places, StoryTree, adds_rows, all_visited, Part, config_of, counts_in, Machine, or_first, or_more, place_of, counts_spare, counts_stood}
use Rattle.ink_model.specs.Choices.Making.{choice_gone, visible}
use Rattle.ink_model.specs.Choices.Choosing.{open_choice, taken_up}
use Rattle.ink_step.specs.Marks.{choices_lack, choosing_lacks, counts_lack, entered_by, lacks, own_lacks, stood_of, threads_lack, turn_lacks}
use Rattle.ink_step.specs.Steps.{Chooses}
use Rattle.ink_step.proofs.Backs.{own_after}
use Rattle.ink_step.proofs.Chosen.{asks_or_lacks, chooses_none, chooses_one, chooses_short, chosen_lands, open_alike, takes_any, takes_visible, turn_short}
use Rattle.ink_step.proofs.machine.Machine.choose.Goals as goal
use Rattle.ink_step.proofs.machine.Machine.choose.Goals.{After-enter_landed, Else-can_go_on}
use Rattle.ink_tree.specs.Nodes as Nodes

-- flow has stopped
stopped : (c : Else-can_go_on) → can_go_on (config_of (story_tree c.args.story.now) c.args.self.now) ≡ false
stopped c = sym (c.can_go_on.ensures (story_tree c.args.story.now)) ∙ c.if-can_go_on.false

-- what is entered is what the choice leads to
entered_as : (c : After-enter_landed) (A : StoryTree → List (List Part) → Type 0)
    → (let t = Nodes.story_tree c.tree.result.now in A t (entered_places t (option_map (place_of t) c.previous-previous.result) (place_of t c.choice.inside.target)))
    → let s = story_tree c.args.story.now in let x = c.in-Some.choice.now in A s (entered_places s (option_map (place_of s) x.thread.previous) (place_of s x.target))
entered_as c A h =
    let t = Nodes.story_tree c.tree.result.now in
    subst (λ u. A u (entered_places u (option_map (place_of u) c.in-Some.choice.now.thread.previous) (place_of u c.in-Some.choice.now.target))) c.tree.ensures.tree
    (subst (λ v. A t (entered_places t (option_map (place_of t) v.thread.previous) (place_of t v.target))) c.choice.view_is
    (subst (λ o. A t (entered_places t (option_map (place_of t) o) (place_of t c.choice.inside.target))) c.previous-previous.ensures h))

-- it is among the choices still once there is room
still_there : (c : After-enter_landed) → Some c.in-Some.choice.now ≡ slice_get (visible c.make_choosing_room.new.self.flow.choices.items) c.args.number
still_there c = c.in-Some.ensures ∙ ap (λ cs. slice_get (visible cs) c.args.number) (sym c.make_choosing_room.ensures.items)

-- what is lacked where one is taken
abbrev lacking : StoryTree → Machine → Machine → Option (ChoiceOf (List Part)) → Bool
lacking s old new choice = choosing_lacks s choice old new

pub returns-in_default-clause-chooses : goal.returns-in_default-clause-chooses
returns-in_default-clause-chooses c =
    let s = story_tree c.args.story.now in
    let machine = c.args.self.now in
    let old = config_of s machine in
    chooses_none s (lacking s machine machine) c.args.number old old (stopped (goal.at.returns-in_default-clause-chooses c).Else-can_go_on) (open_alike (place_of s) machine.flow.choices.items c.args.number None c.in_default.ensures) refl

pub returns-in_err-copied-clause-chooses : goal.returns-in_err-copied-clause-chooses
returns-in_err-copied-clause-chooses c =
    let s = story_tree c.args.story.now in
    let machine = c.args.self.now in
    let old = config_of s machine in
    let short = lacking s machine machine in
    let x = c.in-Some.choice.now in
    let some = open_alike (place_of s) machine.flow.choices.items c.args.number (Some x) c.in-Some.ensures in
    let is : c.from_residual.result ≡ Err c.in_err-copied.field-0.0 = search rules in
    subst (λ r. Chooses s (short (open_choice c.args.number old)) (open_choice c.args.number old) old old r) (sym (is ∙ ap Err c.in_err-copied.ensures.fault))
    (chooses_short s short c.args.number old old (stopped (goal.at.returns-in_err-copied-clause-chooses c).Else-can_go_on) (map_choice (place_of s) x) some
    (or_first (short (Some (map_choice (place_of s) x))) _ (or_first _ _ c.in_err-copied.ensures.memory)) refl)

pub returns-in_err-make_choosing_room-clause-chooses : goal.returns-in_err-make_choosing_room-clause-chooses
returns-in_err-make_choosing_room-clause-chooses c =
    let s = story_tree c.args.story.now in
    let machine = c.args.self.now in
    let old = config_of s machine in
    let left = c.make_choosing_room.new.self in
    let new = config_of s left in
    let short = lacking s machine left in
    let x = c.in-Some.choice.now in
    let there = Some (map_choice (place_of s) x) in
    let some = open_alike (place_of s) machine.flow.choices.items c.args.number (Some x) c.in-Some.ensures in
    let is : c.from_residual-in_err-make_choosing_room.result ≡ Err c.in_err-make_choosing_room.field-0.0 = search rules in
    subst (λ r. Chooses s (short (open_choice c.args.number old)) (open_choice c.args.number old) old new r) (sym (is ∙ ap Err c.in_err-make_choosing_room.ensures.fault))
    (chooses_short s short c.args.number old new (stopped (goal.at.returns-in_err-make_choosing_room-clause-chooses c).Else-can_go_on) (map_choice (place_of s) x) some
    (or_first (short there) _ (or_more (is_some (choices_stood machine.flow.choices)) (turn_lacks (entered_by s there) left)
    (turn_short (threads_lack 2 left) (choices_lack 2 left) (own_lacks 2 left) (counts_lack (4 * entered_by s there) left) c.in_err-make_choosing_room.ensures.memory))) (c.make_choosing_room.ensures.config s))

pub returns-in-Err-clause-chooses : goal.returns-in-Err-clause-chooses
returns-in-Err-clause-chooses c =
    let s = story_tree c.args.story.now in
    let machine = c.args.self.now in
    let mid = c.make_choosing_room.new.self in
    let at = goal.at.returns-in-Err-clause-chooses c in
    let x = c.in-Some.choice.now in
    let some = open_alike (place_of s) machine.flow.choices.items c.args.number (Some x) c.in-Some.ensures in
    let left = c.enter_landed.new.counts in
    let new = record mid { shared = record mid.shared { counts = left } } in
    let there = Some (map_choice (place_of s) x) in
    let refused = entered_as at.After-enter_landed (λ t ps. (adds_rows t ps (counts_in t mid.shared.counts.rows) ≡ true) ⊎ (lacks (counts_stood left) (counts_spare left) (4 * length ps) ≡ true)) c.in-Err.ensures.memory in
    let short = asks_or_lacks (is_some (choices_stood machine.flow.choices)) (threads_lack 2 new) (choices_lack 2 new) (own_lacks 2 new) (counts_lack (4 * entered_by s there) new)
    (adds_rows s (entered_places s (option_map (place_of s) x.thread.previous) (place_of s x.target)) (config_of s mid).shared.counts) refused in
    let asks = subst (λ d. (lacking s machine new there || adds_rows s (entered_places s (option_map (place_of s) x.thread.previous) (place_of s x.target)) d.shared.counts) ≡ true) (c.make_choosing_room.ensures.config s) short in
    chooses_short s (lacking s machine new) c.args.number (config_of s machine) _ (stopped at.Else-can_go_on) (map_choice (place_of s) x) some asks
    (ap (λ rows. config_of s (record mid { shared = record mid.shared { counts = record c.enter_landed.new.counts { rows = rows } } })) c.in-Err.ensures.kept ∙ c.make_choosing_room.ensures.config s)

pub returns-in-Some-copied-clause-chooses : goal.returns-in-Some-copied-clause-chooses
returns-in-Some-copied-clause-chooses c =
    let s = story_tree c.args.story.now in
    let machine = c.args.self.now in
    let at = goal.at.returns-in-Some-copied-clause-chooses c in
    let x = c.in-Some.choice.now in
    let some = open_alike (place_of s) machine.flow.choices.items c.args.number (Some x) c.in-Some.ensures in
    let same : c.in-Some-copied.choice ≡ x = subst (λ o. MatchOption o (is_some (choices_stood machine.flow.choices) ≡ false) (λ copy. copy ≡ x)) c.in-Some-copied.is c.in_ok-copied.ensures.copy in
    let mid = config_of s c.make_choosing_room.new.self in
    let counts = counts_in s c.enter_landed.new.counts.rows in
    let new = config_of s c.take_up_next.new.self in
    let entering = entered_as at.After-enter_landed (λ t ps. counts_in t c.enter_landed.new.counts.rows ≡ all_visited t c.next-turn.result ps (counts_in t c.make_choosing_room.new.self.shared.counts.rows)) c.in-Ok.ensures.ok in
    let taken_up_there = subst (λ v. new ≡ taken_up (map_choice (place_of s) v) (record mid { shared = record mid.shared { counts = counts; turn = c.next-turn.result } })) same (c.take_up_next.ensures.taken s) in
    chooses_one s (lacking s machine c.take_up_next.new.self) c.args.number (config_of s machine) new (stopped at.Else-can_go_on) (map_choice (place_of s) x) some
    (chosen_lands s (map_choice (place_of s) x) (config_of s machine) mid (c.make_choosing_room.ensures.config s) counts c.next-turn.result new taken_up_there c.next-turn.ensures entering)

pub returns-in-Ok-Some-clause-chooses : goal.returns-in-Ok-Some-clause-chooses
returns-in-Ok-Some-clause-chooses c =
    let s = story_tree c.args.story.now in
    let machine = c.args.self.now in
    let at = goal.at.returns-in-Ok-Some-clause-chooses c in
    let x = c.in-Some.choice.now in
    let y = c.in-Ok-Some.choice in
    let cs = c.make_choosing_room.new.self.flow.choices.items in
    let some = open_alike (place_of s) machine.flow.choices.items c.args.number (Some x) c.in-Some.ensures in
    let still = still_there at.After-enter_landed in
    let takes = subst (λ o. Takes (choice_gone c.args.number cs) cs c.take.new.self.items (Ok o)) c.in-Ok-Some.field-0-is c.in-Ok-Some.ensures.items in
    let same : y ≡ x = ap (λ o. unwrap_or o x) (takes_visible c.args.number cs c.take.new.self.items x y still takes ∙ sym still) in
    let mid = config_of s c.make_choosing_room.new.self in
    let counts = counts_in s c.enter_landed.new.counts.rows in
    let new = config_of s c.take_up_next-in-Ok-Some.new.self in
    let entering = entered_as at.After-enter_landed (λ t ps. counts_in t c.enter_landed.new.counts.rows ≡ all_visited t c.next-turn.result ps (counts_in t c.make_choosing_room.new.self.shared.counts.rows)) c.in-Ok.ensures.ok in
    let taken_up_there = subst (λ v. new ≡ taken_up (map_choice (place_of s) v) (record mid { shared = record mid.shared { counts = counts; turn = c.next-turn.result } })) same (c.take_up_next-in-Ok-Some.ensures.taken s) in
    chooses_one s (lacking s machine c.take_up_next-in-Ok-Some.new.self) c.args.number (config_of s machine) new (stopped at.Else-can_go_on) (map_choice (place_of s) x) some
    (chosen_lands s (map_choice (place_of s) x) (config_of s machine) mid (c.make_choosing_room.ensures.config s) counts c.next-turn.result new taken_up_there c.next-turn.ensures entering)

pub returns-in-Ok-None-clause-chooses : goal.returns-in-Ok-None-clause-chooses
returns-in-Ok-None-clause-chooses c =
    let cs = c.make_choosing_room.new.self.flow.choices.items in
    let takes = subst (λ o. Takes (choice_gone c.args.number cs) cs c.take.new.self.items (Ok o)) c.in-Ok-None.field-0-is c.in-Ok-None.ensures.items in
    absurd (takes_any c.args.number cs c.take.new.self.items c.in-Some.choice.now (still_there (goal.at.returns-in-Ok-None-clause-chooses c).After-enter_landed) takes)

-- ---- what stays

pub returns-in-Some-copied-clause-aside : goal.returns-in-Some-copied-clause-aside
returns-in-Some-copied-clause-aside c = c.take_up_next.ensures.aside ∙ c.make_choosing_room.ensures.aside

pub returns-in-Some-copied-clause-mark : goal.returns-in-Some-copied-clause-mark
returns-in-Some-copied-clause-mark c = c.take_up_next.ensures.mark ∙ ap (λ o. record (stood_of c.make_choosing_room.new.self) { counts = o }) c.in-Ok.ensures.mark ∙ c.make_choosing_room.ensures.mark

pub returns-in-Ok-Some-clause-aside : goal.returns-in-Ok-Some-clause-aside
returns-in-Ok-Some-clause-aside c = c.take_up_next-in-Ok-Some.ensures.aside ∙ c.make_choosing_room.ensures.aside

pub returns-in-Ok-Some-clause-mark : goal.returns-in-Ok-Some-clause-mark
returns-in-Ok-Some-clause-mark c =
    let counted = ap (λ o. record (stood_of c.make_choosing_room.new.self) { counts = o }) c.in-Ok.ensures.mark in
    let choice_gone = ap (λ o. record (stood_of c.make_choosing_room.new.self) { choices = o; counts = counts_stood c.enter_landed.new.counts }) c.in-Ok-Some.ensures.stood in
    c.take_up_next-in-Ok-Some.ensures.mark ∙ choice_gone ∙ counted ∙ c.make_choosing_room.ensures.mark

pub returns-in-Err-clause-mark : goal.returns-in-Err-clause-mark
returns-in-Err-clause-mark c = ap (λ o. record (stood_of c.make_choosing_room.new.self) { counts = o }) c.in-Err.ensures.mark ∙ c.make_choosing_room.ensures.mark

pub returns-in-Some-copied-clause-start : goal.returns-in-Some-copied-clause-start
returns-in-Some-copied-clause-start c = c.take_up_next.ensures.start ∙ c.make_choosing_room.ensures.start

pub returns-in-Ok-Some-clause-start : goal.returns-in-Ok-Some-clause-start
returns-in-Ok-Some-clause-start c = c.take_up_next-in-Ok-Some.ensures.start ∙ c.make_choosing_room.ensures.start

pub returns-in-Ok-None-clause-start : goal.returns-in-Ok-None-clause-start
returns-in-Ok-None-clause-start c = c.make_choosing_room.ensures.start

pub returns-in-Ok-None-clause-aside : goal.returns-in-Ok-None-clause-aside
returns-in-Ok-None-clause-aside c = c.make_choosing_room.ensures.aside

pub returns-in-Ok-None-clause-mark : goal.returns-in-Ok-None-clause-mark
returns-in-Ok-None-clause-mark c =
    let counted = ap (λ o. record (stood_of c.make_choosing_room.new.self) { counts = o }) c.in-Ok.ensures.mark in
    let choice_gone = ap (λ o. record (stood_of c.make_choosing_room.new.self) { choices = o; counts = counts_stood c.enter_landed.new.counts }) c.in-Ok-None.ensures.stood in
    choice_gone ∙ counted ∙ c.make_choosing_room.ensures.mark

pub returns-in-Err-take-clause-start : goal.returns-in-Err-take-clause-start
returns-in-Err-take-clause-start c = c.make_choosing_room.ensures.start

pub returns-in-Err-take-clause-aside : goal.returns-in-Err-take-clause-aside
returns-in-Err-take-clause-aside c = c.make_choosing_room.ensures.aside

pub returns-in-Err-take-clause-mark : goal.returns-in-Err-take-clause-mark
returns-in-Err-take-clause-mark c =
    let counted = ap (λ o. record (stood_of c.make_choosing_room.new.self) { counts = o }) c.in-Ok.ensures.mark in
    let choice_gone = ap (λ o. record (stood_of c.make_choosing_room.new.self) { choices = o; counts = counts_stood c.enter_landed.new.counts }) c.in-Err-take.ensures.stood in
    choice_gone ∙ counted ∙ c.make_choosing_room.ensures.mark

pub returns-in-Err-clause-start : goal.returns-in-Err-clause-start
returns-in-Err-clause-start c = c.make_choosing_room.ensures.start

pub returns-in-Err-clause-aside : goal.returns-in-Err-clause-aside
returns-in-Err-clause-aside c = c.make_choosing_room.ensures.aside

-- ---- the machine's own fields

pub returns-in-Some-copied-clause-own : goal.returns-in-Some-copied-clause-own
returns-in-Some-copied-clause-own c =
    let mid = c.make_choosing_room.new.self in
    own_after 1 c.args.self.now mid c.take_up_next.new.self c.make_choosing_room.ensures.same c.make_choosing_room.ensures.kept c.take_up_next.ensures.own

pub returns-in-Ok-Some-clause-own : goal.returns-in-Ok-Some-clause-own
returns-in-Ok-Some-clause-own c =
    let mid = c.make_choosing_room.new.self in
    own_after 1 c.args.self.now mid c.take_up_next-in-Ok-Some.new.self c.make_choosing_room.ensures.same c.make_choosing_room.ensures.kept c.take_up_next-in-Ok-Some.ensures.own

-- ---- room

pub take_up_next-requires-clause-room : goal.take_up_next-requires-clause-room
take_up_next-requires-clause-room c = c.in_ok-make_choosing_room.ensures.threads

pub take_up_next-requires-clause-choices_room : goal.take_up_next-requires-clause-choices_room
take_up_next-requires-clause-choices_room c = omega (arith, c.in_ok-make_choosing_room.ensures.choices)

pub take_up_next-requires-clause-own_room : goal.take_up_next-requires-clause-own_room
take_up_next-requires-clause-own_room c = omega (arith, c.in_ok-make_choosing_room.ensures.own)

pub take_up_next-requires-in-Ok-Some-clause-room : goal.take_up_next-requires-in-Ok-Some-clause-room
take_up_next-requires-in-Ok-Some-clause-room c = c.in_ok-make_choosing_room.ensures.threads

pub take_up_next-requires-in-Ok-Some-clause-own_room : goal.take_up_next-requires-in-Ok-Some-clause-own_room
take_up_next-requires-in-Ok-Some-clause-own_room c = omega (arith, c.in_ok-make_choosing_room.ensures.own)
