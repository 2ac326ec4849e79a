use Rattle.std.proofs.Common.{◌∙◌, [], length, subst, sym}
use Rattle.ink_check.specs.Standing.{story_tree}
use Rattle.ink_model.specs.Protocol.Answer.{Acts, Refuses}
use Rattle.ink_model.specs.Choices.Choosing.{jumped}
use Rattle.ink_model.specs.Run.Visits.{around, entering_asks}
use Rattle.ink_model.specs.declared.fault.Refusal.TheVariants as refusal
use Rattle.ink_step.specs.Standing.{aside_in, aside_of, config_of}
use Rattle.ink_tree.specs.Nodes.{place_of}
use Rattle.ink_commands.specs.Paths.{JumpsTo}
use Rattle.ink_commands.specs.States.{at_stamp, condition_by, state_in}
use Rattle.ink_commands.proofs.Jumps.{jumps-broken, jumps-nowhere, jumps-short, jumps-there, lacks_none, lands-at}
use Rattle.ink_commands.proofs.jumping.jump.Goals as goal

pub returns-in-Some-clause-does : goal.returns-in-Some-clause-does
returns-in-Some-clause-does c = λ n.
    let s = story_tree c.args.story.now in
    let m = c.args.machine.now in
    jumps-broken s c.args.path.now (config_of s m) (aside_of s (aside_in m)) n c.args.broken c.in-Some.fault c.in-Some.is

pub returns-in-Err-clause-does : goal.returns-in-Err-clause-does
returns-in-Err-clause-does c = λ n.
    let s = story_tree c.args.story.now in
    let m = c.args.machine.now in
    jumps-nowhere s c.args.path.now (config_of s m) (aside_of s (aside_in m)) n c.args.broken c.in_default.is c.in-Err.refusal c.in-Err.ensures

-- the flows aside stay as they were
pub returns-in_default-jump-clause-does : goal.returns-in_default-jump-clause-does
returns-in_default-jump-clause-does c = λ n.
    let s = story_tree c.args.story.now in
    let m = c.args.machine.now in
    let left = c.jump.new.self in
    let there = jumped (place_of s c.in-Ok.place) (config_of s m) in
    let asks = lacks_none (length (around s there.flow.threads)) left (entering_asks s there) (c.jump.ensures.mark ∙ c.requires.unmarked) c.in_default-jump.ensures.memory in
    subst (λ r. JumpsTo s c.args.path.now (state_in s c.args.broken m n) (Refuses refusal.OutOfMemory) (at_stamp (condition_by c.args.broken (config_of s left)) (aside_of s r) n)) (sym c.jump.ensures.aside)
    (jumps-short s c.args.path.now (config_of s m) (aside_of s (aside_in m)) n c.args.broken c.in_default.is (config_of s left) (place_of s c.in-Ok.place) (lands-at s c.args.path.now c.in-Ok.place c.in-Ok.ensures) c.in_default-jump.ensures.err asks)

pub returns-clause-does : goal.returns-clause-does
returns-clause-does c = λ n.
    let s = story_tree c.args.story.now in
    let m = c.args.machine.now in
    let left = c.jump.new.self in
    subst (λ r. JumpsTo s c.args.path.now (state_in s c.args.broken m n) (Acts []) (at_stamp (condition_by c.args.broken (config_of s left)) (aside_of s r) n)) (sym c.jump.ensures.aside)
    (jumps-there s c.args.path.now (config_of s m) (aside_of s (aside_in m)) n c.args.broken c.in_default.is (config_of s left) (place_of s c.in-Ok.place) (lands-at s c.args.path.now c.in-Ok.place c.in-Ok.ensures) c.in-Ok-jump.ensures.ok)
