use Rattle.std.proofs.Common.{◌∙◌, Some, ap, subst, sym}
use Rattle.ink_step.proofs.Common.{story_tree, leaf, place_of}
use Rattle.ink_step.proofs.Direct.{leads_there}
use Rattle.ink_step.specs.Finishes.{ActsThere}
use Rattle.ink_step.proofs.machine.Machine.act_here.Goals as goal

-- ---- a divert or a call leads by the path that is written there

pub act_divert-requires-clause-path : goal.act_divert-requires-clause-path
act_divert-requires-clause-path c =
    let s = story_tree c.args.story.now in
    let p = place_of s c.args.here in
    leads_there s p _ (ap Some (sym c.in-Divert.is) ∙ c.requires.stands)

pub act_call-requires-clause-path : goal.act_call-requires-clause-path
act_call-requires-clause-path c =
    let s = story_tree c.args.story.now in
    let p = place_of s c.args.here in
    leads_there s p _ (ap Some (sym c.in-Call.is) ∙ c.requires.stands)

pub act_call-requires-in-Tunnel-clause-path : goal.act_call-requires-in-Tunnel-clause-path
act_call-requires-in-Tunnel-clause-path c =
    let s = story_tree c.args.story.now in
    let p = place_of s c.args.here in
    leads_there s p _ (ap Some (sym c.in-Tunnel.is) ∙ c.requires.stands)

-- ---- each content

pub returns-in-Text-clause-ends : goal.returns-in-Text-clause-ends
returns-in-Text-clause-ends c =
    let s = story_tree c.args.story.now in
    subst (λ l. ActsThere s (place_of s c.args.here) (Some (leaf l)) c.args.self.now c.act_text.new.self c.act_text.result) (sym c.in-Text.is) c.act_text.ensures.ends

pub returns-in-Divert-clause-ends : goal.returns-in-Divert-clause-ends
returns-in-Divert-clause-ends c =
    let s = story_tree c.args.story.now in
    subst (λ l. ActsThere s (place_of s c.args.here) (Some (leaf l)) c.args.self.now c.act_divert.new.self c.act_divert.result) (sym c.in-Divert.is) c.act_divert.ensures.ends

pub returns-in-Call-clause-ends : goal.returns-in-Call-clause-ends
returns-in-Call-clause-ends c =
    let s = story_tree c.args.story.now in
    subst (λ l. ActsThere s (place_of s c.args.here) (Some (leaf l)) c.args.self.now c.act_call.new.self c.act_call.result) (sym c.in-Call.is) c.act_call.ensures.ends

pub returns-in-Tunnel-clause-ends : goal.returns-in-Tunnel-clause-ends
returns-in-Tunnel-clause-ends c =
    let s = story_tree c.args.story.now in
    subst (λ l. ActsThere s (place_of s c.args.here) (Some (leaf l)) c.args.self.now c.act_call-in-Tunnel.new.self c.act_call-in-Tunnel.result) (sym c.in-Tunnel.is) c.act_call-in-Tunnel.ensures.ends

pub returns-in-Some-clause-ends : goal.returns-in-Some-clause-ends
returns-in-Some-clause-ends c =
    let s = story_tree c.args.story.now in
    subst (λ l. ActsThere s (place_of s c.args.here) (Some (leaf l)) c.args.self.now c.act_frequent.new.self c.act_frequent.result) (sym c.in-Some.ensures) c.act_frequent.ensures.ends
