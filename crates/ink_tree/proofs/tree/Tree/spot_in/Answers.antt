use Rattle.std.proofs.Common.{sym, ap, ◌∙◌, option_map}
use Rattle.ink_tree.proofs.Common.{at, reaches_in, story_tree, place_of}
use Rattle.ink_tree.proofs.Spots.{nowhere, beyond, within}
use Rattle.ink_tree.proofs.tree.Tree.spot_in.Goals as goal

pub returns-in_err-holder : goal.returns-in_err-holder
returns-in_err-holder c =
    let s = story_tree c.args.self.now in
    ap (option_map (place_of s)) c.from_residual.ensures ∙ nowhere s c.args.up.now c.args.index c.in_err-holder.ensures

pub returns-then-reaches : goal.returns-then-reaches
returns-then-reaches c =
    let s = story_tree c.args.self.now in
    let n = c.in_ok-holder.holder in
    within s c.args.up.now c.args.index n
    (ap (λ p. reaches_in (at s p) c.args.index) (sym c.in_ok-holder.ensures.1) ∙ sym c.reaches.ensures ∙ c.if-reaches.true) c.in_ok-holder.ensures.1

pub returns-else-reaches : goal.returns-else-reaches
returns-else-reaches c =
    let s = story_tree c.args.self.now in
    beyond s c.args.up.now c.args.index
    (ap (λ p. reaches_in (at s p) c.args.index) (sym c.in_ok-holder.ensures.1) ∙ sym c.reaches.ensures ∙ c.if-reaches.false)
