use Rattle.std.proofs.Common.{◌≡◌, ◌∙◌, ◌∷◌, Some, None, ap, sym, option_and_then}
use Rattle.ink_tree.proofs.Common.{components, walked, story_tree, node_place}
use Rattle.ink_path.specs.Components.{part_of}
use Rattle.ink_tree.proofs.Leads.{index_on, steps_on}
use Rattle.ink_tree.proofs.tree.Tree.follow.Goals as goal

pub returns-in_err-here : goal.returns-in_err-here
returns-in_err-here c =
    let s = story_tree c.args.self.now in
    let p = node_place s c.loop-text.here in
    let nowhere = steps_on c.in-Some.text.now c.next.new.self (part_of c.in_ok-component.component) (sym c.in_ok-component.ensures) s p None c.if-is_empty.ensures.some c.in_err-here.ensures in
    rw c.from_residual-in_err-here.ensures (sym c.loop-text.invariant.0 ∙ ap (λ texts. option_and_then (walked s p) (components texts)) c.in-Some.ensures.first ∙ nowhere)

pub loop-text-preserved : goal.loop-text-preserved
loop-text-preserved c =
    let s = story_tree c.args.self.now in
    let p = node_place s c.loop-text.here in
    let q = node_place s c.in_ok-here.here in
    let text = c.in-Some.text.now in
    let rest = c.next.new.self in
    let component = part_of c.in_ok-component.component in
    let read = sym c.in_ok-component.ensures in
    let first : c.loop-text.rest ≡ text ∷ rest = c.in-Some.ensures.first in (
      sym (steps_on text rest component read s p (Some q) c.if-is_empty.ensures.some c.in_ok-here.ensures)
          ∙ ap (λ texts. option_and_then (walked s p) (components texts)) (sym first) ∙ c.loop-text.invariant.0,
      λ ps e.
          let (qs, now, alike) = c.loop-text.invariant.1 ps e in
          let (rs, behind, more) = index_on text rest component read qs c.if-is_empty.ensures.some (ap components (sym first) ∙ now) in
          (rs, behind, alike ∙ more),
    )
