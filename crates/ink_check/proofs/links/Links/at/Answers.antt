use Rattle.std.proofs.Common.{◌∙◌, ◌≤◌, length, ap, arith, get_or}
use Rattle.std.proofs.lemmas.Grind.{common_steps}
use Rattle.ink_check.specs.Links.{link_in}
use Rattle.ink_check.specs.declared.link.Link.TheVariants.{Nothing}
use Rattle.ink_check.proofs.Slots.{in_slot, looked_up}
use Rattle.ink_check.proofs.links.Links.at.Goals as goal

pub returns-else-slot-eq0 : goal.returns-else-slot-eq0
returns-else-slot-eq0 c =
    let within : c.slot_at-slot.result ≤ length c.self.inside.links.items = grind (arith, common_steps) in
    in_slot c.self.inside.links.items c.slot_at-slot.result c.index.result.now (omega arith) within c.index.ensures
    ∙ ap (link_in c.self.inside.links.items) c.slot_at-slot.ensures
    ∙ looked_up c.self.inside.links.items c.self.inside.slots.items c.args.number
    ∙ ap (λ ls. get_or ls c.args.number (get_or ls 0 Nothing)) c.self.view_is
