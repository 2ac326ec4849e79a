use Rattle.std.proofs.Common.{◌≡◌, ◌∙◌, ◌+◌, ◌<◌, ap, arith, length, slice_set, subst, sym}
use Rattle.std.proofs.lemmas.Bool.Decides.{Decides-eqb}
use Rattle.std.proofs.lemmas.List.{length-set}
use Rattle.ink_names.specs.Hints.{behind}
use Rattle.ink_names.proofs.Noting.{holds, keeps_others}
use Rattle.ink_names.proofs.hints.Hints.mark.Goals as goal

pub returns-clause-slots : goal.returns-clause-slots
returns-clause-slots c = length-set c.self.inside.slots.items c.slot-slot.result c.small-held.result ∙ ap length c.self.view_is

pub returns-clause-taken : goal.returns-clause-taken
returns-clause-taken c =
    let slots = c.self.inside.slots in
    let name = c.args.name.now in
    let at = c.slot-slot.result in
    let held = c.small-held.result in
    let many = c.len.ensures ∙ slots.ok.0 in
    let is : behind (slice_set slots.items at held) name ≡ held = holds slots.items name at held c.len.result c.slot-slot.ensures.slot many (subst (λ n. at < n) many c.slot-slot.ensures.within) in
    subst (λ n. 0 < n) (sym is) (c.small-held.ensures (omega arith))

pub returns-clause-leads : goal.returns-clause-leads
returns-clause-leads c leads =
    let slots = c.self.inside.slots in
    let at = c.slot-slot.result in
    let held = c.small-held.result in
    let many = c.len.ensures ∙ slots.ok.0 in
    holds slots.items c.args.name.now at held c.len.result c.slot-slot.ensures.slot many (subst (λ n. at < n) many c.slot-slot.ensures.within) ∙ (Decides-eqb held (c.args.number + 1)).0 leads

pub returns-clause-kept : goal.returns-clause-kept
returns-clause-kept c =
    let slots = c.self.inside.slots in
    let at = c.slot-slot.result in
    let many = c.len.ensures ∙ slots.ok.0 in
    rw (← c.self.view_is) (keeps_others slots.items c.args.name.now at c.small-held.result c.len.result c.slot-slot.ensures.slot many (subst (λ n. at < n) many c.slot-slot.ensures.within)
    c.index.result.now c.index.ensures (omega arith))
