use Rattle.std.proofs.Common.{◌≡◌, ◌∙◌, Some, ap, of_z, rules, to_z, to_z-of_z, w32}
use Rattle.ink_vars.proofs.Chains.{leads_through}
use Rattle.ink_vars.proofs.variables.assigned_in.Goals as goal

pub returns-in-Pointer-clause-leads : goal.returns-in-Pointer-clause-leads
returns-in-Pointer-clause-leads g c =
    let is : to_z w32 (of_z w32 c.in-Pointer.frame) ≡ c.in-Pointer.frame = search (rules, to_z-of_z) in
    leads_through c.args.globals.now.rows c.args.threads.now.threads.thread c.args.name.now c.in-Pointer.frame c.in-Pointer.to c.pointed.result
    (c.requires.named ∙ ap (λ v. Some v) c.in-Pointer.is) (rw is at c.pointed.ensures.leads)
