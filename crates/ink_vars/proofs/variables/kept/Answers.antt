use Rattle.std.proofs.Common.{◌≡◌, false, rules, to_z-of_z}
use Rattle.ink_model.specs.Memory.Variables.{is_pointer}
use Rattle.ink_model.specs.Variables.Access.{held}
use Rattle.ink_vars.proofs.Chains.{kept_itself}
use Rattle.ink_vars.proofs.variables.kept.Goals as goal

pub returns-else-leads_on : goal.returns-else-leads_on
returns-else-leads_on g c =
    let globals = c.args.globals.now.rows in
    let thread = c.args.threads.now.threads.thread in
    let plain : is_pointer (held globals thread c.in-Pointer.frame c.in-Pointer.name) ≡ false = search (rules, to_z-of_z) in
    kept_itself globals thread c.args.value c.in-Pointer.frame c.in-Pointer.name c.in-Pointer.is plain
