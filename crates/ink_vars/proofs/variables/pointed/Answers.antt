use Rattle.std.proofs.Common.{◌≡◌, Err, Some, pos, rules, to_z-of_z}
use Rattle.ink_model.specs.Variables.Access.{chain_end, held}
use Rattle.ink_model.specs.declared.fault.Fault.TheVariants.{OutOfMemory}
use Rattle.ink_vars.specs.declared.places.Name.TheVariants.{Pointed}
use Rattle.ink_vars.specs.declared.places.Variable.{Variable}
use Rattle.ink_vars.proofs.Chains.{leads_into, leads_short}
use Rattle.ink_vars.proofs.variables.pointed.Goals as goal

pub returns-in_err-name-clause-leads : goal.returns-in_err-name-clause-leads
returns-in_err-name-clause-leads g c =
    let globals = c.args.globals.now.rows in
    let thread = c.args.threads.now.threads.thread in
    let frame = c.in-Ok.frame in
    let name = c.in-Some.end.name.now in
    let end : chain_end globals thread c.args.frame c.args.name.now ≡ Some (pos frame, name) = search (rules, to_z-of_z) in
    let there : held globals thread (pos frame) name ≡ Some c.in-Some-value.field-0.now = search (rules, to_z-of_z) in
    let x : Variable = record { frame = frame; name = Pointed name c.in-Some.end.found.index } in
    let is : c.from_residual.result ≡ Err OutOfMemory = search rules in
    rw is (leads_short globals thread x (chain_end globals thread c.args.frame c.args.name.now) c.in-Some-value.field-0.now end there)

pub returns-clause-leads : goal.returns-clause-leads
returns-clause-leads g c =
    let globals = c.args.globals.now.rows in
    let thread = c.args.threads.now.threads.thread in
    let frame = c.in-Ok.frame in
    let name = c.in_ok-name.name in
    let end : chain_end globals thread c.args.frame c.args.name.now ≡ Some (pos frame, name) = search (rules, to_z-of_z) in
    let there : held globals thread (pos frame) name ≡ Some c.in-Some-value.field-0.now = search (rules, to_z-of_z) in
    leads_into globals thread (record { frame = frame; name = Pointed name c.in-Some.end.found.index }) (chain_end globals thread c.args.frame c.args.name.now) c.in-Some-value.field-0.now end there
