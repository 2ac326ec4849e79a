use Rattle.std.proofs.Common.{◌≡◌, Some, rules, sym, to_z-of_z}
use Rattle.ink_model.specs.Variables.Access.{chain_end, held}
use Rattle.ink_vars.proofs.Chains.{read_at_end}
use Rattle.ink_vars.proofs.variables.look_at.Goals as goal

pub returns-in-Some-value-clause-read : goal.returns-in-Some-value-clause-read
returns-in-Some-value-clause-read g c =
    let globals = c.args.globals.now.rows in
    let thread = c.args.threads.now.threads.thread in
    let frame = c.in-Some.end.frame in
    let name = c.in-Some.end.name.now in
    let end : chain_end globals thread c.args.frame c.args.name.now ≡ Some (frame, name) = search (rules, to_z-of_z) in
    let there : held globals thread frame name ≡ Some c.in-Some-value.value.now = search (rules, to_z-of_z) in
    sym (read_at_end globals thread (frame, name) (chain_end globals thread c.args.frame c.args.name.now) c.in-Some-value.value.now end there)
