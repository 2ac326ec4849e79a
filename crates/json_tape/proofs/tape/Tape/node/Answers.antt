use Rattle.std.proofs.Common.{◌<◌, length, ap, arith}
use Rattle.std.proofs.lemmas.List.{length-map}
use Rattle.json_tape.proofs.Common.{node_token}
use Rattle.json_tape.proofs.Moves.{here}
use Rattle.json_tape.proofs.tape.Tape.node.Goals as goal

pub returns-clause-token : goal.returns-clause-token
returns-clause-token c =
    let ns = c.self.inside.nodes in
    let within : c.args.at < length ns = omega (arith, ap length c.self.view_is, length-map ns node_token, c.requires) in
    rw (← c.self.view_is, c.node.ensures) (here ns c.args.at within)
