use Rattle.std.proofs.Common.{◌≡◌, true, sym, ap, ◌∙◌}
use Rattle.json_tape.proofs.Common.{are_sound}
use Rattle.json_tape.proofs.Spelled.{sound_readable}
use Rattle.json_tape.proofs.value.root.Goals as goal

pub invariant_of-result : goal.invariant_of-result
invariant_of-result c =
    let sound : are_sound 0 c.root.result ≡ true = ap (are_sound 0) c.root.ensures.same ∙ sym c.are_sound.ensures ∙ c.if-are_sound.true in
    record { readable = sound_readable c.root.result c.root.ensures.value sound }
