use Rattle.std.proofs.Common.{◌∙◌, ap, reverse, sym}
use Rattle.ink_out.specs.Stands.{started}
use Rattle.ink_out.specs.Tracks.{reach_of}
use Rattle.ink_out.proofs.Starting.{started_at}
use Rattle.ink_out.proofs.enters.Enters.reach.Goals as goal

pub returns-in-Some : goal.returns-in-Some
returns-in-Some c before knows =
    c.last_start.ensures ∙ ap (λ starts. started c.in-Some.number (reverse starts)) c.as_slice.ensures.value ∙ ap (started c.in-Some.number) knows.starts
    ∙ started_at c.in-Some.number before ∙ ap (λ n. reach_of n before) (sym c.in-Some.is)
