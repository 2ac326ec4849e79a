use Rattle.std.proofs.Common.{◌∙◌, ap, reverse, sym, take}
use Rattle.ink_out.specs.Stands.{Passing, started}
use Rattle.ink_out.specs.Tracks.{reach_of}
use Rattle.ink_out.proofs.Starting.{passed_started}
use Rattle.ink_out.proofs.enters.Passed.reach.Goals as goal

pub returns-in-Some : goal.returns-in-Some
returns-in-Some c starts before leads passes =
    let n = c.in-Some.number in
    let is = ap (λ (p : Passing). p.count) c.self.view_is ∙ passes.count in
    let same = ap (λ (p : Passing). p.starts) c.self.view_is ∙ passes.same in
    c.last_start.ensures ∙ ap (λ xs. started n (reverse (take c.self.inside.count xs))) same ∙ passed_started starts before n c.self.inside.count leads is ∙ ap (λ k. reach_of k before) (sym c.in-Some.is)
