use Rattle.std.proofs.Common.{◌≡◌, ◌++◌, [], ap, arith}
use Rattle.std.proofs.lemmas.Bool.{OnTrue_from}
use Rattle.ink_frames.proofs.Flat.{none_framed}
use Rattle.ink_frames.proofs.Lengths.{none_there}
use Rattle.ink_frames.proofs.frames.Frames.owns_nothing.Goals as goal

pub returns-then-capacity-eq0-2 : goal.returns-then-capacity-eq0-2
returns-then-capacity-eq0-2 g c =
    let ls = c.self.inside.lowest in
    let own = c.self.inside.headers.items in
    let none : ls ++ own ≡ [] = none_there (ls ++ own) (omega (arith, c.self.invariant.1)) in
    OnTrue_from _ _ (λ e. none_framed (ls ++ own) c.self.inside.temps.items _ (ap (λ v. v.items) c.self.view_is) none)
