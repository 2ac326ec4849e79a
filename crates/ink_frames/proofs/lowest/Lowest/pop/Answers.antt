use Rattle.std.proofs.Common.{◌≡◌, ◌∷◌, ◌++◌, ◌-◌, [], suc, arith, get_or, map, subst, sym, take}
use Rattle.ink_frames.specs.Frames.{as_seen, items_of}
use Rattle.ink_frames.proofs.Sharing.{last_seen}
use Rattle.ink_frames.proofs.lowest.Lowest.pop.Goals as goal

pub returns : goal.returns
returns g c =
    let f = as_seen {P = g.row.P.Denot} c.self.inside.unnumbered in
    let hs = items_of c.self.inside.shared in
    let n = c.self.inside.count in
    let x = c.header-last.result in
    let there : x ≡ get_or (map f (take n hs)) (n - 1) x = rw (← c.self.view_is) at (c.header-last.ensures x) in
    let next : suc (n - 1) ≡ n = omega (arith, c.if-self-eq0.false) in
    rw (← c.self.view_is)
    (subst (λ k. map f (take k hs) ≡ map f (take (n - 1) hs) ++ x ∷ []) next
    (last_seen f hs (n - 1) x (omega (arith, c.self.invariant, c.if-self-eq0.false)) (subst (λ k. x ≡ get_or (map f (take k hs)) (n - 1) x) (sym next) there)))
