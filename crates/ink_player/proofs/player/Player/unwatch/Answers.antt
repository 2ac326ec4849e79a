use Rattle.std.proofs.Common.{◌≡◌, IfSome, subst, sym, true}
use Rattle.ink_player.proofs.Common.{Resting, rests, desk_of}
use Rattle.ink_player.proofs.Tellings.{rest-at, rest-without}
use Rattle.ink_player.proofs.player.Player.unwatch.Goals as goal

pub returns-clause-old_rest : goal.returns-clause-old_rest
returns-clause-old_rest g c = λ rest.
    let state = g.O.Watcher.state in
    let watchers = c.self.inside.desk.watchers in
    let inside : Resting (rests state) watchers = subst (λ q. Resting (rests state) (desk_of q).watchers) (sym c.self.view_is) rest in
    subst (λ o. IfSome o (λ w. rests state w ≡ true)) (sym c.unwatch.ensures.old) (rest-at state c.args.name.now watchers inside)

pub returns-clause-rest : goal.returns-clause-rest
returns-clause-rest g c = λ rest.
    let state = g.O.Watcher.state in
    let watchers = c.self.inside.desk.watchers in
    let inside : Resting (rests state) watchers = subst (λ q. Resting (rests state) (desk_of q).watchers) (sym c.self.view_is) rest in
    subst (λ d. Resting (rests state) d.watchers) (sym c.unwatch.ensures.left) (rest-without state c.args.name.now watchers inside)
