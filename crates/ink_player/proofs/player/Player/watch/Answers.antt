use Rattle.std.proofs.Common.{◌≡◌, IfSome, subst, sym, true}
use Rattle.ink_player.proofs.Common.{Resting, rests, desk_of}
use Rattle.ink_player.proofs.Tellings.{by-result, if-ok, rest-at, rest-put}
use Rattle.ink_player.proofs.player.Player.watch.Goals as goal

pub returns-clause-old_rest : goal.returns-clause-old_rest
returns-clause-old_rest g c = λ rest.
    let state = g.O.Watcher.state in
    let watchers = c.self.inside.desk.watchers in
    let inside : Resting (rests state) watchers = subst (λ q. Resting (rests state) (desk_of q).watchers) (sym c.self.view_is) rest in
    if-ok c.watch.result (λ old is. subst (λ o. IfSome o (λ w. rests state w ≡ true)) (sym is) (rest-at state c.args.name.now watchers inside)) c.watch.ensures.old

pub returns-clause-rest : goal.returns-clause-rest
returns-clause-rest g c = λ given rest.
    let state = g.O.Watcher.state in
    let watchers = c.self.inside.desk.watchers in
    let inside : Resting (rests state) watchers = subst (λ q. Resting (rests state) (desk_of q).watchers) (sym c.self.view_is) rest in
    by-result (Resting (rests state) c.watch.new.self.watchers) c.watch.result c.watch.ensures.kept c.watch.ensures.err
    (λ kept. subst (λ d. Resting (rests state) d.watchers) (sym kept) (rest-put state c.args.name.now c.args.watcher watchers given inside))
    (λ same. subst (λ d. Resting (rests state) d.watchers) (sym same) inside)
