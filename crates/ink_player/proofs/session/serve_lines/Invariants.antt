use Rattle.std.proofs.Common.{◌≡◌, ℕ, List, Option, Result}
use Rattle.ink_player.proofs.Common.{Resting, rests, Scene, bindings, desk_of, scene_of, story_of, RunFault}
use Rattle.ink_player.specs.Serving.{Runs}
use Rattle.ink_player.proofs.session.serve_lines.Given as goal

-- however the session goes on from here, so it goes from the start
abbrev pub invariant-lines : goal.invariant-lines
invariant-lines g l =
    let left = g.S.Source.remaining in
    let held = g.T.Sink.contents in
    let meaning = g.P.PureFn.meaning in
    let turn = g.F.TurnFn.log in
    let refusals = g.F.TurnFn.refusals in
    let watch = g.O.Watcher.state in record {
      ends : (left' held' : Option (List ℕ)) (new : Scene g.row.P.Denot g.row.F.Denot g.row.O.Denot) (r : Result (Unit {0}) RunFault)
          → Runs turn refusals watch (story_of l.player) (bindings meaning (desk_of l.player)) l.ahead.spare l.ahead.unread (left l.source) left' (held l.sink) held' (scene_of l.player) new r
          → Runs turn refusals watch (story_of l.fn.player) (bindings meaning (desk_of l.fn.player)) l.fn.ahead.spare l.fn.ahead.unread (left l.fn.source) left' (held l.fn.sink) held' (scene_of l.fn.player) new r;
      rest : Resting (rests g.O.Watcher.state) (desk_of l.fn.player).watchers → Resting (rests g.O.Watcher.state) (desk_of l.player).watchers;
      story : story_of l.player ≡ story_of l.fn.player;
      read_cause : g.S.Source.failures l.source ≡ g.S.Source.failures l.fn.source;
      read_ends : g.S.Source.ends l.source ≡ g.S.Source.ends l.fn.source;
      write_cause : g.T.Sink.failures l.sink ≡ g.T.Sink.failures l.fn.sink;
      source_name : g.S.Source.name l.source ≡ g.S.Source.name l.fn.source;
      sink_name : g.T.Sink.name l.sink ≡ g.T.Sink.name l.fn.sink;
    }

abbrev pub decreases-lines : goal.decreases-lines
decreases-lines g l = l.ahead.spare
