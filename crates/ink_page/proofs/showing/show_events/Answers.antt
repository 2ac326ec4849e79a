use Rattle.std.proofs.Common.{◌∙◌, ◌+◌, ◌++◌, ap, append_assoc, drop, sym}
use Rattle.std.proofs.KnownBytes.{Appends-trans}
use Rattle.std.proofs.lemmas.List.{drop_more}
use Rattle.ink_page.specs.Showing.{event_shown, events_shown}
use Rattle.ink_page.proofs.showing.show_events.Goals as goal

pub loop-event-preserved : goal.loop-event-preserved
loop-event-preserved g c =
    let look = c.args.look in
    let es = c.args.events.now in
    let i = c.loop-event.event-index in
    let e = c.event-item.result in
    let w = c.loop-event.invariant.shown.0 in
    let rest = drop (i + 1) es in
    let here = drop_more es i e c.loop-event-test.true in record {
      shown = (
        w ++ event_shown look e,
        Appends-trans (g.T.Sink.contents c.args.sink.now) (g.T.Sink.contents c.loop-event.sink) (g.T.Sink.contents c.show_event.new.sink) w (event_shown look e) c.loop-event.invariant.shown.1 c.in_ok-show_event.ensures.shows,
        append_assoc w (event_shown look e) (events_shown look rest) ∙ ap (λ x. w ++ (event_shown look x ++ events_shown look rest)) c.event-item.is ∙ ap (λ l. w ++ events_shown look l) (sym here) ∙ c.loop-event.invariant.shown.2,
      );
      cause = c.in_ok-show_event.ensures.sink.0 ∙ c.loop-event.invariant.cause;
      name = c.in_ok-show_event.ensures.sink.1 ∙ c.loop-event.invariant.name;
    }
