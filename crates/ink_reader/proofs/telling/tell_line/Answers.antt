use Rattle.std.proofs.Common.{List, [], ◌∙◌, refl, sym}
use Rattle.ink_reader.proofs.Common.{Tells, reply_of_halt, if-ok, Deed, break_told}
use Rattle.ink_player.specs.Standing.{bindings, desk_of, state_of, story_of}
use Rattle.ink_reader.proofs.Tellings.{breaks-so, goes-behind, halt-breaks}
use Rattle.ink_reader.proofs.Halting.{halted}
use Rattle.ink_reader.proofs.Playing.{played-break, played-gives, played-hushed, played-played}
use Rattle.ink_reader.proofs.telling.tell_line.Goals as goal

pub returns-in-Ok-clause-line : goal.returns-in-Ok-clause-line
returns-in-Ok-clause-line g c =
    let place = c.next_path-path.ensures in
    let none : List Deed = [] in (
      place.0,
      Tells c.in-Ok.passage,
      none,
      refl,
      c.tell_passage.ensures.end,
      λ kept. played-played (played-hushed refl place.2) (played-gives c.tell_passage.result c.in-Ok.ensures c.tell_passage.ensures.shows),
    )

pub returns-in-Ok-clause-stops : goal.returns-in-Ok-clause-stops
returns-in-Ok-clause-stops g c = if-ok c.tell_passage.result (λ end is e. absurd (goes-behind c.in-Ok.passage.loose (sym is ∙ e))) c.tell_passage.ensures.end

pub returns-clause-line : goal.returns-clause-line
returns-clause-line g c =
    let place = c.next_path-path.ensures in
    let halt = c.in-Err.halt in
    let path = c.next_path-path.result in (
      place.0,
      reply_of_halt halt,
      break_told (reply_of_halt halt) path,
      breaks-so place.0 halt path place.1,
      if-ok c.tell_break.result (λ end is. is ∙ sym (halt-breaks halt)) c.tell_break.ensures.end,
      λ kept. played-played (played-hushed refl place.2) (played-break c.tell_break.result halt path c.in-Err.ensures c.tell_break.ensures.shows),
    )

pub returns-clause-stops : goal.returns-clause-stops
returns-clause-stops g c =
    let old = c.args.player.now in
    let gave = c.in-Err.ensures in
    let stood = halted (story_of old) (bindings g.P.PureFn.meaning (desk_of old)) gave.events (state_of old) (state_of c.next_line.new.player) c.in-Err.halt gave.does in
    if-ok c.tell_break.result (λ end is e. stood) c.tell_break.ensures.end
