-- Where a machine goes back to.
use Rattle.std.proofs.Common.{◌≡◌, ap, map, unwrap_or}
use Rattle.ink_step.proofs.Common.{Configuration, map_choice, map_threads, StoryTree, config_of, counts_in, Machine, place_of}
use Rattle.ink_step.specs.Marks.{Stood, config_back, marked_at, own_of, stood_of}

-- the configuration of a machine with the parts that stood at its mark
abbrev back_by : StoryTree → Machine → Stood → Configuration
back_by s m stood =
    let own = unwrap_or stood.own (own_of m) in
    record {
      flow = record {
        threads = map_threads (place_of s) (unwrap_or stood.threads m.flow.threads.threads);
        stack = unwrap_or stood.stack m.flow.stack.items;
        choices = map (map_choice (place_of s)) (unwrap_or stood.choices m.flow.choices.items);
        safe = own.safe;
      };
      shared = record {
        globals = unwrap_or stood.globals m.shared.globals.rows;
        counts = counts_in s (unwrap_or stood.counts m.shared.counts.rows);
        turn = own.turn;
      };
      page = unwrap_or stood.page m.output.page;
    }

-- a machine goes back to where it stood at its mark
pub back_to : (s : StoryTree) (m there : Machine) → stood_of m ≡ marked_at there → config_back s m ≡ config_of s there
back_to s m there is = ap (back_by s m) is
