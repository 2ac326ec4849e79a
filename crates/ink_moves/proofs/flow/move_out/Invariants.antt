use Rattle.std.proofs.Common.{◌≡◌, ◌≤◌, ◌+◌}
use Rattle.ink_model.specs.Flow.Frames.{map_threads}
use Rattle.ink_model.specs.Run.Place.{next_place}
use Rattle.ink_model.specs.Flow.Threads.{thread_count}
use Rattle.ink_model.specs.declared.limits.TheConstants.{MAX_THREADS}
use Rattle.ink_out.specs.Undo.{output_stood}
use Rattle.ink_stack.specs.Undo.{threads_spare, threads_stood}
use Rattle.ink_moves.proofs.Turns.{OnTheWay, all_frames}
use Rattle.ink_moves.proofs.flow.move_out.Given as goal
use Rattle.ink_moves.specs.Reaches.{written}
use Rattle.ink_tree.specs.Nodes.{place_of, story_tree}
use Rattle.ink_value.specs.Undo.{stack_stood}

-- what is still to come is what was to come at the start, and there is room for it
abbrev pub invariant-loop-place : goal.invariant-loop-place
invariant-loop-place l =
    let s = story_tree l.tree in
    record {
      way : OnTheWay (next_place s) (map_threads (place_of s) l.fn.threads.threads) (written l.fn.stack l.fn.output) (map_threads (place_of s) l.threads.threads) (written l.stack l.output);
      room : 8 ≤ threads_spare l.threads;
      ends : thread_count l.threads.threads ≤ MAX_THREADS → thread_count l.threads.threads + 7 ≤ threads_spare l.threads;
      threads_mark : threads_stood l.threads ≡ threads_stood l.fn.threads;
      stack_mark : stack_stood l.stack ≡ stack_stood l.fn.stack;
      output_mark : output_stood l.output ≡ output_stood l.fn.output;
    }

abbrev pub decreases-loop-place : goal.decreases-loop-place
decreases-loop-place l = all_frames (map_threads (place_of (story_tree l.tree)) l.threads.threads)
