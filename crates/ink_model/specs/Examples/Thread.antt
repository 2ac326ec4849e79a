-- Threads in small steps, each proved by computation (docs/FRAMES.md).
use Rattle.std.specs.Prelude.{◌≡◌, List, [], ◌∷◌, refl, codes, true, false, Some, None}
use Rattle.ink_model.specs.Examples.CallStories.{does, says, calls, story, after, now, threads_in, line_of, where_in, all_places, safe_in, main_at}
use Rattle.ink_model.specs.Flow.Frames.{base_threads}
use Rattle.ink_model.specs.Run.Configuration.{fresh_at}
use Rattle.ink_model.specs.Run.Configuration.{start}
use Rattle.ink_model.specs.Run.Entered.{entered_places, passed_places}
use Rattle.ink_model.specs.Run.Moments.{run}
use Rattle.ink_model.specs.Run.Place.{content_place, landed, next_place}
use Rattle.ink_model.specs.Run.Step.{step}
use Rattle.ink_model.specs.Story.Path.{read_path, target}
use Rattle.ink_model.specs.Story.Tree.{StoryTree, leaf, container, no_keys}
use Rattle.ink_model.specs.Story.View.{trees_of}
use Rattle.ink_model.specs.Text.Mark.{cut}
use Rattle.ink_model.specs.Values.Value.{is_true, printed}
use Rattle.ink_model.specs.declared.content.Control.TheVariants as control
use Rattle.ink_model.specs.declared.content.Destination.TheVariants as destination
use Rattle.ink_model.specs.declared.content.Leaf.TheVariants as leaves
use Rattle.ink_model.specs.declared.mark.Mark.TheVariants.{Text, Enter, Leave}

-- ---- threads

abbrev in_a_thread : List StoryTree → StoryTree
in_a_thread = λ f. story (does control.Thread ∷ leaf (leaves.Divert (destination.Path (codes "f")) false) ∷ says (codes "y") ∷ []) f []

-- `thread` moves on, and then the top thread is there twice
thread_moves_then_copies : all_places (threads_in (now (after 1 (in_a_thread (says (codes "x") ∷ []))))) ≡ main_at 1 ∷ main_at 1 ∷ []
unfolding run step start fresh_at content_place next_place read_path target landed cut printed is_true passed_places entered_places
thread_moves_then_copies = refl

-- a thread that runs off is dropped, and the one below goes on after its place
thread_runs_off : all_places (threads_in (now (after 3 (in_a_thread (says (codes "x") ∷ []))))) ≡ main_at 2 ∷ []
unfolding run step start fresh_at content_place next_place read_path target landed cut printed is_true passed_places entered_places
thread_runs_off = refl

thread_writes : line_of (after 4 (in_a_thread (says (codes "x") ∷ []))) ≡ Text (codes "x") ∷ Text (codes "y") ∷ []
unfolding run step start fresh_at content_place next_place read_path target landed cut printed is_true passed_places entered_places
thread_writes = refl

-- `done` in a thread drops it, and is no safe stop
done_in_a_thread : all_places (threads_in (now (after 3 (in_a_thread (does control.Done ∷ []))))) ≡ main_at 2 ∷ []
unfolding run step start fresh_at content_place next_place read_path target landed cut printed is_true passed_places entered_places
done_in_a_thread = refl

done_in_a_thread_is_not_safe : safe_in (now (after 3 (in_a_thread (does control.Done ∷ [])))) ≡ false
unfolding run step start fresh_at content_place next_place read_path target landed cut printed is_true passed_places entered_places
done_in_a_thread_is_not_safe = refl

-- `done` in the last thread stops safely, and does not move
done_in_the_last_thread : where_in (threads_in (now (after 1 (story (does control.Done ∷ []) ([]) ([]))))) ≡ None ∷ None ∷ []
unfolding run step start fresh_at content_place next_place read_path target landed cut printed is_true passed_places entered_places
done_in_the_last_thread = refl

done_in_the_last_thread_is_safe : safe_in (now (after 1 (story (does control.Done ∷ []) ([]) ([])))) ≡ true
unfolding run step start fresh_at content_place next_place read_path target landed cut printed is_true passed_places entered_places
done_in_the_last_thread_is_safe = refl

-- `end` in a thread in a function leaves one thread of one frame, that came from nowhere
end_in_a_thread_in_a_function : threads_in (now (after 3 (story (calls (codes "f") ∷ []) (does control.Thread ∷ does control.End ∷ []) ([])))) ≡ Some (base_threads None)
unfolding run step start fresh_at content_place next_place read_path target landed cut printed is_true passed_places entered_places
end_in_a_thread_in_a_function = refl

-- where moving on stops flow there is nothing to copy
thread_at_the_end : all_places (threads_in (now (after 1 (container None 0 (trees_of (does control.Thread ∷ [])) no_keys)))) ≡ None ∷ []
unfolding run step start fresh_at content_place next_place read_path target landed cut printed is_true passed_places entered_places
thread_at_the_end = refl

-- a copied function keeps the number of its Enter, which then has two Leave marks
two_leaves : line_of (after 6 (story (calls (codes "f") ∷ says (codes "y") ∷ []) (does control.Thread ∷ says (codes "x") ∷ []) ([]))) ≡ Enter 0 ∷ Text (codes "x") ∷ Leave (Some 0) ∷ Text (codes "y") ∷ Leave (Some 0) ∷ Text (codes "y") ∷ []
unfolding run step start fresh_at content_place next_place read_path target landed cut printed is_true passed_places entered_places
two_leaves = refl
