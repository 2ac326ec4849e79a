-- Containers that are entered while a story runs, and what that counts (docs/RUNNING.md, "Visits").
use Rattle.std.specs.Prelude.{ℕ, ℤ, List, [], ◌∷◌, Bool, true, Option, Some, None, option_and_then, Result, Ok, Err}
use Rattle.std.specs.List.{list_any}
use Rattle.ink_model.specs.Flow.Frames.{ThreadsOf, place_in}
use Rattle.ink_model.specs.Run.Configuration.{Configuration, with_counts}
use Rattle.ink_model.specs.Run.Entered.{entered_places, flags_at, passed_places}
use Rattle.ink_model.specs.Story.Path.{absolute_target, read_path}
use Rattle.ink_model.specs.Story.Tree.{StoryTree, at}
use Rattle.ink_model.specs.Variables.Counts.{CountsOf, adds_row, visited, visits_of}
use Rattle.ink_model.specs.Variables.Rows.{place_order}
use Rattle.ink_model.specs.declared.fault.Fault.{Fault}
use Rattle.ink_model.specs.declared.place.Part.{Part}

-- these containers are entered in a turn, one after another, each as at its start: what is entered in the middle alone, and
-- counts at its start alone, is not among them
abbrev pub all_visited : StoryTree → ℕ → List (List Part) → CountsOf (List Part) → CountsOf (List Part)
all_visited s turn [] c = c
all_visited s turn (p ∷ ps) c = all_visited s turn ps (visited place_order p (flags_at (at s p)) true turn c)

abbrev pub entering : StoryTree → List (List Part) → Configuration → Configuration
entering s ps c = with_counts (all_visited s c.shared.turn ps c.shared.counts) c

-- a step at a place enters what it goes into, before it performs
abbrev pub entering_at : StoryTree → List Part → Configuration → Configuration
entering_at s p c = entering s (passed_places s p) c

-- the containers around the place to which the top thread has come, from its previous place
abbrev pub around_place : StoryTree → ThreadsOf (List Part) → Option (List Part) → List (List Part)
around_place s ts None = []
around_place s ts (Some p) = entered_places s ts.thread.previous p

abbrev pub around : StoryTree → ThreadsOf (List Part) → List (List Part)
around s ts = around_place s ts (place_in ts)

-- flow has landed: the containers around are entered
abbrev pub entering_around : StoryTree → Configuration → Configuration
entering_around s c = entering s (around s c.flow.threads) c

-- one of these gets its first visit, or its first turn is noted, for which memory is asked
abbrev pub adds_rows : StoryTree → List (List Part) → CountsOf (List Part) → Bool
adds_rows s ps c = list_any (λ p. adds_row place_order p (flags_at (at s p)) c) ps

-- entering the containers around asks for memory
abbrev pub entering_asks : StoryTree → Configuration → Bool
entering_asks s c = adds_rows s (around s c.flow.threads) c.shared.counts

-- ---- for a host

abbrev pub counted_visits : Result ℤ Fault → Option ℤ
counted_visits (Ok z) = Some z
counted_visits (Err f) = None

-- the visits of the container to which a path leads as it is spelled; none where it leads to nothing that is counted
abbrev pub visits_by : StoryTree → List ℕ → Configuration → Option ℤ
visits_by s text c =
    option_and_then (λ q. counted_visits (visits_of place_order q (flags_at (at s q)) c.shared.counts)) (option_and_then (absolute_target s) (read_path text))
