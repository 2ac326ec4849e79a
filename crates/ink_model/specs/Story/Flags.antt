-- What flags say (docs/STORY_FORMAT.md, "Containers" and "Content").
use Rattle.std.specs.Prelude.{ℕ, ◌/◌, ◌%◌, Bool, ◌==◌}

-- a container's 1: visits are counted
abbrev pub counts_visits : ℕ → Bool
counts_visits flags = flags % 2 == 1

-- a container's 2: the turn of the last visit is noted
abbrev pub notes_turns : ℕ → Bool
notes_turns flags = (flags / 2) % 2 == 1

-- a container's 4: only entry at the start counts
abbrev pub counts_at_start : ℕ → Bool
counts_at_start flags = (flags / 4) % 2 == 1

-- a choice's 16: it is offered once only
abbrev pub is_once_only : ℕ → Bool
is_once_only flags = (flags / 16) % 2 == 1

-- ---- a choice's others

-- 1: a condition is popped
abbrev pub is_conditional : ℕ → Bool
is_conditional flags = flags % 2 == 1

-- 2: there is start text
abbrev pub has_start_text : ℕ → Bool
has_start_text flags = (flags / 2) % 2 == 1

-- 4: there is choice-only text
abbrev pub has_choice_only_text : ℕ → Bool
has_choice_only_text flags = (flags / 4) % 2 == 1

-- 8: it is an invisible default
abbrev pub is_invisible_default : ℕ → Bool
is_invisible_default flags = (flags / 8) % 2 == 1
