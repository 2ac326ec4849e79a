-- Choices that are made, shown and taken, each proved by computation (docs/CHOICES.md).
use Rattle.std.specs.Prelude.{◌≡◌, ℕ, pos, List, [], ◌∷◌, refl, codes, Bool, true, false, None, Some, Ok, Err}
use Rattle.ink_model.specs.Choices.Making.{make, only_invisible, shown, choice_gone}
use Rattle.ink_model.specs.Flow.Frames.{ThreadOf, base_frame}
use Rattle.ink_model.specs.Run.Configuration.{ChoiceOf}
use Rattle.ink_model.specs.Values.Value.{is_true}
use Rattle.ink_model.specs.declared.fault.Fault.TheVariants as fault
use Rattle.ink_model.specs.declared.value.Value.{Value}
use Rattle.ink_model.specs.declared.value.Value.TheVariants.{Int, Bool as Truth, Tag, Text, Void}

-- the thread that runs, at place 7
abbrev here : ThreadOf ℕ
here = record { frame = base_frame (Some 7); below = []; previous = Some 6 }

-- a choice of place 9
abbrev choice_of : List ℕ → List (List ℕ) → Bool → ChoiceOf ℕ
choice_of text tags hidden = record { text = text; tags = tags; target = 9; hidden = hidden; thread = here }

abbrev five : Value
five = Int (pos 5)

-- ---- what is popped; the stack is written from the bottom

start_text_alone : make 2 9 false here (five ∷ Text (codes "Go") ∷ []) ≡ Ok (Some (choice_of (codes "Go") [] false), five ∷ [])
unfolding is_true
start_text_alone = refl

-- the choice-only text is popped first, and stands last
both_texts : make 6 9 false here (Text (codes "Go ") ∷ Text (codes "home") ∷ []) ≡ Ok (Some (choice_of (codes "Go home") [] false), [])
unfolding is_true
both_texts = refl

-- the condition is popped before the texts
a_true_condition : make 3 9 false here (Text (codes "Go") ∷ five ∷ []) ≡ Ok (Some (choice_of (codes "Go") [] false), [])
unfolding is_true
a_true_condition = refl

-- where the condition is false the texts and their tags are popped all the same
a_false_condition : make 7 9 false here (five ∷ Tag (codes "a") ∷ Text (codes "Go ") ∷ Tag (codes "b") ∷ Text (codes "home") ∷ Truth false ∷ []) ≡ Ok (None, five ∷ [])
unfolding is_true
a_false_condition = refl

-- tags lie below their text; the start's come first, each as they were written
tags_of_both_texts : make 6 9 false here (Tag (codes "a") ∷ Tag (codes "b") ∷ Text (codes "Go ") ∷ Tag (codes "c") ∷ Tag (codes "d") ∷ Text (codes "home") ∷ [])
    ≡ Ok (Some (choice_of (codes "Go home") (codes "a" ∷ codes "b" ∷ codes "c" ∷ codes "d" ∷ []) false), [])
unfolding is_true
tags_of_both_texts = refl

-- tags that lie below another value belong to no text of the choice
tags_further_down : make 4 9 false here (Tag (codes "a") ∷ five ∷ Tag (codes "b") ∷ Text (codes "Go") ∷ []) ≡ Ok (Some (choice_of (codes "Go") (codes "b" ∷ []) false), Tag (codes "a") ∷ five ∷ [])
unfolding is_true
tags_further_down = refl

-- blanks go at both ends, also where a whole text is blank, and stay between
blanks_at_both_ends : make 6 9 false here (Text (codes "  ") ∷ Text (codes " a  b ") ∷ []) ≡ Ok (Some (choice_of (codes "a  b") [] false), [])
unfolding is_true
blanks_at_both_ends = refl

blanks_in_the_middle : make 6 9 false here (Text (codes " a ") ∷ Text (codes " b") ∷ []) ≡ Ok (Some (choice_of (codes "a  b") [] false), [])
unfolding is_true
blanks_in_the_middle = refl

blanks_alone : make 6 9 false here (Text (codes " ") ∷ Text (codes "  ") ∷ []) ≡ Ok (Some (choice_of [] [] false), [])
unfolding is_true
blanks_alone = refl

-- ---- once only, and invisible

once_only_and_visited : make 18 9 true here (Text (codes "Go") ∷ []) ≡ Ok (None, [])
unfolding is_true
once_only_and_visited = refl

once_only_not_yet_visited : make 18 9 false here (Text (codes "Go") ∷ []) ≡ Ok (Some (choice_of (codes "Go") [] false), [])
unfolding is_true
once_only_not_yet_visited = refl

offered_again : make 2 9 true here (Text (codes "Go") ∷ []) ≡ Ok (Some (choice_of (codes "Go") [] false), [])
unfolding is_true
offered_again = refl

an_invisible_default : make 8 9 true here (five ∷ []) ≡ Ok (Some (choice_of [] [] true), five ∷ [])
unfolding is_true
an_invisible_default = refl

-- ---- faults

no_condition : make 3 9 false here [] ≡ Err fault.StackEmpty
unfolding is_true
no_condition = refl

-- the condition is looked at before the text is popped
a_tag_for_a_condition : make 3 9 false here (Tag (codes "a") ∷ []) ≡ Err fault.BadOperands
unfolding is_true
a_tag_for_a_condition = refl

-- a false condition and a once-only target hide no fault
no_start_text : make 23 9 true here (Text (codes "home") ∷ Truth false ∷ []) ≡ Err fault.StackEmpty
unfolding is_true
no_start_text = refl

a_number_for_a_text : make 6 9 false here (five ∷ Text (codes "home") ∷ []) ≡ Err fault.BadOperands
unfolding is_true
a_number_for_a_text = refl

void_for_the_choice_only_text : make 6 9 false here (five ∷ Void ∷ []) ≡ Err fault.BadOperands
unfolding is_true
void_for_the_choice_only_text = refl

-- ---- lists of choices

abbrev a : ChoiceOf ℕ
a = choice_of (codes "a") (codes "x" ∷ []) false

abbrev b : ChoiceOf ℕ
b = choice_of (codes "b") [] false

abbrev default : ChoiceOf ℕ
default = choice_of [] [] true

the_visible_ones : shown (default ∷ a ∷ default ∷ b ∷ [])
    ≡ record { text = codes "a"; tags = codes "x" ∷ [] } ∷ record { text = codes "b"; tags = [] } ∷ []
the_visible_ones = refl

abbrev none : List (ChoiceOf ℕ)
none = []

none_is_not_only_invisible : only_invisible none ≡ false
none_is_not_only_invisible = refl

defaults_alone : only_invisible (default ∷ default ∷ []) ≡ true
defaults_alone = refl

a_default_beside_a_choice : only_invisible (default ∷ a ∷ []) ≡ false
a_default_beside_a_choice = refl

the_second_visible_one : choice_gone 1 (default ∷ a ∷ default ∷ b ∷ []) ≡ Some (b, default ∷ a ∷ default ∷ [])
the_second_visible_one = refl

no_third_visible_one : choice_gone 2 (default ∷ a ∷ default ∷ b ∷ []) ≡ None
no_third_visible_one = refl

-- where none is visible, each can be taken
the_first_default : choice_gone 0 (default ∷ default ∷ []) ≡ Some (default, default ∷ [])
the_first_default = refl
