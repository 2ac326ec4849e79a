-- Strings, tags and glue in small steps, each proved by computation (docs/TEXT.md, "Sections").
use Rattle.std.specs.Prelude.{◌≡◌, ℕ, List, [], ◌∷◌, refl, codes, true, false, Some, None, Ok, Err}
use Rattle.ink_model.specs.Run.Configuration.{Configuration, with_safe, put_at, fresh_at, moved}
use Rattle.ink_model.specs.Run.Effect.{with_mode, with_page, with_stack}
use Rattle.ink_model.specs.Run.Entered.{entered_places, passed_places}
use Rattle.ink_model.specs.Run.Place.{content_place, next_place}
use Rattle.ink_model.specs.Run.Step.{step, nothing_bound, Next, Stop, Faults, Comes}
use Rattle.ink_model.specs.Story.Tree.{StoryTree, leaf, container, no_trees, tree, no_keys}
use Rattle.ink_model.specs.Text.Clean.{clean}
use Rattle.ink_model.specs.Text.Mark.{cut}
use Rattle.ink_model.specs.Text.Output.{let_through, writes_text, writes_newline, begins_function, ends_function, closes_string, closes_tag, writes_tag, ends_line, empty_page}
use Rattle.ink_model.specs.Text.Page.{Page, string_section, tag_section}
use Rattle.ink_model.specs.Values.Value.{printed}
use Rattle.ink_model.specs.declared.content.Control.{Control}
use Rattle.ink_model.specs.declared.content.Control.TheVariants as control
use Rattle.ink_model.specs.declared.content.Leaf.TheVariants as leaves
use Rattle.ink_model.specs.declared.fault.Fault.TheVariants as fault
use Rattle.ink_model.specs.declared.mark.Mark.{Mark}
use Rattle.ink_model.specs.declared.mark.Mark.TheVariants.{Text, Newline, Tag, Enter, Leave}
use Rattle.ink_model.specs.declared.place.Part.TheVariants.{Index}
use Rattle.ink_model.specs.declared.value.Value.{Value}
use Rattle.ink_model.specs.declared.value.Value.TheVariants as value

abbrev line_of : List Mark → Page
line_of ms = record { line = ms; sections = []; next_enter = 0 }

abbrev in_string : List Mark → List Mark → Page
in_string line ms = record { line = line; sections = record { kind = string_section; marks = ms } ∷ []; next_enter = 0 }

abbrev in_tag : List Mark → List Mark → Page
in_tag line ms = record { line = line; sections = record { kind = tag_section; marks = ms } ∷ []; next_enter = 0 }

abbrev tag_in_string : List Mark → List Mark → Page
tag_in_string inner ms = record { line = []; sections = record { kind = tag_section; marks = ms } ∷ record { kind = string_section; marks = inner } ∷ []; next_enter = 0 }

abbrev a : Mark
a = Text (codes "a")

-- ---- functions

-- a function fresh in the section writes no newline before a text
fresh_drops_newlines : let_through true (Newline ∷ a ∷ Newline ∷ []) ≡ a ∷ Newline ∷ []
fresh_drops_newlines = refl

a_fresh_newline : writes_newline true (line_of (a ∷ [])) ≡ Ok (line_of (a ∷ []))
a_fresh_newline = refl

numbers_rise : begins_function (record { line = []; sections = []; next_enter = 3 }) ≡ Ok (record { line = Enter 3 ∷ []; sections = []; next_enter = 4 })
numbers_rise = refl

a_function_ends : ends_function None (in_string [] []) ≡ Ok (in_string [] (Leave None ∷ []))
a_function_ends = refl

-- ---- sections

written_in_a_string : writes_text false (codes "b\n") (in_string (a ∷ []) []) ≡ Ok (in_string (a ∷ []) (Text (codes "b") ∷ Newline ∷ []))
unfolding cut
written_in_a_string = refl

-- a string's text is not cleaned
a_strings_text : closes_string (in_string [] (Text (codes " a  b ") ∷ Newline ∷ [])) ≡ Ok (codes " a  b \n", empty_page)
a_strings_text = refl

no_string_on_top : closes_string (in_tag [] []) ≡ Err fault.BadMode
no_string_on_top = refl

no_string_at_all : closes_string (line_of (a ∷ [])) ≡ Err fault.BadMode
no_string_at_all = refl

-- a tag's text is cleaned, and is a mark of the line
a_lines_tag : closes_tag (in_tag (a ∷ []) (Text (codes " calm  sea ") ∷ [])) ≡ Ok (None, line_of (a ∷ Tag (codes "calm sea") ∷ []))
unfolding clean
a_lines_tag = refl

-- in a string it is handed out
a_strings_tag : closes_tag (tag_in_string (a ∷ []) (Text (codes "t") ∷ [])) ≡ Ok (Some (codes "t"), in_string [] (a ∷ []))
unfolding clean
a_strings_tag = refl

no_tag_on_top : closes_tag (in_string [] []) ≡ Err fault.BadMode
no_tag_on_top = refl

-- a tag that is given whole is cleaned too
a_whole_tag : writes_tag (codes " calm  sea ") (line_of (a ∷ [])) ≡ Ok (None, line_of (a ∷ Tag (codes "calm sea") ∷ []))
unfolding clean
a_whole_tag = refl

a_whole_tag_in_a_string : writes_tag (codes " t ") (in_string [] (a ∷ [])) ≡ Ok (Some (codes "t"), in_string [] (a ∷ []))
unfolding clean
a_whole_tag_in_a_string = refl

a_line_ends : ends_line (line_of (a ∷ Newline ∷ [])) ≡ true
a_line_ends = refl

-- while a string is open no line ends
no_line_ends_in_a_string : ends_line (in_string (a ∷ Newline ∷ []) []) ≡ false
no_line_ends_in_a_string = refl

-- ---- steps

abbrev story : Control → StoryTree
story o = container None 0 (tree (leaf (leaves.Control o)) (tree (leaf leaves.Newline) no_trees)) no_keys

abbrev at_first : Page → List Value → Configuration
at_first page vs = with_page page (with_stack vs (fresh_at (Index 0 ∷ [])))

abbrev at_second : Configuration → Configuration
at_second c = moved (Index 0 ∷ []) (Some (Index 1 ∷ [])) c

glue_is_no_value : step (container None 0 (tree (leaf leaves.Glue) no_trees) no_keys) nothing_bound (with_mode true (at_first empty_page [])) ≡ Comes (Faults fault.BadMode)
unfolding step fresh_at content_place passed_places entered_places
glue_is_no_value = refl

a_string_begins : step (story control.BeginString) nothing_bound (with_mode true (at_first empty_page [])) ≡ Comes (Next (at_second (with_mode false (at_first (in_string [] []) []))))
unfolding step fresh_at content_place next_place passed_places entered_places
a_string_begins = refl

not_in_evaluation : step (story control.BeginString) nothing_bound (at_first empty_page []) ≡ Comes (Faults fault.BadMode)
unfolding step fresh_at content_place passed_places entered_places
not_in_evaluation = refl

a_string_ends : step (story control.EndString) nothing_bound (at_first (in_string [] (a ∷ [])) []) ≡ Comes (Next (at_second (with_mode true (at_first empty_page (value.Text (codes "a") ∷ [])))))
unfolding step fresh_at content_place next_place passed_places entered_places
a_string_ends = refl

a_tag_begins : step (story control.BeginTag) nothing_bound (at_first (line_of (a ∷ [])) []) ≡ Comes (Next (at_second (at_first (in_tag (a ∷ []) []) [])))
unfolding step fresh_at content_place next_place passed_places entered_places
a_tag_begins = refl

-- and closes one that is on top
another_tag_begins : step (story control.BeginTag) nothing_bound (at_first (in_tag [] (a ∷ [])) []) ≡ Comes (Next (at_second (at_first (in_tag (Tag (codes "a") ∷ []) []) [])))
unfolding step fresh_at content_place next_place clean passed_places entered_places
another_tag_begins = refl

a_tag_ends_in_a_string : step (story control.EndTag) nothing_bound (at_first (tag_in_string [] (a ∷ [])) []) ≡ Comes (Next (at_second (at_first (in_string [] []) (value.Tag (codes "a") ∷ []))))
unfolding step fresh_at content_place next_place clean passed_places entered_places
a_tag_ends_in_a_string = refl

abbrev tags : List ℕ → StoryTree
tags t = container None 0 (tree (leaf (leaves.Tag t)) (tree (leaf leaves.Newline) no_trees)) no_keys

a_tag_in_evaluation : step (tags (codes " b ")) nothing_bound (with_mode true (at_first (line_of (a ∷ [])) [])) ≡ Comes (Next (at_second (with_mode true (at_first (line_of (a ∷ Tag (codes "b") ∷ [])) []))))
unfolding step fresh_at content_place next_place clean passed_places entered_places
a_tag_in_evaluation = refl

a_tag_is_pushed : step (tags (codes " b ")) nothing_bound (at_first (in_string [] (a ∷ [])) []) ≡ Comes (Next (at_second (at_first (in_string [] (a ∷ [])) (value.Tag (codes "b") ∷ []))))
unfolding step fresh_at content_place next_place clean passed_places entered_places
a_tag_is_pushed = refl

-- and closes one that is on top
an_open_tag_before : step (tags (codes "b")) nothing_bound (at_first (in_tag [] (a ∷ [])) []) ≡ Comes (Next (at_second (at_first (line_of (Tag (codes "a") ∷ Tag (codes "b") ∷ [])) [])))
unfolding step fresh_at content_place next_place clean passed_places entered_places
an_open_tag_before = refl

an_open_tag_in_a_string : step (tags (codes "b")) nothing_bound (at_first (tag_in_string [] (a ∷ [])) []) ≡ Comes (Next (at_second (at_first (in_string [] []) (value.Tag (codes "a") ∷ value.Tag (codes "b") ∷ []))))
unfolding step fresh_at content_place next_place clean passed_places entered_places
an_open_tag_in_a_string = refl

stopped_in_a_string : step (story control.Done) nothing_bound (at_first (in_string [] []) []) ≡ Comes (Faults fault.StopInString)
unfolding step fresh_at content_place passed_places entered_places
stopped_in_a_string = refl

stopped_on_the_line : step (story control.Done) nothing_bound (at_first (line_of (a ∷ [])) []) ≡ Comes (Stop (with_safe true (put_at None (at_first (line_of (a ∷ [])) []))))
unfolding step fresh_at content_place passed_places entered_places
stopped_on_the_line = refl

a_tag_is_not_printed : step (story control.Out) nothing_bound (at_first empty_page (value.Tag [] ∷ [])) ≡ Comes (Faults fault.BadOperands)
unfolding step fresh_at content_place printed passed_places entered_places
a_tag_is_not_printed = refl
