-- The effects of text, strings and tags (docs/RUNNING.md, "Steps"; docs/TEXT.md).
use Rattle.std.specs.Prelude.{ℕ, List, [], ◌∷◌, Bool, true, false, not, if◌then◌else◌, Option, Some, None, Result, Ok, Err}
use Rattle.std.specs.List.{list_any}
use Rattle.ink_model.specs.Run.Effect.{Fields, Effect, Moves, Fails, is_fresh, or_fault, pushing, writing, writing_text}
use Rattle.ink_model.specs.Text.Mark.{cut}
use Rattle.ink_model.specs.Text.Output.{is_string, is_text, writes_text, writes_newline, writes_glue, opens, closes_string, closes_tag, writes_tag}
use Rattle.ink_model.specs.Text.Page.{Page, Section, string_section, tag_section}
use Rattle.ink_model.specs.Values.Stack.{pushed}
use Rattle.ink_model.specs.declared.fault.Fault.{Fault}
use Rattle.ink_model.specs.declared.fault.Fault.TheVariants.{BadMode}
use Rattle.ink_model.specs.declared.value.Value.{Value}
use Rattle.ink_model.specs.declared.value.Value.TheVariants as value

-- a text is pushed in evaluation mode, and written outside it
abbrev pub write_text : List ℕ → Fields → Effect
write_text t f = if f.evaluating then pushing (value.Text t) f else writing_text (list_any is_text (cut t)) (writes_text (is_fresh f) t f.page) f

abbrev pub write_newline : Fields → Effect
write_newline f = if f.evaluating then pushing (value.Text (10 ∷ [])) f else writing (writes_newline (is_fresh f) f.page) f

-- glue is no value
abbrev pub write_glue : Fields → Effect
write_glue f = if f.evaluating then Fails BadMode else writing (writes_glue f.page) f

-- a string begins, and its content is written as text
abbrev pub begin_string : Fields → Effect
begin_string f = if f.evaluating then writing (opens string_section f.page) (record f { evaluating = false }) else Fails BadMode

-- the text of a string that ends is pushed, and evaluation goes on
abbrev pub end_string : Fields → Effect
end_string f = or_fault (closes_string f.page) (λ r. pushing (value.Text r.0) (record f { page = r.1; evaluating = true }))

-- ---- tags

-- a stack, and the page beside it
abbrev pub beside : Page → Result (List Value) Fault → Result (List Value × Page) Fault
beside page (Ok vs) = Ok (vs, page)
beside page (Err f) = Err f

-- a tag that was closed in a string is pushed
abbrev pub keeps_tag : List Value → Result (Option (List ℕ) × Page) Fault → Result (List Value × Page) Fault
keeps_tag vs (Ok (None, page)) = Ok (vs, page)
keeps_tag vs (Ok (Some t, page)) = beside page (pushed (value.Tag t) vs)
keeps_tag vs (Err f) = Err f

-- stack and page without the tag on top
abbrev pub closed_tag : List Value → Page → Result (List Value × Page) Fault
closed_tag vs page = keeps_tag vs (closes_tag page)

abbrev pub end_tag : Fields → Effect
end_tag f = or_fault (closed_tag f.stack f.page) (λ r. Moves (record f { stack = r.0; page = r.1 }))

-- a string is on top
abbrev pub in_string : List Section → Bool
in_string [] = false
in_string (x ∷ rest) = is_string x

-- a tag is on top
abbrev pub in_tag : List Section → Bool
in_tag [] = false
in_tag (x ∷ rest) = not (is_string x)

-- a tag begins; one that is on top is closed first
abbrev pub begin_tag : Fields → Effect
begin_tag f = or_fault (if in_tag f.page.sections then closed_tag f.stack f.page else Ok (f.stack, f.page))
    (λ r. writing (opens tag_section r.1) (record f { stack = r.0 }))

-- a tag is given whole, whatever the mode; one that is on top is closed first
abbrev pub write_tag : List ℕ → Fields → Effect
write_tag t f = or_fault (if in_tag f.page.sections then closed_tag f.stack f.page else Ok (f.stack, f.page))
    (λ r. or_fault (keeps_tag r.0 (writes_tag t r.1)) (λ q. Moves (record f { stack = q.0; page = q.1 })))
