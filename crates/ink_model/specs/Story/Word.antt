-- The words that stand for content (docs/STORY_FORMAT.md, "Content").
use Rattle.std.specs.Prelude.{ℕ, List, [], ◌∷◌, bytes_eq, codes, if◌then◌else◌, Option, Some, None}
use Rattle.std.specs.Option.{option_or}
use Rattle.ink_model.specs.declared.content.Control.TheVariants as control
use Rattle.ink_model.specs.declared.content.Leaf.{Leaf}
use Rattle.ink_model.specs.declared.content.Leaf.TheVariants as leaves
use Rattle.ink_model.specs.declared.operator.Op.TheVariants as op

-- what a word stands for in a table
abbrev pub meant : List ℕ → List (List ℕ × Leaf) → Option Leaf
meant s [] = None
meant s (e ∷ es) = if bytes_eq s e.0 then Some e.1 else meant s es

abbrev pub flow_words : List (List ℕ × Leaf)
flow_words = (codes "\n", leaves.Newline) ∷ (codes "<>", leaves.Glue) ∷ (codes "done", leaves.Control control.Done)
    ∷ (codes "end", leaves.Control control.End) ∷ (codes "nop", leaves.Control control.Nop) ∷ (codes "void", leaves.Void) ∷ []

abbrev pub evaluation_words : List (List ℕ × Leaf)
evaluation_words = (codes "ev", leaves.Control control.BeginEval) ∷ (codes "/ev", leaves.Control control.EndEval)
    ∷ (codes "out", leaves.Control control.Out) ∷ (codes "pop", leaves.Control control.Pop) ∷ (codes "du", leaves.Control control.Duplicate) ∷ []

abbrev pub section_words : List (List ℕ × Leaf)
section_words = (codes "str", leaves.Control control.BeginString) ∷ (codes "/str", leaves.Control control.EndString)
    ∷ (codes "#", leaves.Control control.BeginTag) ∷ (codes "/#", leaves.Control control.EndTag) ∷ []

abbrev pub frame_words : List (List ℕ × Leaf)
frame_words = (codes "~ret", leaves.Control control.Return) ∷ (codes "->->", leaves.Control control.ReturnTunnel)
    ∷ (codes "thread", leaves.Control control.Thread) ∷ []

abbrev pub count_words : List (List ℕ × Leaf)
count_words = (codes "choiceCnt", leaves.Control control.ChoiceCount) ∷ (codes "turn", leaves.Control control.Turn)
    ∷ (codes "turns", leaves.Control control.Turns) ∷ (codes "readc", leaves.Control control.ReadCount)
    ∷ (codes "visit", leaves.Control control.Visit) ∷ []

abbrev pub arithmetic_words : List (List ℕ × Leaf)
arithmetic_words = (codes "+", leaves.Op op.Add) ∷ (codes "-", leaves.Op op.Subtract) ∷ (codes "/", leaves.Op op.Divide)
    ∷ (codes "*", leaves.Op op.Multiply) ∷ (codes "%", leaves.Op op.Remainder) ∷ (codes "_", leaves.Op op.Negate) ∷ []

abbrev pub comparison_words : List (List ℕ × Leaf)
comparison_words = (codes "==", leaves.Op op.Equal) ∷ (codes ">", leaves.Op op.Greater) ∷ (codes "<", leaves.Op op.Less)
    ∷ (codes ">=", leaves.Op op.AtLeast) ∷ (codes "<=", leaves.Op op.AtMost) ∷ (codes "!=", leaves.Op op.NotEqual) ∷ []

abbrev pub logic_words : List (List ℕ × Leaf)
logic_words = (codes "!", leaves.Op op.Not) ∷ (codes "&&", leaves.Op op.And) ∷ (codes "||", leaves.Op op.Or)
    ∷ (codes "?", leaves.Op op.Has) ∷ (codes "!?", leaves.Op op.HasNot) ∷ []

abbrev pub number_words : List (List ℕ × Leaf)
number_words = (codes "MIN", leaves.Op op.Min) ∷ (codes "MAX", leaves.Op op.Max) ∷ (codes "FLOOR", leaves.Op op.Floor)
    ∷ (codes "CEILING", leaves.Op op.Ceiling) ∷ (codes "INT", leaves.Op op.Int) ∷ []

-- the leaf that an operator is
unfoldable pub operator_word : List ℕ → Option Leaf
operator_word s = option_or (meant s arithmetic_words) (option_or (meant s comparison_words)
    (option_or (meant s logic_words) (meant s number_words)))

-- the leaf that a word is
unfoldable pub word : List ℕ → Option Leaf
word s = option_or (meant s flow_words) (option_or (meant s evaluation_words) (option_or (meant s section_words)
    (option_or (meant s frame_words) (option_or (meant s count_words) (operator_word s)))))
