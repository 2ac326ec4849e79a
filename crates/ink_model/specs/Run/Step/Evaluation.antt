-- The effects of values, operators and evaluation mode (docs/RUNNING.md, "Steps" and "Evaluation").
use Rattle.std.specs.Prelude.{List, true, false, if◌then◌else◌, Option, Some, None}
use Rattle.ink_model.specs.Run.Effect.{Fields, Effect, Moves, Fails, is_fresh, or_fault, popping, pushing, writing_text}
use Rattle.ink_model.specs.Text.Output.{prints_text, writes_value}
use Rattle.ink_model.specs.Values.Stack.{applied, popped}
use Rattle.ink_model.specs.Values.Value.{printed}
use Rattle.ink_model.specs.declared.fault.Fault.TheVariants.{BadMode}
use Rattle.ink_model.specs.declared.operator.Op.{Op}
use Rattle.ink_model.specs.declared.value.Value.{Value}

-- content that is a value is pushed in evaluation mode, and does nothing outside it
abbrev pub push_value : Value → Fields → Effect
push_value v f = if f.evaluating then pushing v f else Moves f

abbrev pub begin_eval : Fields → Effect
begin_eval f = if f.evaluating then Fails BadMode else Moves (record f { evaluating = true })

abbrev pub end_eval : Fields → Effect
end_eval f = if f.evaluating then Moves (record f { evaluating = false }) else Fails BadMode

-- what is popped is written; on an empty stack nothing is done
abbrev pub output_popped : Option (Value × List Value) → Fields → Effect
output_popped None f = Moves f
output_popped (Some r) f = writing_text (prints_text (printed r.0)) (writes_value (is_fresh f) r.0 f.page) (record f { stack = r.1 })

abbrev pub output_value : Fields → Effect
output_value f = output_popped (popped f.stack) f

abbrev pub pop : Fields → Effect
pop f = popping f (λ v left. Moves left)

-- a copy of the top
abbrev pub duplicate : Fields → Effect
duplicate f = popping f (λ v left. pushing v f)

-- what an operator makes of its operands is in their place
abbrev pub operate : Op → Fields → Effect
operate o f = or_fault (applied o f.stack) (λ vs. Moves (record f { stack = vs }))
