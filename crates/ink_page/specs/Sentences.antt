-- Why a story is refused, breaks off, or does not do what is asked, in words (docs/READER.md).
use Rattle.std.specs.Prelude.{ℕ, List, codes}
use Rattle.ink_model.specs.declared.fault.Cause.{Cause}
use Rattle.ink_model.specs.declared.fault.Cause.TheVariants as cause
use Rattle.ink_model.specs.declared.fault.Fault.{Fault}
use Rattle.ink_model.specs.declared.fault.Fault.TheVariants as fault
use Rattle.ink_model.specs.declared.fault.Refusal.{Refusal}
use Rattle.ink_model.specs.declared.fault.Refusal.TheVariants as refusal

-- a word of the story that is not known is told as what is left out
abbrev pub cause_sentence : Cause → List ℕ
cause_sentence cause.NotJson = codes "The story's file is no JSON: it may be cut, or not what inklecate writes."
cause_sentence cause.Version = codes "The story is of a version of ink that is not played here: 20 and 21 are."
cause_sentence cause.Shape = codes "There is something in the story that inklecate does not write."
cause_sentence cause.Unsupported = codes "The story has something that is not played here: a list, a number with a point, a shuffle or a random number."
cause_sentence cause.BadPath = codes "The story has a path that leads to nothing."
cause_sentence cause.Limit = codes "The story has something that is too large or nested too deep."
cause_sentence cause.OutOfMemory = codes "There is not enough memory for the story."

abbrev pub fault_sentence : Fault → List ℕ
fault_sentence fault.StackEmpty = codes "The story took a value where none was."
fault_sentence fault.BadOperands = codes "The story reckoned with values that do not go together."
fault_sentence fault.Divide = codes "The story divided by zero, or the least number by -1."
fault_sentence fault.BadMode = codes "The story used a command where it has no meaning."
fault_sentence fault.BadPop = codes "The story came back from where it had not gone."
fault_sentence fault.BadTarget = codes "The story went to a place that is not there."
fault_sentence fault.BadPointer = codes "The story followed a reference to a variable that is not there."
fault_sentence fault.NotCounted = codes "The story asked for visits that are not counted."
fault_sentence fault.NoTemp = codes "The story used a variable that is not there."
fault_sentence fault.UnsafeInString = codes "The story called a function with effects in the middle of a text."
fault_sentence fault.Unbound = codes "The story called a function that nothing answers."
fault_sentence fault.HostRefused = codes "A function had no answer to give."
fault_sentence fault.StopInString = codes "The story stopped in the middle of a text."
fault_sentence fault.TooDeep = codes "The story grew past a limit."
fault_sentence fault.OutOfSteps = codes "The story ran on and on without saying anything."
fault_sentence fault.OutOfMemory = codes "There was not enough memory to go on."

abbrev pub refusal_sentence : Refusal → List ℕ
refusal_sentence refusal.CannotContinue = codes "The story does not go on here."
refusal_sentence refusal.NotAChoice = codes "There is no such choice."
refusal_sentence refusal.NoSuchVariable = codes "There is no such variable."
refusal_sentence refusal.NoSuchPath = codes "There is no such place."
refusal_sentence refusal.BadValue = codes "That is no value."
refusal_sentence refusal.BadSave = codes "That is no save of this story."
refusal_sentence refusal.BadCommand = codes "That was not understood."
refusal_sentence refusal.NoSuchFlow = codes "There is no such flow."
refusal_sentence refusal.DefaultFlow = codes "The first flow stays."
refusal_sentence refusal.TooManyFlows = codes "There are too many flows."
refusal_sentence (refusal.Broken f) = codes "The story broke off: take back the last choice (b), load (l) or restart (r)."
refusal_sentence refusal.OutOfMemory = codes "There is not enough memory for that."
