-- What scripts give, and what they have noted (docs/PROGRAM.md).
use Rattle.std.specs.Prelude.{ℕ, zero, suc, ◌+◌, List, [], ◌∷◌, Option, Some, None, drop, take}
use Rattle.ink_host.specs.declared.objects.Called.{Called}
use Rattle.ink_model.specs.declared.host.Given.{Given}
use Rattle.ink_model.specs.declared.value.Value.{Value}
use Rattle.ink_words.specs.declared.objects.Turn.{Turn}

-- what a script gives at its first n calls: its answers in order, and nothing once they are used up
abbrev pub gifts : List Given → ℕ → List (Option Given)
gifts answers zero = []
gifts [] (suc n) = None ∷ gifts [] n
gifts (a ∷ answers) (suc n) = Some a ∷ gifts answers n

-- how many arguments these turns had
abbrev pub argument_count : List Turn → ℕ
argument_count [] = 0
argument_count (t ∷ turns) = t.count + argument_count turns

-- the calls that were noted so: their arguments stand one behind another, and each was given the answer whose turn it was
abbrev pub noted : List Given → List Value → List Turn → List Called
noted answers arguments [] = []
noted [] arguments (t ∷ turns) = record { stamp = t.stamp; arguments = take t.count arguments; gave = None } ∷ noted [] (drop t.count arguments) turns
noted (a ∷ answers) arguments (t ∷ turns) = record { stamp = t.stamp; arguments = take t.count arguments; gave = Some a } ∷ noted answers (drop t.count arguments) turns
