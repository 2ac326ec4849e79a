-- What calls do, by what the rules give.
use Rattle.std.specs.Prelude.{◌≡◌, Result, Ok, Err, is_ok}
use Rattle.ink_model.specs.Memory.Refusals.{ByRule, LacksMemory}
use Rattle.ink_model.specs.declared.fault.Fault.{Fault}

-- A call changes what it is made on as the rule says, or gives the rule's fault and changes nothing.
abbrev pub Changes : {S U : Type 0} → Result S Fault → S → S → Result U Fault → Type 0
Changes (Ok s) old new (Ok u) = new ≡ s
Changes (Ok s) old new (Err f) = ⊥
Changes (Err g) old new (Ok u) = ⊥
Changes (Err g) old new (Err f) = (f ≡ g) × (new ≡ old)

-- The same of a call that asks for memory: where the rule gives no fault it may be refused, and nothing has changed then.
abbrev pub Grows : {S U : Type 0} → Result S Fault → S → S → Result U Fault → Type 0
Grows rule old new result = ByRule (LacksMemory (is_ok rule)) (λ s u. new ≡ s) (λ why. why × (new ≡ old)) rule result
