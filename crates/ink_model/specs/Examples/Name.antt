-- The names that answers and the program print, each proved by computation.
use Rattle.std.specs.Prelude.{◌≡◌, [], ◌∷◌, codes, refl}
use Rattle.std.specs.Fmt.{digits}
use Rattle.ink_model.specs.Protocol.Answer.{cause_name, fault_name, halt_text, refusal_name, refused_story_text}
use Rattle.ink_model.specs.Story.Path.{place_text}
use Rattle.ink_model.specs.declared.fault.Cause.TheVariants as cause
use Rattle.ink_model.specs.declared.fault.Fault.TheVariants as fault
use Rattle.ink_model.specs.declared.fault.Halt.TheVariants as halt
use Rattle.ink_model.specs.declared.fault.Refusal.TheVariants as refusal
use Rattle.ink_model.specs.declared.place.Part.TheVariants.{Index, Name}

-- ---- causes of refused stories

cause_not_json : cause_name cause.NotJson ≡ codes "NotJson"
cause_not_json = refl

cause_version : cause_name cause.Version ≡ codes "Version"
cause_version = refl

cause_shape : cause_name cause.Shape ≡ codes "Shape"
cause_shape = refl

cause_unsupported : cause_name cause.Unsupported ≡ codes "Unsupported"
cause_unsupported = refl

cause_bad_path : cause_name cause.BadPath ≡ codes "BadPath"
cause_bad_path = refl

cause_limit : cause_name cause.Limit ≡ codes "Limit"
cause_limit = refl

cause_out_of_memory : cause_name cause.OutOfMemory ≡ codes "OutOfMemory"
cause_out_of_memory = refl

-- ---- faults

fault_stack_empty : fault_name fault.StackEmpty ≡ codes "StackEmpty"
fault_stack_empty = refl

fault_bad_operands : fault_name fault.BadOperands ≡ codes "BadOperands"
fault_bad_operands = refl

fault_divide : fault_name fault.Divide ≡ codes "Divide"
fault_divide = refl

fault_bad_mode : fault_name fault.BadMode ≡ codes "BadMode"
fault_bad_mode = refl

fault_bad_pop : fault_name fault.BadPop ≡ codes "BadPop"
fault_bad_pop = refl

fault_bad_target : fault_name fault.BadTarget ≡ codes "BadTarget"
fault_bad_target = refl

fault_bad_pointer : fault_name fault.BadPointer ≡ codes "BadPointer"
fault_bad_pointer = refl

fault_not_counted : fault_name fault.NotCounted ≡ codes "NotCounted"
fault_not_counted = refl

fault_no_temp : fault_name fault.NoTemp ≡ codes "NoTemp"
fault_no_temp = refl

fault_unsafe_in_string : fault_name fault.UnsafeInString ≡ codes "UnsafeInString"
fault_unsafe_in_string = refl

fault_unbound : fault_name fault.Unbound ≡ codes "Unbound"
fault_unbound = refl

fault_host_refused : fault_name fault.HostRefused ≡ codes "HostRefused"
fault_host_refused = refl

fault_stop_in_string : fault_name fault.StopInString ≡ codes "StopInString"
fault_stop_in_string = refl

fault_too_deep : fault_name fault.TooDeep ≡ codes "TooDeep"
fault_too_deep = refl

fault_out_of_steps : fault_name fault.OutOfSteps ≡ codes "OutOfSteps"
fault_out_of_steps = refl

fault_out_of_memory : fault_name fault.OutOfMemory ≡ codes "OutOfMemory"
fault_out_of_memory = refl

-- ---- refusals

refusal_cannot_continue : refusal_name refusal.CannotContinue ≡ codes "CannotContinue"
refusal_cannot_continue = refl

refusal_not_a_choice : refusal_name refusal.NotAChoice ≡ codes "NotAChoice"
refusal_not_a_choice = refl

refusal_no_such_variable : refusal_name refusal.NoSuchVariable ≡ codes "NoSuchVariable"
refusal_no_such_variable = refl

refusal_no_such_path : refusal_name refusal.NoSuchPath ≡ codes "NoSuchPath"
refusal_no_such_path = refl

refusal_bad_value : refusal_name refusal.BadValue ≡ codes "BadValue"
refusal_bad_value = refl

refusal_bad_save : refusal_name refusal.BadSave ≡ codes "BadSave"
refusal_bad_save = refl

refusal_bad_command : refusal_name refusal.BadCommand ≡ codes "BadCommand"
refusal_bad_command = refl

refusal_out_of_memory : refusal_name refusal.OutOfMemory ≡ codes "OutOfMemory"
refusal_out_of_memory = refl

-- whatever broke the player
refusal_broken : refusal_name (refusal.Broken fault.Divide) ≡ codes "Broken"
refusal_broken = refl

-- ---- what is printed

root_printed : place_text [] ≡ codes "root"
root_printed = refl

place_printed : place_text (Name (codes "kitchen") ∷ Index 0 ∷ Index 12 ∷ []) ≡ codes "kitchen.0.12"
unfolding digits
place_printed = refl

list_printed : refused_story_text (record { cause = cause.Unsupported; place = Name (codes "kitchen") ∷ Index 0 ∷ Index 12 ∷ [] }) ≡ codes "Unsupported at kitchen.0.12"
unfolding digits
list_printed = refl

large_root_printed : refused_story_text (record { cause = cause.Limit; place = [] }) ≡ codes "Limit at root"
large_root_printed = refl

version_printed : refused_story_text (record { cause = cause.Version; place = [] }) ≡ codes "Version"
version_printed = refl

refusal_printed : halt_text (halt.Refused refusal.CannotContinue) ≡ codes "refused: CannotContinue"
refusal_printed = refl

fault_printed : halt_text (halt.Fault fault.Divide []) ≡ codes "fault: Divide"
fault_printed = refl
