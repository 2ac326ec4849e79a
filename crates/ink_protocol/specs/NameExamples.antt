-- The names of what ends a session early, each proved by computation.
use Rattle.std.specs.Prelude.{◌≡◌, codes, refl}
use Rattle.ink_protocol.specs.Ends.{run_fault_name}
use Rattle.ink_protocol.specs.declared.fault.RunFault.TheVariants as fault

reading : run_fault_name fault.Read ≡ codes "Read"
reading = refl

writing : run_fault_name fault.Write ≡ codes "Write"
writing = refl

too_long : run_fault_name fault.TooLong ≡ codes "TooLong"
too_long = refl

out_of_memory : run_fault_name fault.OutOfMemory ≡ codes "OutOfMemory"
out_of_memory = refl
