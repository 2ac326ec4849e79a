-- Why a story is not played, or not to its reader's end, as it is printed (docs/PROTOCOL.md, "The program").
use Rattle.std.specs.Prelude.{ℕ, List, ◌++◌, codes}
use Rattle.ink_model.specs.Protocol.Answer.{fault_name, refused_story_text}
use Rattle.ink_model.specs.declared.fault.Fault.{Fault}
use Rattle.ink_player.specs.declared.end.PlayFault.{PlayFault}
use Rattle.ink_player.specs.declared.end.PlayFault.TheVariants as play
use Rattle.ink_protocol.specs.Ends.{run_fault_name}

-- of a story that could not be opened
abbrev pub start_text : Fault → List ℕ
start_text f = codes "story fault: " ++ fault_name f

abbrev pub play_fault_text : PlayFault → List ℕ
play_fault_text (play.Story r) = codes "story refused: " ++ refused_story_text r
play_fault_text (play.Start f) = start_text f
play_fault_text (play.Run f) = codes "run fault: " ++ run_fault_name f
