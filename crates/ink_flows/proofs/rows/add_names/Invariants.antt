use Rattle.std.proofs.Common.{◌≡◌, ◌++◌, map, string_bytes}
use Rattle.ink_model.specs.Variables.Named.{names}
use Rattle.ink_flows.specs.Standing.{rows_of}
use Rattle.ink_flows.proofs.rows.add_names.Given as goal

abbrev pub invariant-loop-name : goal.invariant-loop-name
invariant-loop-name l = l.found.items ++ map string_bytes l.name-iterator ≡ l.initial.found.items ++ names (rows_of l.rows.entries)
