use Rattle.std.proofs.Common.{◌≡◌, length, take}
use Rattle.ink_names.specs.Hints.{Finds, KeepsNumbers, Right}
use Rattle.ink_names.specs.Names.{Differ, names_of}
use Rattle.ink_names.proofs.hints.Hints.of.Given as goal

-- the names before are noted
abbrev pub invariant-loop-number : goal.invariant-loop-number
invariant-loop-number l =
    let names = names_of l.fn.names.items in
    (length l.hints ≡ l.fn.count) × KeepsNumbers l.fn.others l.others
    × (Differ names → Right l.fn.others names → Right l.others names × Finds l.hints l.others (names_of (take l.number l.fn.names.items)))
