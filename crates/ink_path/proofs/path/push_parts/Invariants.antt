use Rattle.std.proofs.Common.{◌≡◌, ◌++◌, map, take, string_bytes}
use Rattle.ink_model.specs.Story.Path.{part_text}
use Rattle.ink_model.specs.Text.Bytes.{joined}
use Rattle.ink_path.proofs.path.push_parts.Given as goal

abbrev pub invariant-loop-index : goal.invariant-loop-index
invariant-loop-index l = string_bytes l.text ≡ string_bytes l.fn.text ++ joined 46 (map part_text (take l.index l.parts))
