use Rattle.std.proofs.Common.{◌∙◌, codes, refl, sym}
use Rattle.ink_protocol.proofs.Answering.{made_as, newline_behind}
use Rattle.ink_protocol.proofs.answer.close_escaped.Goals as goal

pub returns : goal.returns
returns c =
    made_as c.append.result _ _ _ c.append.ensures
    (sym (newline_behind c.args.line.now.items c.args.front.now _ _ _ (codes "}\n") _ c.in_ok-string_behind.ensures (c.len.ensures ∙ c.string_behind.new.line.ok.0) c.truncate.ensures.items refl))
