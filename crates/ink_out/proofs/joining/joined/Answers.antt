use Rattle.std.proofs.Common.{◌≡◌, ◌∙◌, ap, sym, [], ◌∷◌, ◌++◌, string_bytes, take}
use Rattle.ink_out.proofs.Common.{clean, texts_of}
use Rattle.ink_out.proofs.Lines.{clean_ended}
use Rattle.ink_out.proofs.joining.joined.Goals as goal

pub returns-in_ok-push_str-in-Some : goal.returns-in_ok-push_str-in-Some
returns-in_ok-push_str-in-Some c =
    let line = string_bytes c.push_texts.new.line in
    let written : line ≡ texts_of c.args.texts.now = c.in_ok-push_texts.ensures ∙ ap (λ bs. bs ++ texts_of c.args.texts.now) c.in_ok-line.ensures in
    let stays : clean line ≡ take c.in-Some.len line = rw c.as_str.ensures.value at c.in-Some.ensures.clean in
    c.from_string.ensures ∙ c.in_ok-push_str-in-Some.ensures.bytes ∙ ap (λ bs. bs ++ 10 ∷ []) (c.truncate.ensures.bytes ∙ sym stays)
    ∙ sym (clean_ended line) ∙ ap (λ bs. clean (bs ++ 10 ∷ [])) written
