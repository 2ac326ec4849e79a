use Rattle.std.proofs.Common.{◌≡◌, ◌∷◌, true, false, sym, ap, ◌∙◌, subst, arith}
use Rattle.json_tape.proofs.Common.{token_of, Token, Moves}
use Rattle.json.specs.declared.token.Token.TheVariants as tokens
use Rattle.json.specs.declared.tape.Node.TheVariants.{String, Number, Bool, Null}
use Rattle.json.proofs.Grammar.{left, value_is}
use Rattle.json_tape.proofs.Moves.{moved}
use Rattle.json_tape.proofs.tape.leaf.Goals as goal

pub returns-in_ok-push_text-in-String-clause-ok : goal.returns-in_ok-push_text-in-String-clause-ok
returns-in_ok-push_text-in-String-clause-ok c depth rest =
    let new = c.push_text.new.self in
    subst (λ k. Moves depth c.args.nodes.now (token_of k ∷ rest) new rest) (sym c.in-String.is)
    (moved (String c.in-String.text) c.args.nodes.now new depth rest c.in_ok-push_text-in-String.ensures (ap left (value_is depth _)) (λ all i. tt))

pub returns-in_ok-push_number-in-Number-clause-ok : goal.returns-in_ok-push_number-in-Number-clause-ok
returns-in_ok-push_number-in-Number-clause-ok c depth rest =
    let new = c.push_number.new.self in
    let pushed = c.in_ok-push_number-in-Number.ensures in
    subst (λ k. Moves depth c.args.nodes.now (token_of k ∷ rest) new rest) (sym c.in-Number.is)
    (subst (λ text. Moves depth c.args.nodes.now (Token.number text ∷ rest) new rest) pushed.1
    (moved (Number pushed.0) c.args.nodes.now new depth rest pushed.2 (ap left (value_is depth _)) (λ all i. tt)))

pub returns-in_ok-push-in-Bool-true-clause-ok : goal.returns-in_ok-push-in-Bool-true-clause-ok
returns-in_ok-push-in-Bool-true-clause-ok c depth rest =
    let new = c.push.new.self in
    let is : c.in-Bool-true.field-0 ≡ true = sym c.in-Bool-true.field-0-is ∙ c.in-Bool-true.field-0-test in
    subst (λ k. Moves depth c.args.nodes.now (token_of k ∷ rest) new rest) (sym (c.in-Bool-true.is ∙ ap tokens.Bool is))
    (moved (Bool true) c.args.nodes.now new depth rest c.in_ok-push-in-Bool-true.ensures (ap left (value_is depth _)) (λ all i. tt))

pub returns-in_ok-push-in-Bool-false-clause-ok : goal.returns-in_ok-push-in-Bool-false-clause-ok
returns-in_ok-push-in-Bool-false-clause-ok c depth rest =
    let new = c.push-in-Bool-false.new.self in
    let is : c.in-Bool-false.field-0 ≡ false = sym c.in-Bool-false.field-0-is ∙ c.in-Bool-false.field-0-test in
    subst (λ k. Moves depth c.args.nodes.now (token_of k ∷ rest) new rest) (sym (c.in-Bool-false.is ∙ ap tokens.Bool is))
    (moved (Bool false) c.args.nodes.now new depth rest c.in_ok-push-in-Bool-false.ensures (ap left (value_is depth _)) (λ all i. tt))

pub returns-in_ok-push-in-Null-clause-ok : goal.returns-in_ok-push-in-Null-clause-ok
returns-in_ok-push-in-Null-clause-ok c depth rest =
    let new = c.push-in-Null.new.self in
    subst (λ k. Moves depth c.args.nodes.now (token_of k ∷ rest) new rest) (sym c.in-Null.is)
    (moved Null c.args.nodes.now new depth rest c.in_ok-push-in-Null.ensures (ap left (value_is depth _)) (λ all i. tt))

pub returns-in-BeginObject-clause-invalid : goal.returns-in-BeginObject-clause-invalid
returns-in-BeginObject-clause-invalid c refused depth rest plain = rw (value_is depth (token_of c.args.token ∷ rest)) (grind arith)
