use Rattle.std.proofs.Common.{◌≡◌, ◌+◌, ◌++◌, ◌∷◌, [], get_or, length, slice_set, ap, ap₂, ◌∙◌, sym, subst, arith}
use Rattle.json_tape.proofs.Common.{length-append, Null}
use Rattle.json_tape.specs.Tape.{node_of, nodes_of, IsOpening, leading_to}
use Rattle.json_tape.proofs.Taped.{many_nodes, as_many, opening_within, still_opening, led_nodes, led_is}
use Rattle.json_tape.proofs.tape.Entries.close.Goals as goal

-- all but the one that is pushed
pub overflow_cast-len : goal.overflow_cast-len
overflow_cast-len c =
    let a = c.self.inside in
    omega (arith, many_nodes a.texts.items _ a.tags.items a.numbers.items c.self.invariant.fit, as_many _ a.tags.items a.numbers.items c.self.invariant.fit, ap length c.self.view_is, ap length c.in_ok-push.ensures, length-append c.args.self.now (node_of [] c.args.end 0 ∷ []), c.len.ensures, a.numbers.ok.0, c.requires.few)

pub index_mut-requires : goal.index_mut-requires
index_mut-requires c =
    let a = c.self.inside in
    omega (arith, many_nodes a.texts.items _ a.tags.items a.numbers.items c.self.invariant.fit, as_many _ a.tags.items a.numbers.items c.self.invariant.fit, ap length c.self.view_is, ap length c.in_ok-push.ensures, length-append c.args.self.now (node_of [] c.args.end 0 ∷ []), opening_within c.args.self.now c.args.at c.requires.opening, a.numbers.ok.0)

pub invariant_of-self : goal.invariant_of-self
invariant_of-self c =
    let a = c.self.inside in
    let all : nodes_of a.texts.items a.tags.items a.numbers.items ≡ c.args.self.now ++ node_of [] c.args.end 0 ∷ [] = c.self.view_is ∙ c.in_ok-push.ensures in
    let stays = still_opening c.args.self.now (node_of [] c.args.end 0) c.args.at c.requires.opening in
    led_nodes a.texts.items a.tags.items a.numbers.items c.args.at _ c.self.invariant (subst IsOpening (sym (ap (λ ns. get_or ns c.args.at Null) all ∙ stays)) c.requires.opening)

pub returns : goal.returns
returns c =
    let a = c.self.inside in
    let all : nodes_of a.texts.items a.tags.items a.numbers.items ≡ c.args.self.now ++ node_of [] c.args.end 0 ∷ [] = c.self.view_is ∙ c.in_ok-push.ensures in
    let stays = still_opening c.args.self.now (node_of [] c.args.end 0) c.args.at c.requires.opening in
    let there = ap (λ ns. get_or ns c.args.at Null) all ∙ stays in
    let long : c.len.result ≡ length c.args.self.now + 1 =
    omega (arith, many_nodes a.texts.items _ a.tags.items a.numbers.items c.self.invariant.fit, as_many _ a.tags.items a.numbers.items c.self.invariant.fit, ap length all, length-append c.args.self.now (node_of [] c.args.end 0 ∷ []), c.len.ensures, a.numbers.ok.0) in
    led_is a.texts.items a.tags.items a.numbers.items c.args.at c.len.result c.self.invariant (subst IsOpening (sym there) c.requires.opening)
    ∙ ap₂ (λ ns x. slice_set ns c.args.at x) all (ap₂ leading_to long there)
