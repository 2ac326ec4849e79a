use Rattle.std.proofs.Common.{◌≡◌, ◌∙◌, ◌++◌, ◌∷◌, [], ◌+◌, length, ap, ap₂, arith}
use Rattle.std.proofs.lemmas.List.{length-append, length-map}
use Rattle.ink_check.specs.Links.{link_in, spread}
use Rattle.ink_check.proofs.Slots.{slots_more, with_link}
use Rattle.ink_check.proofs.links.Links.add.Goals as goal

pub overflow_cast-len : goal.overflow_cast-len
overflow_cast-len c =
    let slot : c.len.result ≡ length c.self.inside.links.items + 1 = c.len.ensures ∙ c.in_ok-push-in_default.ensures.len ∙ ap (λ n. n + 1) c.self.inside.links.ok.0 in
    omega (arith, slot, c.self.invariant.1, c.requires, ap length c.self.view_is, length-map c.self.inside.slots.items (link_in c.self.inside.links.items))

pub invariant_of-self-in_err-push-in_default : goal.invariant_of-self-in_err-push-in_default
invariant_of-self-in_err-push-in_default c = rw (c.in_err-push-in_default.ensures.items, c.in_ok-reserve.ensures.items) c.self.invariant

pub invariant_of-self-in_default : goal.invariant_of-self-in_default
invariant_of-self-in_default c =
    let links = c.self.inside.links.items in
    let slot : c.len.result ≡ length links + 1 = c.len.ensures ∙ c.in_ok-push-in_default.ensures.len ∙ ap (λ n. n + 1) c.self.inside.links.ok.0 in
    let long : length c.push.new.self.items ≡ length links + 1 = ap length c.in_ok-push-in_default.ensures.items ∙ length-append links (c.args.link ∷ []) in
    slots_more links c.push.new.self.items c.self.inside.slots.items _ c.len.result (c.push_reserved-in_default.ensures.items ∙ ap (λ ss. ss ++ c.len.result ∷ []) c.in_ok-reserve.ensures.items)
    (omega (arith, long)) (omega (arith, long)) (omega (arith, long, slot)) c.self.invariant

pub invariant_of-self-in-Nothing : goal.invariant_of-self-in-Nothing
invariant_of-self-in-Nothing c =
    slots_more c.self.inside.links.items c.self.inside.links.items c.self.inside.slots.items _ 0 (c.push_reserved.ensures.items ∙ ap (λ ss. ss ++ 0 ∷ []) c.in_ok-reserve.ensures.items)
    (omega arith) (omega arith) (omega arith) c.self.invariant

pub returns-in_ok-push-in_default : goal.returns-in_ok-push-in_default
returns-in_ok-push-in_default c =
    let links = c.self.inside.links.items in
    let slots = c.self.inside.slots.items in
    let slot : c.len.result ≡ length links + 1 = c.len.ensures ∙ c.in_ok-push-in_default.ensures.len ∙ ap (λ n. n + 1) c.self.inside.links.ok.0 in
    record {
      ok = ap₂ spread c.in_ok-push-in_default.ensures.items (c.push_reserved-in_default.ensures.items ∙ ap (λ ss. ss ++ c.len.result ∷ []) c.in_ok-reserve.ensures.items)
          ∙ with_link links c.args.link slots c.len.result c.self.invariant slot
          ∙ ap (λ ls. ls ++ c.args.link ∷ []) c.self.view_is;
      err = tt;
    }
