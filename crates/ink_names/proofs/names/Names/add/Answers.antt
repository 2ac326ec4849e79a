use Rattle.std.proofs.Common.{◌≡◌, ◌∙◌, ◌+◌, arith, ◌∷◌, [], ◌++◌, None, Some, ap, length, string_bytes, subst, sym}
use Rattle.std.proofs.lemmas.List.{length-append, length-map, map-append}
use Rattle.ink_names.specs.Hints.{Finds, Right}
use Rattle.ink_names.specs.Names.{Differ, names_of, number_of}
use Rattle.ink_names.proofs.Numbers.{differ_pushed, number_behind}
use Rattle.ink_names.proofs.Noting.{finds_on, right_pushed, settled}
use Rattle.ink_names.proofs.names.Names.add.Goals as goal

pub invariant_of-self-2 : goal.invariant_of-self-2
invariant_of-self-2 c =
    let names = names_of c.self.inside.list.items in
    let name = c.args.name.now in
    let list : names_of c.push_reserved.new.self.items ≡ names ++ name ∷ [] =
    ap names_of (c.push_reserved.ensures.items ∙ ap (λ items. items ++ c.in_ok-listed.listed ∷ []) c.in_ok-reserve.ensures.items)
    ∙ map-append string_bytes c.self.inside.list.items (c.in_ok-listed.listed ∷ []) ∙ ap (λ listed. names ++ listed ∷ []) c.in_ok-listed.ensures.ok in
    let absent : number_of names name ≡ None = ap (λ ns. number_of ns name) c.self.view_is ∙ c.requires in
    let many : c.len-number.result ≡ length names = c.len-number.ensures ∙ c.reserve.new.self.ok.0 ∙ ap length c.in_ok-reserve.ensures.items ∙ sym (length-map c.self.inside.list.items string_bytes) in
    let one_more : length c.push_reserved.new.self.items ≡ length c.self.inside.list.items + 1 =
    omega (arith, ap length c.push_reserved.ensures.items, length-append c.reserve.new.self.items (c.in_ok-listed.listed ∷ []), ap length c.in_ok-reserve.ensures.items) in
    let slots = c.in_ok-make_slots.ensures in
    let inv = c.self.invariant in
    let its = number_behind names name absent ∙ ap (λ n. Some n) (sym many) in
    let right = right_pushed c.make_slots.new.others names name (slots.right inv.0 inv.1) in (
      subst Differ (sym list) (differ_pushed names name absent inv.0),
      subst (Right c.note.new.others) (sym list) (c.note.ensures.right (names ++ name ∷ []) its right),
      subst (Finds c.note.new.self c.note.new.others) (sym list)
          (finds_on c.make_slots.new.self c.note.new.self c.make_slots.new.others c.note.new.others names name c.len-number.result many c.note.ensures.leads (c.in_ok-note.ensures.ok (names ++ name ∷ []) its right) (slots.finds inv.0 inv.1 inv.2)),
      omega (arith, one_more, c.note.ensures.slots, slots.enough inv.3),
    )

pub invariant_of-self-in_err-note : goal.invariant_of-self-in_err-note
invariant_of-self-in_err-note c =
    let same : names_of c.reserve.new.self.items ≡ names_of c.self.inside.list.items = ap names_of c.in_ok-reserve.ensures.items in
    let slots = c.in_ok-make_slots.ensures in
    let inv = c.self.invariant in (
      subst Differ (sym same) inv.0,
      subst (Right c.note.new.others) (sym same) (λ q i has. slots.right inv.0 inv.1 q i (c.in_err-note.ensures.err q i has)),
      subst (Finds c.note.new.self c.note.new.others) (sym same) (λ q i its. c.note.ensures.leads q i (slots.finds inv.0 inv.1 inv.2 q i its)),
      omega (arith, ap length c.in_ok-reserve.ensures.items, c.note.ensures.slots, slots.enough inv.3),
    )

pub invariant_of-self : goal.invariant_of-self
invariant_of-self c =
    let slots = c.in_err-make_slots.ensures in
    let inv = c.self.invariant in
    (inv.0, slots.right inv.0 inv.1, slots.finds inv.0 inv.1 inv.2, rw slots.err inv.3)

pub invariant_of-self-in_err-listed : goal.invariant_of-self-in_err-listed
invariant_of-self-in_err-listed c =
    let slots = c.in_ok-make_slots.ensures in
    let inv = c.self.invariant in
    (inv.0, slots.right inv.0 inv.1, slots.finds inv.0 inv.1 inv.2, omega (arith, slots.enough inv.3))

pub invariant_of-self-in_err-reserve : goal.invariant_of-self-in_err-reserve
invariant_of-self-in_err-reserve c =
    let slots = c.in_ok-make_slots.ensures in
    let inv = c.self.invariant in
    settled c.self.inside.list.items c.reserve.new.self.items c.make_slots.new.self c.make_slots.new.others c.in_err-reserve.ensures.items inv.0 (slots.right inv.0 inv.1) (slots.finds inv.0 inv.1 inv.2) (omega (arith, slots.enough inv.3))

pub returns-clause-ok : goal.returns-clause-ok
returns-clause-ok c =
    let name = c.args.name.now in
    ap names_of (c.push_reserved.ensures.items ∙ ap (λ items. items ++ c.in_ok-listed.listed ∷ []) c.in_ok-reserve.ensures.items)
    ∙ map-append string_bytes c.self.inside.list.items (c.in_ok-listed.listed ∷ []) ∙ ap (λ listed. names_of c.self.inside.list.items ++ listed ∷ []) c.in_ok-listed.ensures.ok
    ∙ ap (λ names. names ++ name ∷ []) c.self.view_is
