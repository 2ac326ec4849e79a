use Rattle.std.proofs.Common.{◌≡◌, ◌-◌, [], ◌∷◌, length, Some, None, sym, ap, ap₂, ◌∙◌, subst, arith}
use Rattle.std.proofs.lemmas.Result.{on_ok_weaker}
use Rattle.json_tape.proofs.Common.{length-append, Token, token_of, skip_items, skip_members, Moves}
use Rattle.json.specs.Json.{after_end_array, read_key, value, skip_value}
use Rattle.json.specs.Tape.{Grown}
use Rattle.json.specs.declared.tape.Node.TheVariants.{Object, Array, Key}
use Rattle.json.proofs.Grammar.{left, left-parse_map, left_none, value_is, value-begin_array, value-begin_object, after_end_array-shorter, read_key-shorter, items_fail, members_no_key, members_fail}
use Rattle.json_tape.proofs.Moves.{grown_length, item_turn, member_turn, items_closed, members_closed}
use Rattle.json_tape.proofs.tape.+tape.Goals as goal

pub items-loop-reader-preserved : goal.items-loop-reader-preserved
items-loop-reader-preserved t c =
    let l = c.loop-reader in
    let n = l.invariant.0 in
    let going : (after_end_array l.reader ≡ None) × (c.take_end_array.new.self ≡ l.reader) = grind arith in
    let moves = subst (λ ts. Moves c.args.depth l.nodes ts c.value.new.nodes c.value.new.reader) going.1 c.in_ok-value.ensures.ok in
    (n - 1, (item_turn c.args.depth n c.push.new.self l.nodes c.value.new.nodes c.args.reader.now l.reader c.value.new.reader l.invariant.1 going.0 moves).0)

pub items-loop-reader-smaller : goal.items-loop-reader-smaller
items-loop-reader-smaller t c =
    let l = c.loop-reader in
    let n = l.invariant.0 in
    let going : (after_end_array l.reader ≡ None) × (c.take_end_array.new.self ≡ l.reader) = grind arith in
    let moves = subst (λ ts. Moves c.args.depth l.nodes ts c.value.new.nodes c.value.new.reader) going.1 c.in_ok-value.ensures.ok in
    (item_turn c.args.depth n c.push.new.self l.nodes c.value.new.nodes c.args.reader.now l.reader c.value.new.reader l.invariant.1 going.0 moves).1

pub items-value-requires : goal.items-value-requires
items-value-requires t c =
    let l = c.loop-reader in
    let going : (after_end_array l.reader ≡ None) × (c.take_end_array.new.self ≡ l.reader) = grind arith in (
      omega arith,
      omega (
        arith,
        grown_length c.push.new.self l.nodes c.args.reader.now l.reader l.invariant.1.2,
        ap length c.in_ok-push.ensures,
        length-append c.args.nodes.now (Array 0 ∷ []),
        ap length going.1,
        c.requires,
      ),
    )

pub items-returns-in_err-value-clause-invalid : goal.items-returns-in_err-value-clause-invalid
items-returns-in_err-value-clause-invalid t c invalid =
    let l = c.loop-reader in
    let n = l.invariant.0 in
    let going : (after_end_array l.reader ≡ None) × (c.take_end_array.new.self ≡ l.reader) = grind arith in
    let none : skip_value c.args.depth c.take_end_array.new.self ≡ None = c.value.ensures.invalid (grind arith) in
    l.invariant.1.1 ∙ ap left (items_fail (value c.args.depth) n l.reader going.0 (left_none _ (ap (skip_value c.args.depth) (sym going.1) ∙ none)))

pub items-close-requires-clause-few : goal.items-close-requires-clause-few
items-close-requires-clause-few t c =
    let l = c.loop-reader in
    let closing : after_end_array l.reader ≡ Some c.take_end_array.new.self = grind arith in
    omega (arith, grown_length c.push.new.self l.nodes c.args.reader.now l.reader l.invariant.1.2, ap length c.in_ok-push.ensures, length-append c.args.nodes.now (Array 0 ∷ []), after_end_array-shorter l.reader c.take_end_array.new.self closing, c.requires)

pub items-returns-clause-ok : goal.items-returns-clause-ok
items-returns-clause-ok t c =
    let l = c.loop-reader in
    let closing : after_end_array l.reader ≡ Some c.take_end_array.new.self = grind arith in
    items_closed c.args.depth l.invariant.0 c.len-at.result c.args.nodes.now c.push.new.self l.nodes c.close.new.self c.args.reader.now l.reader c.take_end_array.new.self c.in_ok-push.ensures c.len-at.ensures
    l.invariant.1 closing c.in_ok-close.ensures

pub members-returns-in_err-key-clause-invalid : goal.members-returns-in_err-key-clause-invalid
members-returns-in_err-key-clause-invalid t c invalid =
    let l = c.loop-key in
    l.invariant.1.1 ∙ ap left (members_no_key (value c.args.depth) l.invariant.0 l.reader c.in_err-key.ensures.value)

pub members-push_text-requires-clause-few : goal.members-push_text-requires-clause-few
members-push_text-requires-clause-few t c =
    let l = c.loop-key in
    omega (arith, grown_length c.push.new.self l.nodes c.args.reader.now l.reader l.invariant.1.2, ap length c.in_ok-push.ensures, length-append c.args.nodes.now (Object 0 ∷ []), c.requires)

pub members-value-requires : goal.members-value-requires
members-value-requires t c =
    let l = c.loop-key in
    let k = c.in-Some.key in
    let found : read_key l.reader ≡ Some (Some k.now, c.next_key.new.self) = grind arith in (
      omega arith,
      omega (
        arith,
        grown_length c.push.new.self l.nodes c.args.reader.now l.reader l.invariant.1.2,
        ap length c.in_ok-push.ensures,
        length-append c.args.nodes.now (Object 0 ∷ []),
        ap length c.in_ok-push_text.ensures,
        length-append l.nodes (Key k ∷ []),
        read_key-shorter l.reader (Some k.now) c.next_key.new.self found,
        c.requires,
      ),
    )

pub members-loop-key-preserved : goal.members-loop-key-preserved
members-loop-key-preserved t c =
    let l = c.loop-key in
    let n = l.invariant.0 in
    let k = c.in-Some.key in
    let found : read_key l.reader ≡ Some (Some k.now, c.next_key.new.self) = grind arith in (
      n - 1,
      (member_turn c.args.depth n c.push.new.self l.nodes c.push_text.new.self c.value.new.nodes c.args.reader.now l.reader c.next_key.new.self c.value.new.reader k l.invariant.1 found
          c.in_ok-push_text.ensures c.in_ok-value.ensures.ok).0,
    )

pub members-loop-key-smaller : goal.members-loop-key-smaller
members-loop-key-smaller t c =
    let l = c.loop-key in
    let n = l.invariant.0 in
    let k = c.in-Some.key in
    let found : read_key l.reader ≡ Some (Some k.now, c.next_key.new.self) = grind arith in
    (member_turn c.args.depth n c.push.new.self l.nodes c.push_text.new.self c.value.new.nodes c.args.reader.now l.reader c.next_key.new.self c.value.new.reader k l.invariant.1 found
    c.in_ok-push_text.ensures c.in_ok-value.ensures.ok).1

pub members-returns-in_err-value-clause-invalid : goal.members-returns-in_err-value-clause-invalid
members-returns-in_err-value-clause-invalid t c invalid =
    let l = c.loop-key in
    let k = c.in-Some.key.now in
    let found : read_key l.reader ≡ Some (Some k, c.next_key.new.self) = grind arith in
    let none : skip_value c.args.depth c.next_key.new.self ≡ None = c.value.ensures.invalid (grind arith) in
    l.invariant.1.1 ∙ ap left (members_fail (value c.args.depth) l.invariant.0 k l.reader c.next_key.new.self found (left_none _ none))

pub members-close-requires-clause-few : goal.members-close-requires-clause-few
members-close-requires-clause-few t c =
    let l = c.loop-key in
    let closing : read_key l.reader ≡ Some (None, c.next_key.new.self) = grind arith in
    omega (arith, grown_length c.push.new.self l.nodes c.args.reader.now l.reader l.invariant.1.2, ap length c.in_ok-push.ensures, length-append c.args.nodes.now (Object 0 ∷ []), read_key-shorter l.reader None c.next_key.new.self closing, c.requires)

pub members-returns-clause-ok : goal.members-returns-clause-ok
members-returns-clause-ok t c =
    let l = c.loop-key in
    let closing : read_key l.reader ≡ Some (None, c.next_key.new.self) = grind arith in
    members_closed c.args.depth l.invariant.0 c.len-at.result c.args.nodes.now c.push.new.self l.nodes c.close.new.self c.args.reader.now l.reader c.next_key.new.self c.in_ok-push.ensures c.len-at.ensures
    l.invariant.1 closing c.in_ok-close.ensures

pub value-returns-in_default-clause-invalid : goal.value-returns-in_default-clause-invalid
value-returns-in_default-clause-invalid t c invalid =
    let empty : c.args.reader.now ≡ [] = grind arith in
    ap (skip_value c.args.depth) empty ∙ ap left (value_is c.args.depth [])

pub value-returns-then-depth-eq0-clause-invalid : goal.value-returns-then-depth-eq0-clause-invalid
unfolding value
value-returns-then-depth-eq0-clause-invalid t c invalid =
    let none : c.args.depth ≡ 0 = omega arith in
    ap₂ skip_value none (c.in-Some.ensures.value ∙ ap (λ k. token_of k ∷ c.next.new.self) c.in-BeginArray.is)

pub value-returns-else-depth-eq0-clause-ok : goal.value-returns-else-depth-eq0-clause-ok
value-returns-else-depth-eq0-clause-ok t c =
    let inner = c.next.new.self in
    let r = c.items.new.reader in
    let opened : c.args.reader.now ≡ Token.begin_array ∷ inner = c.in-Some.ensures.value ∙ ap (λ k. token_of k ∷ inner) c.in-BeginArray.is in
    let same : skip_value c.args.depth c.args.reader.now ≡ skip_items (c.args.depth - 1) inner = ap (skip_value c.args.depth) opened ∙ ap left (value-begin_array c.args.depth inner (omega arith)) ∙ left-parse_map _ _ in
    on_ok_weaker c.items.result (λ h. (subst (λ ts. Grown c.args.nodes.now ts c.items.new.nodes r) (sym opened) h.0, same ∙ h.1)) c.items.ensures.ok

pub value-returns-else-depth-eq0-clause-invalid : goal.value-returns-else-depth-eq0-clause-invalid
value-returns-else-depth-eq0-clause-invalid t c invalid =
    let inner = c.next.new.self in
    let opened : c.args.reader.now ≡ Token.begin_array ∷ inner = c.in-Some.ensures.value ∙ ap (λ k. token_of k ∷ inner) c.in-BeginArray.is in
    ap (skip_value c.args.depth) opened ∙ ap left (value-begin_array c.args.depth inner (omega arith)) ∙ left-parse_map _ _ ∙ c.items.ensures.invalid invalid

pub value-returns-then-depth-eq0-2-clause-invalid : goal.value-returns-then-depth-eq0-2-clause-invalid
unfolding value
value-returns-then-depth-eq0-2-clause-invalid t c invalid =
    let none : c.args.depth ≡ 0 = omega arith in
    ap₂ skip_value none (c.in-Some.ensures.value ∙ ap (λ k. token_of k ∷ c.next.new.self) c.in-BeginObject.is)

pub value-returns-else-depth-eq0-2-clause-ok : goal.value-returns-else-depth-eq0-2-clause-ok
value-returns-else-depth-eq0-2-clause-ok t c =
    let inner = c.next.new.self in
    let r = c.members.new.reader in
    let opened : c.args.reader.now ≡ Token.begin_object ∷ inner = c.in-Some.ensures.value ∙ ap (λ k. token_of k ∷ inner) c.in-BeginObject.is in
    let same : skip_value c.args.depth c.args.reader.now ≡ skip_members (c.args.depth - 1) inner = ap (skip_value c.args.depth) opened ∙ ap left (value-begin_object c.args.depth inner (omega arith)) ∙ left-parse_map _ _ in
    on_ok_weaker c.members.result (λ h. (subst (λ ts. Grown c.args.nodes.now ts c.members.new.nodes r) (sym opened) h.0, same ∙ h.1)) c.members.ensures.ok

pub value-returns-else-depth-eq0-2-clause-invalid : goal.value-returns-else-depth-eq0-2-clause-invalid
value-returns-else-depth-eq0-2-clause-invalid t c invalid =
    let inner = c.next.new.self in
    let opened : c.args.reader.now ≡ Token.begin_object ∷ inner = c.in-Some.ensures.value ∙ ap (λ k. token_of k ∷ inner) c.in-BeginObject.is in
    ap (skip_value c.args.depth) opened ∙ ap left (value-begin_object c.args.depth inner (omega arith)) ∙ left-parse_map _ _ ∙ c.members.ensures.invalid invalid
