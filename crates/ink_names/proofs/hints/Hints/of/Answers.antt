use Rattle.std.proofs.Common.{◌≡◌, ◌∙◌, ◌<◌, ◌≤◌, ◌+◌, ◌∷◌, [], ◌++◌, suc, ap, arith, get_or, length, string_bytes, subst, sym, take}
use Rattle.std.proofs.Math.Seq.{take-suc}
use Rattle.std.proofs.lemmas.List.{length-map, length-take, map-append, take_all}
use Rattle.ink_names.specs.Hints.{Finds}
use Rattle.ink_names.specs.Names.{names_of}
use Rattle.ink_names.proofs.Numbers.{nth_number}
use Rattle.ink_names.proofs.Noting.{finds_none, finds_on}
use Rattle.ink_names.proofs.hints.Hints.of.Goals as goal

pub loop-number-init : goal.loop-number-init
loop-number-init c = (omega (arith, c.in_ok-from_elem.ensures.len), λ name number has. has, λ differ right. (right, finds_none _ c.args.others.now))

pub returns-in_err-note-clause-right : goal.returns-in_err-note-clause-right
returns-in_err-note-clause-right c = λ differ right.
    let its = nth_number c.args.names.now.items _ c.loop-number.number c.name-item.result c.as_str.result.now c.deref-name-items.ensures.value c.loop-number-test.true c.name-item.is c.as_str.ensures.value differ in
    c.note.ensures.right _ its (c.loop-number.invariant.2 differ right).0

pub loop-number-preserved : goal.loop-number-preserved
loop-number-preserved c =
    let l = c.loop-number in
    let items = c.args.names.now.items in
    let n = l.number in
    let r = c.name-item.result in
    let within : n < length items = subst (λ xs. n < length xs) c.deref-name-items.ensures.value c.loop-number-test.true in
    let own : string_bytes (get_or items n r) ≡ c.as_str.result.now =
    sym (c.as_str.ensures.value ∙ ap string_bytes (c.name-item.is ∙ ap (λ xs. get_or xs n r) c.deref-name-items.ensures.value)) in
    let one : n + 1 ≡ suc n = omega arith in
    let more : names_of (take (n + 1) items) ≡ names_of (take n items) ++ c.as_str.result.now ∷ [] =
    ap (λ m. names_of (take m items)) one ∙ ap names_of (take-suc items n r within)
    ∙ map-append string_bytes (take n items) (get_or items n r ∷ []) ∙ ap (λ name. names_of (take n items) ++ name ∷ []) own in
    let many : n ≡ length (names_of (take n items)) = omega (arith, within, length-map (take n items) string_bytes, length-take n items) in (
      omega (arith, l.invariant.0, c.note.ensures.slots),
      λ name number has. c.note.ensures.kept name number (l.invariant.1 name number has),
      λ differ right.
          let before = l.invariant.2 differ right in
          let its = nth_number items _ n r c.as_str.result.now c.deref-name-items.ensures.value c.loop-number-test.true c.name-item.is c.as_str.ensures.value differ in (
            c.note.ensures.right _ its before.0,
            subst (Finds c.note.new.self c.note.new.others) (sym more)
                (finds_on l.hints c.note.new.self l.others c.note.new.others _ c.as_str.result.now n many c.note.ensures.leads (c.in_ok-note.ensures.ok _ its before.0) before.1),
          ),
    )

pub returns-clause-finds : goal.returns-clause-finds
returns-clause-finds c = λ differ right.
    let l = c.loop-number in
    let items = c.args.names.now.items in
    let all : take l.number items ≡ items = take_all l.number items (subst (λ xs. length xs ≤ l.number) c.deref-name-items.ensures.value (omega (arith, c.loop-number-test.false))) in
    subst (Finds l.hints l.others) (ap names_of all) (l.invariant.2 differ right).1
