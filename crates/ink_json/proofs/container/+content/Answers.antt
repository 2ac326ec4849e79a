use Rattle.std.proofs.Common.{◌≡◌, ◌+◌, ◌++◌, [], map, true, false, cond, None, Some, Ok, length, refl, ap, ap₂, sym, subst, ◌∙◌, arith}
use Rattle.ink_json.proofs.Common.{append-nil, array, item, items_size, members_size, size_positive, count_keys, Leaf}
use Rattle.std.proofs.lemmas.Result.{err_from_is_err_and}
use Rattle.json_tape.specs.Value.{json_data, items_left, members_of, Entry, members_data}
use Rattle.ink_model.specs.Story.Grammar.{with_name, name_of, name_in, flags_of, own_of, own_after, is_misnamed, content, content_of, tree_of, faults, faults_inside, faults_keyed, faults_by, keyed_in, keyed_last, keyed_by, first, under}
use Rattle.ink_model.specs.declared.place.Part.TheVariants.{Index}
use Rattle.ink_model.specs.Story.Tree.{StoryTree, leaf, container, count, key, no_keys}
use Rattle.ink_json.specs.Listing.{Lists, nodes_of, nodes_from, nodes_by_key, nodes_inside}
use Rattle.ink_json.specs.Reading.{Holds, IsFirst, is_whole}
use Rattle.ink_json.proofs.Containers.{own_only, first_ok, fails_first, keyed_takes, container_unsound, container_misnamed, container_takes, container_stops, container_read, keyed_is, keyed_members, last_within, element_goes, element_stops, own_key_faults, key_stops, key_goes, word_names, word_read}
use Rattle.ink_json.proofs.Growing.{container_listed, element_listed, grown, inside_listed, keys_within, last_grown, next_key, opened_listed, opened_room, opened_within, own_key}
use Rattle.ink_json.proofs.Listing.{by_key_more}
use Rattle.ink_json.proofs.container.+content.Goals.{read_elements-in-Some-word_in+in_ok-push, read_elements-in_default-word_in+in_ok-misnamed+in_ok-read_element}
use Rattle.ink_json.proofs.container.+content.Goals as goal

pub read_keyed-read_named-requires : goal.read_keyed-read_named-requires
read_keyed-read_named-requires t c =
    let step = ap (λ es. members_size (members_data es)) c.in-Some.ensures.steps in
    (omega arith, ((omega arith, omega arith), omega arith))

-- ---- a container

pub read_container-read_inside-requires : goal.read_container-read_inside-requires
read_container-read_inside-requires t c =
    let step = ap items_size c.in-Some.ensures.value in
    (omega (arith, step), (omega arith, opened_room c.args.nodes.now c.open.new.self _ (items_size (items_left c.args.items)) _ c.in_ok-open.ensures step c.requires.room))

pub read_container-close-requires : goal.read_container-close-requires
read_container-close-requires t c =
    opened_within c.args.nodes.now c.open.new.self c.read_inside.new.nodes _ _ c.len-number.result c.len-number.ensures.len c.in_ok-open.ensures c.in_ok-inside.ensures.nodes

pub read_container-returns-in_default-read_own : goal.read_container-returns-in_default-read_own
read_container-returns-in_default-read_own t c =
    let ds = item (json_data c.in-Some.first) (items_left c.next.new.self) in
    let is : json_data c.args.array.now ≡ array ds = c.requires.items ∙ ap array c.in-Some.ensures.value in
    let wrong = subst (λ d. is_whole (own_of d) ≡ false) is c.in_default-read_own.ensures in
    rw (is, c.refused-in_default-read_own.ensures) (container_unsound c.args.position.context.version c.args.position.context.nesting c.args.position.misnamed c.args.position.listed ds c.if-context-gt-MAX_NESTING.false wrong)

pub read_container-returns-then-misnamed : goal.read_container-returns-then-misnamed
read_container-returns-then-misnamed t c =
    let ds = item (json_data c.in-Some.first) (items_left c.next.new.self) in
    let is : json_data c.args.array.now ≡ array ds = c.requires.items ∙ ap array c.in-Some.ensures.value in
    rw (is, c.refused-then-misnamed.ensures) (container_misnamed c.args.position.context.version c.args.position.context.nesting c.args.position.misnamed c.args.position.listed ds c.if-context-gt-MAX_NESTING.false c.if-misnamed.true)

pub read_elements-loop-next-init : goal.read_elements-loop-next-init
read_elements-loop-next-init t c =
    record {
      listed = refl;
      wide = omega arith;
      names = ([], c.none-names.ensures, refl);
      last = refl;
      within = omega arith;
      room = omega arith;
    }

pub read_elements-returns-clause-nodes : goal.read_elements-returns-clause-nodes
read_elements-returns-clause-nodes t c =
    let l = c.loop-next in
    let none = c.in_default.ensures.value in
    sym (append-nil l.nodes) ∙ ap (λ ds. l.nodes ++ nodes_from (length l.nodes) c.args.number l.index (content_of c.args.context.version (item (json_data l.here) ds))) (sym none) ∙ l.invariant.listed

pub read_elements-returns-clause-names : goal.read_elements-returns-clause-names
read_elements-returns-clause-names t c =
    let l = c.loop-next in
    let names = l.invariant.names in
    (names.0, names.1, names.2 ∙ ap (λ ds. faults_inside c.args.context.version c.args.context.nesting l.index names.0 (item (json_data l.here) ds)) c.in_default.ensures.value)

pub read_elements-returns-clause-last : goal.read_elements-returns-clause-last
read_elements-returns-clause-last t c = c.loop-next.invariant.last ∙ ap (own_after (json_data c.loop-next.here)) c.in_default.ensures.value

pub read_inside-returns-clause-width : goal.read_inside-returns-clause-width
read_inside-returns-clause-width t c =
    c.in_ok-width.ensures.width

pub read_inside-returns-clause-good : goal.read_inside-returns-clause-good
read_inside-returns-clause-good t c =
    let names = c.in_ok-width.ensures.names in
    let read = c.in_ok-keys.ensures names.0 names.1 in
    names.2 ∙ (first_ok _ (keyed_last c.args.context.version (json_data c.in_ok-width.field-0.last)) read.0 read.1).0

pub read_container-returns-in_err-name : goal.read_container-returns-in_err-name
read_container-returns-in_err-name t c =
    let ds = item (json_data c.in-Some.first) (items_left c.next.new.self) in
    let is : json_data c.args.array.now ≡ array ds = c.requires.items ∙ ap array c.in-Some.ensures.value in
    let whole = subst (λ d. is_whole (own_of d) ≡ true) is c.in-Some-read_own.ensures.0 in
    let p = err_from_is_err_and c.from_residual.result c.from_residual.ensures.1 in
    rw (is, p.1, p.2) (container_takes c.args.position.context.version c.args.position.context.nesting c.args.position.misnamed c.args.position.listed ds c.if-context-gt-MAX_NESTING.false whole c.if-misnamed.false)

pub read_container-returns-in_err-open : goal.read_container-returns-in_err-open
read_container-returns-in_err-open t c =
    let ds = item (json_data c.in-Some.first) (items_left c.next.new.self) in
    let is : json_data c.args.array.now ≡ array ds = c.requires.items ∙ ap array c.in-Some.ensures.value in
    let whole = subst (λ d. is_whole (own_of d) ≡ true) is c.in-Some-read_own.ensures.0 in
    let p = err_from_is_err_and c.from_residual-in_err-open.result c.from_residual-in_err-open.ensures.1 in
    rw (is, p.1, p.2) (container_takes c.args.position.context.version c.args.position.context.nesting c.args.position.misnamed c.args.position.listed ds c.if-context-gt-MAX_NESTING.false whole c.if-misnamed.false)

pub read_container-returns-in_err-inside : goal.read_container-returns-in_err-inside
read_container-returns-in_err-inside t c =
    let ds = item (json_data c.in-Some.first) (items_left c.next.new.self) in
    let is : json_data c.args.array.now ≡ array ds = c.requires.items ∙ ap array c.in-Some.ensures.value in
    let whole = subst (λ d. is_whole (own_of d) ≡ true) is c.in-Some-read_own.ensures.0 in
    let p = err_from_is_err_and c.from_residual-in_err-inside.result c.from_residual-in_err-inside.ensures.1 in
    rw (is, p.1, p.2) (container_stops c.args.position.context.version c.args.position.context.nesting c.args.position.misnamed c.args.position.listed ds c.in_err-inside.field-0.0 c.if-context-gt-MAX_NESTING.false whole c.if-misnamed.false c.in_err-inside.ensures.err)

pub read_container-returns : goal.read_container-returns
read_container-returns t c =
    let first = json_data c.in-Some.first in
    let ds = item first (items_left c.next.new.self) in
    let is : json_data c.args.array.now ≡ array ds = c.requires.items ∙ ap array c.in-Some.ensures.value in
    let own = c.in-Some-read_own.ensures in
    let whole = subst (λ d. is_whole (own_of d) ≡ true) is own.0 in
    let flags = own.1 ∙ ap (λ d. flags_of (own_of d)) is in
    let name = c.in_ok-name.ensures ∙ own.2 ∙ ap (λ d. cond c.args.position.listed (name_in (own_of d)) None) is in
    let old = c.args.nodes.now in
    let here : c.len-number.result ≡ length old = c.len-number.ensures.len in
    let opened = opened_listed old c.args.position.holder c.args.position.last c.in_ok-name.name c.in-Some-read_own.own.flags c.len-number.result (content_of c.args.position.context.version ds) (keyed_in c.args.position.context.version ds) here
    c.open.new.self c.read_inside.new.nodes c.in_ok-open.ensures c.in_ok-inside.ensures.nodes in
    let closed = c.close.ensures old (nodes_inside (length old + 1) (length old) (content_of c.args.position.context.version ds) (keyed_in c.args.position.context.version ds)) c.args.position.holder c.args.position.last c.in_ok-name.name c.in-Some-read_own.own.flags opened here in
    let listed = container_listed old c.args.position.holder c.args.position.last c.in_ok-name.name c.in-Some-read_own.own.flags c.len-number.result (content_of c.args.position.context.version ds) (keyed_in c.args.position.context.version ds) here
    c.close.new.self c.in_ok-inside.inside.width c.in_ok-inside.inside.keys c.in_ok-inside.ensures.width c.in_ok-inside.ensures.keys closed in (
      container c.in_ok-name.name c.in-Some-read_own.own.flags (content_of c.args.position.context.version ds) (keyed_in c.args.position.context.version ds),
      ap (content c.args.position.context.version c.args.position.context.nesting c.args.position.misnamed c.args.position.listed) is
          ∙ container_read c.args.position.context.version c.args.position.context.nesting c.args.position.misnamed c.args.position.listed ds c.in_ok-name.name c.in-Some-read_own.own.flags
          c.if-context-gt-MAX_NESTING.false whole c.if-misnamed.false c.in_ok-inside.ensures.good name flags,
      listed,
    )

pub read_content-returns-in-Bool : goal.read_content-returns-in-Bool
read_content-returns-in-Bool t c =
    subst (λ d. Lists c.args.nodes.now c.list_leaf-in-Bool.new.nodes c.args.position.holder c.args.position.last c.list_leaf-in-Bool.result (content c.args.position.context.version c.args.position.context.nesting c.args.position.misnamed c.args.position.listed d))
    (sym c.in-Bool.ensures) (c.list_leaf-in-Bool.ensures (Ok (Leaf.Bool c.in-Bool.truth)) refl)

-- ---- what is in it

pub read_inside-read_last-requires : goal.read_inside-read_last-requires
read_inside-read_last-requires t c =
    let small = last_within (json_data c.args.first) (json_data c.in_ok-width.field-0.last) (items_left c.args.items) c.in_ok-width.ensures.last in
    let within = last_grown c.args.context.version c.args.nodes.now c.read_elements.new.nodes _ (json_data c.args.first) (items_left c.args.items) (json_data c.in_ok-width.field-0.last) c.in_ok-width.ensures.nodes c.in_ok-width.ensures.last in
    (omega arith, (c.requires.nests, omega arith))

pub read_inside-returns-in_err-keys-clause-err : goal.read_inside-returns-in_err-keys-clause-err
read_inside-returns-in_err-keys-clause-err t c =
    let names = c.in_ok-width.ensures.names in
    let d = json_data c.in_ok-width.field-0.last in
    let wrong = faults_keyed c.args.context.version c.args.context.nesting names.0 d in
    let p = err_from_is_err_and c.from_residual-in_err-keys.result c.from_residual-in_err-keys.ensures.1 in
    let e = c.in_err-keys.field-0.0 in
    rw (p.1, p.2) (subst (IsFirst e) (append-nil wrong ∙ sym names.2) (fails_first e wrong [] (keyed_last c.args.context.version d) (c.in_err-keys.ensures names.0 names.1)))

pub read_inside-returns-clause-keys : goal.read_inside-returns-clause-keys
read_inside-returns-clause-keys t c =
    let names = c.in_ok-width.ensures.names in
    let read = c.in_ok-keys.ensures names.0 names.1 in
    let same = (first_ok _ (keyed_last c.args.context.version (json_data c.in_ok-width.field-0.last)) read.0 read.1).1 in
    read.2 ∙ ap count_keys (sym (keyed_is c.args.context.version (json_data c.args.first) (json_data c.in_ok-width.field-0.last) (items_left c.args.items) c.in_ok-width.ensures.last ∙ same))

pub read_inside-returns-clause-nodes : goal.read_inside-returns-clause-nodes
read_inside-returns-clause-nodes t c =
    let ds = item (json_data c.args.first) (items_left c.args.items) in
    let names = c.in_ok-width.ensures.names in
    let read = c.in_ok-keys.ensures names.0 names.1 in
    let same = (first_ok _ (keyed_last c.args.context.version (json_data c.in_ok-width.field-0.last)) read.0 read.1).1 in
    inside_listed c.args.nodes.now c.read_elements.new.nodes c.read_last.new.nodes c.args.number (content_of c.args.context.version ds) (keyed_in c.args.context.version ds) read.0 c.in_ok-width.ensures.nodes read.3
    (keyed_is c.args.context.version (json_data c.args.first) (json_data c.in_ok-width.field-0.last) (items_left c.args.items) c.in_ok-width.ensures.last ∙ same)

-- ---- the elements

pub read_elements-returns-in_err-read_element-clause-err : goal.read_elements-returns-in_err-read_element-clause-err
read_elements-returns-in_err-read_element-clause-err t c =
    let l = c.loop-next in
    let names = l.invariant.names in
    let same = names.2 ∙ ap (λ ds. faults_inside c.args.context.version c.args.context.nesting l.index names.0 (item (json_data l.here) ds)) c.in-Some.ensures.value in
    let p = err_from_is_err_and c.from_residual-in_err-read_element.result c.from_residual-in_err-read_element.ensures.1 in
    let fails = rw (c.in_ok-misnamed.ensures.misnamed names.0 names.1 (json_data l.here) c.label_of.ensures, c.inside-inside.ensures.version, c.inside-inside.ensures.nesting) at c.in_err-read_element.ensures in
    rw (p.1, p.2) (element_stops c.args.context.version c.args.context.nesting l.index (json_data l.here) (json_data c.in-Some.next) (items_left c.next.new.self) names.0 _ same c.in_err-read_element.field-0.0 fails)

pub read_elements-loop-next-preserved : goal.read_elements-loop-next-preserved
read_elements-loop-next-preserved t c =
    let l = c.loop-next in
    let e = c.in-Some.ensures.value in
    let version = c.args.context.version in
    let nesting = c.args.context.nesting in
    let here = json_data l.here in
    let next = json_data c.in-Some.next in
    let left = items_left c.next.new.self in
    let names = l.invariant.names in
    let now = l.nodes in
    let read : (u : StoryTree) × (first (map (under (Index l.index)) (faults version (nesting + 1) (is_misnamed names.0 here) here)) (tree_of version true here) ≡ Ok u)
    × (c.match-word_in.nodes ≡ now ++ nodes_of (length now) c.args.number (Some (Index l.index)) u) × Holds c.match-word_in.names (with_name names.0 (name_of here)) =
    elim c.match-word_in.branch [
      | read_elements-in-Some-word_in+in_ok-push w ↦
          let word = w.in-Some-word_in.ensures in (
            leaf w.in-Some-word_in.leaf,
            word_read version (nesting + 1) l.index (is_misnamed names.0 here) here word.0 w.in-Some-word_in.leaf word.1 word.2,
            w.nodes-is ∙ rw w.index.ensures at w.in_ok-push.ensures,
            rw (w.names-is, word_names here word.0 names.0 word.1) names.1,
          )
      | read_elements-in_default-word_in+in_ok-misnamed+in_ok-read_element w ↦
          let its = rw (w.in_ok-misnamed.ensures.misnamed names.0 names.1 here w.label_of.ensures, c.inside-inside.ensures.version, c.inside-inside.ensures.nesting) at w.in_ok-read_element.ensures in
          (its.0, its.1, w.nodes-is ∙ its.2, rw (w.names-is, ← w.label_of.ensures.1) (w.in_ok-misnamed.ensures.given names.0 names.1))
    ] in
    let same = names.2 ∙ ap (λ ds. faults_inside version nesting l.index names.0 (item here ds)) e in
    let goes = element_goes version nesting l.index here next left names.0 _ same read.0 read.1 in
    record {
      listed = element_listed version now c.match-word_in.nodes _ c.args.number l.index here next left (items_left l.left) e read.0 goes.1 read.2 l.invariant.listed;
      wide = omega (arith, l.invariant.wide, ap (λ ds. count (content_of version (item here ds))) e);
      names = (with_name names.0 (name_of here), read.3, goes.0);
      last = l.invariant.last ∙ ap (own_after here) e;
      within = omega (arith, l.invariant.within, ap items_size e, size_positive here);
      room = omega (arith, l.invariant.room, ap items_size e, grown version now c.match-word_in.nodes (length now) c.args.number (Some (Index l.index)) true here read.0 read.2 goes.1);
    }

-- ---- the containers by key

pub read_last-returns-then-not-has_names : goal.read_last-returns-then-not-has_names
read_last-returns-then-not-has_names t c = λ taken held.
    let k = keyed_members c.args.context.version c.args.context.nesting taken (json_data c.args.last.now) in
    let none = own_only c.args.context.version c.args.context.nesting taken (members_of (json_data c.args.last.now)) (sym c.has_names.ensures ∙ c.if-not-has_names.true) in
    (no_keys, ap₂ (λ fs ks. first fs ks) (k.0 ∙ none.0) (k.1 ∙ none.1), refl, sym (append-nil c.args.nodes.now))

pub read_last-returns-in_err-keys : goal.read_last-returns-in_err-keys
read_last-returns-in_err-keys t c = λ taken held.
    let d = json_data c.args.last.now in
    let p = err_from_is_err_and c.from_residual.result c.from_residual.ensures.1 in
    rw (p.1, p.2) (keyed_takes c.args.context.version c.args.context.nesting taken d (keyed_last c.args.context.version d))

pub read_last-returns : goal.read_last-returns
read_last-returns t c = λ taken held.
    let k = keyed_members c.args.context.version c.args.context.nesting taken (json_data c.args.last.now) in
    rw (k.0, k.1, ← c.in_ok-keys.ensures) (c.read_keyed.ensures taken held)

pub read_keyed-returns-in_err-read_named : goal.read_keyed-returns-in_err-read_named
read_keyed-returns-in_err-read_named t c = λ taken held.
    let all = c.loop-key.invariant.faults taken held ∙ ap (λ es. faults_by c.args.context.version c.args.context.nesting taken (members_data es)) c.in-Some.ensures.steps in
    let p = err_from_is_err_and c.from_residual.result c.from_residual.ensures.1 in
    let fails = rw (c.inside-inside.ensures.version, c.inside-inside.ensures.nesting) at c.in_err-read_named.ensures in
    rw (p.1, p.2) (key_stops c.args.context.version c.args.context.nesting (c.in-Some.key.now, c.in-Some.value.now) c.next.new.self c.in-Some.key.now.now c.has-misnamed.result refl (sym c.if-not-is_own.ensures)
    c.in_err-read_named.field-0.0 (keyed_by c.args.context.version (members_data c.args.keys.now.entries)) taken _ (c.has-misnamed.ensures taken held) all fails)

pub read_keyed-overflow_add-count : goal.read_keyed-overflow_add-count
read_keyed-overflow_add-count t c =
    let l = c.loop-key in
    let e : Entry = (c.in-Some.key.now, c.in-Some.value.now) in
    let step = ap (λ es. count_keys (keyed_by c.args.context.version (members_data es))) c.in-Some.ensures.steps in
    let next = ap count_keys (next_key c.args.context.version e c.next.new.self (sym c.if-not-is_own.ensures)) in
    omega (arith, keys_within c.args.context.version (members_data c.args.keys.now.entries), l.invariant.many, step, next)

pub read_keyed-loop-key-preserved : goal.read_keyed-loop-key-preserved
read_keyed-loop-key-preserved t c =
    let l = c.loop-key in
    let e : Entry = (c.in-Some.key.now, c.in-Some.value.now) in
    let rest = c.next.new.self in
    let steps = c.in-Some.ensures.steps in
    let own = sym c.if-not-is_own.ensures in
    let spent = ap (λ es. members_size (members_data es)) steps in
    let same = ap (λ es. keyed_by c.args.context.version (members_data es)) steps ∙ own_key c.args.context.version e rest own in
    record {
      left = omega (arith, l.invariant.left, spent);
      listed = ap (λ ks. l.nodes ++ nodes_by_key (length l.nodes) c.args.number ks) (sym same) ∙ l.invariant.listed;
      many = l.invariant.many ∙ ap (λ ks. l.count + count_keys ks) same;
      faults = λ taken held. l.invariant.faults taken held ∙ ap (λ es. faults_by c.args.context.version c.args.context.nesting taken (members_data es)) steps ∙ own_key_faults c.args.context.version c.args.context.nesting taken e rest e.0.now refl own;
      room = omega (arith, l.invariant.room, spent);
    }

pub read_keyed-loop-key-preserved-then-not-is_own : goal.read_keyed-loop-key-preserved-then-not-is_own
read_keyed-loop-key-preserved-then-not-is_own t c =
    let l = c.loop-key in
    let e : Entry = (c.in-Some.key.now, c.in-Some.value.now) in
    let rest = c.next.new.self in
    let steps = c.in-Some.ensures.steps in
    let name = e.0.now in
    let own = sym c.if-not-is_own.ensures in
    let spent = ap (λ es. members_size (members_data es)) steps in
    let read = rw (c.inside-inside.ensures.version, c.inside-inside.ensures.nesting) at c.in_ok-read_named.ensures in
    let tree = (first_ok _ (tree_of c.args.context.version false (json_data e.1)) read.0 read.1).1 in
    let next = ap (λ es. keyed_by c.args.context.version (members_data es)) steps ∙ next_key c.args.context.version e rest own ∙ ap (λ u. key name u (keyed_by c.args.context.version (members_data rest))) tree in
    let now = l.nodes in
    let listed = l.invariant.listed in
    record {
      left = omega (arith, l.invariant.left, spent);
      listed = by_key_more now c.read_named.new.nodes _ c.args.number name read.0 (keyed_by c.args.context.version (members_data rest))
          (ap (λ ks. now ++ nodes_by_key (length now) c.args.number ks) (sym next) ∙ listed) read.2;
      many = omega (arith, l.invariant.many, ap count_keys next);
      faults = λ taken held. key_goes c.args.context.version c.args.context.nesting e rest name c.has-misnamed.result refl own read.0 read.1
          taken _ (c.has-misnamed.ensures taken held) (l.invariant.faults taken held ∙ ap (λ es. faults_by c.args.context.version c.args.context.nesting taken (members_data es)) steps);
      room = omega (arith, l.invariant.room, spent, grown c.args.context.version now c.read_named.new.nodes _ _ _ false (json_data e.1) read.0 read.2 tree);
    }

pub read_keyed-returns : goal.read_keyed-returns
read_keyed-returns t c = λ taken held.
    let l = c.loop-key in
    let all = keyed_by c.args.context.version (members_data c.args.keys.now.entries) in
    let none = c.in-None.ensures.steps.0 in
    let good = l.invariant.faults taken held ∙ ap (λ es. faults_by c.args.context.version c.args.context.nesting taken (members_data es)) none in (
      all,
      ap (λ fs. first fs all) good,
      omega (arith, l.invariant.many, ap (λ es. count_keys (keyed_by c.args.context.version (members_data es))) none),
      sym (append-nil l.nodes) ∙ ap (λ es. l.nodes ++ nodes_by_key (length l.nodes) c.args.number (keyed_by c.args.context.version (members_data es))) (sym none) ∙ l.invariant.listed,
    )
