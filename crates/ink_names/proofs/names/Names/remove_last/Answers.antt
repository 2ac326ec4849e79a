use Rattle.std.proofs.Common.{◌≡◌, ◌≤◌, ◌*◌, ◌∙◌, ℕ, List, ◌∷◌, [], ◌++◌, None, ap, arith, bytes_eq, cond, length, refl, string_bytes, subst, sym}
use Rattle.std.specs.BTreeMap.{get_by_text}
use Rattle.std.proofs.lemmas.List.{length-append, map-append}
use Rattle.std.proofs.lemmas.Map.Text.{btree_map_updates_text}
use Rattle.ink_names.specs.Hints.{Finds, Right}
use Rattle.ink_names.specs.Names.{Differ, names_of, without_last}
use Rattle.ink_names.proofs.Numbers.{differ_popped, last_away}
use Rattle.ink_names.proofs.Noting.{finds_popped, right_popped}
use Rattle.ink_names.proofs.names.Names.remove_last.Goals as goal

pub invariant_of-self : goal.invariant_of-self
invariant_of-self c =
    let names = names_of c.pop.new.self.items in
    let name = string_bytes c.in-Some.name in
    let m = c.self.inside.others in
    let n = c.remove-number.new.self in
    let inv = c.self.invariant in
    let parts : names_of c.self.inside.list.items ≡ names ++ name ∷ [] = ap names_of c.in-Some.ensures.items ∙ map-append string_bytes c.pop.new.self.items (c.in-Some.name ∷ []) in
    let differ = differ_popped names name (subst Differ parts inv.0) in
    let gone : (q : List ℕ) → get_by_text n q ≡ cond (bytes_eq name q) None (get_by_text m q) = λ q.
    btree_map_updates_text c.as_str.result.now m n _ c.remove-number.ensures.updates q ∙ ap (λ key. cond (bytes_eq key q) None (get_by_text m q)) c.as_str.ensures.value in
    let fewer : 2 * length c.pop.new.self.items ≤ length c.self.inside.hints = omega (arith, inv.3, ap length c.in-Some.ensures.items, length-append c.pop.new.self.items (c.in-Some.name ∷ [])) in (
      differ.0,
      right_popped m n name None gone names refl (subst (Right m) parts inv.1),
      finds_popped m n name None gone c.self.inside.hints names differ.1 (subst (Finds c.self.inside.hints m) parts inv.2),
      fewer,
    )

pub returns-in-Some : goal.returns-in-Some
returns-in-Some c =
    let names = names_of c.pop.new.self.items in
    let name = string_bytes c.in-Some.name in
    sym (ap without_last (sym c.self.view_is ∙ ap names_of c.in-Some.ensures.items ∙ map-append string_bytes c.pop.new.self.items (c.in-Some.name ∷ [])) ∙ last_away names name)
