use Rattle.std.proofs.Common.{◌≡◌, ◌∙◌, ◌-◌, ◌<◌, Some, ap, length, string_bytes, subst, sym}
use Rattle.std.proofs.lemmas.Bool.{true≢false}
use Rattle.std.proofs.lemmas.List.{length-map}
use Rattle.std.proofs.lemmas.Option.{slice_get_within}
use Rattle.std.proofs.lemmas.Slice.Eq.{bytes_eq-Decides}
use Rattle.ink_names.specs.Names.{names_of, number_of}
use Rattle.ink_names.proofs.Numbers.{nth_number, past_end, same_name, stands}
use Rattle.ink_names.proofs.Noting.{among_others}
use Rattle.ink_names.proofs.names.Names.number.Goals.{in_default-via-in-Some+else-same_name, in_default-via-in_default}
use Rattle.ink_names.proofs.names.Names.number.Goals as goal

pub returns-in-Some : goal.returns-in-Some
returns-in-Some c =
    let facts = c.in-Some.ensures.lookup in
    let same : c.as_str.result.now ≡ c.args.name.now = (bytes_eq-Decides c.as_str.result.now c.args.name.now).0 (sym c.same_name.ensures ∙ c.if-same_name.true) in
    sym (ap (λ names. number_of names c.args.name.now) (sym c.self.view_is)
    ∙ nth_number c.self.inside.list.items _ (c.behind-behind.result - 1) c.in-Some.there.now c.args.name.now c.deref.ensures.value facts.3.0 facts.1 (sym same ∙ c.as_str.ensures.value) c.self.invariant.0)

pub returns-in_default : goal.returns-in_default
returns-in_default c =
    let items = c.self.inside.list.items in
    let name = c.args.name.now in
    let at = c.behind-behind.result - 1 in
    let elsewhere : number_of (names_of items) name ≡ Some at → ⊥ = λ its. elim c.in_default.branch [
      | in_default-via-in-Some+else-same_name w ↦
          let facts = w.in-Some.ensures.lookup in
          let same = same_name items _ at w.in-Some.there.now name c.deref.ensures.value facts.3.0 facts.1 its in
          let equal = (bytes_eq-Decides w.as_str.result.now name).1 (w.as_str.ensures.value ∙ same) in
          true≢false (sym equal ∙ sym w.same_name.ensures ∙ w.if-same_name.false)
      | in_default-via-in_default w ↦
          let within = slice_get_within (names_of items) at name (stands (names_of items) name at its) in
          past_end at (length c.deref.result.now) (subst (λ n. at < n) (length-map items string_bytes ∙ sym (ap length c.deref.ensures.value)) within) w.in_default.ensures.lookup.0
    ] in
    c.other.ensures ∙ among_others c.self.inside.hints c.self.inside.others (names_of items) name c.self.invariant.1 c.self.invariant.2 (λ its. elsewhere (its ∙ ap (λ n. Some (n - 1)) (sym c.behind-behind.ensures)))
    ∙ ap (λ names. number_of names name) c.self.view_is
