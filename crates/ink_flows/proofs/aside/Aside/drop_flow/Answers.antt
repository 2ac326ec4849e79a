use Rattle.std.proofs.Common.{◌≡◌, ◌∙◌, ap, bytes_eq, refl, sym, Bool, true, false, not}
use Rattle.ink_model.specs.Run.Flows.{current_name, default_flow}
use Rattle.ink_flows.specs.Standing.{flows_of}
use Rattle.ink_flows.proofs.Going.{current_dropped, other_dropped}
use Rattle.ink_flows.proofs.Laws.{other_way}
use Rattle.ink_flows.proofs.aside.Aside.drop_flow.Goals as goal

differs : (b : Bool) → not b ≡ true → b ≡ false
differs true h = absurd (cc)
differs false h = refl

agrees : (b : Bool) → not b ≡ false → b ≡ true
agrees true h = refl
agrees false h = absurd (cc)

pub returns-then-ne : goal.returns-then-ne
returns-then-ne c = λ s x.
    let name = c.args.name.now in
    let f = c.args.current.now in
    let other = ap (λ n. bytes_eq n name) (sym c.current_name.ensures) ∙ differs (bytes_eq c.current_name.result.now name) (sym c.ne.ensures ∙ c.if-ne.true) in
    ap (flows_of s f) c.remove.ensures ∙ other_dropped s name f x c.args.self.now other

pub remove-requires-2-clause-aside : goal.remove-requires-2-clause-aside
remove-requires-2-clause-aside c =
    let name = c.args.name.now in
    ap (λ n. bytes_eq n name) (c.go_to.ensures.named default_flow c.go_to.ensures.first) ∙ other_way default_flow name c.requires

pub returns : goal.returns
returns c = λ s x.
    let name = c.args.name.now in
    let f = c.args.current.now in
    let current = ap (λ n. bytes_eq n name) (sym c.current_name.ensures) ∙ agrees (bytes_eq c.current_name.result.now name) (sym c.ne.ensures ∙ c.if-ne.false) in
    ap (flows_of s c.go_to.new.current) c.remove-2.ensures
    ∙ current_dropped s name f c.go_to.new.current x c.args.self.now c.go_to.new.self current (c.go_to.ensures.gone default_flow c.go_to.ensures.first s x)
