use Rattle.std.proofs.Common.{◌≡◌, ◌∙◌, List, [], ◌∷◌, ◌++◌, ℕ, false, append_assoc, ap, arith, bytes_eq, is_ok, length, refl, string_bytes, subst, sym}
use Rattle.std.proofs.lemmas.Iterator.Adapters.{YieldsList-from_vec}
use Rattle.std.proofs.lemmas.Iterator.Consumers.{YieldsList-end, YieldsList-turn}
use Rattle.std.proofs.lemmas.List.{append-nil, length_push}
use Rattle.ink_model.specs.Host.Events.{after}
use Rattle.ink_model.specs.declared.host.Event.TheVariants.{Saw}
use Rattle.ink_host.proofs.Laws.{has_room, succeeded}
use Rattle.ink_host.proofs.TellingLoops.{heard-refused, heard-taken, later-more, map-same, stamp-taken, stand-heard, stand-told, tells-next, tells-none, tells-not}
use Rattle.ink_host.specs.Desk.{Rows}
use Rattle.ink_model.specs.declared.host.Change.{Change}
use Rattle.ink_host.specs.Telling.{Stand, Watching, change, heard, refused, standing, change_taken}
use Rattle.ink_model.specs.Host.Told.{ToldAs}
use Rattle.ink_host.proofs.telling.change_all.Goals as goal

pub loop-change-init : goal.loop-change-init
loop-change-init g c = (
  omega (arith, c.requires.room, c.args.changes.ok.0),
  λ h. succeeded _ _ h,
  [],
  tells-none c.args.next.now,
  sym (append-nil c.args.events.now.items),
  refl,
  refl,
)

pub changed_at-requires : goal.changed_at-requires
changed_at-requires g c =
    let cs = c.args.changes.items in
    let given = c.into_iter-change-iterator.ensures.into_iter_gives in
    let all = YieldsList-from_vec {s = c.into_iter-change-iterator.result} cs given.0 (given.1 ∙ c.args.changes.ok.0) in
    let turn = YieldsList-turn all c.loop-change.yielded c.loop-change.change-iterator c.loop-change.yielded_by c.next.result c.next.new.self c.in-Some.change c.in-Some.is c.next.ensures.steps in
    let first = standing string_bytes g.W.Watcher.state c.args.watchers.now.entries in
    let rows = standing string_bytes g.W.Watcher.state c.loop-change.watchers.entries in
    let inv = c.loop-change.invariant in
    let n = c.in-Some.change.name in
    let Of : List ℕ → Type 0 = λ m. Stand (bytes_eq m) false rows in
    let In : Rows Watching → Type 0 = λ rs. Stand (bytes_eq n) false rs in
    record {
      begun = subst Of (sym c.as_str.ensures)
          (subst In (sym inv.6) (stand-heard (bytes_eq n) false c.args.next.now c.loop-change.yielded inv.3.answers first (stand-told false cs (length c.loop-change.yielded) c.in-Some.change first turn.0 turn.1 c.requires.begun)));
    }

pub loop-change-preserved : goal.loop-change-preserved
loop-change-preserved g c =
    let inv = c.loop-change.invariant in
    let first = standing string_bytes g.W.Watcher.state c.args.watchers.now.entries in
    let rows = standing string_bytes g.W.Watcher.state c.loop-change.watchers.entries in
    let x = c.in-Some.change in (
      omega (arith, inv.0, length_push c.loop-change.yielded x),
      λ h. has_room _ refl h,
      inv.2,
      tells-not c.args.next.now c.loop-change.yielded (is_ok c.loop-change.outcome) inv.2 x inv.3,
      inv.4,
      inv.5,
      c.in-Err.ensures.untold
          ∙ ap (λ n. change n refused rows) c.as_str.ensures
          ∙ ap (change x.name refused) inv.6
          ∙ heard-refused c.args.next.now c.loop-change.yielded inv.3.answers x first inv.3.one_each,
    )

pub note-requires : goal.note-requires
note-requires g c =
    let cs = c.args.changes.items in
    let given = c.into_iter-change-iterator.ensures.into_iter_gives in
    let all = YieldsList-from_vec {s = c.into_iter-change-iterator.result} cs given.0 (given.1 ∙ c.args.changes.ok.0) in
    let turn = YieldsList-turn all c.loop-change.yielded c.loop-change.change-iterator c.loop-change.yielded_by c.next.result c.next.new.self c.in-Some.change c.in-Some.is c.next.ensures.steps in
    record { room = omega (arith, turn.0, c.loop-change.invariant.0) }

pub loop-change-preserved-in-Ok : goal.loop-change-preserved-in-Ok
loop-change-preserved-in-Ok g c =
    let inv = c.loop-change.invariant in
    let first = standing string_bytes g.W.Watcher.state c.args.watchers.now.entries in
    let rows = standing string_bytes g.W.Watcher.state c.loop-change.watchers.entries in
    let x = c.in-Some.change in
    let next = c.loop-change.next in
    let e = Saw x.name next x.value in
    let told = tells-next c.args.next.now next c.loop-change.yielded (is_ok c.loop-change.outcome) inv.2 x inv.5 inv.3 in (
      omega (arith, inv.0, c.note.ensures.len, c.note.ensures.room, length_push c.loop-change.yielded x),
      inv.1,
      inv.2 ++ e ∷ [],
      told,
      c.note.ensures.items ∙ ap (λ xs. xs ++ e ∷ []) inv.4 ∙ append_assoc c.args.events.now.items inv.2 (e ∷ []),
      c.note.ensures.next ∙ ap after inv.5 ∙ sym (later-more c.args.next.now inv.2 e),
      c.in-Ok.ensures.told
          ∙ ap (λ n. change n (change_taken (record { stamp = next; name = n; value = x.value })) rows) c.as_str.ensures
          ∙ ap (change x.name (change_taken (record { stamp = next; name = x.name; value = x.value }))) inv.6
          ∙ ap (λ k. change x.name (change_taken (record { stamp = k; name = x.name; value = x.value })) (heard c.args.next.now c.loop-change.yielded inv.3.answers first)) (inv.5 ∙ stamp-taken c.args.next.now c.loop-change.yielded (is_ok c.loop-change.outcome) inv.2 inv.3)
          ∙ heard-taken c.args.next.now c.loop-change.yielded inv.3.answers x first inv.3.one_each,
    )

pub returns-clause-told : goal.returns-clause-told
returns-clause-told g c =
    let cs = c.args.changes.items in
    let given = c.into_iter-change-iterator.ensures.into_iter_gives in
    let all = YieldsList-from_vec {s = c.into_iter-change-iterator.result} cs given.0 (given.1 ∙ c.args.changes.ok.0) in
    let end = YieldsList-end all c.loop-change.yielded c.loop-change.change-iterator c.loop-change.yielded_by c.next.result c.next.new.self c.in-None.is c.next.ensures.steps in
    let inv = c.loop-change.invariant in
    let whole : c.loop-change.yielded ≡ cs = sym (map-same c.loop-change.yielded) ∙ end.0 in
    let first = standing string_bytes g.W.Watcher.state c.args.watchers.now.entries in
    let last = standing string_bytes g.W.Watcher.state c.loop-change.watchers.entries in
    let P : List Change → Type 0 = λ ys. (t : ToldAs c.args.next.now ys (is_ok c.loop-change.outcome) inv.2) × (last ≡ heard c.args.next.now ys t.answers first) in
    let both = subst P whole (inv.3, inv.6) in
    (inv.2, both.0, inv.4, inv.5, both.1)
