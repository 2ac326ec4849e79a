-- Going back to a mark.
use Rattle.std.proofs.Common.{◌≡◌, ◌∙◌, ◌≤◌, ℕ, Bool, Option, Some, None, ap, arith, map, min, refl, subst, unwrap_or}
use Rattle.ink_step.proofs.Common.{choices_stood, Configuration, map_choice, map_threads, StoryTree, threads_stood, counts_in, Machine, place_of, stack_stood, counts_stood, globals_stood}
use Rattle.ink_out.specs.Undo.{output_stood}
use Rattle.ink_step.specs.Marks.{Own, capped, config_back, noted_by, own_back, own_of, own_stood, pairs_in, room_in, writes_in}
use Rattle.ink_step.specs.declared.own.OwnPair.{OwnPair}
use Rattle.ink_trail.proofs.Undoing.{stood-kept, trails-after}
use Rattle.ink_trail.specs.Undo as trails
use Rattle.ink_trail.specs.Undo.{KeepsTrail, TrailView, Trails, stood_at, with_pair, writes_of}

-- ---- going back

-- the configuration at the mark, with these fields
abbrev pub config_with : StoryTree → Own → Machine → Configuration
config_with s own m = record {
  flow = record {
    threads = map_threads (place_of s) (unwrap_or (threads_stood m.flow.threads) m.flow.threads.threads);
    stack = unwrap_or (stack_stood m.flow.stack) m.flow.stack.items;
    choices = map (map_choice (place_of s)) (unwrap_or (choices_stood m.flow.choices) m.flow.choices.items);
    safe = own.safe;
  };
  shared = record {
    globals = unwrap_or (globals_stood m.shared.globals) m.shared.globals.rows;
    counts = counts_in s (unwrap_or (counts_stood m.shared.counts) m.shared.counts.rows);
    turn = own.turn;
  };
  page = unwrap_or (output_stood m.output) m.output.page;
}

-- the machine's own fields alone have changed
pub record OwnAlone (old new : Machine) : Type 0 where
  pub same : new ≡ record old {
    trail = new.trail;
    flow = record old.flow { safe = new.flow.safe };
    shared = record old.shared { turn = new.shared.turn };
  }

-- first the machine's own fields go back
pub own_goes_back : (s : StoryTree) (old mid : Machine) → OwnAlone old mid → own_of mid ≡ unwrap_or (own_stood old.trail old.shared.turn old.flow.safe) (own_of old)
    → config_with s (own_of mid) mid ≡ config_back s old
own_goes_back s old mid alone own = ap (config_with s (own_of mid)) alone.same ∙ ap (λ (o : Own). config_with s o old) own

-- a call that leaves a trail of the machine's own fields, once room for it was made
pub own_after : (n : ℕ) (old ready new : Machine) → own_of ready ≡ own_of old → KeepsTrail old.trail ready.trail
    → Trails own_back n (own_of ready) ready.trail (own_of new) new.trail → Trails own_back n (own_of old) old.trail (own_of new) new.trail
own_after n old ready new same kept p =
    trails-after own_back n (own_of old) (own_of new) old.trail ready.trail new.trail kept (subst (λ o. Trails own_back n o ready.trail (own_of new) new.trail) same p)

-- ---- sums

pub capped_le : (a b c d : ℕ) → a ≤ c → b ≤ d → capped a b ≤ capped c d
capped_le a b c d p q = omega arith

module _ (old mid : Machine) (alone : OwnAlone old mid) where
  -- the pairs of all parts, where the own ones are counted already
  pub pairs_from : (own : ℕ) → own ≡ noted_by old.trail
      → capped (capped (capped (capped (capped (capped own (noted_by mid.flow.threads.trail)) (noted_by mid.flow.stack.trail)) (noted_by mid.flow.choices.trail))
      (noted_by mid.shared.globals.trail)) (noted_by mid.shared.counts.trail)) (noted_by mid.output.trail) ≡ pairs_in old
  pairs_from own is =
      ap (λ (m : Machine). capped (capped (capped (capped (capped (capped own (noted_by m.flow.threads.trail)) (noted_by m.flow.stack.trail)) (noted_by m.flow.choices.trail))
      (noted_by m.shared.globals.trail)) (noted_by m.shared.counts.trail)) (noted_by m.output.trail)) alone.same
      ∙ ap (λ n. capped (capped (capped (capped (capped (capped n (noted_by old.flow.threads.trail)) (noted_by old.flow.stack.trail)) (noted_by old.flow.choices.trail))
      (noted_by old.shared.globals.trail)) (noted_by old.shared.counts.trail)) (noted_by old.output.trail)) is

  -- no more pairs than writes
  pub few_pairs : (own threads stack choices globals counts page : ℕ) → own ≤ writes_of old.trail.undo → threads ≤ writes_of mid.flow.threads.trail.undo
      → stack ≤ writes_of mid.flow.stack.trail.undo → choices ≤ writes_of mid.flow.choices.trail.undo → globals ≤ writes_of mid.shared.globals.trail.undo
      → counts ≤ writes_of mid.shared.counts.trail.undo → page ≤ writes_of mid.output.trail.undo
      → capped (capped (capped (capped (capped (capped own threads) stack) choices) globals) counts) page ≤ writes_in old
  few_pairs own threads stack choices globals counts page a b c d e f g =
      let t : threads ≤ writes_of old.flow.threads.trail.undo = subst (λ (m : Machine). threads ≤ writes_of m.flow.threads.trail.undo) alone.same b in
      let v : stack ≤ writes_of old.flow.stack.trail.undo = subst (λ (m : Machine). stack ≤ writes_of m.flow.stack.trail.undo) alone.same c in
      let w : choices ≤ writes_of old.flow.choices.trail.undo = subst (λ (m : Machine). choices ≤ writes_of m.flow.choices.trail.undo) alone.same d in
      let x : globals ≤ writes_of old.shared.globals.trail.undo = subst (λ (m : Machine). globals ≤ writes_of m.shared.globals.trail.undo) alone.same e in
      let y : counts ≤ writes_of old.shared.counts.trail.undo = subst (λ (m : Machine). counts ≤ writes_of m.shared.counts.trail.undo) alone.same f in
      let z : page ≤ writes_of old.output.trail.undo = subst (λ (m : Machine). page ≤ writes_of m.output.trail.undo) alone.same g in
      capped_le _ _ _ _ (capped_le _ _ _ _ (capped_le _ _ _ _ (capped_le _ _ _ _ (capped_le _ _ _ _ (capped_le _ _ _ _ a t) v) w) x) y) z

-- ---- room

pub least_le : (a b c d : ℕ) → a ≤ c → b ≤ d → min a b ≤ min c d
least_le a b c d p q = omega arith

-- the room in whichever part, with so much for the own fields
abbrev pub room_with : ℕ → Machine → ℕ
room_with own m = min (min (min (min (min (min own m.flow.threads.trail.room) m.flow.stack.trail.room) m.flow.choices.trail.room) m.shared.globals.trail.room)
    m.shared.counts.trail.room) m.output.trail.room

-- no part has less room, where the own fields have changed first
pub as_roomy : (old mid : Machine) → room_with old.trail.room mid ≡ room_in old → (own threads stack choices globals counts page : ℕ) → old.trail.room ≤ own
    → mid.flow.threads.trail.room ≤ threads → mid.flow.stack.trail.room ≤ stack → mid.flow.choices.trail.room ≤ choices → mid.shared.globals.trail.room ≤ globals
    → mid.shared.counts.trail.room ≤ counts → mid.output.trail.room ≤ page
    → room_in old ≤ min (min (min (min (min (min own threads) stack) choices) globals) counts) page
as_roomy old mid alike own threads stack choices globals counts page a b c d e f g =
    subst (λ n. n ≤ min (min (min (min (min (min own threads) stack) choices) globals) counts) page) alike
    (least_le _ _ _ _ (least_le _ _ _ _ (least_le _ _ _ _ (least_le _ _ _ _ (least_le _ _ _ _ (least_le _ _ _ _ a b) c) d) e) f) g)

-- ---- the own fields at the mark

-- a change of one is noted
pub own_noted : (old new : TrailView OwnPair) (pair : OwnPair) (before after : Own) → own_back pair after ≡ before → new.undo ≡ with_pair pair 1 old.undo
    → own_stood new after.turn after.safe ≡ own_stood old before.turn before.safe
unfolding own_stood stood_at
own_noted old new pair before after back noted = ap (λ u. trails.stood_of own_back u after) noted ∙ by old.undo
  where
    by : (u : Option (trails.Undo OwnPair)) → trails.stood_of own_back (with_pair pair 1 u) after ≡ trails.stood_of own_back u before
    by None = refl
    by (Some u) = ap (λ own. Some (trails.undone own_back u.trail own)) back

-- nothing is noted
pub own_kept : (old new : TrailView OwnPair) (turn : ℕ) (safe : Bool) → KeepsTrail old new → own_stood new turn safe ≡ own_stood old turn safe
unfolding own_stood
own_kept old new turn safe kept = stood-kept own_back _ _ old new refl kept
