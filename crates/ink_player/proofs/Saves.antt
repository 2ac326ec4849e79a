-- Saving and loading.
use Rattle.std.proofs.Common.{◌≡◌, ◌∙◌, ◌⊎◌, ap, refl, subst, sym, inl, inr, ℕ, List, [], Bool, true, false, Option, None, Some, Result, Ok, Err, IfOk}
use Rattle.serde_json.specs.Data.{Data}
use Rattle.serde_json.specs.View.{view}
use Rattle.serde_json.specs.Written.{compact_text, has_float}
use Rattle.serde_json.specs.declared.value.Value.{Value}
use Rattle.ink_model.specs.Protocol.Answer.{Reply, Acts, Refuses, Saves, reply_of_events}
use Rattle.ink_player.proofs.Common.{json_of, Configuration, Bindings, Values, told, StoryTree, Fault, Refusal, Change, Event, ConditionFits, StoryFits, at_stamp, TextReadsAsState, condition_by}
use Rattle.ink_model.specs.Host.Events.{later}
use Rattle.ink_model.specs.Run.Flows.{Aside, Game}
use Rattle.ink_model.specs.Save.Reads.{Reads, Spells}
use Rattle.ink_model.specs.Save.Sound.{AsideFits}
use Rattle.ink_model.specs.Save.Spelling.{spelling}
use Rattle.ink_model.specs.Protocol.Session.{BeginsAnew, Load, Save, condition_told, reply_told}
use Rattle.ink_model.specs.Protocol.State.{State, Ready, globals_of}
use Rattle.ink_model.specs.declared.fault.Refusal.TheVariants as refusal
use Rattle.ink_model.specs.declared.fault.Halt.{Halt}
use Rattle.ink_save.specs.declared.loading.SaveRefusal.TheVariants as save
use Rattle.ink_sound.proofs.Orderly.{spelled_back}
use Rattle.ink_sound.proofs.Respelling.{reads_one}
use Rattle.ink_player.specs.Saving.{FindsSave, IsOldSave, IsSave, IsSaveText, LoadsAs, ReadsAsState, StandsIn}
use Rattle.ink_protocol.specs.Plain.{IsPlain}
use Rattle.ink_protocol.specs.Replies.{IsTextOf, reply_of_json, reply_of_text}
use Rattle.ink_sound.proofs.Flat.{spelling_flat}

module _ (c : Configuration) (a : Aside) where
  abbrev game : Game
  game = record { now = c; aside = a }

  abbrev stood_by : Option Fault → ℕ → State
  stood_by b n = at_stamp (condition_by b c) a n

  -- a save has no float
  pub plain-save : (r : Result Value Refusal) → IsSave game r → IfOk r IsPlain
  plain-save (Ok json) h = ap has_float h ∙ (spelling_flat game).1
  plain-save (Err r) h = tt

  saves-ready : (n : ℕ) (r : Result Value Refusal) → IsSave game r → Save (at_stamp (Ready c) a n) (reply_of_json r) (at_stamp (Ready c) a n)
  saves-ready n (Ok json) h = inl (ap (λ d. Saves d) h, refl)
  saves-ready n (Err r) h = inr (ap (λ x. Refuses x) h, refl)

  -- by a player that is not broken
  pub saves-free : (b : Option Fault) (n : ℕ) (r : Result Value Refusal) → b ≡ None → IsSave game r → Save (stood_by b n) (reply_of_json r) (stood_by b n)
  saves-free b n r free h = subst (λ x. Save (stood_by x n) (reply_of_json r) (stood_by x n)) (sym free) (saves-ready n r h)

  pub saves-broken : (b : Option Fault) (n : ℕ) (f : Fault) → b ≡ Some f → Save (stood_by b n) (Refuses (refusal.Broken f)) (stood_by b n)
  saves-broken b n f e = subst (λ x. Save (stood_by x n) (Refuses (refusal.Broken f)) (stood_by x n)) (sym e) (refl, refl)

  -- where a player stands that is not broken
  stands_in : (b : Option Fault) (n : ℕ) → b ≡ None → StandsIn game (stood_by b n)
  stands_in b n free = (ap (λ x. condition_by x c) free, refl)

  reads_by : (s : StoryTree) (b : Option Fault) → b ≡ None → ConditionFits s (condition_by b c) → AsideFits s a → (j : Data) → j ≡ spelling game → Reads s j game
  reads_by s b free fits aside j h =
      let sound = subst (λ x. ConditionFits s (condition_by x c)) free fits in
      record { spells = inl h; stands = record { sound = sound.0; rests = sound.1; aside = aside } }

  -- the game where it stands is the one of which this holds
  same_game : (b : Option Fault) (n : ℕ) → b ≡ None → (g : Game) → StandsIn g (stood_by b n) → game ≡ g
  same_game b n free g is =
      let now : Ready c ≡ Ready g.now = sym (ap (λ y. condition_by y c) free) ∙ is.0 in
      let same : c ≡ g.now = cc in
      ap (λ x. let y : Game = record { now = x; aside = a } in y) same ∙ ap (λ x. let y : Game = record { now = g.now; aside = x } in y) is.1

  only_by : (b : Option Fault) (n : ℕ) → b ≡ None → (g : Game) → StandsIn g (stood_by b n) → (j : Data) → Spells j g → (j ≡ spelling game) ⊎ IsOldSave j (stood_by b n)
  only_by b n free g is j (inl e) = inl (e ∙ ap spelling (sym (same_game b n free g is)))
  only_by b n free g is j (inr old) = inr (g.now, is.0, old.0, is.1 ∙ old.1)

  -- what is saved of a sound game at rest reads as it
  pub save-reads : (s : StoryTree) (b : Option Fault) (n : ℕ) (r : Result Value Refusal) → b ≡ None → IsSave game r → ConditionFits s (condition_by b c) → AsideFits s a
      → IfOk r (λ json. ReadsAsState s (view json) (stood_by b n))
  save-reads s b n (Ok json) free h fits aside = (game, stands_in b n free, reads_by s b free fits aside (view json) h)
  save-reads s b n (Err r) free h fits aside = tt

  -- and no other value does, but one in layout 1
  pub save-only : (s : StoryTree) (b : Option Fault) (n : ℕ) (r : Result Value Refusal) → b ≡ None → IsSave game r
      → IfOk r (λ json. (j : Data) → ReadsAsState s j (stood_by b n) → (j ≡ view json) ⊎ IsOldSave j (stood_by b n))
  save-only s b n (Ok json) free h = λ j x. elim (only_by b n free x.0 x.1 j x.2.spells) [
    | inl e ↦ inl (e ∙ sym h)
    | inr old ↦ inr old
  ]
  save-only s b n (Err r) free h = tt

  -- ---- the text of a save

  texts-ready : (n : ℕ) (r : Result (List ℕ) Refusal) → IsSaveText game r
      → (j : Data) × IsTextOf j r × Save (at_stamp (Ready c) a n) (reply_of_text j r) (at_stamp (Ready c) a n)
  texts-ready n (Ok text) h = (spelling game, h, inl (refl, refl))
  texts-ready n (Err r) h = (spelling game, tt, inr (ap (λ x. Refuses x) h, refl))

  -- by a player that is not broken
  pub texts-free : (b : Option Fault) (n : ℕ) (r : Result (List ℕ) Refusal) → b ≡ None → IsSaveText game r
      → (j : Data) × IsTextOf j r × Save (stood_by b n) (reply_of_text j r) (stood_by b n)
  texts-free b n r free h =
      subst (λ x. (j : Data) × IsTextOf j r × Save (stood_by x n) (reply_of_text j r) (stood_by x n)) (sym free) (texts-ready n r h)

  pub text-reads : (s : StoryTree) (b : Option Fault) (n : ℕ) (r : Result (List ℕ) Refusal) → b ≡ None → IsSaveText game r → ConditionFits s (condition_by b c) → AsideFits s a
      → IfOk r (λ text. (j : Data) × (text ≡ compact_text j) × ReadsAsState s j (stood_by b n))
  text-reads s b n (Ok text) free h fits aside = (spelling game, h, (game, stands_in b n free, reads_by s b free fits aside (spelling game) refl))
  text-reads s b n (Err r) free h fits aside = tt

  -- it is read back as what was saved
  pub text-back : (s : StoryTree) (b : Option Fault) (n : ℕ) (r : Result (List ℕ) Refusal) → b ≡ None → IsSaveText game r → StoryFits s → ConditionFits s (condition_by b c) → AsideFits s a
      → IfOk r (λ text. TextReadsAsState s text (stood_by b n))
  text-back s b n (Ok text) free h story fits aside =
      let reads = reads_by s b free fits aside (spelling game) refl in
      (spelling game, ap json_of h ∙ spelled_back s story game reads.stands, (game, stands_in b n free, reads))
  text-back s b n (Err r) free h story fits aside = tt

  pub text-only : (s : StoryTree) (b : Option Fault) (n : ℕ) (r : Result (List ℕ) Refusal) → b ≡ None → IsSaveText game r
      → IfOk r (λ text. (j : Data) → ReadsAsState s j (stood_by b n) → (text ≡ compact_text j) ⊎ IsOldSave j (stood_by b n))
  text-only s b n (Ok text) free h = λ j x. elim (only_by b n free x.0 x.1 j x.2.spells) [
    | inl e ↦ inl (h ∙ ap compact_text (sym e))
    | inr old ↦ inr old
  ]
  text-only s b n (Err r) free h = tt

module _ (s : StoryTree) (h : Bindings) (j : Data) (old : State) where
  -- with these globals before
  pub load-read : (g : Game) (start : Values) (es : List Event) (reply : Reply) (new : State) → Reads s j g → globals_of old.condition ≡ start
      → BeginsAnew (told h.watches start g.now.shared.globals) g es old reply new → Load s h es (Some j) old reply new
  load-read g start es reply new reads were p = inl (record {
    loaded = g;
    reads = reads;
    tells = subst (λ vs. BeginsAnew (told h.watches vs g.now.shared.globals) g es old reply new) (sym were) p;
  })

  pub load-refused : (r : Refusal) → FindsSave s j (Err r) → Load s h [] (Some j) old (Refuses r) old
  load-refused r (save.BadSave, is, none) = inr (inl (none, refl, (ap (λ y. Refuses y) is, refl)))
  load-refused r (save.OutOfMemory, is, asks) = inr (inr (asks, refl, (ap (λ y. Refuses y) is, refl)))

  -- ---- what is there then

  loaded-stands : (g : Game) (events es : List Event) (new : State) (all : Bool) → Reads s j g → Acts events ≡ reply_told all (Acts es) es
      → new.condition ≡ condition_told all (Ready g.now) → new.aside ≡ g.aside → ReadsAsState s j new
  loaded-stands g events es new true reads replies leaves aside = (g, (leaves, aside), reads)
  loaded-stands g events es new false reads replies leaves aside = absurd cc

  loaded-as : (g : Game) (es : List Event) (n : ℕ) (all : Bool) → LoadsAs g (reply_told all (Acts es) es) (at_stamp (condition_told all (Ready g.now)) g.aside n)
  loaded-as g es n true = (refl, refl)
  loaded-as g es n false = (refl, refl, refl)

  -- once a value is loaded, it reads as what is there
  pub load-stands : (es : List Event) (r : Result (List Event) Halt) (new : State) → Load s h es (Some j) old (reply_of_events r) new → IfOk r (λ events. ReadsAsState s j new)
  load-stands es (Err e) new does = tt
  load-stands es (Ok events) new (inl x) = tells _ x.tells
    where
      tells : (cs : List Change) → BeginsAnew cs x.loaded es old (Acts events) new → ReadsAsState s j new
      tells cs (inl done) = loaded-stands x.loaded events es new done.all x.reads done.replies (ap (λ st. st.condition) done.leaves) (ap (λ st. st.aside) done.leaves)
      tells cs (inr kept) = absurd (let never = kept.2.0 in cc)
  load-stands es (Ok events) new (inr (inl x)) = absurd (let never = x.2.0 in cc)
  load-stands es (Ok events) new (inr (inr x)) = absurd (let never = x.2.0 in cc)

  -- a value that reads is loaded, unless memory is refused
  pub load-reads : (es : List Event) (reply : Reply) (new : State) → StoryFits s → Load s h es (Some j) old reply new → (g : Game) → Reads s j g → LoadsAs g reply new
  load-reads es reply new story (inl x) g reads = subst (λ d. LoadsAs d reply new) (reads_one s story j x.loaded g x.reads reads) (tells _ x.tells)
    where
      tells : (cs : List Change) → BeginsAnew cs x.loaded es old reply new → LoadsAs x.loaded reply new
      tells cs (inl done) = subst (λ y. LoadsAs x.loaded y new) (sym done.replies)
          (subst (λ st. LoadsAs x.loaded (reply_told done.all (Acts es) es) st) (sym done.leaves) (loaded-as x.loaded es (later old.stamp es) done.all))
      tells cs (inr kept) = subst (λ y. LoadsAs x.loaded y new) (sym kept.2.0) refl
  load-reads es reply new story (inr (inl x)) g reads = absurd (x.0 g reads)
  load-reads es reply new story (inr (inr x)) g reads = subst (λ y. LoadsAs g y new) (sym x.2.0) refl
