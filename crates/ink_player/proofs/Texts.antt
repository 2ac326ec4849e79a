-- Loading a text.
use Rattle.std.proofs.Common.{◌≡◌, ◌∙◌, ap, refl, subst, sym, inl, inr, ℕ, List, [], None, Some, Result, Ok, Err, IfOk}
use Rattle.serde_json.specs.Data.{Data}
use Rattle.ink_player.proofs.Common.{Reply, Refuses, reply_of_events, json_of, Bindings, State, StoryTree, Refusal, Event, StoryFits, game_of, Machine}
use Rattle.ink_model.specs.Run.Flows.{Game}
use Rattle.ink_model.specs.Save.Reads.{Reads}
use Rattle.ink_model.specs.Protocol.Session.{Load}
use Rattle.ink_model.specs.declared.fault.Halt.{Halt}
use Rattle.ink_model.specs.declared.fault.Refusal.TheVariants as refusal
use Rattle.ink_save.specs.declared.loading.SaveRefusal.TheVariants as save
use Rattle.ink_player.specs.Loading.{LoadsText, TextReads, TextReadsAsState}
use Rattle.ink_player.proofs.Saves.{load-reads, load-refused, load-stands}
use Rattle.ink_player.specs.Saving.{FindsText, LoadsAs, ReadsAsState, save_refusal}

module _ (s : StoryTree) (text : List ℕ) where
  -- what a machine was made of
  pub text-found : (m : Machine) → FindsText s text (Ok m) → (j : Data) × (json_of text ≡ Some j) × Reads s j (game_of s m)
  text-found m (inl x) = x
  text-found m (inr (inl x)) = absurd (let never = x.1 in cc)
  text-found m (inr (inr x)) = absurd (let never = x.1 in cc)

  module _ (h : Bindings) (old : State) where
    -- JSON that is read is loaded
    pub text-loads : (j : Data) (es : List Event) (reply : Reply) (new : State) → json_of text ≡ Some j → Load s h es (Some j) old reply new → LoadsText s h es text old reply new
    text-loads j es reply new is loads = inl (subst (λ o. Load s h es o old reply new) (sym is) loads)

    -- what makes no machine is refused
    pub text-refused : (r : Refusal) → FindsText s text (Err r) → LoadsText s h [] text old (Refuses r) old
    text-refused r (why, is, inl x) = text-loads x.0 [] (Refuses r) old x.1 (load-refused s h x.0 old r (why, is, x.2))
    text-refused r (why, is, inr (inl x)) =
        let bad : why ≡ save.BadSave = let same = x.1 in cc in
        let same : r ≡ refusal.BadSave = is ∙ ap save_refusal bad in
        inl (subst (λ o. Load s h [] o old (Refuses r) old) (sym x.0) (subst (λ q. Load s h [] None old (Refuses q) old) (sym same) (refl, (refl, refl))))
    text-refused r (why, is, inr (inr x)) =
        let short : why ≡ save.OutOfMemory = let same = x.1 in cc in
        let same : r ≡ refusal.OutOfMemory = is ∙ ap save_refusal short in
        inr (x.0, refl, (ap (λ q. Refuses q) same, refl))

  same_json : (j k : Data) → json_of text ≡ Some j → json_of text ≡ Some k → k ≡ j
  same_json j k is spells = let same : Some k ≡ Some j = sym spells ∙ is in cc

  module _ (h : Bindings) (old : State) (j : Data) (is : json_of text ≡ Some j) where
    reads_there : (r : Result (List Event) Halt) (new : State) → IfOk r (λ events. ReadsAsState s j new) → IfOk r (λ events. TextReadsAsState s text new)
    reads_there (Ok events) new stands = (j, is, stands)
    reads_there (Err e) new stands = tt

    -- what is there then is what the text says
    pub text-stands : (es : List Event) (r : Result (List Event) Halt) (new : State) → LoadsText s h es text old (reply_of_events r) new → IfOk r (λ events. TextReadsAsState s text new)
    text-stands es r new (inl loads) = reads_there r new (load-stands s h j old es r new (subst (λ o. Load s h es o old (reply_of_events r) new) is loads))
    text-stands es (Ok events) new (inr fails) = absurd (let never = fails.2.0 in cc)
    text-stands es (Err e) new (inr fails) = tt

    -- a text that reads as a game is loaded as that, unless memory is refused
    pub text-reads : (es : List Event) (reply : Reply) (new : State) → StoryFits s → LoadsText s h es text old reply new → (g : Game) → TextReads s text g → LoadsAs g reply new
    text-reads es reply new story (inl loads) g x =
        load-reads s h j old es reply new story (subst (λ o. Load s h es o old reply new) is loads) g (subst (λ d. Reads s d g) (same_json j x.0 is x.1) x.2)
    text-reads es reply new story (inr fails) g x = subst (λ y. LoadsAs g y new) (sym fails.2.0) refl

  pub refused-reads : (g : Game) (r : Refusal) (new : State) → FindsText s text (Err r) → TextReads s text g → LoadsAs g (Refuses r) new
  refused-reads g r new (save.OutOfMemory, short, found) t = short
  refused-reads g r new (save.BadSave, bad, inl (j, is, none)) t = absurd (none g (subst (λ d. Reads s d g) (same_json j t.0 is t.1) t.2))
  refused-reads g r new (save.BadSave, bad, inr (inl x)) t = absurd (let never : Some t.0 ≡ None = sym t.1 ∙ x.0 in cc)
  refused-reads g r new (save.BadSave, bad, inr (inr x)) t = absurd (let never = x.1 in cc)
