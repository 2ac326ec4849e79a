-- Going to a flow, and taking one away.
use Rattle.std.proofs.Common.{◌≡◌, ◌∙◌, ap, refl, subst, sym, inl, inr, ℕ, List, [], Bool, true, false, bytes_eq, is_none, is_some, MatchBool, Option, None, Some}
use Rattle.ink_model.specs.Protocol.Answer.{Reply, Acts, Refuses}
use Rattle.ink_model.specs.Protocol.Changed.{OnlyRefuses}
use Rattle.ink_model.specs.Run.Configuration.{FlowOf}
use Rattle.ink_model.specs.Protocol.FlowCommands.{DropsBy, DropsFlow, DropsFrom, Goes, GoesFrom, GoesToFlow}
use Rattle.ink_model.specs.Run.Flows.{Game, default_flow, has_room, in_flow, is_flow_name, without_flow}
use Rattle.ink_model.specs.Variables.Named.{at}
use Rattle.ink_model.specs.Protocol.State.{State, in_game}
use Rattle.ink_model.specs.Story.Tree.{StoryTree}
use Rattle.ink_model.specs.declared.fault.Fault.{Fault}
use Rattle.ink_model.specs.declared.fault.Refusal.TheVariants as refusal
use Rattle.ink_model.specs.declared.place.Part.{Part}
use Rattle.ink_commands.specs.States.{at_stamp, condition_by}

module _ (s : StoryTree) (name : List ℕ) (g : Game) (n : ℕ) where
  abbrev pub stood : Option Fault → Game → State
  stood b h = at_stamp (condition_by b h.now) h.aside n

  abbrev old : Option Fault → State
  old b = stood b g

  -- ---- going to one

  pub flow-broken : (b : Option Fault) (f : Fault) → b ≡ Some f → GoesToFlow s name (old b) (Refuses (refusal.Broken f)) (old b)
  flow-broken b f e = subst (λ x. GoesToFlow s name (old x) (Refuses (refusal.Broken f)) (old x)) (sym e) (refl, refl)

  module _ (reply : Reply) (new : State) where
    abbrev pub GoesWhere : Option Fault → Bool → Bool → Type 0
    GoesWhere b fits room = MatchBool fits (MatchBool room (Goes s name g (old b) reply new) (OnlyRefuses (Refuses refusal.TooManyFlows) (old b) reply new))
        (OnlyRefuses (Refuses refusal.BadValue) (old b) reply new)

    -- by whether a flow may have the name, and whether there is room for it
    pub goes-by : (b : Option Fault) (fits room : Bool) → b ≡ None → is_flow_name name ≡ fits → has_room name g.aside ≡ room → GoesWhere b fits room → GoesToFlow s name (old b) reply new
    goes-by b fits room free e k p =
        let by : GoesWhere b (is_flow_name name) (has_room name g.aside) = subst (λ x. GoesWhere b x (has_room name g.aside)) (sym e) (subst (λ x. GoesWhere b fits x) (sym k) p) in
        subst (λ x. GoesFrom s name (condition_by x g.now) (old b) reply new) (sym free) by

  -- it is there now
  pub goes-there : (b : Option Fault) (h : Game) → b ≡ None → h ≡ in_flow s name g → Goes s name g (old b) (Acts []) (stood b h)
  goes-there b h free there = inl (refl, ap (stood b) there ∙ ap (λ x. at_stamp (condition_by x (in_flow s name g).now) (in_flow s name g).aside n) free)

  -- memory was refused for one that is made
  pub goes-short : (b : Option Fault) (h : Game) → h ≡ g → is_none (at name g.aside) ≡ true → Goes s name g (old b) (Refuses refusal.OutOfMemory) (stood b h)
  goes-short b h kept asks = inr (asks, (refl, ap (stood b) kept))

  -- ---- taking one away

  pub drop-broken : (b : Option Fault) (f : Fault) → b ≡ Some f → DropsFlow s name (old b) (Refuses (refusal.Broken f)) (old b)
  drop-broken b f e = subst (λ x. DropsFlow s name (old x) (Refuses (refusal.Broken f)) (old x)) (sym e) (refl, refl)

  module _ (reply : Reply) (new : State) where
    drops-from : (b : Option Fault) → b ≡ None → DropsBy s name (at name g.aside) g (old b) reply new → DropsFlow s name (old b) reply new
    drops-from b free p = subst (λ x. DropsFrom s name (condition_by x g.now) (old b) reply new) (sym free) p

    pub drops-none : (b : Option Fault) → b ≡ None → is_some (at name g.aside) ≡ false → OnlyRefuses (Refuses refusal.NoSuchFlow) (old b) reply new → DropsFlow s name (old b) reply new
    drops-none b free e p = drops-from b free (by (at name g.aside) e)
      where
        by : (o : Option (Option (FlowOf (List Part)))) → is_some o ≡ false → DropsBy s name o g (old b) reply new
        by None k = p
        by (Some f) k = absurd (cc)

    abbrev DropsWhere : Option Fault → Bool → Type 0
    DropsWhere b first = MatchBool first (OnlyRefuses (Refuses refusal.DefaultFlow) (old b) reply new) ((reply ≡ Acts []) × (new ≡ in_game (without_flow s name g) (old b)))

    -- by whether it is the first
    pub drops-some : (b : Option Fault) (first : Bool) → b ≡ None → is_some (at name g.aside) ≡ true → bytes_eq name default_flow ≡ first → DropsWhere b first → DropsFlow s name (old b) reply new
    drops-some b first free e is p = drops-from b free (by (at name g.aside) e)
      where
        by : (o : Option (Option (FlowOf (List Part)))) → is_some o ≡ true → DropsBy s name o g (old b) reply new
        by None k = absurd (cc)
        by (Some f) k = subst (λ x. DropsWhere b x) (sym is) p

  pub dropped-there : (b : Option Fault) (h : Game) → b ≡ None → h ≡ without_flow s name g → stood b h ≡ in_game (without_flow s name g) (old b)
  dropped-there b h free there = ap (stood b) there ∙ ap (λ x. at_stamp (condition_by x (without_flow s name g).now) (without_flow s name g).aside n) free
