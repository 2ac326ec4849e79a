-- What a jump comes to.
use Rattle.std.proofs.Common.{◌≡◌, ◌∙◌, ◌||◌, ◌*◌, ap, refl, subst, sym, inl, inr, ℕ, List, [], Bool, true, false, Option, None, Some, Ok, Err}
use Rattle.ink_model.specs.Protocol.Answer.{Reply, Acts, Refuses}
use Rattle.ink_model.specs.Choices.Choosing.{jump_place, jumped}
use Rattle.ink_model.specs.Run.Configuration.{Configuration}
use Rattle.ink_model.specs.Run.Flows.{Aside}
use Rattle.ink_model.specs.Protocol.State.{State}
use Rattle.ink_model.specs.Story.Tree.{StoryTree}
use Rattle.ink_model.specs.Protocol.Turns.{Jump, JumpsBy, JumpsFrom}
use Rattle.ink_model.specs.Protocol.Unread.{ReadsPath}
use Rattle.ink_model.specs.Run.Visits.{entering_around, entering_asks}
use Rattle.ink_model.specs.declared.fault.Fault.{Fault}
use Rattle.ink_model.specs.declared.fault.Refusal.{Refusal}
use Rattle.ink_model.specs.declared.fault.Refusal.TheVariants as refusal
use Rattle.ink_model.specs.declared.place.Part.{Part}
use Rattle.ink_step.specs.Marks.{Stood, lacks, stood_of, turn_lacks, unmarked}
use Rattle.ink_step.specs.declared.machine.Machine.{Machine}
use Rattle.ink_tree.specs.Nodes.{place_of}
use Rattle.ink_tree.specs.declared.spot.Spot.{Spot}
use Rattle.ink_commands.specs.Paths.{FindsPlace, JumpsTo}
use Rattle.ink_commands.specs.States.{at_stamp, condition_by}
use Rattle.ink_commands.proofs.Paths.{was_found, was_not_found}

-- no room is lacked where no mark stands
none_lack : (p q r t n : ℕ) (st : Stood) → st ≡ unmarked → lacks st.threads p 2 || (lacks st.choices q 2 || (lacks st.own r 2 || lacks st.counts t (4 * n))) ≡ false
none_lack p q r t n st e = ap (λ (x : Stood). lacks x.threads p 2 || (lacks x.choices q 2 || (lacks x.own r 2 || lacks x.counts t (4 * n)))) e

-- where a spot is found, a path lands there
pub lands-at : (s : StoryTree) (path : List ℕ) (spot : Spot) → FindsPlace s path (Ok spot) → jump_place s path ≡ Some (place_of s spot)
lands-at s path spot h = let place = was_found path _ (jump_place s path) spot h in place.1 ∙ ap Some (sym place.2)

pub turn_free : (n : ℕ) (m : Machine) → stood_of m ≡ unmarked → turn_lacks n m ≡ false
turn_free n m free = none_lack _ _ _ _ n (stood_of m) free

pub lacks_none : (n : ℕ) (m : Machine) (b : Bool) → stood_of m ≡ unmarked → (turn_lacks n m || b) ≡ true → b ≡ true
lacks_none n m b free h = sym (ap (λ x. x || b) (turn_free n m free)) ∙ h

module _ (s : StoryTree) (path : List ℕ) (c : Configuration) (a : Aside) (n : ℕ) (b : Option Fault) where
  abbrev old : State
  old = at_stamp (condition_by b c) a n

  pub jumps-broken : (f : Fault) → b ≡ Some f → JumpsTo s path old (Refuses (refusal.Broken f)) old
  jumps-broken f e = inl (subst (λ x. Jump s path (at_stamp (condition_by x c) a n) (Refuses (refusal.Broken f)) (at_stamp (condition_by x c) a n)) (sym e) (refl, refl))

  module _ (free : b ≡ None) where
    from_place : (reply : Reply) (new : State) → JumpsBy s (jump_place s path) c old reply new → JumpsTo s path old reply new
    from_place reply new p = inl (subst (λ x. JumpsFrom s path (condition_by x c) old reply new) (sym free) p)

    -- it lands nowhere, or memory was refused for the path
    pub jumps-nowhere : (r : Refusal) → FindsPlace s path (Err r) → JumpsTo s path old (Refuses r) old
    jumps-nowhere r h = elim (was_not_found path _ (jump_place s path) r h) [
      | inl none ↦ from_place (Refuses r) old (subst (λ o. JumpsBy s o c old (Refuses r) old) (sym none.1) (ap Refuses none.0, refl))
      | inr short ↦ inr (subst (λ x. ReadsPath path (condition_by x c)) (sym free) short.1, (ap Refuses short.0, refl))
    ]

    module _ (d : Configuration) (q : List Part) (leads : jump_place s path ≡ Some q) where
      abbrev new : State
      new = at_stamp (condition_by b d) a n

      by_place : (reply : Reply) → JumpsBy s (Some q) c old reply new → JumpsTo s path old reply new
      by_place reply p = from_place reply new (subst (λ o. JumpsBy s o c old reply new) (sym leads) p)

      pub jumps-there : d ≡ entering_around s (jumped q c) → JumpsTo s path old (Acts []) new
      jumps-there is = by_place (Acts []) (inl (refl, ap (λ x. at_stamp (condition_by b x) a n) is ∙ ap (λ x. at_stamp (condition_by x (entering_around s (jumped q c))) a n) free))

      pub jumps-short : d ≡ c → entering_asks s (jumped q c) ≡ true → JumpsTo s path old (Refuses refusal.OutOfMemory) new
      jumps-short is asks = by_place (Refuses refusal.OutOfMemory) (inr (asks, (refl, ap (λ x. at_stamp (condition_by b x) a n) is)))
