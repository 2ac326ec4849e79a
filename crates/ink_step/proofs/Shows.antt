-- Choices as they are shown are the same among spots and among places.
use Rattle.std.proofs.Common.{◌≡◌, ◌≢◌, ◌∙◌, ap, sym, refl, List, [], ◌∷◌, map, false, if◌then◌else◌, Result, Ok, Err, OnErr}
use Rattle.ink_model.specs.Choices.Making.{shown, shown_choice, visible}
use Rattle.ink_step.proofs.Common.{ChoiceOf, can_go_on, map_choice, StoryTree, config_of, Machine, place_of}
use Rattle.ink_model.specs.Protocol.Turns.{open_choices}
use Rattle.ink_model.proofs.Maps.{shown_map}

-- some are shown where one is visible
pub some_shown : {P : Type 0} (cs : List (ChoiceOf P)) → visible cs ≢ [] → shown cs ≢ []
some_shown {P = P} cs h = by (visible cs) h
  where
    by : (vs : List (ChoiceOf P)) → vs ≢ [] → map shown_choice vs ≢ []
    by [] k = absurd (k refl)
    by (v ∷ vs) k = λ none. absurd (cc)

-- where flow has stopped they are open
pub open_shown : (s : StoryTree) (m : Machine) → false ≡ can_go_on (config_of s m) → shown m.flow.choices.items ≡ open_choices (config_of s m)
open_shown s m stops = sym (shown_map (place_of s) m.flow.choices.items) ∙ ap (λ b. if b then [] else shown (map (map_choice (place_of s)) m.flow.choices.items)) stops

pub when_err : {A E : Type 0} (r : Result A E) (B C : Type 0) → (B → C) → OnErr r B → OnErr r C
when_err (Ok a) B C so h = h
when_err (Err e) B C so h = so h
