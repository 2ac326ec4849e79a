-- Calls as events, one part after another.
use Rattle.std.proofs.Common.{◌≡◌, ◌++◌, ◌∷◌, ℕ, List, [], ap, refl}
use Rattle.ink_model.specs.Host.Events.{Made, after, calls, later}
use Rattle.ink_model.specs.declared.host.Event.TheVariants.{Call}

pub calls_on : (n : ℕ) (made more : List Made) → calls n made ++ calls (later n (calls n made)) more ≡ calls n (made ++ more)
calls_on n [] more = refl
calls_on n (m ∷ made) more = ap (λ es. Call m.name m.arguments m.gave n ∷ es) (calls_on (after n) made more)
