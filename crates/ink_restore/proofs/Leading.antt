-- Where targets lead.
use Rattle.std.proofs.Common.{◌≡◌, ◌∙◌, sym, ap, refl, Bool, false, List, [], Option, Some, None, is_some, option_map, IsTrue, if◌then◌else◌}
use Rattle.ink_model.specs.Story.Path.{path_text, read_path, target, walked}
use Rattle.ink_restore.proofs.Common.{StoryTree, Part, place_of, Spot}
use Rattle.ink_model.specs.declared.place.Path.{Path}
use Rattle.ink_model.specs.Save.Sound.{PathFits}

some_mapped : {A B : Type 0} (f : A → B) (o : Option A) → is_some (option_map f o) ≡ is_some o
some_mapped f None = refl
some_mapped f (Some a) = refl

from_root : (s : StoryTree) (from : List Part) (p : Path) → p.relative ≡ false → target s from p ≡ target s [] p
unfolding target
from_root s from p e = ap (λ b. walked s (if b then from else []) p.parts) e ∙ sym (ap (λ b. walked s (if b then [] else []) p.parts) e)

pub leads_if : (s : StoryTree) (from : List Part) (p : Path) (r : Option Spot) (b : Bool) → p.relative ≡ false → read_path (path_text p) ≡ Some p
    → option_map (place_of s) r ≡ target s from p → b ≡ is_some r → (IsTrue b → PathFits s p) × (PathFits s p → IsTrue b)
leads_if s from p r b absolute same leads is =
    let there : b ≡ is_some (target s [] p) = is ∙ sym (some_mapped (place_of s) r) ∙ ap is_some leads ∙ ap is_some (from_root s from p absolute) in
    (λ e. record { absolute = absolute; leads = sym there ∙ e; spelled = same }, λ f. there ∙ f.leads)
