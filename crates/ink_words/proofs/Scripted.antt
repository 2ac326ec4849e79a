-- What a script has noted and given.
use Rattle.std.proofs.Common.{◌≡◌, ◌∙◌, ◌<◌, ◌≤◌, ℕ, ◌+◌, zero, suc, List, [], ◌∷◌, ◌++◌, Option, None, Some, ap, ap₂, arith, drop, get_or, length, map, option_map, refl, slice_get, slice_index_or, subst, sym, take, Bor, IfOk, Ok, Result}
use Rattle.std.proofs.lemmas.List.{append_assoc, drop-append-le, length-append, length-drop, take-append-le, take_all, take_more}
use Rattle.std.proofs.lemmas.Option.{slice_get_past}
use Rattle.std.specs.Slice.{IsItemAt}
use Rattle.ink_host.specs.declared.objects.Called.{Called}
use Rattle.ink_model.specs.declared.host.Given.{Given}
use Rattle.ink_model.specs.declared.host.HostFault.{HostFault}
use Rattle.ink_model.specs.declared.value.Value.{Value}
use Rattle.ink_words.specs.Scripts.{argument_count, gifts, noted}
use Rattle.ink_words.specs.declared.objects.Turn.{Turn}

item_at : (xs : List Given) (i : ℕ) (x d : Given) → i < length xs → x ≡ slice_index_or xs i d → Some x ≡ slice_get xs i
item_at [] i x d h is = absurd (omega (arith, h))
item_at (y ∷ xs) zero x d h is = ap Some is
item_at (y ∷ xs) (suc i) x d h is = item_at xs i x d (omega (arith, h)) is

-- the answer whose turn it is, if there is one
got : (xs : List Given) (i : ℕ) (r : Option (Bor Given)) → IsItemAt xs i r → option_map (λ x. x.now) r ≡ slice_get xs i
got xs i None facts = sym (slice_get_past xs i facts.3)
got xs i (Some x) facts = item_at xs i x.now x.now facts.3.0 facts.1

-- one turn more
pub counted-more : (turns : List Turn) (t : Turn) → argument_count (turns ++ t ∷ []) ≡ argument_count turns + t.count
counted-more [] t = omega arith
counted-more (u ∷ turns) t = omega (arith, counted-more turns t)

-- what was given, whatever was noted
pub always_scripted : (answers : List Given) (arguments : List Value) (turns : List Turn) → map (λ c. c.gave) (noted answers arguments turns) ≡ gifts answers (length turns)
always_scripted answers arguments [] = refl
always_scripted [] arguments (t ∷ turns) = ap (λ gs. None ∷ gs) (always_scripted [] (drop t.count arguments) turns)
always_scripted (a ∷ answers) arguments (t ∷ turns) = ap (λ gs. Some a ∷ gs) (always_scripted answers (drop t.count arguments) turns)

-- a call of a turn
abbrev pub call_at : Turn → List Value → Option Given → Called
call_at t arguments gave = record { stamp = t.stamp; arguments = arguments; gave = gave }

-- of the first call the arguments are all that are there
first_arguments : (arguments more : List Value) (n : ℕ) → zero ≡ length arguments → n ≡ length more → take n (arguments ++ more) ≡ more
first_arguments [] more n whole count = take_all n more (omega (arith, count))
first_arguments (x ∷ xs) more n whole count = absurd (omega (arith, whole))

module _ (arguments more : List Value) (turns : List Turn) (u t : Turn) (whole : argument_count (u ∷ turns) ≡ length arguments) where
  within : u.count ≤ length arguments
  within = omega (arith, whole)

  pub own : take u.count (arguments ++ more) ≡ take u.count arguments
  own = take-append-le u.count arguments more within

  pub others : drop u.count (arguments ++ more) ≡ drop u.count arguments ++ more
  others = drop-append-le u.count arguments more within

  pub left : argument_count turns ≡ length (drop u.count arguments)
  left = omega (arith, whole, length-drop u.count arguments)

-- one call more, behind those that stand
pub noted-more : (answers : List Given) (arguments more : List Value) (turns : List Turn) (t : Turn) → argument_count turns ≡ length arguments → t.count ≡ length more
    → noted answers (arguments ++ more) (turns ++ t ∷ []) ≡ noted answers arguments turns ++ call_at t more (slice_get answers (length turns)) ∷ []
noted-more [] arguments more [] t whole count = ap (λ xs. call_at t xs None ∷ []) (first_arguments arguments more t.count whole count)
noted-more (a ∷ answers) arguments more [] t whole count = ap (λ xs. call_at t xs (Some a) ∷ []) (first_arguments arguments more t.count whole count)
noted-more [] arguments more (u ∷ turns) t whole count =
    ap₂ (λ xs calls. call_at u xs None ∷ calls) (own arguments more turns u t whole)
    (ap (λ left. noted [] left (turns ++ t ∷ [])) (others arguments more turns u t whole) ∙ noted-more [] (drop u.count arguments) more turns t (left arguments more turns u t whole) count)
noted-more (a ∷ answers) arguments more (u ∷ turns) t whole count =
    ap₂ (λ xs calls. call_at u xs (Some a) ∷ calls) (own arguments more turns u t whole)
    (ap (λ left. noted answers left (turns ++ t ∷ [])) (others arguments more turns u t whole) ∙ noted-more answers (drop u.count arguments) more turns t (left arguments more turns u t whole) count)

-- the same, as a call leaves it
pub noted_after : (answers items : List Given) (arguments now more : List Value) (turns kept new : List Turn) (t : Turn) (n : ℕ) (r : Option (Bor Given)) (gave : Option Given)
    → argument_count turns ≡ length arguments → t.count ≡ length more → now ≡ arguments ++ more → kept ≡ turns → new ≡ kept ++ t ∷ []
    → IsItemAt items n r → items ≡ answers → n ≡ length turns → gave ≡ option_map (λ x. x.now) r
    → noted answers now new ≡ noted answers arguments turns ++ call_at t more gave ∷ []
noted_after answers items arguments now more turns kept new t n r gave whole count copied same next found held at is =
    ap₂ (noted answers) copied (next ∙ ap (λ ts. ts ++ t ∷ []) same) ∙ noted-more answers arguments more turns t whole count
    ∙ ap (λ g. noted answers arguments turns ++ call_at t more g ∷ []) (sym (is ∙ got items n r found ∙ ap₂ slice_get held at))

-- what holds of what is answered
pub of_answer : (P : Given → Type 0) (a b : Given) → ◌≡◌ {A = Result Given HostFault} (Ok a) (Ok b) → P a → P b
of_answer P a b is holds = subst (λ r. IfOk r P) is holds

-- how many arguments there are then
pub whole_after : (arguments now more : List Value) (turns kept new : List Turn) (t : Turn) → argument_count turns ≡ length arguments → t.count ≡ length more → now ≡ arguments ++ more → kept ≡ turns → new ≡ kept ++ t ∷ []
    → argument_count new ≡ length now
whole_after arguments now more turns kept new t whole count copied same next =
    ap argument_count (next ∙ ap (λ ts. ts ++ t ∷ []) same) ∙ counted-more turns t ∙ ap₂ (λ a b. a + b) whole count ∙ sym (ap length copied ∙ length-append arguments more)

-- copies of values, one more
pub copied_more : (before vs done more : List Value) (v copy : Value) (i : ℕ) → done ≡ before ++ take i vs → copy ≡ v → v ≡ get_or vs i v → i < length vs → more ≡ done ++ copy ∷ [] → more ≡ before ++ take (i + 1) vs
copied_more before vs done more v copy i so_far same is there next =
    next ∙ ap₂ (λ xs x. xs ++ x ∷ []) so_far (same ∙ is) ∙ append_assoc before (take i vs) (get_or vs i v ∷ []) ∙ ap (λ xs. before ++ xs) (sym (take_more vs i v there))
