-- Lines that are told one after another, and the stop behind them.
use Rattle.std.proofs.Common.{◌≡◌, ◌≢◌, ℕ, List, [], ◌∷◌, ◌++◌, Bool, true, false, Option, None, Some, Result, Ok, Err, IfOk, ◌∙◌, ap, inl, inr, refl, sym, subst, append_assoc, append-nil, true≢false}
use Rattle.ink_reader.proofs.Common.{Data, Watching, Called, Bindings, State, StoryTree, Halt, Shown, Told}
use Rattle.ink_host.specs.Desk.{DeskView}
use Rattle.ink_model.specs.Protocol.Answer.{Reply, Acts, Breaks, Counts, Refuses, Saves, Shows, Tells, reply_of_halt}
use Rattle.ink_model.specs.Protocol.Command as command
use Rattle.ink_model.specs.declared.fault.Halt.TheVariants as halt
use Rattle.ink_model.specs.declared.fault.Refusal.{Refusal}
use Rattle.ink_model.specs.declared.fault.Refusal.TheVariants as refusal
use Rattle.ink_reader.specs.Course.{IsBreak, IsNoted, IsStop, IsTold, TellsPlace, end_behind, place_told}
use Rattle.ink_reader.specs.Deeds.{AreDelivered, AreDone, AreShelved, Deed, Gives, Goes, Offers, Says}
use Rattle.ink_reader.specs.Steps.{ToldBy, are_offered, break_told, end_after, stop_told, whereabouts_told}
use Rattle.ink_reader.specs.Whereabouts.{path_of}
use Rattle.ink_reader.specs.Notices.{PlaceLacks, Stopped}
use Rattle.ink_reader.specs.declared.telling.Told.TheVariants as told

-- ---- lines

-- behind these deeds telling goes on so
abbrev pub Leads : Told → List Deed → Told → Type 0
Leads how ds mid = (es : List Deed) (end : Told) → IsTold mid es end → IsTold how (ds ++ es) end

pub leads-more : (how mid end : Told) (ds es : List Deed) → Leads how ds mid → Leads mid es end → Leads how (ds ++ es) end
leads-more how mid end ds es a b = λ fs last h. subst (λ x. IsTold how x last) (sym (append_assoc ds es fs)) (a (es ++ fs) last (b fs last h))

pub goes-behind : (b : Bool) → end_behind b ≡ told.Break → ⊥
goes-behind true h = absurd cc
goes-behind false h = absurd cc

pub halt-breaks : (x : Halt) → end_after (reply_of_halt x) ≡ told.Break
halt-breaks (halt.Refused r) = refl
halt-breaks (halt.Fault f events) = refl

-- the place is saved, and a line is asked for
abbrev pub line_deeds : Reply → Reply → List Deed → List Deed
line_deeds place reply ds = Goes true ∷ Gives command.Save place ∷ Gives command.Continue reply ∷ ds

-- a line was told, and telling goes on
pub leads-line : (how end : Told) (place reply : Reply) (ds : List Deed) → IsBreak place reply ds → end ≡ end_after reply → end ≢ told.Break → Leads how (line_deeds place reply ds) end
leads-line how end place (Tells p) ds none is on = λ es last h. subst (λ x. IsTold how (line_deeds place (Tells p) x ++ es) last) (sym none) (subst (λ t. IsTold t es last) is h)
leads-line how end place (Acts events) ds none is on = absurd (on is)
leads-line how end place (Shows value) ds none is on = absurd (on is)
leads-line how end place (Counts visits) ds none is on = absurd (on is)
leads-line how end place (Saves saved) ds none is on = absurd (on is)
leads-line how end place (Refuses r) ds none is on = absurd (on is)
leads-line how end place (Breaks f events) ds none is on = absurd (on is)

-- it was none, and telling ended
pub told-break : (how : Told) (place reply : Reply) (ds : List Deed) → IsBreak place reply ds → told.Break ≡ end_after reply → IsTold how (line_deeds place reply ds) told.Break
told-break how place (Tells p) ds behind is = absurd (goes-behind p.loose (sym is))
told-break how place (Acts events) ds behind is = (behind, refl)
told-break how place (Shows value) ds behind is = (behind, refl)
told-break how place (Counts visits) ds behind is = (behind, refl)
told-break how place (Saves saved) ds behind is = (behind, refl)
told-break how place (Refuses r) ds behind is = (behind, refl)
told-break how place (Breaks f events) ds behind is = (behind, refl)

-- it may have been told
told-line : (how : Told) (place reply : Reply) (ds : List Deed) → IsBreak place reply ds → (rest : List Deed) × (end : Told) × IsTold how (line_deeds place reply ds ++ rest) end
told-line how place (Tells p) ds none = (Goes false ∷ [], end_behind p.loose, subst (λ x. IsTold how (line_deeds place (Tells p) x ++ (Goes false ∷ [])) (end_behind p.loose)) (sym none) (refl, refl))
told-line how place (Acts events) ds behind = ([], told.Break, (append-nil ds ∙ behind, refl))
told-line how place (Shows value) ds behind = ([], told.Break, (append-nil ds ∙ behind, refl))
told-line how place (Counts visits) ds behind = ([], told.Break, (append-nil ds ∙ behind, refl))
told-line how place (Saves saved) ds behind = ([], told.Break, (append-nil ds ∙ behind, refl))
told-line how place (Refuses r) ds behind = ([], told.Break, (append-nil ds ∙ behind, refl))
told-line how place (Breaks f events) ds behind = ([], told.Break, (subst (TellsPlace place) (sym (append-nil ds)) behind, refl))

pub told-part : (how mid : Told) (ds : List Deed) (place reply : Reply) (es : List Deed) → Leads how ds mid → IsBreak place reply es
    → (rest : List Deed) × (end : Told) × IsTold how ((ds ++ line_deeds place reply es) ++ rest) end
told-part how mid ds place reply es a behind =
    let more = told-line mid place reply es behind in
    let whole = a (line_deeds place reply es ++ more.0) more.1 more.2 in
    (more.0, more.1, subst (λ x. IsTold how x more.1) (sym (append_assoc ds (line_deeds place reply es) more.0)) whole)

-- ---- where a line began

-- by a save, or that no memory was there to tell
pub path-tells : {E : Type 0} (j : Data) (path : Result (Option (List ℕ)) E) → IfOk path (λ p. p ≡ path_of j) → TellsPlace (Saves j) (whereabouts_told path)
path-tells j (Ok p) is = inl (ap place_told is)
path-tells j (Err e) is = inr refl

-- behind an answer that is no passage that is said
pub breaks-so : {E : Type 0} (place : Reply) (x : Halt) (path : Result (Option (List ℕ)) E) → TellsPlace place (whereabouts_told path) → IsBreak place (reply_of_halt x) (break_told (reply_of_halt x) path)
breaks-so place (halt.Refused r) path tells = refl
breaks-so place (halt.Fault f events) path tells = tells

module _ {E : Type 0} where
  -- it changes nothing of a player
  pub break-done : (s : StoryTree) (h : Bindings) (st : State) (x : Halt) (path : Result (Option (List ℕ)) E) → AreDone s h [] (break_told (reply_of_halt x) path) st st
  break-done s h st (halt.Refused r) path = (refl, refl)
  break-done s h st (halt.Fault f events) (Ok None) = (refl, refl)
  break-done s h st (halt.Fault f events) (Ok (Some path)) = (st, [], [], refl, (refl, refl), (refl, refl))
  break-done s h st (halt.Fault f events) (Err e) = (st, [], [], refl, (refl, refl), (refl, refl))

  -- nor to the objects of a host
  pub break-dealt : {P F O : Type 0} (turn_log : F → List Called) (refusals : F → ℕ) (state : O → Watching) (s : StoryTree) (h : Bindings) (st : State) (x : Halt) (path : Result (Option (List ℕ)) E) (desk : DeskView P F O)
      → AreDelivered turn_log refusals state s h [] (break_told (reply_of_halt x) path) st st (break-done s h st x path) desk desk
  break-dealt turn_log refusals state s h st (halt.Refused r) path desk = refl
  break-dealt turn_log refusals state s h st (halt.Fault f events) (Ok None) desk = refl
  break-dealt turn_log refusals state s h st (halt.Fault f events) (Ok (Some path)) desk = refl
  break-dealt turn_log refusals state s h st (halt.Fault f events) (Err e) desk = refl

  -- or of a shelf
  pub break-shelved : (kept : Option (Option (List ℕ))) (x : Halt) (path : Result (Option (List ℕ)) E) → AreShelved kept (break_told (reply_of_halt x) path) kept
  break-shelved kept (halt.Refused r) path = refl
  break-shelved kept (halt.Fault f events) (Ok None) = refl
  break-shelved kept (halt.Fault f events) (Ok (Some path)) = (kept, refl, refl)
  break-shelved kept (halt.Fault f events) (Err e) = (kept, refl, refl)

-- by what was returned
pub told-off : {E : Type 0} (r : Result Told E) (x : E) (ds : List Deed) → r ≡ Err x → (rest : List Deed) × (end : Told) × IsTold told.Stop (ds ++ rest) end → ToldBy r ds
told-off r x ds is h = subst (λ y. ToldBy y ds) (sym is) h

-- ---- the stop

pub stop-none : (saves : Bool) (how : Told) (shown : Result (List Shown) Refusal) (here : Option (List ℕ)) → how ≢ told.Break → false ≡ are_offered shown → here ≡ None → IsStop saves how (stop_told how shown) here
stop-none saves told.Break shown here on none is = absurd (on refl)
stop-none saves told.Stop (Ok []) here on none is = (refl, is)
stop-none saves told.Stop (Ok (choice ∷ choices)) here on none is = absurd (true≢false (sym none))
stop-none saves told.Stop (Err r) here on none is = (refl, is)
stop-none saves told.LooseEnd (Ok []) here on none is = (refl, is)
stop-none saves told.LooseEnd (Ok (choice ∷ choices)) here on none is = absurd (true≢false (sym none))
stop-none saves told.LooseEnd (Err r) here on none is = (refl, is)

pub stop-some : (saves : Bool) (how : Told) (shown : Result (List Shown) Refusal) (ds : List Deed) (here : Option (List ℕ)) → how ≢ told.Break → true ≡ are_offered shown → IsNoted saves ds here
    → IsStop saves how (stop_told how shown ++ ds) here
stop-some saves told.Break shown ds here on some h = absurd (on refl)
stop-some saves told.Stop (Ok []) ds here on some h = absurd (true≢false some)
stop-some saves told.Stop (Ok (choice ∷ choices)) ds here on some h = h
stop-some saves told.Stop (Err r) ds here on some h = absurd (true≢false some)
stop-some saves told.LooseEnd (Ok []) ds here on some h = absurd (true≢false some)
stop-some saves told.LooseEnd (Ok (choice ∷ choices)) ds here on some h = h
stop-some saves told.LooseEnd (Err r) ds here on some h = absurd (true≢false some)

-- where it may not have been shown
pub stop-part : (saves : Bool) (how : Told) (shown : Result (List Shown) Refusal) → how ≢ told.Break → (rest : List Deed) × IsStop saves how (stop_told how shown ++ rest) None
stop-part saves how shown on = by (are_offered shown) refl
  where
    by : (b : Bool) → are_offered shown ≡ b → (rest : List Deed) × IsStop saves how (stop_told how shown ++ rest) None
    by true e = (
      Gives command.Save (Refuses refusal.OutOfMemory) ∷ Says PlaceLacks ∷ [],
      stop-some saves how shown (Gives command.Save (Refuses refusal.OutOfMemory) ∷ Says PlaceLacks ∷ []) None on (sym e) (refl, refl),
    )
    by false e = ([], subst (λ x. IsStop saves how x None) (sym (append-nil (stop_told how shown))) (stop-none saves how shown None on (sym e) refl))

-- there is one, however telling ended
pub any-stop : (saves : Bool) (how : Told) → (rest : List Deed) × IsStop saves how rest None
any-stop saves told.Break = ([], (refl, refl))
any-stop saves told.Stop = (Offers (Ok []) ∷ Says (Stopped told.Stop) ∷ [], (refl, refl))
any-stop saves told.LooseEnd = (Offers (Ok []) ∷ Says (Stopped told.LooseEnd) ∷ [], (refl, refl))
