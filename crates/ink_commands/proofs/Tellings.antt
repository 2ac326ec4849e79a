-- What is told, and to whom.
use Rattle.std.proofs.Common.{◌≡◌, ◌∙◌, ap, refl, subst, ℕ, List, [], ◌∷◌, map, filter, Bool, true, false, ◌&&◌, cond, Ok, Result}
use Rattle.ink_host.proofs.Laws.{grew-none}
use Rattle.ink_host.specs.Desk.{DeskView, Grew, Rows, has_rows, watches}
use Rattle.ink_host.specs.Telling.{IsRound, Watching, log_of}
use Rattle.ink_host.specs.declared.objects.Called.{Called}
use Rattle.ink_model.specs.Variables.Store.{Values, stored}
use Rattle.ink_model.specs.Host.Told.{ToldAs, change_of, is_other, is_told, told}
use Rattle.ink_model.specs.declared.host.Change.{Change}
use Rattle.ink_model.specs.declared.host.Event.{Event}
use Rattle.ink_told.proofs.Telling.{told_nobody}
use Rattle.ink_commands.specs.Telling.{TellsWatchers}

-- all that is told of is watched
pub told-watched : (w : List ℕ → Bool) (start now : Values) → filter (λ c. w c.name) (told w start now) ≡ told w start now
told-watched w start [] = refl
told-watched w start (e ∷ es) = by (w e.0) (is_other (stored e.0 start) e.1) refl (told-watched w start es)
  where
    by : (b o : Bool) → w e.0 ≡ b → filter (λ c. w c.name) (told w start es) ≡ told w start es
        → filter (λ c. w c.name) (map change_of (cond (b && o) (e ∷ filter (is_told w start) es) (filter (is_told w start) es)))
        ≡ map change_of (cond (b && o) (e ∷ filter (is_told w start) es) (filter (is_told w start) es))
    by true true h k =
        ap (λ x. cond x (change_of e ∷ filter (λ c. w c.name) (told w start es)) (filter (λ c. w c.name) (told w start es))) h ∙ ap (λ cs. change_of e ∷ cs) k
    by true false h k = k
    by false o h k = k

-- nothing was told
abbrev pub nobody-told : (n : ℕ) → ToldAs n [] true []
nobody-told n = record { answers = []; one_each = refl; events = refl; all_told = refl }

pub nobody-round : {O : Type 0} (state : O → Watching) (n : ℕ) (rows : Rows O) → IsRound state n [] [] (nobody-told n).answers rows rows
nobody-round state n rows = refl

module _ {P F O : Type 0} (turn_log : F → List Called) (state : O → Watching) where
  -- all that was to be told is watched
  pub tells-all : {E : Type 0} (r : Result Bool E) (d0 d1 : DeskView P F O) (start now : Values) (cs : List Change) → cs ≡ told (watches d0.watchers) start now
      → TellsWatchers turn_log state d0 cs (filter (λ c. watches d0.watchers c.name) cs) r d1
      → (let ds = told (watches d0.watchers) start now in TellsWatchers turn_log state d0 ds ds r d1)
  tells-all r d0 d1 start now cs is tells =
      let w = watches d0.watchers in
      subst (λ ds. TellsWatchers turn_log state d0 (told w start now) ds r d1) (told-watched w start now)
      (subst (λ ds. TellsWatchers turn_log state d0 ds (filter (λ c. w c.name) ds) r d1) is tells)

  -- nobody watches
  pub tells-nobody : (d : DeskView P F O) (start now : Values) → has_rows d.watchers ≡ false
      → (let cs = told (watches d.watchers) start now in TellsWatchers {E = Unit {0}} turn_log state d cs cs (Ok true) d)
  tells-nobody d start now none =
      let one : (t : ToldAs d.next [] true []) × IsRound state d.next [] [] t.answers d.watchers d.watchers = (nobody-told d.next, nobody-round state d.next d.watchers) in
      subst (λ cs. (es : List Event) × (t : ToldAs d.next cs true es) × IsRound state d.next cs cs t.answers d.watchers d.watchers × Grew turn_log (log_of state) d es d)
      (told_nobody d.watchers start now none) ([], one.0, one.1, grew-none turn_log (log_of state) d)
