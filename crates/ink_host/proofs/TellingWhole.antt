-- A whole telling.
use Rattle.std.proofs.Common.{◌≡◌, ◌∙◌, refl, sym, ap, ℕ, List, [], ◌∷◌, ◌++◌, length, Bool, arith, String, Global, string_bytes}
use Rattle.std.proofs.lemmas.List.{append-nil}
use Rattle.ink_model.specs.Host.Events.{later}
use Rattle.ink_model.specs.declared.host.Event.{Event}
use Rattle.ink_host.specs.declared.objects.Bound.{Bound}
use Rattle.ink_host.specs.declared.objects.Bound.TheVariants.{Pure, Turn}
use Rattle.ink_host.specs.declared.objects.Called.{Called}
use Rattle.ink_model.specs.declared.host.Change.{Change}
use Rattle.ink_host.specs.Desk.{Rows, DeskView, Grew, called, called_by, each, grown, logs, entries_as_rows}
use Rattle.ink_host.specs.Telling.{Watching, log_of, round, standing}
use Rattle.ink_model.specs.Host.Told.{ToldAs}
use Rattle.ink_host.proofs.TellingLoops.{logs-round, logs-standing, saws-call, tells-numbered}

pub no_items : {X : Type 0} (xs : List X) → length xs ≡ 0 → xs ≡ []
no_items [] h = refl
no_items (x ∷ xs) h = absurd (omega arith)

called-none : {P : Type 0} (es : List Event) → ((n : List ℕ) → called_by n es ≡ []) → (rows : Rows (Bound P (List Called))) → rows ≡ each (called es) rows
called-none {P} es none [] = refl
called-none {P} es none (r ∷ rows) = ap (λ b. (r.0, b) ∷ rows) (by r.1) ∙ ap (λ rs. (r.0, called es r.0 r.1) ∷ rs) (called-none es none rows)
  where
    by : (b : Bound P (List Called)) → b ≡ called es r.0 b
    by (Pure p) = refl
    by (Turn log) = ap (λ l. Turn l) (sym (ap (λ xs. log ++ xs) (none r.0) ∙ append-nil log))

module _ {P T W : Type 0} (turn_log : T → List Called) (state : W → Watching) where
  abbrev pub view : Rows (Bound P T) → List (String Global × W) → List Event → ℕ → DeskView P T W
  view functions entries events next = record { functions = functions; watchers = entries_as_rows string_bytes (λ w. w) entries; events = events; next = next }

  pub grew-told : (functions : Rows (Bound P T)) (first last : List (String Global × W)) (old new : List Event) (n next : ℕ) (cs told : List Change) (done : Bool) (es : List Event)
      → (t : ToldAs n told done es) → new ≡ old ++ es → next ≡ later n es
      → standing string_bytes state last ≡ round n cs told t.answers (standing string_bytes state first)
      → Grew turn_log (log_of state) (view functions first old n) es (view functions last new next)
  grew-told functions first last old new n next cs told done es t e k rows = record {
    events = e;
    numbered = tells-numbered n told done es t;
    next = k;
    functions = called-none es (λ name. ap (called_by name) t.events ∙ saws-call n told t.answers name) (logs turn_log functions);
    watchers = sym (logs-standing state last) ∙ ap (each (λ n s. s.log)) rows ∙ logs-round n cs told t.answers (standing string_bytes state first)
        ∙ ap (λ fs. grown fs (each (λ n s. s.log) (standing string_bytes state first))) (sym t.events)
        ∙ ap (grown es) (logs-standing state first);
  }
