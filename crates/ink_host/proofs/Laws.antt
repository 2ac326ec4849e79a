-- Laws of what happens between two states of a desk.
use Rattle.std.proofs.Common.{◌≡◌, ◌∙◌, ap, refl, sym, subst, append_assoc, Result, Ok, Err, ℕ, List, [], ◌∷◌, ◌++◌, Bool, true, false, Option, Some, bytes_eq, if◌then◌else◌}
use Rattle.std.proofs.lemmas.List.{append-nil}
use Rattle.std.proofs.lemmas.Slice.Eq.{bytes_eq-Decides}
use Rattle.std.specs.Option.{option_map}
use Rattle.ink_model.specs.Host.Events.{after, later}
use Rattle.ink_model.specs.declared.fault.Fault.{Fault}
use Rattle.ink_model.specs.declared.fault.Fault.TheVariants.{HostRefused, OutOfMemory}
use Rattle.ink_model.specs.declared.host.Event.{Event}
use Rattle.ink_model.specs.declared.host.Event.TheVariants.{Call, Saw}
use Rattle.ink_model.specs.declared.host.Given.{Given}
use Rattle.ink_model.specs.declared.value.Value.{Value}
use Rattle.ink_host.specs.Desk.{DeskView, Grew, IsNumbered, Rows, among, at, bound_by, bound_in, by_log, called, called_by, each, grown, logs, names, pure_of, seen_by, told_of, watches}
use Rattle.ink_host.specs.declared.objects.Bound.{Bound}
use Rattle.ink_host.specs.declared.objects.Bound.TheVariants as bound
use Rattle.ink_host.specs.declared.objects.Called.{Called}
use Rattle.ink_host.specs.declared.telling.TellFault.{TellFault}
use Rattle.ink_host.specs.declared.telling.TellFault.TheVariants.{NoRoom, Watcher}
use Rattle.ink_host.specs.declared.objects.Seen.{Seen}
use Rattle.ink_host.proofs.Entries.{desk_of}

-- ---- events

pub numbered-append : (n : ℕ) (es fs : List Event) → IsNumbered n es → IsNumbered (later n es) fs → IsNumbered n (es ++ fs)
numbered-append n [] fs h k = k
numbered-append n (e ∷ es) fs h k = (h.0, numbered-append (after n) es fs h.1 k)

pub later-append : (n : ℕ) (es fs : List Event) → later n (es ++ fs) ≡ later (later n es) fs
later-append n [] fs = refl
later-append n (e ∷ es) fs = later-append (after n) es fs

cons-if : {X : Type 0} (b : Bool) (x : X) (xs ys zs : List X) → zs ≡ xs ++ ys → (if b then x ∷ zs else zs) ≡ (if b then x ∷ xs else xs) ++ ys
cons-if true x xs ys zs h = ap (λ l. x ∷ l) h
cons-if false x xs ys zs h = h

pub called_by-append : (name : List ℕ) (es fs : List Event) → called_by name (es ++ fs) ≡ called_by name es ++ called_by name fs
called_by-append name [] fs = refl
called_by-append name (Call to arguments gave n ∷ es) fs =
    cons-if (bytes_eq name to) (record { stamp = n; arguments = arguments; gave = gave }) (called_by name es) (called_by name fs) (called_by name (es ++ fs)) (called_by-append name es fs)
called_by-append name (Saw of n v ∷ es) fs = called_by-append name es fs

pub seen_by-append : (name : List ℕ) (es fs : List Event) → seen_by name (es ++ fs) ≡ seen_by name es ++ seen_by name fs
seen_by-append name [] fs = refl
seen_by-append name (Call to arguments gave n ∷ es) fs = seen_by-append name es fs
seen_by-append name (Saw of n v ∷ es) fs =
    cons-if (bytes_eq name of) (record { stamp = n; name = of; value = v }) (seen_by name es) (seen_by name fs) (seen_by name (es ++ fs)) (seen_by-append name es fs)

-- ---- rows

pub at-each : {X Y : Type 0} (change : List ℕ → X → Y) (name : List ℕ) (rows : Rows X) → at name (each change rows) ≡ option_map (change name) (at name rows)
at-each change name [] = refl
at-each change name (r ∷ rows) = by (bytes_eq name r.0) refl (at-each change name rows)
  where
    by : (b : Bool) → bytes_eq name r.0 ≡ b → at name (each change rows) ≡ option_map (change name) (at name rows)
        → (if b then Some (change r.0 r.1) else at name (each change rows)) ≡ option_map (change name) (if b then Some r.1 else at name rows)
    by true is h = ap (λ k. Some (change k r.1)) (sym ((bytes_eq-Decides name r.0).0 is))
    by false is h = h

pub names-each : {X Y : Type 0} (change : List ℕ → X → Y) (rows : Rows X) → names (each change rows) ≡ names rows
names-each change [] = refl
names-each change (r ∷ rows) = ap (λ ns. r.0 ∷ ns) (names-each change rows)

module _ {P : Type 0} where
  uncalled-one : (name : List ℕ) (b : Bound P (List Called)) → b ≡ called [] name b
  uncalled-one name (bound.Pure p) = refl
  uncalled-one name (bound.Turn l) = ap (λ m. bound.Turn m) (sym (append-nil l))

  abbrev front : List ℕ → Bound P (List Called) → Rows (Bound P (List Called)) → Rows (Bound P (List Called))
  front k b rows = (k, b) ∷ rows

  pub uncalled : (rows : Rows (Bound P (List Called))) → rows ≡ each (called []) rows
  uncalled [] = refl
  uncalled (r ∷ rows) = ap (λ b. front r.0 b rows) (uncalled-one r.0 r.1) ∙ ap (front r.0 (called [] r.0 r.1)) (uncalled rows)

  called-one : (es fs : List Event) (name : List ℕ) (b : Bound P (List Called)) → called fs name (called es name b) ≡ called (es ++ fs) name b
  called-one es fs name (bound.Pure p) = refl
  called-one es fs name (bound.Turn l) =
      ap (λ m. bound.Turn m) (append_assoc l (called_by name es) (called_by name fs) ∙ ap (λ m. l ++ m) (sym (called_by-append name es fs)))

  pub called-called : (es fs : List Event) (rows : Rows (Bound P (List Called))) → each (called fs) (each (called es) rows) ≡ each (called (es ++ fs)) rows
  called-called es fs [] = refl
  called-called es fs (r ∷ rows) =
      ap (λ b. front r.0 b (each (called fs) (each (called es) rows))) (called-one es fs r.0 r.1)
      ∙ ap (front r.0 (called (es ++ fs) r.0 r.1)) (called-called es fs rows)

  pure-called : (es : List Event) (name : List ℕ) (b : Bound P (List Called)) → pure_of (called es name b) ≡ pure_of b
  pure-called es name (bound.Pure p) = refl
  pure-called es name (bound.Turn l) = refl

  abbrev before : List ℕ → Option P → Rows (Option P) → Rows (Option P)
  before k o rows = (k, o) ∷ rows

  pures-called : (es : List Event) (rows : Rows (Bound P (List Called))) → each (λ n b. pure_of b) (each (called es) rows) ≡ each (λ n b. pure_of b) rows
  pures-called es [] = refl
  pures-called es (r ∷ rows) =
      ap (λ o. before r.0 o (each (λ n b. pure_of b) (each (called es) rows))) (pure-called es r.0 r.1) ∙ ap (before r.0 (pure_of r.1)) (pures-called es rows)

  pure-log : {T : Type 0} (log : T → List Called) (b : Bound P T) → pure_of (by_log log b) ≡ pure_of b
  pure-log log (bound.Pure p) = refl
  pure-log log (bound.Turn t) = refl

  pures-logs : {T : Type 0} (log : T → List Called) (rows : Rows (Bound P T)) → each (λ n b. pure_of b) (logs log rows) ≡ each (λ n b. pure_of b) rows
  pures-logs log [] = refl
  pures-logs log (r ∷ rows) =
      ap (λ o. before r.0 o (each (λ n b. pure_of b) (logs log rows))) (pure-log log r.1) ∙ ap (before r.0 (pure_of r.1)) (pures-logs log rows)

abbrev heard : List ℕ → List Seen → Rows (List Seen) → Rows (List Seen)
heard k l rows = (k, l) ∷ rows

pub untold : (rows : Rows (List Seen)) → rows ≡ grown [] rows
untold [] = refl
untold (r ∷ rows) = ap (λ l. heard r.0 l rows) (sym (append-nil r.1)) ∙ ap (heard r.0 (r.1 ++ [])) (untold rows)

pub told-told : (es fs : List Event) (rows : Rows (List Seen)) → grown fs (grown es rows) ≡ grown (es ++ fs) rows
told-told es fs [] = refl
told-told es fs (r ∷ rows) =
    ap (λ l. heard r.0 l (grown fs (grown es rows))) (append_assoc r.1 (seen_by r.0 es) (seen_by r.0 fs) ∙ ap (λ m. r.1 ++ m) (sym (seen_by-append r.0 es fs)))
    ∙ ap (heard r.0 (r.1 ++ seen_by r.0 (es ++ fs))) (told-told es fs rows)

longer : (l : List Called) (c : Called) → l ≡ l ++ c ∷ [] → ⊥
longer [] c h = absurd (cc)
longer (d ∷ l) c h = longer l c (cc)

more : {P : Type 0} (l : List Called) (name : List ℕ) (arguments : List Value) (gave : Option Given) (n : ℕ)
    → ◌≡◌ {A = Option (Bound P (List Called))} (Some (bound.Turn l)) (Some (bound.Turn (l ++ called_by name (Call name arguments gave n ∷ [])))) → ⊥
more {P} l name arguments gave n h = by (bytes_eq name name) ((bytes_eq-Decides name name).1 refl) h
  where
    by : (b : Bool) → b ≡ true
        → ◌≡◌ {A = Option (Bound P (List Called))} (Some (bound.Turn l)) (Some (bound.Turn (l ++ (if b then (record { stamp = n; arguments = arguments; gave = gave }) ∷ [] else [])))) → ⊥
    by true is k = let one : Called = record { stamp = n; arguments = arguments; gave = gave } in longer l one (cc)
    by false is k = absurd (cc)

-- ---- growing

module _ {P T W : Type 0} (turn_log : T → List Called) (watch_log : W → List Seen) where
  -- nothing happened
  pub grew-none : (a : DeskView P T W) → Grew turn_log watch_log a [] a
  grew-none a = record {
    events = sym (append-nil a.events);
    numbered = tt;
    next = refl;
    functions = uncalled (logs turn_log a.functions);
    watchers = untold (each (λ n w. watch_log w) a.watchers);
  }

  -- first these events, then those
  pub grew-grew : (a b c : DeskView P T W) (es fs : List Event)
      → Grew turn_log watch_log a es b → Grew turn_log watch_log b fs c → Grew turn_log watch_log a (es ++ fs) c
  grew-grew a b c es fs g h = record {
    events = h.events ∙ ap (λ xs. xs ++ fs) g.events ∙ append_assoc a.events es fs;
    numbered = numbered-append a.next es fs g.numbered (let N : ℕ → Type 0 = λ n. IsNumbered n fs in subst N g.next h.numbered);
    next = h.next ∙ ap (λ n. later n fs) g.next ∙ sym (later-append a.next es fs);
    functions = h.functions ∙ ap (each (called fs)) g.functions ∙ called-called es fs (logs turn_log a.functions);
    watchers = h.watchers ∙ ap (grown fs) g.watchers ∙ told-told es fs (each (λ n w. watch_log w) a.watchers);
  }

  -- names stay bound as they are
  pub bound-same : (meaning : P → List Value → Option Given) (a b : DeskView P T W) (es : List Event)
      → Grew turn_log watch_log a es b → bound_by meaning b.functions ≡ bound_by meaning a.functions
  bound-same meaning a b es g =
      ap (bound_in meaning) (sym (pures-logs turn_log b.functions) ∙ ap (each (λ n b. pure_of b)) g.functions
      ∙ pures-called es (logs turn_log a.functions) ∙ pures-logs turn_log a.functions)

  -- the same globals are watched
  pub watches-same : (a b : DeskView P T W) (es : List Event) → Grew turn_log watch_log a es b → watches b.watchers ≡ watches a.watchers
  watches-same a b es g =
      ap among (sym (names-each (λ n w. watch_log w) b.watchers) ∙ ap names g.watchers
      ∙ names-each (told_of es) (each (λ n w. watch_log w) a.watchers) ∙ names-each (λ n w. watch_log w) a.watchers)

  -- one call, of which the functions know
  pub grew-call : (a d : DeskView P T W) (fs : Rows (Bound P T)) (before items : List Event) (next : ℕ)
      (noted name : List ℕ) (copies arguments : List Value) (gave : Option Given)
      → a ≡ d → noted ≡ name → copies ≡ arguments → before ≡ a.events → items ≡ before ++ Call noted copies gave a.next ∷ [] → next ≡ after a.next
      → logs turn_log fs ≡ each (called (Call name arguments gave a.next ∷ [])) (logs turn_log a.functions)
      → Grew turn_log watch_log d (Call name arguments gave d.next ∷ []) (desk_of fs a.watchers items next)
  grew-call a d fs before items next noted name copies arguments gave is same copied kept more counted functions =
      let From : DeskView P T W → Type 0 = λ v. Grew turn_log watch_log v (Call name arguments gave v.next ∷ []) (desk_of fs a.watchers items next) in
      subst From is record {
        events = more ∙ ap (λ es. es ++ Call noted copies gave a.next ∷ []) kept
            ∙ ap (λ n. a.events ++ Call n copies gave a.next ∷ []) same ∙ ap (λ l. a.events ++ Call name l gave a.next ∷ []) copied;
        numbered = (refl, tt);
        next = counted;
        functions = functions;
        watchers = untold (each (λ n w. watch_log w) a.watchers);
      }

  -- nothing but the functions is another, and they know of nothing new
  pub grew-quiet : (a d : DeskView P T W) (fs : Rows (Bound P T)) (items : List Event) → a ≡ d → items ≡ a.events
      → logs turn_log fs ≡ logs turn_log a.functions → Grew turn_log watch_log d [] (desk_of fs a.watchers items a.next)
  grew-quiet a d fs items is kept functions =
      let From : DeskView P T W → Type 0 = λ v. Grew turn_log watch_log v [] (desk_of fs a.watchers items a.next) in
      subst From is record {
        events = kept ∙ sym (append-nil a.events);
        numbered = tt;
        next = refl;
        functions = functions ∙ uncalled (logs turn_log a.functions);
        watchers = untold (each (λ n w. watch_log w) a.watchers);
      }

-- ---- what a call gave

pub succeeded : {A F : Type 0} (a : A) (f : F) → Ok a ≡ Err f → ⊥
succeeded a f is = absurd (cc)

pub failed : {A F : Type 0} (a : A) (f : F) → Err f ≡ Ok a → ⊥
failed a f is = absurd (cc)

pub same_given : {A F : Type 0} (r : Result A F) (a b : A) → r ≡ Ok a → r ≡ Ok b → a ≡ b
same_given r a b is its = cc

-- a call that was refused was not short of memory
pub not_short : {A : Type 0} (r : Result A Fault) → r ≡ Err HostRefused → r ≡ Err OutOfMemory → ⊥
not_short r is its = absurd (cc)

-- who watches refused, which is not for want of room
pub has_room : {A : Type 0} (r : Result A TellFault) → r ≡ Err Watcher → r ≡ Err NoRoom → ⊥
has_room r is its = absurd (cc)
