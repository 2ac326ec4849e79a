-- The deeds for what was typed.
use Rattle.std.proofs.Common.{◌≡◌, ◌∙◌, ◌≤◌, ◌-◌, ℕ, suc, List, [], ◌∷◌, ◌++◌, Bool, true, false, MatchBool, Option, Some, None, is_some, Result, Ok, Err, is_ok, refl, sym, ap, subst, inl, inr, append_assoc, append-nil, true≢false, arith}
use Rattle.std.specs.Option.{option_to_list}
use Rattle.ink_reader.proofs.Common.{Data, Watching, Called, Refused, Refuses, Reply, Saves, SavesItself, Look, NotKept, Told}
use Rattle.serde_json.specs.Read.{read}
use Rattle.serde_json.specs.Written.{compact_text}
use Rattle.ink_model.specs.Protocol.Command as command
use Rattle.ink_model.specs.Protocol.Command.{Command}
use Rattle.ink_model.specs.declared.fault.Refusal.{Refusal}
use Rattle.ink_model.specs.declared.host.Given.{Given}
use Rattle.ink_model.specs.declared.value.Value.{Value}
use Rattle.ink_page.specs.Typed.{Asked}
use Rattle.ink_player.specs.Standing.{PlayerView}
use Rattle.ink_reader.specs.Course.{EndsAt, GoesOn, IsBack, IsBeginning, IsCourse, IsLoading, IsStop, IsTelling, IsTold, Places, Then, UpTo, acts}
use Rattle.ink_reader.specs.Deeds.{Deed, Fetches, Gives, Goes, Offers, Played, Says}
use Rattle.ink_reader.specs.Steps.{IsMissing, NoPlace}
use Rattle.ink_reader.specs.Notices.{Word, LastLacks, Stopped}
use Rattle.ink_reader.specs.declared.telling.Told.TheVariants as told
use Rattle.ink_reader.proofs.Tellings.{any-stop}

-- ---- to its end, or not

pub up-at : {C : List Deed → Places → Type 0} {well : Bool} {new : Places} (ds : List Deed) (end : Places) → end ≡ new → C ds end → UpTo well C ds new
up-at {C} ds end same h = record { rest = []; end = end; course = subst (λ x. C x end) (sym (append-nil ds)) h; whole = λ e. (refl, same) }

pub up-whole : {C : List Deed → Places → Type 0} {well : Bool} {new : Places} (ds : List Deed) → C ds new → UpTo well C ds new
up-whole {new = new} ds h = up-at ds new refl h

pub up-part : {T E : Type 0} {r : Result T E} {x : E} {C : List Deed → Places → Type 0} {ds : List Deed} {new : Places} → r ≡ Err x → (rest : List Deed) × (end : Places) × C (ds ++ rest) end
    → UpTo (is_ok r) C ds new
up-part is h = record { rest = h.0; end = h.1; course = h.2; whole = λ e. absurd (true≢false (sym e ∙ ap is_ok is)) }

-- it was done to its end, and something failed
pub up-lapsed : {T E : Type 0} {r : Result T E} {x : E} {C : List Deed → Places → Type 0} {new : Places} → r ≡ Err x → (ds : List Deed) (end : Places) → C ds end → UpTo (is_ok r) C ds new
up-lapsed {C = C} is ds end h = up-part is ([], end, subst (λ x. C x end) (sym (append-nil ds)) h)

-- the rest of it was done
pub up-behind : {C D : List Deed → Places → Type 0} {well : Bool} {ds : List Deed} {new : Places} (first : List Deed) → ((rest : List Deed) (end : Places) → C rest end → D (first ++ rest) end) → UpTo well C ds new
    → UpTo well D (first ++ ds) new
up-behind {D = D} {ds = ds} first f h = record {
  rest = h.rest;
  end = h.end;
  course = subst (λ x. D x h.end) (sym (append_assoc first ds h.rest)) (f (ds ++ h.rest) h.end h.course);
  whole = h.whole;
}

pub up-lost : {T E : Type 0} {r : Result T E} {x : E} {C : List Deed → Places → Type 0} {well : Bool} {ds : List Deed} {new other : Places} → r ≡ Err x → UpTo well C ds new → UpTo (is_ok r) C ds other
up-lost is h = up-part is (h.rest, h.end, h.course)

pub up-well : {T E : Type 0} {r : Result T E} {x : T} {C : List Deed → Places → Type 0} {ds : List Deed} {new : Places} → r ≡ Ok x → UpTo (is_ok r) C ds new → UpTo true C ds new
up-well {C = C} {ds = ds} {new = new} is h = subst (λ w. UpTo w C ds new) (ap is_ok is) h

-- ---- telling

pub any-telling : (saves : Bool) → (rest : List Deed) × IsTelling saves rest None
any-telling saves = (
  Goes false ∷ Offers (Ok []) ∷ Says (Stopped told.Stop) ∷ [],
  record { lines = Goes false ∷ []; end = told.Stop; rest = Offers (Ok []) ∷ Says (Stopped told.Stop) ∷ []; whole = refl; told = (refl, refl); stop = (refl, refl) },
)

-- lines were told, and not to their end
pub begins-part : (saves : Bool) (old : Places) (ds : List Deed) → (rest : List Deed) × (end : Told) × IsTold told.Stop (ds ++ rest) end → (rest : List Deed) × (end : Places) × IsBeginning saves old (ds ++ rest) end
begins-part saves old ds h =
    let last = any-stop saves h.1 in
    (h.0 ++ last.0, record { before = old.before; here = None }, (refl, record { lines = ds ++ h.0; end = h.1; rest = last.0; whole = sym (append_assoc ds h.0 last.0); told = h.2; stop = last.1 }))

-- they were told to their end, and then what there is at the stop
pub begins : {well : Bool} {ds : List Deed} {new : Places} (saves : Bool) (old : Places) (end : Told) (lines : List Deed) → IsTold told.Stop lines end → new.before ≡ old.before
    → UpTo well (λ rest last. IsStop saves end rest last.here) ds new → UpTo well (IsBeginning saves old) (lines ++ ds) new
begins {ds = ds} {new = new} saves old end lines told same h = record {
  rest = h.rest;
  end = record { before = old.before; here = h.end.here };
  course = (refl, record { lines = lines; end = end; rest = ds ++ h.rest; whole = append_assoc lines ds h.rest; told = told; stop = h.course });
  whole = λ e. ((h.whole e).0, ap (λ x. record { before = old.before; here = x.here }) (h.whole e).1 ∙ ap (λ x. record { before = x; here = new.here }) (sym same));
}

-- where it went on is noted, or it is said that it is not
pub goes-on : {well : Bool} {ds : List Deed} {new : Places} (saves : Bool) (old mid : Places) → mid.before ≡ old.before ++ option_to_list old.here → UpTo well (IsBeginning saves mid) ds new → UpTo well (GoesOn saves old) ds new
goes-on saves old mid is h = record { rest = h.rest; end = h.end; course = inl (h.course.0 ∙ is, h.course.1); whole = h.whole }

pub goes-unnoted : {well : Bool} {ds : List Deed} {new : Places} (saves : Bool) (old mid : Places) → is_some old.here ≡ true → mid.before ≡ old.before → UpTo well (IsBeginning saves mid) ds new → UpTo well (GoesOn saves old) (Says LastLacks ∷ ds) new
goes-unnoted {ds = ds} saves old mid noted is h = record { rest = h.rest; end = h.end; course = inr (noted, ds ++ h.rest, refl, h.course.0 ∙ is, h.course.1); whole = h.whole }

pub goes-part : (saves : Bool) (old : Places) → is_some old.here ≡ true → (rest : List Deed) × (end : Places) × GoesOn saves old (Says LastLacks ∷ rest) end
goes-part saves old noted =
    let more = any-telling saves in (more.0, record { before = old.before; here = None }, inr (noted, more.0, refl, refl, more.1))

any-going : (saves : Bool) (old : Places) → (rest : List Deed) × (end : Places) × GoesOn saves old rest end
any-going saves old = let more = any-telling saves in (more.0, record { before = old.before ++ option_to_list old.here; here = None }, inl (refl, more.1))

-- ---- a command that was given

module _ (k : Command) (reply : Reply) (Behind : List Deed → Type 0) (Stays : Type 0) where
  -- it was done
  pub then-done : (rest : List Deed) → acts reply ≡ true → Behind rest → Then k Behind Stays (Gives k reply ∷ rest)
  then-done rest is h = (reply, rest, refl, subst (λ b. MatchBool b (Behind rest) ((rest ≡ []) × Stays)) (sym is) h)

  -- it was not
  pub then-not : acts reply ≡ false → Stays → Then k Behind Stays (Gives k reply ∷ [])
  then-not is h = let none : List Deed = [] in (reply, none, refl, subst (λ b. MatchBool b (Behind none) ((none ≡ []) × Stays)) (sym is) (refl, h))

-- it is not known which
then-part : (k : Command) (reply : Reply) (old : Places) (Behind : List Deed → Places → Type 0) → (rest : List Deed) × (end : Places) × Behind rest end
    → (rest : List Deed) × (end : Places) × Then k (λ ds. Behind ds end) (end ≡ old) (Gives k reply ∷ rest)
then-part k reply old Behind any = by (acts reply) refl
  where
    by : (b : Bool) → acts reply ≡ b → (rest : List Deed) × (end : Places) × Then k (λ ds. Behind ds end) (end ≡ old) (Gives k reply ∷ rest)
    by true e = (any.0, any.1, then-done k reply (λ ds. Behind ds any.1) (any.1 ≡ old) any.0 e any.2)
    by false e = ([], old, then-not k reply (λ ds. Behind ds old) (old ≡ old) e refl)

-- and then the story goes on
module _ (k : Command) (reply : Reply) (saves : Bool) (old : Places) where
  pub then-goes : {well : Bool} {ds : List Deed} {new : Places} → acts reply ≡ true → UpTo well (GoesOn saves old) ds new
      → UpTo well (λ rest end. Then k (λ behind. GoesOn saves old behind end) (end ≡ old) rest) (Gives k reply ∷ ds) new
  then-goes is h = up-behind (Gives k reply ∷ []) (λ rest end g. then-done k reply (λ behind. GoesOn saves old behind end) (end ≡ old) rest is g) h

  pub then-stays : acts reply ≡ false → Then k (λ behind. GoesOn saves old behind old) (old ≡ old) (Gives k reply ∷ [])
  then-stays is = then-not k reply (λ behind. GoesOn saves old behind old) (old ≡ old) is refl

  pub then-goes-part : (rest : List Deed) × (end : Places) × Then k (λ behind. GoesOn saves old behind end) (end ≡ old) (Gives k reply ∷ rest)
  then-goes-part = then-part k reply old (GoesOn saves old) (any-going saves old)

-- ---- loads

pub loading-not : (saves : Bool) (old : Places) (answer : Result (Option (List ℕ)) NotKept) (word : Word) → IsMissing answer word → IsLoading saves old (Fetches answer ∷ Says word ∷ []) old
loading-not saves old (Ok (Some text)) word h = inr (word, h, refl, refl)
loading-not saves old (Ok None) word h = (ap (λ w. Says w ∷ []) h, refl)
loading-not saves old (Err cause) word h = (ap (λ w. Says w ∷ []) h, refl)

module _ (saves : Bool) (old : Places) (text : List ℕ) (j : Data) (reply : Reply) (is : read text ≡ Some j) where
  pub loading-goes : {well : Bool} {ds : List Deed} {new : Places} → acts reply ≡ true → UpTo well (GoesOn saves old) ds new
      → UpTo well (IsLoading saves old) (Fetches (Ok (Some text)) ∷ Gives (command.Load (Some j)) reply ∷ ds) new
  loading-goes done h =
      up-behind (Fetches (Ok (Some text)) ∷ []) (λ rest end g. inl (j, is, g)) (then-goes (command.Load (Some j)) reply saves old done h)

  pub loading-stays : acts reply ≡ false → IsLoading saves old (Fetches (Ok (Some text)) ∷ Gives (command.Load (Some j)) reply ∷ []) old
  loading-stays not = inl (j, is, then-stays (command.Load (Some j)) reply saves old not)

  pub loading-part : (rest : List Deed) × (end : Places) × IsLoading saves old (Fetches (Ok (Some text)) ∷ Gives (command.Load (Some j)) reply ∷ rest) end
  loading-part = let more = then-goes-part (command.Load (Some j)) reply saves old in (more.0, more.1, inl (j, is, more.2))

-- ---- goes back

pub back-not : (saves : Bool) (old : Places) (word : Word) → NoPlace old.before word → IsBack saves old (Says word ∷ []) old
back-not saves old word (inl h) = inl (h.0, ap (λ w. Says w ∷ []) h.1, refl)
back-not saves old word (inr h) = inr (h.0, h.1, h.2, inr (word, h.3, refl, refl))

module _ (saves : Bool) (old : Places) (earlier : List (List ℕ)) (text : List ℕ) (j : Data) (reply : Reply) (last : old.before ≡ earlier ++ text ∷ []) (is : read text ≡ Some j) where
  pub back-done : {well : Bool} {ds : List Deed} {new : Places} (mid : Places) → acts reply ≡ true → mid.before ≡ earlier → UpTo well (IsBeginning saves mid) ds new
      → UpTo well (IsBack saves old) (Gives (command.Load (Some j)) reply ∷ ds) new
  back-done {ds = ds} mid done same h = record {
    rest = h.rest;
    end = h.end;
    course = inr (
      earlier,
      text,
      last,
      inl (
        j,
        is,
        then-done (command.Load (Some j)) reply (λ rest. (h.end.before ≡ earlier) × IsTelling saves rest h.end.here) (h.end ≡ old) (ds ++ h.rest) done (h.course.0 ∙ same, h.course.1),
      ),
    );
    whole = h.whole;
  }

  pub back-stays : acts reply ≡ false → IsBack saves old (Gives (command.Load (Some j)) reply ∷ []) old
  back-stays not = inr (earlier, text, last, inl (j, is, then-not (command.Load (Some j)) reply (λ rest. (old.before ≡ earlier) × IsTelling saves rest old.here) (old ≡ old) not refl))

  pub back-part : (rest : List Deed) × (end : Places) × IsBack saves old (Gives (command.Load (Some j)) reply ∷ rest) end
  back-part =
      let any = any-telling saves in
      let more = then-part (command.Load (Some j)) reply old (λ rest end. (end.before ≡ earlier) × IsTelling saves rest end.here) (any.0, record { before = earlier; here = None }, (refl, any.1)) in
      (more.0, more.1, inr (earlier, text, last, inl (j, is, more.2)))

-- ---- ends

pub ends-unasked : (saves : Bool) (here : Option (List ℕ)) → saves ≡ false → EndsAt saves here []
ends-unasked saves None is = refl
ends-unasked false (Some place) is = refl
ends-unasked true (Some place) is = absurd (true≢false is)

pub ends-none : (saves : Bool) (here : Option (List ℕ)) → is_some here ≡ false → EndsAt saves here []
ends-none saves None is = refl
ends-none saves (Some place) is = absurd (true≢false is)

module _ (saves : Bool) (here : Option (List ℕ)) (by_itself : saves ≡ true) (there : is_some here ≡ true) where
  ends-at : (ds : List Deed) → ((place : List ℕ) → EndsAt true (Some place) ds) → EndsAt saves here ds
  ends-at ds h = by saves here by_itself there
    where
      by : (b : Bool) (o : Option (List ℕ)) → b ≡ true → is_some o ≡ true → EndsAt b o ds
      by true (Some place) is some = h place
      by false o is some = absurd (true≢false (sym is))
      by true None is some = absurd (true≢false (sym some))

  pub ends-saved : (j : Data) (ds : List Deed) → SavesItself saves (compact_text j) ds → EndsAt saves here (Gives command.Save (Saves j) ∷ ds)
  ends-saved j ds h = ends-at (Gives command.Save (Saves j) ∷ ds) (λ place. subst (λ b. SavesItself b (compact_text j) ds) by_itself h)

  pub ends-refused : (r : Refusal) → EndsAt saves here (Gives command.Save (Refuses r) ∷ Says (Refused r) ∷ [])
  ends-refused r = ends-at (Gives command.Save (Refuses r) ∷ Says (Refused r) ∷ []) (λ place. refl)

-- ---- the number of a choice

pub number-none : (n : ℕ) → (1 ≤ n → ⊥) → n ≡ 0
number-none n h = omega (arith, h)

pub number-some : (n i : ℕ) → 1 ≤ n → n - 1 ≡ i → n ≡ suc i
number-some n i h e = omega arith

-- ---- what was typed

module _ {P F O : Type 0} {meaning : P → List Value → Option Given} {turn_log : F → List Called} {refusals : F → ℕ} {state : O → Watching} {look : Look} where
  -- it was this
  pub goes-as : {b : Asked} {new : Places} {p q : PlayerView P F O} {held held' : Option (List ℕ)} {kept kept' : Option (Option (List ℕ))} {well : Bool} (saves : Bool) (old : Places) (a : Asked) → b ≡ a
      → (ds : List Deed) × UpTo well (IsCourse saves old a) ds new × Played meaning turn_log refusals state look p ds q held held' kept kept' well
      → (ds : List Deed) × UpTo well (IsCourse saves old b) ds new × Played meaning turn_log refusals state look p ds q held held' kept kept' well
  goes-as {new = new} {well = well} saves old a is g = (g.0, subst (λ x. UpTo well (IsCourse saves old x) g.0 new) (sym is) g.1, g.2)
