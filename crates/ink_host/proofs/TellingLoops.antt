-- Changes told one after another.
use Rattle.std.proofs.Common.{◌≡◌, ◌≢◌, ◌∙◌, refl, sym, ap, ℕ, zero, suc, ◌+◌, ◌<◌, List, [], ◌∷◌, ◌++◌, length, map, take, get_or, filter, Bool, true, false, cond, ◌||◌, ◌&&◌, if◌then◌else◌, bytes_eq, is_some, not, append_assoc, subst, Some, String, Global, string_bytes, arith}
use Rattle.std.specs.List.{list_all}
use Rattle.std.specs.Map.{lookup}
use Rattle.std.proofs.lemmas.List.{append-nil, take_more}
use Rattle.std.proofs.lemmas.List.Elements.{filter-append}
use Rattle.ink_model.specs.Host.Events.{after, later}
use Rattle.ink_model.specs.declared.host.Event.{Event}
use Rattle.ink_model.specs.declared.host.Event.TheVariants.{Saw}
use Rattle.ink_host.specs.declared.objects.Seen.{Seen}
use Rattle.ink_model.specs.declared.host.Change.{Change}
use Rattle.ink_host.specs.Desk.{Rows, IsNumbered, called_by, each, grown, seen_by, entries_as_rows, told_of, watches}
use Rattle.ink_host.specs.Telling.{Watching, Stand, begun, change, round_ended, heard, in_turn, log_of, named, refused, round, standing, change_taken}
use Rattle.ink_model.specs.Host.Told.{ToldAs, saws}
use Rattle.ink_host.proofs.TellingRows.{each-each, each-same, other_name, same_name, stand-each, stand-fewer}
use Rattle.ink_host.proofs.Laws.{seen_by-append}
use Rattle.std.proofs.lemmas.Slice.Eq.{bytes_eq-Decides}
use Rattle.ink_model.specs.declared.value.Value.{Value}

or_false : (b : Bool) → (b || false) ≡ b
or_false true = refl
or_false false = refl

pub and_true : (b : Bool) → (b && true) ≡ b
and_true true = refl
and_true false = refl

-- ---- names of changes

-- the change at an index is among them
pub named_at : (n : List ℕ) (cs : List Change) (i : ℕ) (d : Change) → i < length cs → bytes_eq (get_or cs i d).name n ≡ true → named n cs ≡ true
named_at n [] i d h e = absurd (omega arith)
named_at n (c ∷ cs) zero d h e = ap (λ b. b || named n cs) e
named_at n (c ∷ cs) (suc i) d h e = by (bytes_eq c.name n) (named_at n cs i d (omega arith) e)
  where
    by : (b : Bool) → named n cs ≡ true → (b || named n cs) ≡ true
    by true more = refl
    by false more = more

pub named-filter : (test : Change → Bool) (cs : List Change) (n : List ℕ) → named n (filter test cs) ≡ true → named n cs ≡ true
named-filter test [] n h = h
named-filter test (c ∷ cs) n h = by (test c) (named-filter test cs n) h
  where
    under : (b : Bool) → (named n (filter test cs) ≡ true → named n cs ≡ true) → (b || named n (filter test cs)) ≡ true → (b || named n cs) ≡ true
    under true more k = refl
    under false more k = more k

    after_all : (b : Bool) → named n cs ≡ true → (b || named n cs) ≡ true
    after_all true k = refl
    after_all false k = k

    by : (t : Bool) → (named n (filter test cs) ≡ true → named n cs ≡ true) → named n (cond t (c ∷ filter test cs) (filter test cs)) ≡ true → (bytes_eq c.name n || named n cs) ≡ true
    by true more k = under (bytes_eq c.name n) more k
    by false more k = after_all (bytes_eq c.name n) (more k)

-- ---- who is at rest

or_assoc : (a b c : Bool) → (a || (b || c)) ≡ ((a || b) || c)
or_assoc true b c = refl
or_assoc false b c = refl

-- those that are brought to a state of rest are in it
pub stand-turn : (b : Bool) (f : Watching → Watching) → ((s : Watching) → (f s).resting ≡ b) → (cs : List Change) (test : List ℕ → Bool) (rows : Rows Watching)
    → Stand test b rows → Stand (λ n. test n || named n cs) b (in_turn f cs rows)
stand-turn b f h [] test rows a = stand-fewer test (λ n. test n || false) b rows (λ n t. sym (or_false (test n)) ∙ t) a
stand-turn b f h (c ∷ cs) test rows a =
    let wider : List ℕ → Bool = λ n. test n || bytes_eq c.name n in
    stand-fewer (λ n. wider n || named n cs) (λ n. test n || (bytes_eq c.name n || named n cs)) b (in_turn f cs (change c.name f rows))
    (λ n t. sym (or_assoc (test n) (bytes_eq c.name n) (named n cs)) ∙ t)
    (stand-turn b f h cs wider (change c.name f rows)
    (stand-each test wider b b (λ m s. if bytes_eq c.name m then f s else s) rows (λ n s over old. by n s (test n) (bytes_eq c.name n) over old) a))
  where
    by : (n : List ℕ) (s : Watching) (t e : Bool) → (t || e) ≡ true → (t ≡ true → s.resting ≡ b) → (if e then f s else s).resting ≡ b
    by n s t true over old = h s
    by n s true false over old = old refl
    by n s false false over old = absurd (cc)

-- and those that are not named keep theirs
pub stand-others : (b : Bool) (f : Watching → Watching) (cs : List Change) (test : List ℕ → Bool) (rows : Rows Watching)
    → Stand test b rows → Stand (λ n. test n && not (named n cs)) b (in_turn f cs rows)
stand-others b f [] test rows a = stand-fewer test (λ n. test n && true) b rows (λ n t. sym (and_true (test n)) ∙ t) a
stand-others b f (c ∷ cs) test rows a =
    let fewer : List ℕ → Bool = λ n. test n && not (bytes_eq c.name n) in
    stand-fewer (λ n. fewer n && not (named n cs)) (λ n. test n && not (bytes_eq c.name n || named n cs)) b (in_turn f cs (change c.name f rows))
    (λ n t. same (test n) (bytes_eq c.name n) (named n cs) ∙ t)
    (stand-others b f cs fewer (change c.name f rows)
    (stand-each test fewer b b (λ m s. if bytes_eq c.name m then f s else s) rows (λ n s over old. by n s (test n) (bytes_eq c.name n) over old) a))
  where
    same : (t e m : Bool) → ((t && not e) && not m) ≡ (t && not (e || m))
    same true true m = refl
    same true false m = refl
    same false e m = refl

    by : (n : List ℕ) (s : Watching) (t e : Bool) → (t && not e) ≡ true → (t ≡ true → s.resting ≡ b) → (if e then f s else s).resting ≡ b
    by n s true true over old = absurd (cc)
    by n s true false over old = old refl
    by n s false e over old = absurd (cc)

-- what is told changes nobody's rest
pub stand-change : (test : List ℕ → Bool) (b : Bool) (n : List ℕ) (f : Watching → Watching) → ((s : Watching) → (f s).resting ≡ s.resting) → (rows : Rows Watching)
    → Stand test b rows → Stand test b (change n f rows)
stand-change test b n f h rows a = stand-each test test b b (λ m s. if bytes_eq n m then f s else s) rows (λ m s over old. by s (bytes_eq n m) (old over)) a
  where
    by : (s : Watching) (e : Bool) → s.resting ≡ b → (if e then f s else s).resting ≡ b
    by s true old = h s ∙ old
    by s false old = old

pub stand-heard : (test : List ℕ → Bool) (b : Bool) (n : ℕ) (cs : List Change) (answers : List Bool) (rows : Rows Watching) → Stand test b rows → Stand test b (heard n cs answers rows)
stand-heard test b n [] answers rows a = a
stand-heard test b n (c ∷ cs) [] rows a = a
stand-heard test b n (c ∷ cs) (true ∷ answers) rows a =
    let sight : Seen = record { stamp = n; name = c.name; value = c.value } in
    stand-heard test b (after n) cs answers (change c.name (change_taken sight) rows) (stand-change test b c.name (change_taken sight) (λ s. refl) rows a)
stand-heard test b n (c ∷ cs) (false ∷ answers) rows a =
    stand-heard test b n cs answers (change c.name refused rows) (stand-change test b c.name refused (λ s. refl) rows a)

-- the one that is told next was begun
pub stand-told : (b : Bool) (cs : List Change) (i : ℕ) (c : Change) (rows : Rows Watching) → i < length cs → c ≡ get_or cs i c
    → Stand (λ n. named n cs) b rows → Stand (bytes_eq c.name) b rows
stand-told b cs i c rows h is a =
    stand-fewer (λ n. named n cs) (bytes_eq c.name) b rows (λ n here. named_at n cs i c h (ap (λ x. bytes_eq x.name n) (sym is) ∙ here)) a

-- nobody is asked about
stand-nobody : (b : Bool) (rows : Rows Watching) → Stand (λ n. false) b rows
stand-nobody b [] = tt
stand-nobody b (r ∷ rows) = (λ t. absurd (cc), stand-nobody b rows)

-- all that are named are begun
pub stand-begun : (cs : List Change) (over : List ℕ → Bool) → ((n : List ℕ) → over n ≡ true → named n cs ≡ true) → (rows : Rows Watching) → Stand over false (in_turn begun cs rows)
stand-begun cs over h rows =
    stand-fewer (λ n. false || named n cs) over false (in_turn begun cs rows) h (stand-turn false begun (λ s. refl) cs (λ n. false) rows (stand-nobody false rows))

-- a round leaves all at rest where all were
pub stand-round : (n : ℕ) (cs told : List Change) (answers : List Bool) (rows : Rows Watching) → Stand (λ m. true) true rows → Stand (λ m. true) true (round n cs told answers rows)
stand-round n cs told answers rows a =
    stand-fewer (λ m. not (named m cs) || named m cs) (λ m. true) true (round n cs told answers rows) (λ m t. either (named m cs))
    (stand-turn true round_ended (λ s. refl) cs (λ m. not (named m cs)) (heard n told answers (in_turn begun cs rows))
    (stand-heard (λ m. not (named m cs)) true n told answers (in_turn begun cs rows) (stand-others true begun cs (λ m. true) rows a)))
  where
    either : (b : Bool) → (not b || b) ≡ true
    either true = refl
    either false = refl

-- ---- what they were told

logs-change : (n : List ℕ) (f : Watching → Watching) → ((s : Watching) → (f s).log ≡ s.log) → (rows : Rows Watching) → each (λ m s. s.log) (change n f rows) ≡ each (λ m s. s.log) rows
logs-change n f h rows =
    each-each (λ m s. s.log) (λ m s. if bytes_eq n m then f s else s) rows
    ∙ each-same (λ m s. (if bytes_eq n m then f s else s).log) (λ m s. s.log) (λ m s. by s (bytes_eq n m)) rows
  where
    by : (s : Watching) (e : Bool) → (if e then f s else s).log ≡ s.log
    by s true = h s
    by s false = refl

logs-turn : (f : Watching → Watching) → ((s : Watching) → (f s).log ≡ s.log) → (cs : List Change) (rows : Rows Watching) → each (λ m s. s.log) (in_turn f cs rows) ≡ each (λ m s. s.log) rows
logs-turn f h [] rows = refl
logs-turn f h (c ∷ cs) rows = logs-turn f h cs (change c.name f rows) ∙ logs-change c.name f h rows

logs-taken : (n : List ℕ) (stamp : ℕ) (v : Value) (rows : Rows Watching)
    → each (λ m s. s.log) (change n (change_taken (record { stamp = stamp; name = n; value = v })) rows) ≡ grown (Saw n stamp v ∷ []) (each (λ m s. s.log) rows)
logs-taken n stamp v rows =
    each-each (λ m s. s.log) (λ m s. if bytes_eq n m then change_taken (record { stamp = stamp; name = n; value = v }) s else s) rows
    ∙ each-same (λ m s. (if bytes_eq n m then change_taken (record { stamp = stamp; name = n; value = v }) s else s).log) (λ m s. told_of (Saw n stamp v ∷ []) m s.log) (λ m s. by m s (bytes_eq n m) refl) rows
    ∙ sym (each-each (told_of (Saw n stamp v ∷ [])) (λ m s. s.log) rows)
  where
    by : (m : List ℕ) (s : Watching) (e : Bool) → bytes_eq n m ≡ e
        → (if e then change_taken (record { stamp = stamp; name = n; value = v }) s else s).log ≡ s.log ++ (if bytes_eq m n then (record { stamp = stamp; name = n; value = v }) ∷ [] else [])
    by m s true is =
        let back : bytes_eq m n ≡ true = (bytes_eq-Decides m n).1 (sym (same_name n m is)) in
        ap (λ b. s.log ++ (if b then (record { stamp = stamp; name = n; value = v }) ∷ [] else [])) (sym back)
    by m s false is = sym (append-nil s.log) ∙ ap (λ b. s.log ++ (if b then (record { stamp = stamp; name = n; value = v }) ∷ [] else [])) (sym (other_name n m is))

grown-grown : (es fs : List Event) (rows : Rows (List Seen)) → grown fs (grown es rows) ≡ grown (es ++ fs) rows
grown-grown es fs rows =
    each-each (told_of fs) (told_of es) rows
    ∙ each-same (λ m l. (l ++ seen_by m es) ++ seen_by m fs) (told_of (es ++ fs)) (λ m l. append_assoc l (seen_by m es) (seen_by m fs) ∙ ap (λ xs. l ++ xs) (sym (seen_by-append m es fs))) rows

pub grown-none : (rows : Rows (List Seen)) → rows ≡ grown [] rows
grown-none [] = refl
grown-none (r ∷ rows) = ap (λ l. (r.0, l) ∷ rows) (sym (append-nil r.1)) ∙ ap (λ rs. (r.0, r.1 ++ []) ∷ rs) (grown-none rows)

pub logs-heard : (n : ℕ) (cs : List Change) (answers : List Bool) (rows : Rows Watching) → each (λ m s. s.log) (heard n cs answers rows) ≡ grown (saws n cs answers) (each (λ m s. s.log) rows)
logs-heard n [] answers rows = grown-none (each (λ m s. s.log) rows)
logs-heard n (c ∷ cs) [] rows = grown-none (each (λ m s. s.log) rows)
logs-heard n (c ∷ cs) (true ∷ answers) rows =
    logs-heard (after n) cs answers (change c.name (change_taken (record { stamp = n; name = c.name; value = c.value })) rows)
    ∙ ap (grown (saws (after n) cs answers)) (logs-taken c.name n c.value rows)
    ∙ grown-grown (Saw c.name n c.value ∷ []) (saws (after n) cs answers) (each (λ m s. s.log) rows)
logs-heard n (c ∷ cs) (false ∷ answers) rows =
    logs-heard n cs answers (change c.name refused rows) ∙ ap (grown (saws n cs answers)) (logs-change c.name refused (λ s. refl) rows)

pub logs-round : (n : ℕ) (cs told : List Change) (answers : List Bool) (rows : Rows Watching) → each (λ m s. s.log) (round n cs told answers rows) ≡ grown (saws n told answers) (each (λ m s. s.log) rows)
logs-round n cs told answers rows =
    logs-turn round_ended (λ s. refl) cs (heard n told answers (in_turn begun cs rows))
    ∙ logs-heard n told answers (in_turn begun cs rows)
    ∙ ap (grown (saws n told answers)) (logs-turn begun (λ s. refl) cs rows)

-- one change more
pub heard-taken : (n : ℕ) (cs : List Change) (bs : List Bool) (c : Change) (rows : Rows Watching) → length bs ≡ length cs
    → change c.name (change_taken (record { stamp = later n (saws n cs bs); name = c.name; value = c.value })) (heard n cs bs rows) ≡ heard n (cs ++ c ∷ []) (bs ++ true ∷ []) rows
heard-taken n [] [] c rows h = refl
heard-taken n [] (a ∷ bs) c rows h = absurd (omega arith)
heard-taken n (d ∷ cs) [] c rows h = absurd (omega arith)
heard-taken n (d ∷ cs) (true ∷ bs) c rows h = heard-taken (after n) cs bs c (change d.name (change_taken (record { stamp = n; name = d.name; value = d.value })) rows) (omega arith)
heard-taken n (d ∷ cs) (false ∷ bs) c rows h = heard-taken n cs bs c (change d.name refused rows) (omega arith)

pub heard-refused : (n : ℕ) (cs : List Change) (bs : List Bool) (c : Change) (rows : Rows Watching) → length bs ≡ length cs
    → change c.name refused (heard n cs bs rows) ≡ heard n (cs ++ c ∷ []) (bs ++ false ∷ []) rows
heard-refused n [] [] c rows h = refl
heard-refused n [] (a ∷ bs) c rows h = absurd (omega arith)
heard-refused n (d ∷ cs) [] c rows h = absurd (omega arith)
heard-refused n (d ∷ cs) (true ∷ bs) c rows h = heard-refused (after n) cs bs c (change d.name (change_taken (record { stamp = n; name = d.name; value = d.value })) rows) (omega arith)
heard-refused n (d ∷ cs) (false ∷ bs) c rows h = heard-refused n cs bs c (change d.name refused rows) (omega arith)

-- the states of a map's watchers
pub states-standing : {W : Type 0} (state : W → Watching) (es : List (String Global × W)) → each (λ n w. state w) (entries_as_rows string_bytes (λ w. w) es) ≡ standing string_bytes state es
states-standing state [] = refl
states-standing state (e ∷ es) = ap (λ rs. (string_bytes e.0, state e.1) ∷ rs) (states-standing state es)

pub logs-standing : {W : Type 0} (state : W → Watching) (es : List (String Global × W))
    → each (λ n s. s.log) (standing string_bytes state es) ≡ each (λ n w. log_of state w) (entries_as_rows string_bytes (λ w. w) es)
logs-standing state [] = refl
logs-standing state (e ∷ es) = ap (λ rs. (string_bytes e.0, (state e.1).log) ∷ rs) (logs-standing state es)

-- ---- events

pub saws-more : (n : ℕ) (cs : List Change) (bs : List Bool) (c : Change) (b : Bool) → length bs ≡ length cs
    → saws n (cs ++ c ∷ []) (bs ++ b ∷ []) ≡ saws n cs bs ++ (if b then Saw c.name (later n (saws n cs bs)) c.value ∷ [] else [])
saws-more n [] [] c true h = refl
saws-more n [] [] c false h = refl
saws-more n [] (a ∷ bs) c b h = absurd (omega arith)
saws-more n (d ∷ cs) [] c b h = absurd (omega arith)
saws-more n (d ∷ cs) (true ∷ bs) c b h = ap (λ es. Saw d.name n d.value ∷ es) (saws-more (after n) cs bs c b (omega arith))
saws-more n (d ∷ cs) (false ∷ bs) c b h = saws-more n cs bs c b (omega arith)

pub all-more : (bs : List Bool) (b : Bool) → list_all (λ b. b) (bs ++ b ∷ []) ≡ (list_all (λ b. b) bs && b)
all-more [] true = refl
all-more [] false = refl
all-more (true ∷ bs) b = all-more bs b
all-more (false ∷ bs) b = refl

pub and_false : (b : Bool) → (b && false) ≡ false
and_false true = refl
and_false false = refl

pub length-more : {X : Type 0} (xs : List X) (x : X) → length (xs ++ x ∷ []) ≡ length xs + 1
length-more [] x = refl
length-more (y ∷ xs) x = omega (arith, length-more xs x)

pub later-more : (n : ℕ) (es : List Event) (e : Event) → later n (es ++ e ∷ []) ≡ after (later n es)
later-more n [] e = refl
later-more n (f ∷ es) e = later-more (after n) es e

abbrev pub tells-none : (n : ℕ) → ToldAs n [] true []
tells-none n = record { answers = []; one_each = refl; events = refl; all_told = refl }

abbrev pub tells-not : (n : ℕ) (cs : List Change) (done : Bool) (es : List Event) (c : Change) → ToldAs n cs done es → ToldAs n (cs ++ c ∷ []) false es
tells-not n cs done es c t = record {
  answers = t.answers ++ false ∷ [];
  one_each = length-more t.answers false ∙ ap (λ k. k + 1) t.one_each ∙ sym (length-more cs c);
  events = t.events ∙ sym (append-nil (saws n cs t.answers)) ∙ sym (saws-more n cs t.answers c false t.one_each);
  all_told = sym (all-more t.answers false ∙ and_false (list_all (λ b. b) t.answers));
}

-- the stamp of the next one
pub stamp-taken : (n : ℕ) (cs : List Change) (done : Bool) (es : List Event) → (t : ToldAs n cs done es) → later n es ≡ later n (saws n cs t.answers)
stamp-taken n cs done es t = ap (later n) t.events

abbrev pub tells-next : (n next : ℕ) (cs : List Change) (done : Bool) (es : List Event) (c : Change) → next ≡ later n es → ToldAs n cs done es → ToldAs n (cs ++ c ∷ []) done (es ++ Saw c.name next c.value ∷ [])
tells-next n next cs done es c h t = record {
  answers = t.answers ++ true ∷ [];
  one_each = length-more t.answers true ∙ ap (λ k. k + 1) t.one_each ∙ sym (length-more cs c);
  events = ap (λ k. es ++ Saw c.name k c.value ∷ []) h ∙ ap (λ es. es ++ Saw c.name (later n es) c.value ∷ []) t.events ∙ sym (saws-more n cs t.answers c true t.one_each);
  all_told = t.all_told ∙ sym (all-more t.answers true ∙ and_true (list_all (λ b. b) t.answers));
}

pub map-same : {X : Type 0} (xs : List X) → map (λ x. x) xs ≡ xs
map-same [] = refl
map-same (x ∷ xs) = ap (λ ys. x ∷ ys) (map-same xs)

numbered-saws : (n : ℕ) (cs : List Change) (bs : List Bool) → IsNumbered n (saws n cs bs)
numbered-saws n [] bs = tt
numbered-saws n (c ∷ cs) [] = tt
numbered-saws n (c ∷ cs) (true ∷ bs) = (refl, numbered-saws (after n) cs bs)
numbered-saws n (c ∷ cs) (false ∷ bs) = numbered-saws n cs bs

pub tells-numbered : (n : ℕ) (cs : List Change) (done : Bool) (es : List Event) → ToldAs n cs done es → IsNumbered n es
tells-numbered n cs done es t = let P : List Event → Type 0 = λ es. IsNumbered n es in subst P (sym t.events) (numbered-saws n cs t.answers)

-- no event is of a call
pub saws-call : (n : ℕ) (cs : List Change) (bs : List Bool) (name : List ℕ) → called_by name (saws n cs bs) ≡ []
saws-call n [] bs name = refl
saws-call n (c ∷ cs) [] name = refl
saws-call n (c ∷ cs) (true ∷ bs) name = saws-call (after n) cs bs name
saws-call n (c ∷ cs) (false ∷ bs) name = saws-call n cs bs name

-- ---- which names are watched

pub found-watched : {W : Type 0} (n : List ℕ) (es : List (String Global × W)) → is_some (lookup (λ k. bytes_eq n (string_bytes k)) es) ≡ watches (entries_as_rows string_bytes (λ w. w) es) n
found-watched n [] = refl
found-watched n (e ∷ es) = by (bytes_eq n (string_bytes e.0)) (found-watched n es)
  where
    by : (b : Bool) → is_some (lookup (λ k. bytes_eq n (string_bytes k)) es) ≡ watches (entries_as_rows string_bytes (λ w. w) es) n
        → is_some (cond b (Some e.1) (lookup (λ k. bytes_eq n (string_bytes k)) es)) ≡ (if b then true else watches (entries_as_rows string_bytes (λ w. w) es) n)
    by true more = refl
    by false more = more

-- the changes that pass, one after another
pub filter-next : (test : Change → Bool) (cs : List Change) (i : ℕ) (c : Change) → i < length cs → c ≡ get_or cs i c → filter test (take i cs) ++ cond (test c) (c ∷ []) [] ≡ filter test (take (i + 1) cs)
filter-next test cs i c h is =
    sym (filter-append test (take i cs) (c ∷ [])) ∙ ap (filter test) (ap (λ x. take i cs ++ x ∷ []) is ∙ sym (take_more cs i c h))

filter-some : (test : Change → Bool) (cs : List Change) (i : ℕ) (c : Change) → i < length cs → c ≡ get_or cs i c → test c ≡ true → filter test cs ≢ []
filter-some test [] i c h is t = absurd (omega arith)
filter-some test (d ∷ cs) zero c h is t = by (test d) (ap test (sym is) ∙ t)
  where
    by : (b : Bool) → b ≡ true → cond b (d ∷ filter test cs) (filter test cs) ≢ []
    by true e = λ k. cc
    by false e = cc
filter-some test (d ∷ cs) (suc i) c h is t = by (test d) (filter-some test cs i c (omega arith) is t)
  where
    by : (b : Bool) → filter test cs ≢ [] → cond b (d ∷ filter test cs) (filter test cs) ≢ []
    by true more = λ k. cc
    by false more = more

-- a change whose name has a watcher passes
pub watched-some : {W : Type 0} (es : List (String Global × W)) (name : List ℕ) (cs : List Change) (i : ℕ) (c : Change) → i < length cs → c ≡ get_or cs i c
    → name ≡ c.name → is_some (lookup (λ k. bytes_eq name (string_bytes k)) es) ≡ true → filter (λ d. watches (entries_as_rows string_bytes (λ w. w) es) d.name) cs ≢ []
watched-some es name cs i c h is same found =
    filter-some (λ d. watches (entries_as_rows string_bytes (λ w. w) es) d.name) cs i c h is
    (ap (watches (entries_as_rows string_bytes (λ w. w) es)) (sym same) ∙ sym (found-watched name es) ∙ found)
