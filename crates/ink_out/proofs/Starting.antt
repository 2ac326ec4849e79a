-- Where functions' texts start among marks, and which newlines were settled before the last mark.
use Rattle.std.proofs.Common.{◌≡◌, ◌∙◌, ℕ, Bool, true, false, not, ◌&&◌, ◌||◌, cond, eqb, List, [], ◌∷◌, ◌++◌, drop, get_or, length, reverse, take, ◌<◌, ◌+◌, arith, if◌then◌else◌, Option, None, Some, refl, sym, ap, subst}
use Rattle.std.proofs.Math.Seq.{drop-append_seam, take-append_seam}
use Rattle.std.proofs.lemmas.List.{append-nil, append_assoc, length-append, length-reverse, nil_from_length, reverse-append, reverse-reverse, length-take-le, take-append-drop, take_more}
use Rattle.ink_model.specs.Text.Shown.{unhidden_newline, newline_last, newlines_before, shown_before}
use Rattle.ink_out.proofs.Common.{Mark, Text, Blank, Newline, Enter, Enters, Start, State, Hides, Tracker, Waiting}
use Rattle.ink_out.specs.declared.tracker.Hides.TheVariants.{Near}
use Rattle.ink_out.specs.Stands.{IsStateOf, Knows, Leads, Sees, Stands, started, starts_of}
use Rattle.ink_out.specs.Tracks.{Tracks, enter_at, hidden_by, settled_after, settled_by, waiting, waiting_at, waits}

pub started_at : (n : ℕ) (before : List Mark) → started n (starts_of before) ≡ enter_at n before
started_at n [] = refl
started_at n (Enter k ∷ before) = ap (λ rest. if eqb n k then Some (length before) else rest) (started_at n before)
started_at n (m ∷ before) = started_at n before

-- ---- starts that are passed

pub leads_all : (behind before : List Mark) → Leads (reverse (starts_of (behind ++ before))) before
leads_all [] before = ([], sym (append-nil (reverse (starts_of before))))
leads_all (Enter k ∷ behind) before =
    let start : Start = record { number = k; at = length (behind ++ before) } in
    let (ahead, is) = leads_all behind before in
    (ahead ++ start ∷ [], reverse-append (start ∷ []) (starts_of (behind ++ before)) ∙ ap (λ xs. xs ++ start ∷ []) is ∙ append_assoc (reverse (starts_of before)) ahead (start ∷ []))
leads_all (m ∷ behind) before = leads_all behind before

-- those of marks are those of each beginning of them, and of marks behind it
pub leads_from : (enters : Enters) (marks : List Mark) (at : ℕ) → Knows enters (reverse marks) → Leads enters.starts.items (reverse (take at marks))
leads_from enters marks at knows =
    let turned : reverse marks ≡ reverse (drop at marks) ++ reverse (take at marks) = ap reverse (sym (take-append-drop at marks)) ∙ reverse-append (take at marks) (drop at marks) in
    let all : enters.starts.items ≡ reverse (starts_of (reverse (drop at marks) ++ reverse (take at marks))) = sym (reverse-reverse enters.starts.items) ∙ ap reverse knows.starts ∙ ap (λ ms. reverse (starts_of ms)) turned in
    rw all (leads_all (reverse (drop at marks)) (reverse (take at marks)))

-- the marks up to an index, the nearest first, and the one there
pub next_mark : (marks : List Mark) (at : ℕ) (m : Mark) → at < length marks → m ≡ get_or marks at m → reverse (take (at + 1) marks) ≡ m ∷ reverse (take at marks)
next_mark marks at m within is = ap reverse (take_more marks at m within) ∙ reverse-append (take at marks) (get_or marks at m ∷ []) ∙ ap (λ x. x ∷ reverse (take at marks)) (sym is)

pub marks_before : (marks : List Mark) (at : ℕ) → at < length marks → at ≡ length (reverse (take at marks))
marks_before marks at within =
    let turned = length-reverse (take at marks) in
    let len = length-take-le at marks (omega arith) in
    omega (arith, turned, len)

-- one more of them was passed
pub passes_one : (starts : List Start) (before : List Mark) (n count : ℕ) → Leads starts (Enter n ∷ before) → count ≡ length (starts_of before) → count < length starts
passes_one starts before n count leads is =
    let start : Start = record { number = n; at = length before } in
    let len = ap length leads.1 in
    let parts = length-append (reverse (starts_of (Enter n ∷ before))) leads.0 in
    let turned = length-reverse (start ∷ starts_of before) in
    omega (arith, len, parts, turned, is)

-- the last of those that were passed is the last of the marks
pub passed_started : (starts : List Start) (before : List Mark) (n count : ℕ) → Leads starts before → count ≡ length (starts_of before) → started n (reverse (take count starts)) ≡ enter_at n before
passed_started starts before n count leads is =
    let turned = reverse (starts_of before) in
    let len : count ≡ length turned = is ∙ sym (length-reverse (starts_of before)) in
    let first : take count starts ≡ turned = ap (λ k. take k starts) len ∙ ap (take (length turned)) leads.1 ∙ take-append_seam turned leads.0 in
    ap (λ xs. started n (reverse xs)) first ∙ ap (started n) (reverse-reverse (starts_of before)) ∙ started_at n before

-- ---- the newlines that were settled before a mark

one_if : Bool → ℕ
one_if b = cond b 1 0

counted : (before : List Mark) (w : Option Waiting) (after : List Mark) → length (waiting_at before w after) ≡ one_if (waiting before w after)
unfolding one_if
counted before None after = refl
counted before (Some w) after = elim (waits before w after) as (λ b. length (cond b (w.at ∷ []) []) ≡ one_if b) [ true ↦ refl | false ↦ refl ]

-- behind lists of one length
rest_same : (ws vs xs ys : List ℕ) → length ws ≡ length vs → ws ++ xs ≡ vs ++ ys → xs ≡ ys
rest_same ws vs xs ys same h = sym (drop-append_seam ws xs) ∙ ap (drop (length ws)) h ∙ ap (λ n. drop n (vs ++ ys)) same ∙ drop-append_seam vs ys

rest_by : (B C : List Mark) (w v : Option Waiting) (A D : List Mark) (xs ys : List ℕ) → waiting B w A ≡ waiting C v D → waiting_at B w A ++ xs ≡ waiting_at C v D ++ ys → ys ≡ xs
rest_by B C w v A D xs ys same h = sym (rest_same (waiting_at B w A) (waiting_at C v D) xs ys (counted B w A ∙ ap one_if same ∙ sym (counted C v D)) h)

-- a text leaves what waits
unhidden : (h : Hides) (t : List ℕ) → hidden_by h (Text t ∷ []) ≡ false
unhidden Near t = refl
unhidden h t = refl

by_text : (before : List Mark) (w : Option Waiting) (t xs : List ℕ) → waiting_at before w (Text t ∷ []) ++ xs ≡ settled_by w xs
by_text before None t xs = refl
by_text before (Some w) t xs = rw (unhidden w.hides t) refl

none_waits : (B : List Mark) (w : Option Waiting) (A : List Mark) (ys : List ℕ) → waiting B w A ≡ false → waiting_at B w A ++ ys ≡ ys
none_waits B None A ys h = refl
none_waits B (Some w) A ys h = ap (λ b. (if b then w.at ∷ [] else []) ++ ys) h

-- one more newline
by_newline : (c x e : Bool) (at : ℕ) (news ws vs xs ys : List ℕ) → length ws ≡ one_if e → length vs ≡ one_if ((c && x) || e) → news ≡ ws ++ xs
    → (if c && (x && not e) then at ∷ news else news) ≡ vs ++ ys → ys ≡ xs
unfolding one_if
by_newline true true false at news ws vs xs ys one other is h =
    let all : news ≡ xs = is ∙ ap (λ zs. zs ++ xs) (nil_from_length ws one) in
    sym (rest_same (at ∷ []) vs xs ys (sym other) (ap (λ zs. at ∷ zs) (sym all) ∙ h))
by_newline c x e at news ws vs xs ys one other is h = sym (rest_same ws vs xs ys (one ∙ sym other) (sym is ∙ h))

pub settled_back : (m : Mark) (before : List Mark) (s t : Tracker) (xs ys : List ℕ) → Tracks before s xs → Tracks (m ∷ before) t ys → ys ≡ settled_after m s.newline xs
settled_back (Text u) before s t xs ys p q =
    sym (none_waits (Text u ∷ before) t.newline [] ys (sym (q.ends []))) ∙ sym (q.newlines []) ∙ p.newlines (Text u ∷ []) ∙ by_text before s.newline u xs
settled_back Newline before s t xs ys p q =
    by_newline (unhidden_newline before []) (shown_before before (Newline ∷ [])) (newline_last before (Newline ∷ [])) (length before) (newlines_before before (Newline ∷ []))
    (waiting_at before s.newline (Newline ∷ [])) (waiting_at (Newline ∷ before) t.newline []) xs ys
    (counted before s.newline (Newline ∷ []) ∙ ap one_if (sym (p.ends (Newline ∷ []))))
    (counted (Newline ∷ before) t.newline [] ∙ ap one_if (sym (q.ends [])))
    (p.newlines (Newline ∷ [])) (q.newlines [])
settled_back (Blank u) before s t xs ys p q = rest_by before (Blank u ∷ before) s.newline t.newline (Blank u ∷ []) [] xs ys (sym (p.ends (Blank u ∷ [])) ∙ q.ends []) (sym (p.newlines (Blank u ∷ [])) ∙ q.newlines [])
settled_back m before s t xs ys p q = rest_by before (m ∷ before) s.newline t.newline (m ∷ []) [] xs ys (sym (p.ends (m ∷ [])) ∙ q.ends []) (sym (p.newlines (m ∷ [])) ∙ q.newlines [])

-- ---- the last mark is taken back

-- the rest of a list, from its end
pub turned_rest : {A : Type 0} (xs ys : List A) (x : A) → xs ≡ ys ++ x ∷ [] → reverse xs ≡ x ∷ reverse ys
turned_rest xs ys x is = ap reverse is ∙ reverse-append ys (x ∷ [])

pub sees_less : (marks rest : List Mark) (m : Mark) (settled left : List ℕ) (state next : State) (enters fewer : Enters) → marks ≡ rest ++ m ∷ [] → IsStateOf rest state
    → ((before : List ℕ) → reverse settled ≡ settled_after m state.tracker.newline before → reverse left ≡ before)
    → ((before : List Mark) → Knows enters (m ∷ before) → Knows fewer before)
    → Sees marks settled next enters → Sees rest left state fewer
sees_less marks rest m settled left state next enters fewer is fits unsettled forgot h =
    let ms : reverse marks ≡ m ∷ reverse rest = turned_rest marks rest m is in
    let stands : Stands (m ∷ reverse rest) (reverse settled) next = subst (λ before. Stands before (reverse settled) next) ms h.stands in
    let same : reverse left ≡ fits.0 = unsettled fits.0 (settled_back m (reverse rest) state.tracker next.tracker fits.0 (reverse settled) fits.1.tracks stands.tracks) in
    record {
      stands = subst (λ left. Stands (reverse rest) left state) (sym same) fits.1;
      knows = forgot (reverse rest) (subst (λ before. Knows enters before) ms h.knows);
    }
