-- The flows that a save spells, gathered one by one.
use Rattle.std.proofs.Common.{◌≡◌, ◌∙◌, sym, ap, refl, subst, ℕ, ◌+◌, ◌<◌, ◌≤◌, length, List, [], ◌∷◌, ◌++◌, drop, get_or, Bool, true, false, true≢false, ◌&&◌, bytes_eq, if◌then◌else◌, Option, Some, None, is_none, option_map}
use Rattle.ink_restore.proofs.Common.{append_assoc, append-nil, drop_all, drop_more, AllByRecursion, FlowOf, Rows, at, once, FlowSound, aside_but, StoryTree, Part}
use Rattle.ink_flows.specs.Standing.{aside_of, flow_of}
use Rattle.ink_flows.specs.declared.flow.Flow.{Flow}
use Rattle.ink_flows.proofs.Mapped.{at_seen, more_seen}
use Rattle.ink_model.specs.Run.Flows.{Aside, AsideOf, is_flow_name}
use Rattle.ink_restore.specs.Gathered.{FlowsFit, NamedSound}
use Rattle.ink_restore.proofs.Joining.{at_behind, at_but, at_front, but_append, once_more, once_twice, same_names}
use Rattle.ink_restore.proofs.Standing.{both}

abbrev FlowHere : Type 0
FlowHere = FlowOf (List Part)

-- of flows some were gathered, and those are left
pub record Gathers (s : StoryTree) (cur : List ℕ) (whole : Rows FlowHere) (rows : AsideOf Flow) (current : Option Flow) (rest : Rows FlowHere) : Type 0 where
  pub taken : Rows FlowHere
  pub joined : taken ++ rest ≡ whole
  pub rows_are : aside_of s rows ≡ aside_but cur taken
  pub current_is : option_map (flow_of s) current ≡ at cur taken
  pub each : AllByRecursion (NamedSound s) taken
  pub names : once taken ≡ true

each_last : {A : Type 0} (P : A → Type 0) (xs : List A) (x : A) → AllByRecursion P xs → P x → AllByRecursion P (xs ++ x ∷ [])
each_last P [] x h k = (k, tt)
each_last P (y ∷ ys) x h k = (h.0, each_last P ys x h.1 k)

each_in : {A : Type 0} (P : A → Type 0) (xs : List A) (x : A) (ys : List A) → AllByRecursion P (xs ++ x ∷ ys) → P x
each_in P [] x ys h = h.0
each_in P (z ∷ zs) x ys h = each_in P zs x ys h.1

none_so : {A : Type 0} (o : Option A) → is_none o ≡ true → o ≡ None
none_so None h = refl
none_so (Some x) h = absurd (true≢false (sym h))

module _ (s : StoryTree) (cur : List ℕ) (whole : Rows FlowHere) where
  -- a name stands in the rows exactly where it stands among those that were taken
  stands_so : (name : List ℕ) (rows : AsideOf Flow) (taken : Rows FlowHere) → aside_of s rows ≡ aside_but cur taken → is_none (at name rows) ≡ is_none (at name taken)
  stands_so name rows taken same =
      sym (mapped (at name rows)) ∙ ap is_none (sym (at_seen (flow_of s) name rows)) ∙ ap (λ rs. is_none (at name rs)) same ∙ at_but cur name taken
    where
      mapped : (o : Option (Option Flow)) → is_none (option_map (option_map (flow_of s)) o) ≡ is_none o
      mapped None = refl
      mapped (Some x) = refl

  current_more : (b : Bool) (flow : Flow) (x : List ℕ × FlowHere) (current : Option Flow) (taken : Rows FlowHere) → bytes_eq cur x.0 ≡ b → flow_of s flow ≡ x.1
      → at x.0 taken ≡ None → option_map (flow_of s) current ≡ at cur taken → option_map (flow_of s) (if b then Some flow else current) ≡ at cur (taken ++ x ∷ [])
  current_more true flow x current taken e same none is =
      let here : at cur (x ∷ []) ≡ Some x.1 = rw e refl in
      ap (λ f. Some f) same ∙ sym here ∙ sym (at_behind cur taken (x ∷ []) (ap (λ n. at n taken) (same_names cur x.0 e) ∙ none))
  current_more false flow x current taken e same none is = is ∙ by (at cur taken) refl
    where
      by : (o : Option FlowHere) → at cur taken ≡ o → at cur taken ≡ at cur (taken ++ x ∷ [])
      by None h = let past : at cur (x ∷ []) ≡ None = rw e refl in h ∙ sym past ∙ sym (at_behind cur taken (x ∷ []) h)
      by (Some f) h = h ∙ sym (at_front cur taken (x ∷ []) f h)

  aside_more : (b : Bool) (flow : Flow) (f : FlowHere) → flow_of s flow ≡ f → option_map (flow_of s) (if b then None else Some flow) ≡ (if b then None else Some f)
  aside_more true flow f same = refl
  aside_more false flow f same = ap (λ g. Some g) same

  one_more : (rows : AsideOf Flow) (current : Option Flow) (x : List ℕ × FlowHere) (rest : Rows FlowHere) (flow : Flow) → flow_of s flow ≡ x.1 → NamedSound s x → at x.0 rows ≡ None
      → Gathers s cur whole rows current (x ∷ rest) → Gathers s cur whole (rows ++ (x.0, if bytes_eq cur x.0 then None else Some flow) ∷ []) (if bytes_eq cur x.0 then Some flow else current) rest
  one_more rows current x rest flow same sound none g =
      let free : at x.0 g.taken ≡ None = none_so (at x.0 g.taken) (sym (stands_so x.0 rows g.taken g.rows_are) ∙ ap is_none none) in
      let b = bytes_eq cur x.0 in
      record {
        taken = g.taken ++ x ∷ [];
        joined = append_assoc g.taken (x ∷ []) rest ∙ g.joined;
        rows_are =
            more_seen (flow_of s) rows x.0 (if b then None else Some flow)
            ∙ ap (λ rs. rs ++ (x.0, option_map (flow_of s) (if b then None else Some flow)) ∷ []) g.rows_are
            ∙ ap (λ o. aside_but cur g.taken ++ (x.0, o) ∷ []) (aside_more b flow x.1 same) ∙ sym (but_append cur g.taken x);
        current_is = current_more b flow x current g.taken refl same free g.current_is;
        each = each_last (NamedSound s) g.taken x g.each sound;
        names = once_more g.taken x g.names free;
      }

  pub gathers_more : (rows : AsideOf Flow) (current : Option Flow) (i : ℕ) (d : List ℕ × FlowHere) (name : List ℕ) (flow : Flow) (new : AsideOf Flow) (now : Option Flow) → i < length whole
      → name ≡ (get_or whole i d).0 → (flow_of s flow ≡ (get_or whole i d).1) × FlowSound s (get_or whole i d).1 → (is_flow_name name && is_none (at name rows)) ≡ true
      → new ≡ rows ++ (name, if bytes_eq cur name then None else Some flow) ∷ [] → now ≡ (if bytes_eq cur name then Some flow else current)
      → Gathers s cur whole rows current (drop i whole) → Gathers s cur whole new now (drop (i + 1) whole)
  gathers_more rows current i d name flow new now lt named made e joined chosen g =
      let x = get_or whole i d in
      let parts = both (is_flow_name x.0) (is_none (at x.0 rows)) (ap (λ n. is_flow_name n && is_none (at n rows)) (sym named) ∙ e) in
      let more = one_more rows current x (drop (i + 1) whole) flow made.0 (parts.0, made.1) (none_so (at x.0 rows) parts.1) (subst (Gathers s cur whole rows current) (drop_more whole i d lt) g) in
      subst (λ rs. Gathers s cur whole rs now (drop (i + 1) whole)) (sym (joined ∙ ap (λ n. rows ++ (n, if bytes_eq cur n then None else Some flow) ∷ []) named))
      (subst (λ o. Gathers s cur whole (rows ++ (x.0, if bytes_eq cur x.0 then None else Some flow) ∷ []) o (drop (i + 1) whole))
      (sym (chosen ∙ ap (λ n. if bytes_eq cur n then Some flow else current) named)) more)

  -- one that does not fit, or may not have its name
  pub gathers_refused : (rows : AsideOf Flow) (current : Option Flow) (i : ℕ) (d : List ℕ × FlowHere) → i < length whole → (NamedSound s (get_or whole i d) → ⊥)
      → Gathers s cur whole rows current (drop i whole) → FlowsFit s whole → ⊥
  gathers_refused rows current i d lt never g fit =
      let h = subst (Gathers s cur whole rows current) (drop_more whole i d lt) g in
      never (each_in (NamedSound s) h.taken (get_or whole i d) (drop (i + 1) whole) (subst (AllByRecursion (NamedSound s)) (sym h.joined) fit.each))

  -- one whose name stood before
  pub gathers_twice : (rows : AsideOf Flow) (current : Option Flow) (i : ℕ) (d : List ℕ × FlowHere) → i < length whole → is_none (at (get_or whole i d).0 rows) ≡ false
      → Gathers s cur whole rows current (drop i whole) → FlowsFit s whole → ⊥
  gathers_twice rows current i d lt found g fit =
      let h = subst (Gathers s cur whole rows current) (drop_more whole i d lt) g in
      let x = get_or whole i d in
      once_twice h.taken x (drop (i + 1) whole) (sym (stands_so x.0 rows h.taken h.rows_are) ∙ found) (ap once h.joined ∙ fit.names)

  -- one that may not join
  pub gathers_barred : (rows : AsideOf Flow) (current : Option Flow) (i : ℕ) (d : List ℕ × FlowHere) → i < length whole
      → (is_flow_name (get_or whole i d).0 && is_none (at (get_or whole i d).0 rows)) ≡ false → Gathers s cur whole rows current (drop i whole) → FlowsFit s whole → ⊥
  gathers_barred rows current i d lt e g fit = by (is_flow_name (get_or whole i d).0) refl e
    where
      by : (b : Bool) → is_flow_name (get_or whole i d).0 ≡ b → (b && is_none (at (get_or whole i d).0 rows)) ≡ false → ⊥
      by true named e = gathers_twice rows current i d lt e g fit
      by false named e = gathers_refused rows current i d lt (λ k. absurd (true≢false (sym k.0 ∙ named))) g fit

  pub gathers_all : (rows : AsideOf Flow) (current : Option Flow) (i : ℕ) → length whole ≤ i → Gathers s cur whole rows current (drop i whole)
      → (◌≡◌ {A = Aside × Option FlowHere} (aside_of s rows, option_map (flow_of s) current) (aside_but cur whole, at cur whole)) × FlowsFit s whole
  gathers_all rows current i le g =
      let h = subst (Gathers s cur whole rows current) (drop_all i whole le) g in
      let same : h.taken ≡ whole = sym (append-nil h.taken) ∙ h.joined in
      let shown : aside_of s rows ≡ aside_but cur whole = h.rows_are ∙ ap (aside_but cur) same in
      let found : option_map (flow_of s) current ≡ at cur whole = h.current_is ∙ ap (at cur) same in
      (λ i. (shown i, found i), record { each = subst (AllByRecursion (NamedSound s)) same h.each; names = ap once (sym same) ∙ h.names })
