-- Functions are bound that ask, one after another.
use borrow.Author.Count.{below_more}
use Rattle.std.proofs.Common.{◌≡◌, ◌∙◌, ap, refl, sym, subst, ℕ, ◌+◌, List, [], ◌∷◌, Bool, true, false, true≢false, Option, None, Some, is_some, option_map, bytes_eq, if◌then◌else◌, inl, inr}
use Rattle.std.proofs.lemmas.Slice.Eq.{bytes_eq-Decides}
use Rattle.ink_host.specs.Desk.{DeskView, Rows, at, put}
use Rattle.ink_host.specs.declared.objects.Bound.{Bound}
use Rattle.ink_host.specs.declared.objects.Bound.TheVariants as bound
use Rattle.ink_model.specs.Run.Place.{knot}
use Rattle.ink_model.specs.Story.Tree.{StoryTree}
use Rattle.ink_model.specs.Story.Tree as trees
use Rattle.ink_page.specs.Turns.{AnsweredBelow, AsksBy, AsksMore, IsAnswered, MayAsk, function_at}
use Rattle.ink_page.specs.declared.asked.Asked.{Asked}
use Rattle.ink_page.specs.declared.asked.Turn.{Turn}
use Rattle.ink_page.specs.declared.asked.Turn.TheVariants as turn
use Rattle.ink_page.specs.declared.page.Look.{Look}
use Rattle.ink_tree.specs.Nodes.{node_place}

some-same : (m n : List ℕ) → Some m ≡ Some n → m ≡ n
some-same m n h = cc

pub some-mapped : {X Y : Type 0} (f : X → Y) (o : Option X) (r : Option Y) → option_map f o ≡ r → is_some o ≡ is_some r
some-mapped f None r h = ap is_some h
some-mapped f (Some x) r h = ap is_some h

-- ---- a row that is put

module _ {X : Type 0} where
  alike : (b c : Bool) (x y : X) (o : Option X) → b ≡ c → (if b then Some x else o) ≡ (if c then Some x else (if b then Some y else o))
  alike true true x y o h = refl
  alike true false x y o h = absurd (true≢false h)
  alike false true x y o h = absurd (true≢false (sym h))
  alike false false x y o h = refl

  apart : (b c : Bool) (x y : X) (o : Option X) → (b ≡ true → c ≡ true → ⊥) → (if b then Some y else (if c then Some x else o)) ≡ (if c then Some x else (if b then Some y else o))
  apart true true x y o h = absurd (h refl refl)
  apart true false x y o h = refl
  apart false c x y o h = refl

  at-put : (name n : List ℕ) (x : X) (rows : Rows X) → at name (put n x rows) ≡ (if bytes_eq name n then Some x else at name rows)
  at-put name n x [] = refl
  at-put name n x (r ∷ rows) = by (at-put name n x rows) (bytes_eq n r.0) refl
    where
      by : at name (put n x rows) ≡ (if bytes_eq name n then Some x else at name rows) → (b : Bool) → bytes_eq n r.0 ≡ b
          → at name (if b then (r.0, x) ∷ rows else r ∷ put n x rows) ≡ (if bytes_eq name n then Some x else at name (r ∷ rows))
      by rest true is = alike (bytes_eq name r.0) (bytes_eq name n) x r.1 (at name rows) (ap (bytes_eq name) (sym ((bytes_eq-Decides n r.0).0 is)))
      by rest false is =
          ap (λ o. if bytes_eq name r.0 then Some r.1 else o) rest
          ∙ apart (bytes_eq name r.0) (bytes_eq name n) x r.1 (at name rows)
          (λ h k. true≢false (sym ((bytes_eq-Decides n r.0).1 (sym ((bytes_eq-Decides name n).0 k) ∙ (bytes_eq-Decides name r.0).0 h)) ∙ is))

  at-put-kept : (n name : List ℕ) (x : X) (rows : Rows X) → at n rows ≡ None → is_some (at name rows) ≡ true → at name (put n x rows) ≡ at name rows
  at-put-kept n name x rows none there = at-put name n x rows ∙ by (bytes_eq name n) refl
    where
      by : (b : Bool) → bytes_eq name n ≡ b → (if b then Some x else at name rows) ≡ at name rows
      by true is = absurd (true≢false (sym there ∙ ap (λ m. is_some (at m rows)) ((bytes_eq-Decides name n).0 is) ∙ ap is_some none))
      by false is = refl

  pub put-there : (n : List ℕ) (x : X) (rows : Rows X) → is_some (at n (put n x rows)) ≡ true
  put-there n x rows = ap is_some (at-put n n x rows ∙ ap (λ b. if b then Some x else at n rows) ((bytes_eq-Decides n n).1 refl))

-- ---- functions that ask

module _ {P F R : Type 0} (look : Look) (s : StoryTree) where
  may-ask-put : (n name : List ℕ) (asked : Asked R) (rows : Rows (Bound P (Turn F (Asked R)))) → knot n s ≡ None → AsksBy look n asked → at name rows ≡ None
      → MayAsk look s name (at name (put n (bound.Turn (turn.Asked asked)) rows))
  may-ask-put n name asked rows no_knot asks free = subst (MayAsk look s name) (sym (at-put name n (bound.Turn (turn.Asked asked)) rows)) (by (bytes_eq name n) refl)
    where
      by : (b : Bool) → bytes_eq name n ≡ b → MayAsk look s name (if b then Some (bound.Turn (turn.Asked asked)) else at name rows)
      by true is = let same = (bytes_eq-Decides name n).0 is in (ap (λ m. knot m s) same ∙ no_knot, asked, refl, subst (λ m. AsksBy look m asked) (sym same) asks)
      by false is = subst (MayAsk look s name) (sym free) tt

module _ {P F R O : Type 0} (look : Look) (s : StoryTree) where
  pub asks-same : (a b : DeskView P (Turn F (Asked R)) O) → b ≡ a → AsksMore look s a b
  asks-same a b is = subst (AsksMore look s a) (sym is) record {
    watchers = refl;
    events = refl;
    next = refl;
    kept = λ name there. refl;
    others = λ name none. subst (MayAsk look s name) (sym none) tt;
  }

  pub asks-one : (n : List ℕ) (asked : Asked R) (a b : DeskView P (Turn F (Asked R)) O) → at n a.functions ≡ None → knot n s ≡ None → AsksBy look n asked
      → b ≡ record a { functions = put n (bound.Turn (turn.Asked asked)) a.functions } → AsksMore look s a b
  asks-one n asked a b none no_knot asks is = subst (AsksMore look s a) (sym is) record {
    watchers = refl;
    events = refl;
    next = refl;
    kept = λ name there. at-put-kept n name (bound.Turn (turn.Asked asked)) a.functions none there;
    others = λ name free. may-ask-put look s n name asked a.functions no_knot asks free;
  }

  pub asks-all : (a b c : DeskView P (Turn F (Asked R)) O) → AsksMore look s a b → AsksMore look s b c → AsksMore look s a c
  asks-all a b c h k = record {
    watchers = k.watchers ∙ h.watchers;
    events = k.events ∙ h.events;
    next = k.next ∙ h.next;
    kept = λ name there. k.kept name (ap is_some (h.kept name there) ∙ there) ∙ h.kept name there;
    others = λ name none. by name none (at name b.functions) refl;
  }
    where
      by : (name : List ℕ) → at name a.functions ≡ None → (o : Option (Bound P (Turn F (Asked R)))) → at name b.functions ≡ o → MayAsk look s name (at name c.functions)
      by name none None is = k.others name is
      by name none (Some f) is = subst (MayAsk look s name) (sym (k.kept name (ap is_some is))) (h.others name none)

  -- ---- functions that are answered

  stays-answered : (a b : DeskView P (Turn F (Asked R)) O) → AsksMore look s a b → (name : List ℕ) → IsAnswered s name a.functions → IsAnswered s name b.functions
  stays-answered a b asks name (inl there) = inl (ap is_some (asks.kept name there) ∙ there)
  stays-answered a b asks name (inr led) = inr led

  -- one content more, which calls a function
  pub answered-more : (k : ℕ) (n : List ℕ) (a b : DeskView P (Turn F (Asked R)) O) → Some n ≡ function_at (trees.at s (node_place s (record { number = k }))) → AsksMore look s a b
      → IsAnswered s n b.functions → AnsweredBelow s k a.functions → AnsweredBelow s (k + 1) b.functions
  answered-more k n a b called asks answered so_far =
      below_more (λ i. (name : List ℕ) → function_at (trees.at s (node_place s (record { number = i }))) ≡ Some name → IsAnswered s name b.functions) k
      (λ i below name is. stays-answered a b asks name (so_far i below name is)) (λ name is. subst (λ m. IsAnswered s m b.functions) (some-same n name (called ∙ is)) answered)

  -- one that calls none
  pub answered-past : (k : ℕ) (a b : DeskView P (Turn F (Asked R)) O) → None ≡ function_at (trees.at s (node_place s (record { number = k }))) → b ≡ a
      → AnsweredBelow s k a.functions → AnsweredBelow s (k + 1) b.functions
  answered-past k a b called same so_far =
      below_more (λ i. (name : List ℕ) → function_at (trees.at s (node_place s (record { number = i }))) ≡ Some name → IsAnswered s name b.functions) k
      (λ i below name is. subst (λ d. IsAnswered s name d.functions) (sym same) (so_far i below name is)) (λ name is. absurd (true≢false (sym (ap is_some (called ∙ is)))))
