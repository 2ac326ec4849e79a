-- Going to a flow and taking one away keep what is asked of flows.
use Rattle.std.proofs.Common.{inl, inr, ◌≡◌, ◌∙◌, ap, refl, ℕ, ◌≤◌, List, [], ◌∷◌, length, true, false, ◌||◌, bytes_eq, nat_lt, Some, None, is_some, unwrap_or, option_and_then, arith, lit≤}
use Rattle.ink_sound.proofs.Common.{cond_both, nat_tests, empty_page, Rests, Stands, StoryTree, Part, Each, Configuration, FlowOf, settled, unnumbered_flow, AsideFits, FlowSound, NamedFits}
use Rattle.ink_model.specs.Run.Flows.{Aside, FlowsOf, Game, current_name, default_flow, dropped, filled, first_flow, flow_named, flows_in, goes_to, has_room, is_flow_name, one_flow, with_flows}
use Rattle.std.proofs.lemmas.Bool.{or_cases}
use Rattle.ink_model.specs.Variables.Named.{at, put, without}
use Rattle.ink_model.specs.Run.Place.{start_place}
use Rattle.ink_model.specs.declared.limits.TheConstants.{MAX_FLOWS}
use Rattle.ink_sound.proofs.Aside.{default_there, filled_at, filled_first, filled_holes, filled_length, filled_once, going_current, put_first, put_holes, without_first, without_holes}
use Rattle.ink_sound.proofs.Between.{fresh_flow_sound, page_rests}
use Rattle.ink_sound.proofs.Named.{each_put, each_without, length_put, length_put_most, length_without, once_put, once_without}
use Rattle.ink_sound.proofs.Places.{start_fits}

-- ---- how many flows there are

few_put : (name : List ℕ) (left rows : Aside) → is_some (at name left) ≡ is_some (at name rows) → has_room name rows ≡ true → length left ≡ length rows → length rows ≤ MAX_FLOWS
    → length (put name None left) ≤ MAX_FLOWS
few_put name left rows there room same few = elim (or_cases (is_some (at name rows)) (nat_lt (length rows) MAX_FLOWS) room)
    [ inl e ↦ omega (arith, length_put name None left (there ∙ e)) | inr e ↦ grind (arith, nat_tests, length_put_most name None left, e) ]

module _ (s : StoryTree) where
  -- a flow that may stand aside
  abbrev pub Stood : FlowOf (List Part) → Type 0
  Stood f = FlowSound s f × (unnumbered_flow f ≡ f)

  pub record FlowsFit (fs : FlowsOf (FlowOf (List Part))) : Type 0 where
    pub current : Stood fs.current
    pub aside : AsideFits s fs.aside

  -- ---- going to a flow

  filled_fit : (f : FlowOf (List Part)) → Stood f → (rows : Aside) → Each (NamedFits s) rows → Each (NamedFits s) (filled f rows)
  filled_fit f k [] h = tt
  filled_fit f k ((n, None) ∷ rows) h = ((h.0.0, k), h.1)
  filled_fit f k ((n, Some x) ∷ rows) h = (h.0, filled_fit f k rows h.1)

  named_fits : (name : List ℕ) (fresh : FlowOf (List Part)) (rows : Aside) → Stood fresh → Each (NamedFits s) rows → Stood (flow_named name fresh rows)
  named_fits name fresh [] k h = k
  named_fits name fresh ((n, None) ∷ rows) k h =
      cond_both (bytes_eq name n) (Some None) (at name rows) (λ o. Stood (unwrap_or (option_and_then (λ p. p) o) fresh)) (λ _. k) (λ _. named_fits name fresh rows k h.1)
  named_fits name fresh ((n, Some f) ∷ rows) k h =
      cond_both (bytes_eq name n) (Some (Some f)) (at name rows) (λ o. Stood (unwrap_or (option_and_then (λ p. p) o) fresh)) (λ _. h.0.1) (λ _. named_fits name fresh rows k h.1)

  pub going_fits : (fresh : FlowOf (List Part)) (name : List ℕ) (fs : FlowsOf (FlowOf (List Part))) → Stood fresh → is_flow_name name ≡ true → has_room name fs.aside ≡ true
      → FlowsFit fs → FlowsFit (goes_to fresh name fs)
  going_fits fresh name fs k named room h = record {
    current = named_fits name fresh (filled fs.current fs.aside) k (filled_fit fs.current h.current fs.aside h.aside.each);
    aside = record {
      first = put_first name None (filled fs.current fs.aside) (filled_first fs.current fs.aside ∙ h.aside.first);
      names = once_put name None (filled fs.current fs.aside) (filled_once fs.current fs.aside ∙ h.aside.names);
      current = put_holes name (filled fs.current fs.aside) (filled_holes fs.current fs.aside h.aside.current);
      few = few_put name (filled fs.current fs.aside) fs.aside (filled_at fs.current name fs.aside) room (filled_length fs.current fs.aside) h.aside.few;
      each = each_put (NamedFits s) name None (filled fs.current fs.aside) (λ n y p. (p.0, tt)) (named, tt) (filled_fit fs.current h.current fs.aside h.aside.each);
    };
  }

  -- ---- taking one away

  away : (name : List ℕ) (fs : FlowsOf (FlowOf (List Part))) → bytes_eq name default_flow ≡ false → bytes_eq name (current_name fs.aside) ≡ false → FlowsFit fs
      → FlowsFit (record { current = fs.current; aside = without name fs.aside })
  away name fs other another h = record {
    current = h.current;
    aside = record {
      first = without_first name fs.aside h.aside.first other;
      names = once_without name fs.aside h.aside.names;
      current = without_holes name fs.aside h.aside.current another;
      few = omega (arith, length_without name fs.aside, h.aside.few);
      each = each_without (NamedFits s) name fs.aside h.aside.each;
    };
  }

  pub dropping_fits : (fresh : FlowOf (List Part)) (name : List ℕ) (fs : FlowsOf (FlowOf (List Part))) → Stood fresh → bytes_eq name default_flow ≡ false
      → FlowsFit fs → FlowsFit (dropped fresh name fs)
  dropping_fits fresh name fs k other h =
      let room : has_room default_flow fs.aside ≡ true = ap (λ b. b || nat_lt (length fs.aside) MAX_FLOWS) (default_there fs.aside h.aside.first) in
      cond_both (bytes_eq name (current_name fs.aside)) (goes_to fresh default_flow fs) fs (λ gs. FlowsFit (record { current = gs.current; aside = without name gs.aside }))
      (λ _. away name (goes_to fresh default_flow fs) other (ap (bytes_eq name) (going_current fresh default_flow fs h.aside.current) ∙ other) (going_fits fresh default_flow fs k refl room h))
      (λ e. away name fs other e h)

  -- ---- games

  rests_in : (f : FlowOf (List Part)) (c : Configuration) → unnumbered_flow f ≡ f → Rests c → Rests (record c { flow = f })
  unfolding settled
  rests_in f c e k =
      let page : empty_page ≡ c.page = page_rests c k in
      (λ i. record { flow = e i; shared = c.shared; page = page i })

  pub flows_fit : (g : Game) → Stands s g → FlowsFit (flows_in g)
  unfolding settled
  flows_fit g h = record { current = (h.sound.flow, ap (λ (d : Configuration). d.flow) h.rests); aside = h.aside }

  pub game_fits : (g : Game) (fs : FlowsOf (FlowOf (List Part))) → FlowsFit fs → Stands s g → Stands s (with_flows fs g)
  game_fits g fs k h = let rests = rests_in fs.current g.now k.current.1 h.rests in assumption

  pub first_fits : Stood (first_flow s)
  first_fits = (fresh_flow_sound s (start_place s) (start_fits s), refl)

  -- a story is opened with one flow
  pub one_fits : AsideFits s one_flow
  one_fits = record { first = refl; names = refl; current = refl; few = lit≤ tt; each = ((refl, tt), tt) }
