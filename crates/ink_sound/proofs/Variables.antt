-- Variables that are read, assigned and declared, and pointers.
use Rattle.std.proofs.Common.{◌≡◌, ap, refl, arith, ℕ, zero, suc, ◌+◌, ◌≤◌, ℤ, pos, negsuc, List, [], ◌∷◌, length, true, nat_eq, Option, Some, None, is_some, option_and_then, unwrap_or, Result, Ok, Err}
use Rattle.ink_sound.proofs.Common.{cond_both, BaseFirst, Context, Fields, is_small, Values, store, stored, StoryTree, Fault, FrameKind, Part, Value, ContextFits, EffectFits, FieldsFit, Finds, Gives, nat_list_cmp_total, Each, name_order, row, Global, Temporary, FrameFits, FrameStands, GlobalsFit, IsFrame, RowFits, ThreadStands, ValueFits}
use Rattle.ink_model.specs.Flow.Frames.{FrameOf, ThreadOf, frame_numbered}
use Rattle.ink_model.specs.Run.Step.Evaluation.{push_value}
use Rattle.ink_model.specs.Run.Step.Variables as step
use Rattle.ink_model.specs.Flow.Threads.{changed, frame_count, with_row_in, with_temp}
use Rattle.ink_model.specs.Variables.Access.{assign, assign_at, chain_end, declare, declared, held, kept, kept_pointer, last_pointer, named, on_pointer, point, read, stands, value_at, with_declared, with_held, with_named}
use Rattle.ink_model.specs.declared.limits.TheConstants.{MAX_FRAMES}
use Rattle.ink_model.specs.declared.scope.Scope.{Scope}
use Rattle.ink_model.specs.declared.value.Value.TheVariants.{Int, Pointer}
use Rattle.ink_sound.proofs.Ints.{count_small}
use Rattle.ink_sound.proofs.Rows.{each_put, each_stored, once_put, rise_put, row_finds, stored_finds}
use Rattle.ink_sound.proofs.Values.{each_of, or_fault_fits, or_finds, popping_fits, pushing_fits}

module _ (s : StoryTree) where
  -- ---- temporaries

  row_in_fits : (name : List ℕ) (v : Value) (f : FrameOf (List Part)) → ValueFits s v → FrameFits s f → FrameFits s (with_row_in name v f)
  row_in_fits name v f p h = record { rise = rise_put name_order nat_list_cmp_total name v f.temps h.rise; each = each_put name_order (RowFits s) name v f.temps p h.each; depth = h.depth }

  -- the frames below, of which some have changed
  pub record ChangedFits (k : FrameKind) (old new : List (FrameOf (List Part))) : Type 0 where
    pub each : Each (FrameStands s) new
    pub base : BaseFirst k new
    pub as_many : length new ≡ length old

  changed_fits : (n : ℕ) (name : List ℕ) (v : Value) (k : FrameKind) (fs : List (FrameOf (List Part))) → ValueFits s v → Each (FrameStands s) fs → BaseFirst k fs
      → ChangedFits k fs (changed (with_row_in name v) n fs)
  changed_fits n name v k [] p h b = record { each = tt; base = b; as_many = refl }
  changed_fits n name v k (f ∷ fs) p h b =
      let on = changed_fits n name v f.kind fs p h.1 b.1 in
      cond_both (nat_eq n (length fs + 1)) _ _ (ChangedFits k (f ∷ fs)) (λ _. record { each = ((row_in_fits name v f p h.0.0, h.0.1), h.1); base = b; as_many = refl })
      (λ _. record { each = (h.0, on.each); base = (b.0, on.base); as_many = ap suc on.as_many })

  pub with_temp_fits : (n : ℕ) (name : List ℕ) (v : Value) (t : ThreadOf (List Part)) → ValueFits s v → ThreadStands s t → ThreadStands s (with_temp n name v t)
  with_temp_fits n name v t p h =
      let on = changed_fits n name v t.frame.kind t.below p h.thread.below h.thread.base in
      cond_both (nat_eq n (frame_count t)) _ _ (ThreadStands s) (λ _. assumption (row_in_fits name v t.frame p h.thread.frame))
      (λ _. let few : length (changed (with_row_in name v) n t.below) + 1 ≤ MAX_FRAMES = omega (arith, on.as_many, h.thread.few) in assumption)

  -- ---- globals

  pub stored_fits : (name : List ℕ) (v : Value) (vs : Values) → ValueFits s v → GlobalsFit s vs → GlobalsFit s (store name v vs)
  stored_fits name v vs p h = record { once = once_put name v vs h.once; each = each_stored (ValueFits s) name v vs p h.each }

  -- ---- what names and pointers lead to

  pointed : {X : Type 0} (Q : X → Type 0) (o : Option Value) (so : ℤ → List ℕ → X) (otherwise : X) → Finds (ValueFits s) o
      → ((frame : ℤ) (name : List ℕ) → IsFrame frame → Q (so frame name)) → Q otherwise → Q (on_pointer o so otherwise)
  pointed Q (Some (Pointer frame name)) so otherwise h k q = k frame name h
  pointed Q o so otherwise h k q = q

  unwrap_fits : (o : Option Value) (d : Value) → Finds (ValueFits s) o → ValueFits s d → ValueFits s (unwrap_or o d)
  unwrap_fits None d h k = k
  unwrap_fits (Some v) d h k = h

  numbered_finds : (n : ℕ) (name : List ℕ) (fs : List (FrameOf (List Part))) → Each (FrameFits s) fs → Finds (ValueFits s) (option_and_then (λ f. row name_order name f.temps) (frame_numbered n fs))
  numbered_finds n name [] h = tt
  numbered_finds n name (f ∷ fs) h = cond_both (nat_eq n (length fs + 1)) _ _ (λ o. Finds (ValueFits s) (option_and_then (λ g. row name_order name g.temps) o))
      (λ _. row_finds name_order (ValueFits s) name f.temps h.0.each) (λ _. numbered_finds n name fs h.1)

  module _ (globals : Values) (t : ThreadOf (List Part)) (fits : GlobalsFit s globals) (stand : ThreadStands s t) where
    named_finds : (name : List ℕ) → Finds (ValueFits s) (named globals t name)
    named_finds name = or_finds (ValueFits s) (stored name globals) (row name_order name t.frame.temps) (stored_finds (ValueFits s) name globals fits.each) (row_finds name_order (ValueFits s) name t.frame.temps stand.thread.frame.each)

    held_finds : (frame : ℤ) (name : List ℕ) → Finds (ValueFits s) (held globals t frame name)
    held_finds (pos zero) name = stored_finds (ValueFits s) name globals fits.each
    held_finds (pos (suc n)) name = numbered_finds (suc n) name (t.frame ∷ t.below) (stand.thread.frame, each_of (FrameStands s) (FrameFits s) (λ f k. k.0) t.below stand.thread.below)
    held_finds (negsuc n) name = tt

    -- the last pointer of a chain is none below the globals
    last_finds : (n : ℕ) (frame : ℤ) (name : List ℕ) → IsFrame frame → Finds (λ p. IsFrame p.0) (last_pointer globals t n frame name)
    last_finds zero frame name h = tt
    last_finds (suc n) frame name h =
        pointed (Finds (λ p. IsFrame p.0)) (held globals t frame name) (last_pointer globals t n) (Some (frame, name)) (held_finds frame name) (λ f m k. last_finds n f m k) h

    read_at : (o : Option (ℤ × List ℕ)) → Gives (ValueFits s) (value_at globals t o)
    read_at None = tt
    read_at (Some p) = cond_both (stands globals t p.0 p.1) _ _ (Gives (ValueFits s)) (λ _. unwrap_fits (held globals t p.0 p.1) (Int (pos 0)) (held_finds p.0 p.1) refl) (λ _. tt)

    pub read_fits : (name : List ℕ) → Gives (ValueFits s) (read globals t name)
    read_fits name = pointed (Gives (ValueFits s)) (named globals t name) (λ frame m. value_at globals t (chain_end globals t frame m)) (Ok (unwrap_or (named globals t name) (Int (pos 0))))
        (named_finds name) (λ frame m k. read_at (chain_end globals t frame m)) (unwrap_fits (named globals t name) (Int (pos 0)) (named_finds name) refl)

    -- ---- assigning and declaring

    abbrev BothFit : Values × ThreadOf (List Part) → Type 0
    BothFit w = GlobalsFit s w.0 × ThreadStands s w.1

    held_fits : (frame : ℤ) (name : List ℕ) (v : Value) → ValueFits s v → BothFit (with_held globals t frame name v)
    held_fits (pos zero) name v p = (stored_fits name v globals p fits, stand)
    held_fits (pos (suc n)) name v p = (fits, with_temp_fits (suc n) name v t p stand)
    held_fits (negsuc n) name v p = (fits, stand)

    named_fits : (name : List ℕ) (v : Value) → ValueFits s v → BothFit (with_named globals t name v)
    named_fits name v p = cond_both (is_some (stored name globals)) _ _ BothFit (λ _. (stored_fits name v globals p fits, stand)) (λ _. (fits, with_temp_fits (frame_count t) name v t p stand))

    assigned_at : (v : Value) (o : Option (ℤ × List ℕ)) → ValueFits s v → Gives BothFit (assign_at globals t v o)
    assigned_at v None p = tt
    assigned_at v (Some q) p = cond_both (stands globals t q.0 q.1) _ _ (Gives BothFit) (λ _. cond_both (is_some (held globals t q.0 q.1)) _ _ (Gives BothFit) (λ _. held_fits q.0 q.1 v p) (λ _. tt)) (λ _. tt)

    pub assigned_fits : (name : List ℕ) (v : Value) → ValueFits s v → Gives BothFit (assign globals t name v)
    assigned_fits name v p = pointed (Gives BothFit) (named globals t name) (λ frame to. assign_at globals t v (chain_end globals t frame to)) _
        (named_finds name) (λ frame to k. assigned_at v (chain_end globals t frame to) p) (cond_both (is_some (named globals t name)) _ _ (Gives BothFit) (λ _. named_fits name v p) (λ _. tt))

    kept_fits : (v : Value) → ValueFits s v → Gives (ValueFits s) (kept globals t v)
    kept_fits v p = pointed (Gives (ValueFits s)) (Some v) (λ frame name. kept_pointer (chain_end globals t frame name)) (Ok v) p
        (λ frame name k. (elim (chain_end globals t frame name) as (λ o. Finds (λ q. IsFrame q.0) o → Gives (ValueFits s) (kept_pointer o)) [ None ↦ λ h. tt | Some q ↦ λ h. h ])
        (last_finds (frame_count t + 1) frame name k)) p

    scoped_fits : (scope : Scope) (name : List ℕ) (v : Value) → ValueFits s v → BothFit (with_declared globals t scope name v)
    scoped_fits Global name v p = (stored_fits name v globals p fits, stand)
    scoped_fits Temporary name v p = (fits, with_temp_fits (frame_count t) name v t p stand)

    pub declared_fits : (scope : Scope) (name : List ℕ) (v : Value) → ValueFits s v → Gives BothFit (declare globals t scope name v)
    declared_fits scope name v p = (elim (kept globals t v) as (λ r. Gives (ValueFits s) r → Gives BothFit (declared globals t scope name r)) [ Ok w ↦ λ k. scoped_fits scope name w k | Err f ↦ λ k. tt ]) (kept_fits v p)

  -- ---- effects

  storing_fits : (r : Result (Values × ThreadOf (List Part)) Fault) (f : Fields) → Gives (λ w. GlobalsFit s w.0 × ThreadStands s w.1) r → FieldsFit s f → EffectFits s (step.storing r f)
  storing_fits (Ok w) f h k = (h.1, record { stack = k.stack; globals = h.0; page = k.page })
  storing_fits (Err e) f h k = tt

  module _ (seen : Context) (context : ContextFits s seen) (f : Fields) (fits : FieldsFit s f) where
    pub declare_fits : (scope : Scope) (name : List ℕ) → EffectFits s (step.declare scope name seen f)
    declare_fits scope name = popping_fits s f (λ v left. step.storing (declare left.globals seen.thread scope name v) left) fits
        (λ v left p k. storing_fits (declare left.globals seen.thread scope name v) left (declared_fits left.globals seen.thread k.globals context.thread scope name v p) k)

    pub assign_fits : (name : List ℕ) → EffectFits s (step.assign name seen f)
    assign_fits name = popping_fits s f (λ v left. step.storing (assign left.globals seen.thread name v) left) fits
        (λ v left p k. storing_fits (assign left.globals seen.thread name v) left (assigned_fits left.globals seen.thread k.globals context.thread name v p) k)

    pub variable_fits : (name : List ℕ) → EffectFits s (step.push_variable name seen f)
    variable_fits name = or_fault_fits s (ValueFits s) (read f.globals seen.thread name) _ (read_fits f.globals seen.thread fits.globals context.thread name) (λ v p. pushing_fits s v f p fits)

    pub push_value_fits : (v : Value) → ValueFits s v → EffectFits s (push_value v f)
    push_value_fits v p = cond_both f.evaluating _ _ (EffectFits s) (λ _. pushing_fits s v f p fits) (λ _. fits)

    point_fits : (frame : ℤ) (name : List ℕ) → is_small frame ≡ true → ValueFits s (point seen.thread frame name)
    point_fits (pos n) name e = e
    point_fits (negsuc n) name e = cond_both (is_some (row name_order name seen.thread.frame.temps)) _ _ IsFrame (λ _. count_small (frame_count seen.thread) (omega (arith, context.thread.thread.few))) (λ _. refl)

    pub pointer_fits : (name : List ℕ) (frame : ℤ) → is_small frame ≡ true → EffectFits s (step.push_pointer name frame seen f)
    pointer_fits name frame e = push_value_fits (point seen.thread frame name) (point_fits frame name e)
