-- How far a sink has come with bytes.
use Rattle.std.proofs.Common.{◌≡◌, ◌≢◌, ℕ, List, ◌++◌, false, ◌&&◌, ◌∙◌, ap, sym, append_assoc, take, drop, take-append-drop, Option, Ok}
use Rattle.std.proofs.lemmas.Bool.{ne_eqb}
use Rattle.ink_model.specs.Text.Bytes.{is_filled}
use Rattle.ink_protocol.specs.Ends.{after_call, takes_nothing}
use Rattle.std.specs.Io.KnownBytes.{Appends}
use Rattle.std.proofs.KnownBytes.{Appends-trans}

-- a front of the bytes is written, and rest is left
pub record Wrote (old new : Option (List ℕ)) (bytes rest : List ℕ) : Type 0 where
  pub part : List ℕ
  pub whole : bytes ≡ part ++ rest
  pub appended : Appends old new part

pub wrote_more : (old mid new : Option (List ℕ)) (bytes rest after : List ℕ) (n : ℕ) → Wrote old mid bytes rest → Appends mid new (take n rest) → after ≡ drop n rest
    → Wrote old new bytes after
wrote_more old mid new bytes rest after n w a e = record {
  part = w.part ++ take n rest;
  whole = w.whole ∙ ap (λ l. w.part ++ l) (sym (take-append-drop n rest) ∙ ap (λ l. take n rest ++ l) (sym e)) ∙ sym (append_assoc w.part (take n rest) after);
  appended = Appends-trans old mid new w.part (take n rest) w.appended a;
}

takes_some : (n : ℕ) (bytes : List ℕ) → n ≢ 0 → takes_nothing {E = Unit {0}} (Ok n) bytes ≡ false
takes_some n bytes h = ap (λ b. b && is_filled bytes) (ne_eqb n 0 h)

-- a write that took some byte is no failure
pub as_many_failures : (n : ℕ) (bytes : List ℕ) (first old new : ℕ) → n ≢ 0 → new ≡ after_call (takes_nothing {E = Unit {0}} (Ok n) bytes) old → old ≡ first → new ≡ first
as_many_failures n bytes first old new h e k = e ∙ ap (λ b. after_call b old) (takes_some n bytes h) ∙ k
