-- What a story is refused for, by the steps of reading it.
use Rattle.std.proofs.Common.{◌≡◌, ◌∙◌, ◌⊎◌, ap, refl, inl, inr, ℕ, List, [], ◌∷◌, length, nat_lt, Bool, true, false, not, ◌&&◌, cond, None, Result, Ok, Err, IfOk, IfErr}
use Rattle.std.specs.Str.{is_utf8}
use Rattle.serde_json.proofs.OnLiterals.{serde_json_on_literals}
use Rattle.serde_json.specs.Read.{read}
use Rattle.ink_json.specs.Reading.{IsRefusedBy, is_parsed}
use Rattle.ink_model.specs.Story.Acceptance.{accepted, accepted_story, and_then}
use Rattle.ink_model.specs.Text.Bytes.{is_filled}
use Rattle.ink_model.specs.Story.Grammar.{here, of_json, story, unmarked}
use Rattle.ink_player.proofs.Common.{StoryTree, MAX_STORY}
use Rattle.ink_model.specs.declared.fault.Cause.TheVariants.{Limit, OutOfMemory}
use Rattle.ink_model.specs.declared.fault.ReadRefusal.{ReadRefusal}
use Rattle.ink_player.specs.Playing.{IsRefused}

nothing_read : read [] ≡ None
unfolding serde_json_on_literals
nothing_read = refl

-- bytes that spell a story are parsed
parsed_by : (over text : Bool) (bytes : List ℕ) (t : StoryTree) → cond over (Err (here Limit)) (of_json (cond text (read bytes) None)) ≡ Ok t → (not over && (text && is_filled bytes)) ≡ true
parsed_by true text bytes t e = absurd (cc)
parsed_by false false bytes t e = absurd (cc)
parsed_by false true [] t e = absurd (cc (ap of_json nothing_read))
parsed_by false true (c ∷ cs) t e = refl

module _ (line : List ℕ) where
  pub unread : (r : ReadRefusal) → IsRefusedBy (story line) line r → IsRefused line r
  unfolding accepted_story
  unread r (inl short) = inl short
  unread r (inr h) = inr (ap (λ o. and_then accepted o) h)

  module _ (t : StoryTree) (reads : story line ≡ Ok t) where
    parsed : is_parsed line ≡ true
    unfolding story
    parsed = parsed_by (nat_lt MAX_STORY (length line)) (is_utf8 (unmarked line)) (unmarked line) t reads

    pub unaccepted : (r : ReadRefusal) → (r ≡ here OutOfMemory) ⊎ (accepted t ≡ Err r) → IsRefused line r
    unfolding accepted_story
    unaccepted r (inl short) = inl (short, parsed)
    unaccepted r (inr h) = inr (ap (λ o. and_then accepted o) reads ∙ h)

    pub all_accepted : (s : StoryTree) → accepted t ≡ Ok s → accepted_story line ≡ Ok s
    unfolding accepted_story
    all_accepted s h = ap (λ o. and_then accepted o) reads ∙ h

    -- the same of what checking gave
    pub all_accepted_as : {S : Type 0} (tree_of : S → StoryTree) (r : Result S ReadRefusal) → IfOk r (λ s. accepted t ≡ Ok (tree_of s)) → IfOk r (λ s. accepted_story line ≡ Ok (tree_of s))
    all_accepted_as tree_of (Ok s) h = all_accepted (tree_of s) h
    all_accepted_as tree_of (Err r) h = tt

    pub unaccepted_as : {S : Type 0} (r : Result S ReadRefusal) → IfErr r (λ f. (f ≡ here OutOfMemory) ⊎ (accepted t ≡ Err f)) → IfErr r (IsRefused line)
    unaccepted_as (Ok s) h = tt
    unaccepted_as (Err r) h = unaccepted r h
