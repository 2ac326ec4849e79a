-- What a text is read as.
use Rattle.std.proofs.Common.{◌≡◌, ◌<◌, refl, inl, inr, ℕ, List, [], ◌∷◌, length, true, arith, Option, None, Some, Result, Err}
use Rattle.serde_json.specs.Data.{Data}
use Rattle.serde_json.specs.Read.{read}
use Rattle.ink_model.specs.Text.Bytes.{is_filled}
use Rattle.ink_model.specs.Protocol.Command.{json_of}
use Rattle.ink_model.specs.Story.Tree.{StoryTree}
use Rattle.ink_save.specs.Loads.{ReadsAs, ReadsText}
use Rattle.ink_save.specs.declared.loading.SaveRefusal.{SaveRefusal}
use Rattle.ink_save.specs.declared.loading.SaveRefusal.TheVariants as refusal
use Rattle.ink_step.specs.declared.machine.Machine.{Machine}

-- the JSON of a text, by what reading it gives
spelled : (text : List ℕ) (o : Option Data) → read text ≡ o → json_of text ≡ o
unfolding json_of
spelled text o h = h

filled : (text : List ℕ) → 0 < length text → is_filled text ≡ true
filled [] some = absurd (omega (arith, some))
filled (c ∷ cs) some = refl

module _ (s : StoryTree) (text : List ℕ) where
  pub text-read : (j : Data) (r : Result Machine SaveRefusal) → read text ≡ Some j → ReadsAs s j r → ReadsText s text r
  text-read j r is h = inl (j, spelled text (Some j) is, h)

  pub text-bad : read text ≡ None → ReadsText s text (Err refusal.BadSave)
  text-bad is = inr (inl (spelled text None is, refl))

  pub text-short : 0 < length text → ReadsText s text (Err refusal.OutOfMemory)
  text-short some = inr (inr (filled text some, refl))
