use Rattle.std.proofs.Common.{◌≡◌, ◌↔◌, ℕ, List, Bool, true, false, None, IsTrue, if◌then◌else◌, inl, inr, refl, sym, true≢false}
use Rattle.serde_json.specs.Read.{read}
use Rattle.ink_model.specs.declared.fault.Refusal.TheVariants as refusal
use Rattle.ink_reader.specs.Course.{IsUnread}
use Rattle.ink_reader.specs.Notices.{BadSave, Refused}
use Rattle.ink_reader.proofs.saving.read_save.Goals as goal

unread : (lacks : Bool) (text : List ℕ) (M : Type 0) → IsTrue lacks ↔ M → ((M → ⊥) → read text ≡ None) → IsUnread text (if lacks then Refused refusal.OutOfMemory else BadSave)
unread true text M h none = inr refl
unread false text M h none = inl (none (λ m. true≢false (sym (h.1 m))), refl)

pub returns-in-Err : goal.returns-in-Err
returns-in-Err c = (
  (if c.is_memory.result then Refused refusal.OutOfMemory else BadSave),
  unread c.is_memory.result c.args.save.now _ c.is_memory.ensures c.in-Err.ensures.err,
  c.unread_words.ensures,
)
