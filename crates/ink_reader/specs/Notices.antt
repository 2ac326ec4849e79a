-- What a reading says of its own (docs/READER.md).
use Rattle.std.specs.Prelude.{ℕ, List, ◌++◌, codes}
use Rattle.ink_model.specs.declared.fault.Refusal.{Refusal}
use Rattle.ink_page.specs.Sentences.{refusal_sentence}
use Rattle.ink_reader.specs.declared.shelf.NotKept.{NotKept}
use Rattle.ink_reader.specs.declared.shelf.NotKept.TheVariants as why
use Rattle.ink_reader.specs.declared.telling.Told.{Told}
use Rattle.ink_reader.specs.declared.telling.Told.TheVariants as told

pub data Word : Type 0 where
  Offer : Word
  Help : Word
  Unclear : Word
  FirstPlace : Word
  PlaceLacks : Word
  LastLacks : Word
  Saved : Word
  NotWritten : NotKept → Word
  NoSave : Word
  BadSave : Word
  NotRead : NotKept → Word
  Stopped : Told → Word
  -- where the line began that broke off: the path of that place
  Began : List ℕ → Word
  PlaceUntold : Word
  Refused : Refusal → Word

-- why a save was not written
abbrev pub unwritten : NotKept → List ℕ
unwritten why.TooLong = codes "The save would be longer than 64 MiB; what was saved before stays."
unwritten other = codes "The save could not be written; what was saved before stays."

-- why none was read
abbrev pub unread : NotKept → List ℕ
unread why.TooLong = codes "The save is longer than 64 MiB, so it is not read; it stays as it is."
unread why.NoText = codes "The save is cut, or is no save; it stays as it is."
unread why.Failed = codes "The save could not be read; it stays as it is."

-- how a story ends where there is no choice
abbrev pub end_words : Told → List ℕ
end_words told.LooseEnd = codes "The story stops here at a loose end: nothing was written to come after this."
end_words other = codes "The story ends here."

abbrev pub word_text : Word → List ℕ
word_text Offer = codes "There is a save. Go on with it? (n begins anew; the next save takes its place)"
word_text Help = codes "A number takes the choice of that number. s saves, l loads the save, b goes back to before the last choice, r restarts, v NAME shows a variable, q quits, ? shows this."
word_text Unclear = codes "That was not understood; ? shows what is."
word_text FirstPlace = codes "There is no choice to take back."
word_text PlaceLacks = codes "There is not enough memory to note this place: it is not saved, and b does not come back to it."
word_text LastLacks = codes "There is not enough memory to note the last place: b does not come back to it."
word_text Saved = codes "Saved."
word_text (NotWritten cause) = unwritten cause
word_text NoSave = codes "There is no save."
word_text BadSave = codes "The save is cut, or is no save; it stays as it is."
word_text (NotRead cause) = unread cause
word_text (Stopped t) = end_words t
word_text (Began path) = codes "The line that broke off began at " ++ (path ++ codes ".")
word_text PlaceUntold = codes "There is not enough memory to tell where that line began."
word_text (Refused r) = refusal_sentence r

-- behind a fault of a line
abbrev pub broke_off : List ℕ
broke_off = codes "The story breaks off behind the last line. What was saved stays; b goes back to before the last choice, if there was one, and r restarts."

-- behind one at a command that runs no line
abbrev pub broke_before : List ℕ
broke_before = codes "The story breaks off before the next line. What was saved stays; b goes back to before the last choice, if there was one, and r restarts."
