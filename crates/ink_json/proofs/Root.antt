-- Where the tree of a story that bytes spell comes from: the value at `root` in data that was read.
use Rattle.std.proofs.Common.{◌≡◌, ℕ, suc, ◌≤◌, List, [], ◌∷◌, length, Bool, true, false, nat_lt, cond, not, codes, Option, Some, None, Result, Ok, Err, refl, sym, arith}
use Rattle.ink_json.proofs.Common.{nat_tests, Data, read, size, StoryTree, ReadRefusal, InkVersion}
use Rattle.std.specs.Str.{is_utf8}
use Rattle.serde_json.specs.Find.{get}
use Rattle.json_tape.proofs.Size.{read_size}
use Rattle.ink_model.specs.declared.limits.TheConstants.{MAX_STORY}
use Rattle.ink_model.specs.Story.Grammar.{here, is_object, is_blank_object, tree_of, faults, unmarked, json, of_json, of_value, of_version, version_of, root_of, story}
use Rattle.ink_model.specs.declared.fault.Cause.TheVariants.{Shape, Unsupported}
use Rattle.ink_json.proofs.Bytes.{get_size}
use Rattle.ink_json.proofs.Containers.{first_ok}

-- A tree is that of the value at `root` in the data that a text is, and the text is within the limit.
pub record Root (t : StoryTree) : Type 0 where
  pub text : List ℕ
  pub short : length text ≤ MAX_STORY
  pub whole : Data
  pub is_read : read text ≡ Some whole
  pub root : Data
  pub is_root : get (codes "root") whole ≡ Some root
  pub version : InkVersion
  pub is_tree : tree_of version false root ≡ t

not_refused : {A : Type 0} (b : Bool) (r : ReadRefusal) (read : Result A ReadRefusal) (a : A) → cond b (Err r) read ≡ Ok a → read ≡ Ok a
not_refused true r read a h = absurd cc
not_refused false r read a h = h

not_else : {A : Type 0} (b : Bool) (r : ReadRefusal) (read : Result A ReadRefusal) (a : A) → cond b read (Err r) ≡ Ok a → read ≡ Ok a
not_else true r read a h = h
not_else false r read a h = absurd cc

-- the tree is that of the root's value, which is there
root_read : (version : InkVersion) (o : Option Data) (t : StoryTree) → root_of version o ≡ Ok t → (d : Data) × (o ≡ Some d) × (tree_of version false d ≡ t)
root_read version None t e = absurd cc
root_read version (Some d) t e = (d, refl, (first_ok (faults version 1 false d) (tree_of version false d) t (not_else _ _ _ t e)).1)

-- a story that is read has a version, in which its root is read
version_read : (o : Option InkVersion) (d : Data) (t : StoryTree) → of_version o d ≡ Ok t → (version : InkVersion) × (root_of version (get (codes "root") d) ≡ Ok t)
version_read None d t e = absurd cc
version_read (Some version) d t e =
    (version, not_refused (not (is_blank_object (get (codes "listDefs") d))) (here Unsupported) (root_of version (get (codes "root") d)) t e)

value_read : (d : Data) (t : StoryTree) → of_value d ≡ Ok t → (version : InkVersion) × (root_of version (get (codes "root") d) ≡ Ok t)
value_read d t e = version_read (version_of d) d t (not_refused (not (is_object d)) (here Shape) (of_version (version_of d) d) t e)

json_read : (o : Option Data) (t : StoryTree) → of_json o ≡ Ok t → (d : Data) × (o ≡ Some d) × (of_value d ≡ Ok t)
json_read None t e = absurd cc
json_read (Some d) t e = (d, refl, e)

text_read : (b : Bool) (text : List ℕ) (d : Data) → cond b (read text) None ≡ Some d → read text ≡ Some d
text_read true text d e = e
text_read false text d e = absurd cc

bytes_read : (b : Bool) (bytes : List ℕ) (r : ReadRefusal) (read : Result StoryTree ReadRefusal) (t : StoryTree) → nat_lt MAX_STORY (length bytes) ≡ b → cond b (Err r) read ≡ Ok t → (length bytes ≤ MAX_STORY) × (read ≡ Ok t)
bytes_read true bytes r read t h e = absurd cc
bytes_read false bytes r read t h e = (grind (arith, nat_tests), e)

shorter : (a b c : ℕ) (rest : List ℕ) (t : Bool) → length (cond t rest (a ∷ b ∷ c ∷ rest)) ≤ length (a ∷ b ∷ c ∷ rest)
shorter a b c rest true = omega arith
shorter a b c rest false = omega arith

unmarked_shorter : (bytes : List ℕ) → length (unmarked bytes) ≤ length bytes
unmarked_shorter [] = omega arith
unmarked_shorter (a ∷ []) = omega arith
unmarked_shorter (a ∷ b ∷ []) = omega arith
unmarked_shorter (a ∷ b ∷ c ∷ rest) = shorter a b c rest _

-- each story that bytes spell has a root
pub story_root : (bytes : List ℕ) (t : StoryTree) → story bytes ≡ Ok t → Root t
unfolding story
story_root bytes t e =
    let within = bytes_read _ bytes _ _ t refl e in
    let value = json_read (json (unmarked bytes)) t within.1 in
    let read = value_read value.0 t value.2 in
    let found = root_read read.0 (get (codes "root") value.0) t read.1 in
    record {
      text = unmarked bytes;
      short = omega (arith, unmarked_shorter bytes, within.0);
      whole = value.0;
      is_read = text_read (is_utf8 (unmarked bytes)) (unmarked bytes) value.0 value.1;
      root = found.0;
      is_root = found.1;
      version = read.0;
      is_tree = found.2;
    }

-- and the root is made of no more values than a story may have bytes, and one
pub root_size : (t : StoryTree) (r : Root t) → size r.root ≤ suc MAX_STORY
root_size t r = omega (arith, r.short, read_size r.text r.whole r.is_read, get_size (codes "root") r.whole r.root (sym r.is_root))
