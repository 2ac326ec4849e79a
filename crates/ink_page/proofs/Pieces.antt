-- The way to a piece of a story's bytes.
use Rattle.std.proofs.Common.{◌≡◌, ◌∙◌, refl, sym, ap, subst, arith, true≢false, ℕ, zero, ◌+◌, ◌-◌, ◌<◌, ◌≤◌, suc, add-one, List, [], ◌∷◌, length, drop, get_or, codes, Bool, true, false, cond, is_some, Option, None, Some, IfSome, option_and_then, option_map, Ordering, Less, Equal, Greater, IsUtf8}
use Rattle.std.proofs.Math.Seq.{drop-cons}
use Rattle.std.proofs.lemmas.Str.{IsUtf8-from_is_utf8, is_utf8-from_IsUtf8}
use Rattle.std.specs.List.{slice_get}
use Rattle.std.specs.Ordering.{match_ordering, nat_cmp}
use Rattle.std.specs.Cmp.Lexicographic.{slice_cmp}
use Rattle.std.specs.Prelude.{⊤}
use Rattle.std.specs.Str.{is_utf8}
use Rattle.json.specs.Lex.{tokens}
use Rattle.json.specs.Print.{print}
use Rattle.serde_json.specs.Data.{Data, null, boolean, number, string, array, object, Items, no_items, item, Members, no_members, member, depth, items_depth, members_depth}
use Rattle.serde_json.specs.Find.{as_array, get, get_item, get_member}
use Rattle.serde_json.specs.Read.{max_depth, read}
use Rattle.serde_json.specs.View.{items_view, view}
use Rattle.serde_json.specs.Written.{compact_text, has_float}
use Rattle.serde_json.specs.declared.value.Value.{Value}
use Rattle.ink_model.specs.Story.Grammar.{json, member_of, own, own_after, own_of, unmarked}
use Rattle.ink_model.specs.declared.place.Part.{Part}
use Rattle.ink_model.specs.declared.place.Part.TheVariants.{Index, Name}
use Rattle.ink_page.specs.Piece.{Spells, down, inside, piece_of}

some-same : {A : Type 0} (a b : A) → Some a ≡ Some b → a ≡ b
some-same a b h = cc

-- bytes that are JSON
pub json_read : (bytes : List ℕ) (d : Data) → IsUtf8 bytes → read bytes ≡ Some d → Some d ≡ json bytes
json_read bytes d utf8 is = sym (ap (λ b. cond b (read bytes) None) (is_utf8-from_IsUtf8 bytes utf8) ∙ is)

none_unless : (b : Bool) (o : Option Data) → (b ≡ true → o ≡ None) → None ≡ cond b o None
none_unless true o h = sym (h refl)
none_unless false o h = refl

-- bytes that are none
pub json_unread : (bytes : List ℕ) → (IsUtf8 bytes → read bytes ≡ None) → None ≡ json bytes
json_unread bytes h = none_unless (is_utf8 bytes) (read bytes) (λ is. h (IsUtf8-from_is_utf8 bytes is))

-- from nothing the way leads to nothing
pub down_none : (ps : List Part) → down ps None ≡ None
down_none [] = refl
down_none (p ∷ ps) = down_none ps

next_part : (i : ℕ) (ps : List Part) (p : Part) → i < length ps → p ≡ get_or ps i p → drop i ps ≡ p ∷ drop (i + 1) ps
next_part i ps p h is = drop-cons ps i p h ∙ ap (λ q. q ∷ drop (suc i) ps) (sym is) ∙ ap (λ n. p ∷ drop n ps) (sym (add-one i))

-- one part further down
one_part : (i : ℕ) (ps : List Part) (p : Part) (d : Data) (o all : Option Data) → i < length ps → p ≡ get_or ps i p → o ≡ inside p d → down (drop i ps) (Some d) ≡ all
    → down (drop (i + 1) ps) o ≡ all
one_part i ps p d o all h is leads was = ap (down (drop (i + 1) ps)) leads ∙ ap (λ qs. down qs (Some d)) (sym (next_part i ps p h is)) ∙ was

-- where a part leads to nothing, all of them do
pub no_part : (i : ℕ) (ps : List Part) (p : Part) (d : Data) (all : Option Data) → i < length ps → p ≡ get_or ps i p → None ≡ inside p d → down (drop i ps) (Some d) ≡ all → None ≡ all
no_part i ps p d all h is leads was = sym (down_none (drop (i + 1) ps)) ∙ one_part i ps p d None all h is leads was

-- the way begins at the root of the JSON, if there is some
from_root : (story : List ℕ) (ps : List Part) (whole : Data) (o : Option Data) → Some whole ≡ json (unmarked story) → o ≡ down ps (get (codes "root") whole) → o ≡ piece_of story ps
from_root story ps whole o reads is = is ∙ ap (λ d. down ps (option_and_then (get (codes "root")) d)) reads

pub from_nothing : (story : List ℕ) (ps : List Part) → None ≡ json (unmarked story) → None ≡ piece_of story ps
from_nothing story ps reads = sym (down_none ps) ∙ ap (λ d. down ps (option_and_then (get (codes "root")) d)) reads

-- the last element of an array
own_last : (vs : List Value) (v : Value) → Some v ≡ slice_get vs (length vs - 1) → own (items_view vs) ≡ Some (view v)
own_last [] v h = absurd (true≢false (ap is_some h))
own_last (w ∷ []) v h = ap (λ u. Some (view u)) (sym (some-same v w h))
own_last (w ∷ u ∷ vs) v h =
    let next : length (w ∷ u ∷ vs) - 1 ≡ suc (length (u ∷ vs) - 1) = omega arith in
    own_last (u ∷ vs) v (h ∙ ap (slice_get (w ∷ u ∷ vs)) next)

-- what it has under a name
pub named_piece : (name : List ℕ) (d : Data) (vs : List Value) (v : Value) → Some (items_view vs) ≡ as_array d → Some v ≡ slice_get vs (length vs - 1)
    → get name (view v) ≡ member_of name (own_of d)
named_piece name d vs v elements last = sym (ap (λ o. member_of name (option_and_then own o)) (sym elements) ∙ ap (member_of name) (own_last vs v last))

-- what is found, if anything is, nests no deeper
abbrev Within : ℕ → Option Data → Type 0
Within n None = ⊤
Within n (Some d) = depth d ≤ n

within_more : (m n : ℕ) (o : Option Data) → m ≤ n → Within m o → Within n o
within_more m n None h x = tt
within_more m n (Some d) h x = omega arith

within_item : (i : ℕ) (ds : Items) → Within (items_depth ds) (get_item i ds)
within_item i no_items = tt
within_item zero (item d ds) = omega arith
within_item (suc i) (item d ds) = within_more (items_depth ds) _ (get_item i ds) (omega arith) (within_item i ds)

within_either : (o : Ordering) (n : ℕ) (a b : Option Data) → Within n a → Within n b → Within n (match_ordering o a b a)
within_either Less n a b x y = x
within_either Equal n a b x y = y
within_either Greater n a b x y = x

within_member : (k : List ℕ) (ms : Members) → Within (members_depth ms) (get_member k ms)
within_member k no_members = tt
within_member k (member l e ms) =
    within_either (slice_cmp nat_cmp k l) _ (get_member k ms) (Some e) (within_more (members_depth ms) _ (get_member k ms) (omega arith) (within_member k ms)) (omega arith)

within_own : (d : Data) (ds : Items) → depth (own_after d ds) ≤ items_depth (item d ds)
within_own d no_items = omega arith
within_own d (item e ds) = omega (arith, within_own e ds)

within_get : (k : List ℕ) (d : Data) → Within (depth d) (get k d)
within_get k null = tt
within_get k (boolean b) = tt
within_get k (number n) = tt
within_get k (string s) = tt
within_get k (array ds) = tt
within_get k (object ms) = within_more (members_depth ms) _ (get_member k ms) (omega arith) (within_member k ms)

within_then : (n : ℕ) (f : Data → Option Data) → ((d : Data) → Within (depth d) (f d)) → (o : Option Data) → Within n o → Within n (option_and_then f o)
within_then n f h None x = tt
within_then n f h (Some d) x = within_more (depth d) n (f d) x (h d)

within_inside : (p : Part) (d : Data) → Within (depth d) (inside p d)
within_inside (Index i) null = tt
within_inside (Index i) (boolean b) = tt
within_inside (Index i) (number n) = tt
within_inside (Index i) (string s) = tt
within_inside (Index i) (array ds) = within_more (items_depth ds) _ (get_item i ds) (omega arith) (within_item i ds)
within_inside (Index i) (object ms) = tt
within_inside (Name name) null = tt
within_inside (Name name) (boolean b) = tt
within_inside (Name name) (number n) = tt
within_inside (Name name) (string s) = tt
within_inside (Name name) (array no_items) = tt
within_inside (Name name) (array (item d ds)) = within_more (depth (own_after d ds)) _ (get name (own_after d ds)) (omega (arith, within_own d ds)) (within_get name (own_after d ds))
within_inside (Name name) (object ms) = tt

within_down : (ps : List Part) (n : ℕ) (o : Option Data) → Within n o → Within n (down ps o)
within_down [] n o x = x
within_down (p ∷ ps) n o x = within_down ps n _ (within_then n (inside p) (within_inside p) o x)

-- a piece nests no deeper than the whole
piece_depth : (k : List ℕ) (ps : List Part) (whole d : Data) → Some d ≡ down ps (get k whole) → depth d ≤ depth whole
piece_depth k ps whole d is = subst (Within (depth whole)) (sym is) (within_down ps (depth whole) (get k whole) (within_get k whole))

-- a text of what the way leads to is one of the piece
pub piece_spelled : (story : List ℕ) (ps : List Part) (found : Option Value) (v : Value) (d : Data) (text : List ℕ) → found ≡ Some v → option_map view found ≡ json (unmarked story)
    → IfSome found (λ w. depth (view w) ≤ max_depth) → Some d ≡ down ps (get (codes "root") (view v)) → (depth d ≤ max_depth → read text ≡ Some d) → text ≡ print (tokens text)
    → (has_float d ≡ false → text ≡ compact_text d) → (e : Data) × (piece_of story ps ≡ Some e) × Spells e text
piece_spelled story ps found v d text is reads nests way back compact plain =
    let whole : Some (view v) ≡ json (unmarked story) = sym (ap (option_map view) is) ∙ reads in
    let shallow : depth (view v) ≤ max_depth = subst (λ o. IfSome o (λ w. depth (view w) ≤ max_depth)) is nests in
    (d, sym (from_root story ps (view v) (Some d) whole way), (back (omega (arith, shallow, piece_depth (codes "root") ps (view v) d way)), compact, plain))
