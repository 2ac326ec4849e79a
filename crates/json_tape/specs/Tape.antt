-- The nodes that a tape keeps: of each a tag and a number, and the texts by themselves.
use Rattle.std.specs.Prelude.{◌≡◌, ℕ, ◌<◌, ◌≤◌, List, [], ◌∷◌, ◌++◌, length, get_or, Bool, true, false, Some, ⊤}
use Rattle.std.specs.Borrow.{Bor}
use Rattle.json.specs.Token.{Token}
use Rattle.json.specs.Json.{skip_value}
use Rattle.json.specs.Tape.{Grown}
use Rattle.json.specs.declared.tape.Node.{Node}
use Rattle.json.specs.declared.tape.Node.TheVariants as nodes
use Rattle.json_tape.specs.declared.tape.Tag.{Tag}
use Rattle.json_tape.specs.declared.tape.Tag.TheVariants.{Object, EndObject, Array, EndArray, Key, String, Number, True, False, Null}

-- ---- a node

-- the text with this number; an empty one where there is none
abbrev pub text_at : List (Bor (List ℕ)) → ℕ → Bor (List ℕ)
text_at texts n = get_or texts n (record { ref_ptr = (0, 0); now = [] })

abbrev pub node_of : List (Bor (List ℕ)) → Tag → ℕ → Node
node_of texts Object n = nodes.Object n
node_of texts EndObject n = nodes.EndObject
node_of texts Array n = nodes.Array n
node_of texts EndArray n = nodes.EndArray
node_of texts Key n = nodes.Key (text_at texts n)
node_of texts String n = nodes.String (text_at texts n)
node_of texts Number n = nodes.Number (text_at texts n)
node_of texts True n = nodes.Bool true
node_of texts False n = nodes.Bool false
node_of texts Null n = nodes.Null

-- its number is that of a text
abbrev pub has_text : Tag → Bool
has_text Object = false
has_text EndObject = false
has_text Array = false
has_text EndArray = false
has_text Key = true
has_text String = true
has_text Number = true
has_text True = false
has_text False = false
has_text Null = false

-- the node of a tag whose text this is
abbrev pub text_node : Tag → Bor (List ℕ) → Node
text_node tag text = node_of (text ∷ []) tag 0

-- with a number more, of this text
abbrev pub HasNumber : List Node → List ℕ → List Node → Type 0
HasNumber old text new = (number : Bor (List ℕ)) × (number.now ≡ text) × (new ≡ old ++ nodes.Number number ∷ [])

-- ---- all nodes

abbrev pub nodes_of : List (Bor (List ℕ)) → List Tag → List ℕ → List Node
nodes_of texts [] ns = []
nodes_of texts (t ∷ ts) [] = []
nodes_of texts (t ∷ ts) (n ∷ ns) = node_of texts t n ∷ nodes_of texts ts ns

-- there are as many numbers as tags, and each text that a number names is one of so many
abbrev pub TextsFit : ℕ → List Tag → List ℕ → Type 0
TextsFit count [] [] = ⊤
TextsFit count [] (n ∷ ns) = ⊥
TextsFit count (t ∷ ts) [] = ⊥
TextsFit count (t ∷ ts) (n ∷ ns) = (has_text t ≡ true → n < count) × TextsFit count ts ns

pub record AreNodes (texts : List (Bor (List ℕ))) (tags : List Tag) (numbers : List ℕ) : Type 0 where
  pub fit : TextsFit (length texts) tags numbers
  pub few : length texts ≤ length tags

-- ---- brackets

abbrev pub IsOpening : Node → Type 0
IsOpening (nodes.Object n) = ⊤
IsOpening nodes.EndObject = ⊥
IsOpening (nodes.Array n) = ⊤
IsOpening nodes.EndArray = ⊥
IsOpening (nodes.Key s) = ⊥
IsOpening (nodes.String s) = ⊥
IsOpening (nodes.Number s) = ⊥
IsOpening (nodes.Bool b) = ⊥
IsOpening nodes.Null = ⊥

-- an opening bracket that leads to this place
abbrev pub leading_to : ℕ → Node → Node
leading_to n (nodes.Object m) = nodes.Object n
leading_to n nodes.EndObject = nodes.EndObject
leading_to n (nodes.Array m) = nodes.Array n
leading_to n nodes.EndArray = nodes.EndArray
leading_to n (nodes.Key s) = nodes.Key s
leading_to n (nodes.String s) = nodes.String s
leading_to n (nodes.Number s) = nodes.Number s
leading_to n (nodes.Bool b) = nodes.Bool b
leading_to n nodes.Null = nodes.Null

-- ---- reading

-- one value, which nests so deep at most, has moved from the tokens that are left to the nodes
abbrev pub Moves : ℕ → List Node → List Token → List Node → List Token → Type 0
Moves depth old left new rest = Grown old left new rest × (skip_value depth left ≡ Some rest)
