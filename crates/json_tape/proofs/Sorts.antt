-- What a value is, where it is known as one of the kinds.
use Rattle.std.proofs.Common.{◌≡◌, Bool, false, List, ℕ, None, Option, Some, is_some, refl}
use Rattle.json_tape.proofs.Common.{Data, Items, Members, Num, array, boolean, null, number, string}
use Rattle.serde_json.specs.Find.{as_array, as_bool, as_number, as_object, as_str}

pub is_string : (d : Data) (s : List ℕ) → Some s ≡ as_str d → d ≡ string s
is_string (string t) s h = cc
is_string d s h = absurd (cc)

pub is_array : (d : Data) (items : Items) → Some items ≡ as_array d → d ≡ array items
is_array (array its) items h = cc
is_array d items h = absurd (cc)

pub is_number : (d : Data) (n : Num) → Some n ≡ as_number d → d ≡ number n
is_number (number m) n h = cc
is_number d n h = absurd (cc)

pub is_bool : (d : Data) (b : Bool) → Some b ≡ as_bool d → d ≡ boolean b
is_bool (boolean c) b h = cc
is_bool d b h = absurd (cc)

pub is_null : (d : Data) → None ≡ as_str d → None ≡ as_array d → None ≡ as_object d → None ≡ as_number d → None ≡ as_bool d → d ≡ null
is_null null a b c e f = refl
is_null d a b c e f = absurd (cc)

pub no_object : (o : Option Members) → false ≡ is_some o → None ≡ o
no_object None h = refl
no_object (Some ms) h = absurd (cc)
