-- Where names are looked for first.
use Rattle.std.specs.Prelude.{◌≡◌, ◌⊎◌, ◌<◌, ℕ, ◌+◌, ◌-◌, ◌*◌, ◌%◌, bit_and, List, length, get_or, Some, String}
use Rattle.std.specs.BTreeMap.{BTreeMap, get_by_text}
use Rattle.std.specs.declared.alloc.Global.{Global}
use Rattle.ink_names.specs.Names.{number_of}

abbrev pub mixed : ℕ → ℕ → ℕ → ℕ → ℕ → ℕ → ℕ → ℕ → ℕ
mixed len first sixth fifth fourth third second last = 7919 * (len % 4096) + 2248091 * first + 100000 * sixth + 10000 * fifth + 1000 * fourth + 100 * third + 10 * second + last

-- the hash of a name, by its length, its first byte and its last six
abbrev pub hash : List ℕ → ℕ
hash name = mixed (length name) (get_or name 0 0) (get_or name (length name - 6) 0) (get_or name (length name - 5) 0) (get_or name (length name - 4) 0) (get_or name (length name - 3) 0) (get_or name (length name - 2) 0) (get_or name (length name - 1) 0)

-- the slot of a name, of so many, by the last bits of its hash
abbrev pub slot : List ℕ → ℕ → ℕ
slot name slots = bit_and (hash name) (slots - 1)

-- what the slot of a name holds
abbrev pub behind : List ℕ → List ℕ → ℕ
behind slots name = get_or slots (slot name (length slots)) 0

-- a name's slot leads to its number, or is taken, and the others have the number
abbrev pub Leads : List ℕ → BTreeMap (String Global) ℕ → List ℕ → ℕ → Type 0
Leads slots others name number = (behind slots name ≡ number + 1) ⊎ ((0 < behind slots name) × (get_by_text others name ≡ Some number))

-- each of these names is found
abbrev pub Finds : List ℕ → BTreeMap (String Global) ℕ → List (List ℕ) → Type 0
Finds slots others names = (name : List ℕ) (number : ℕ) → number_of names name ≡ Some number → Leads slots others name number

-- what the others have is the number of one of these names
abbrev pub Right : BTreeMap (String Global) ℕ → List (List ℕ) → Type 0
Right others names = (name : List ℕ) (number : ℕ) → get_by_text others name ≡ Some number → number_of names name ≡ Some number

-- what the others have stays
abbrev pub KeepsNumbers : BTreeMap (String Global) ℕ → BTreeMap (String Global) ℕ → Type 0
KeepsNumbers old new = (name : List ℕ) (number : ℕ) → get_by_text old name ≡ Some number → get_by_text new name ≡ Some number
