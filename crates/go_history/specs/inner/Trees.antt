-- A tree of keys: entries in a list, and the links between them.
use Rattle.std.specs.Prelude.{◌≡◌, ◌≢◌, ◌<◌, ◌≤◌, ◌+◌, ◌++◌, ◌*◌, ◌/◌, ◌%◌, ◌^◌, ◌&&◌, ◌⊎◌, ℕ, zero, suc, nat_eq, Bool, true, false, List, [], ◌∷◌, Option, Some, None, length, map, slice_index, slice_index_or}
use Rattle.std.specs.Map.{lookup}
use Rattle.std.specs.Hash.FoldHasher.{initial, write, finish}
use Rattle.go_board.specs.PackBytes.{bytes_of}
use Rattle.go_history.specs.declared.key.Key.{Key}
use Rattle.go_history.specs.declared.entries.Entry.{Entry}
use Rattle.go_history.specs.declared.hashed.Hashed.{Hashed}
use Rattle.go_history.specs.Keys.{key_eq}

-- a key with the hash of its pack
abbrev pub hashed : Key → Hashed
hashed k = record { hash = finish (write initial (bytes_of k.pack)); key = k }

abbrev pub hashed_eq : Hashed → Hashed → Bool
hashed_eq a b = nat_eq a.hash b.hash && key_eq a.key b.key

-- the hash is that of the key
abbrev pub IsOwn : Hashed → Type 0
IsOwn r = r ≡ hashed r.key

-- the digit of a hash at a depth
unfoldable pub digit_of : Hashed → ℕ → ℕ
digit_of r depth = r.hash / 2 ^ (2 * (depth % 32)) % 4

-- the place of an entry's hash among the links, before the slots of its children
abbrev pub hash_place : ℕ → ℕ
hash_place i = 5 * i

-- the slot of an entry's child
abbrev pub slot : ℕ → ℕ → ℕ
slot i digit = 5 * i + 1 + digit

-- the entry that the first digits of a hash lead to
abbrev pub at_depth : List ℕ → Hashed → ℕ → ℕ
at_depth links r zero = 0
at_depth links r (suc d) = slice_index links (slot (at_depth links r d) (digit_of r d))

-- the slot of the last of these steps
abbrev pub link_to : List ℕ → Hashed → ℕ → Option ℕ
link_to links r zero = None
link_to links r (suc d) = Some (slot (at_depth links r d) (digit_of r d))

-- the slot of an entry before i leads to i
pub record IsLinkTo (links : List ℕ) (place i : ℕ) : Type 0 where
  pub before : place < 5 * i
  pub no_hash : (j : ℕ) → place ≢ hash_place j
  pub to : slice_index links place ≡ i

-- d steps lead to entry i, each to a later entry
pub record Leads (links : List ℕ) (r : Hashed) (d i : ℕ) : Type 0 where
  pub there : at_depth links r d ≡ i
  pub onward : (e : ℕ) → e < d → at_depth links r e < at_depth links r (suc e)

-- the key of an entry
abbrev pub key_at : List Entry → ℕ → Entry → Key
key_at entries i d = (slice_index_or entries i d).hashed.key

-- each key has one entry, which the digits of its hash lead to, with the slot of the last step; the links have its hash
-- too
pub record IsTree (entries : List Entry) (links : List ℕ) : Type 0 where
  pub sized : length links ≡ 5 * length entries
  pub hashes : (i : ℕ) (d : Entry) → i < length entries →
      slice_index links (hash_place i) ≡ (slice_index_or entries i d).hashed.hash
  pub own : (i : ℕ) (d : Entry) → i < length entries → IsOwn (slice_index_or entries i d).hashed
  pub led : (i : ℕ) (d : Entry) → i < length entries
      → (n : ℕ) × (Leads links (hashed (key_at entries i d)) n i
      × ((slice_index_or entries i d).link ≡ link_to links (hashed (key_at entries i d)) n))
  pub apart : (i j : ℕ) (d : Entry) → i < length entries → j < length entries →
      key_eq (key_at entries i d) (key_at entries j d) ≡ true → i ≡ j

-- what an entry notes: nothing once its key was taken out
abbrev pub noted_by : Key → Option ℕ → List (Key × ℕ)
noted_by k None = []
noted_by k (Some n) = (k, n) ∷ []

-- the keys with their numbers
abbrev pub noted : List Entry → List (Key × ℕ)
noted [] = []
noted (e ∷ entries) = noted_by e.hashed.key e.number ++ noted entries

-- the key of each entry
abbrev pub places_of : List Entry → List Key
places_of entries = map (λ e. e.hashed.key) entries

-- what contracts see of a tree: how many bytes are kept of each pack, the keys with their numbers, and the keys that
-- have entries, also those without a number, in the order in which they were noted
pub record TreeValue : Type 0 where
  pub width : ℕ
  pub noted : List (Key × ℕ)
  pub places : List Key

-- n steps, of which the last leads to none of the `count` entries; no step, where there is no entry
pub record EndsAt (links : List ℕ) (count : ℕ) (r : Hashed) (n : ℕ) : Type 0 where
  pub onward : (e : ℕ) → suc e < n → at_depth links r e < at_depth links r (suc e)
  pub inside : (e : ℕ) → e < n → at_depth links r e < count
  pub out : (e : ℕ) → n ≡ suc e → at_depth links r e < at_depth links r n → count ≤ at_depth links r n
  pub bare : n ≡ 0 → count ≡ 0

-- the entry of a key, and the slot that leads to it
pub record IsFoundAt (entries : List Entry) (links : List ℕ) (k : Key) (i : ℕ) (link : Option ℕ) : Type 0 where
  pub within : i < length entries
  pub same : (d : Entry) → key_eq k (key_at entries i d) ≡ true
  pub by : (n : ℕ) × (Leads links (hashed k) n i × (link ≡ link_to links (hashed k) n))

-- no entry has the key, and the digits of its hash end at a slot without a child
pub record IsMissing (entries : List Entry) (links : List ℕ) (k : Key) (link : Option ℕ) : Type 0 where
  pub none : (i : ℕ) (d : Entry) → i < length entries → key_eq k (key_at entries i d) ≡ false
  pub by : (n : ℕ) × (EndsAt links (length entries) (hashed k) n × (link ≡ link_to links (hashed k) n))

-- no key is noted in both
abbrev pub AreApart : List (Key × ℕ) → List (Key × ℕ) → Type 0
AreApart xs ys = (q : Key) → (lookup (key_eq q) xs ≡ None) ⊎ (lookup (key_eq q) ys ≡ None)
