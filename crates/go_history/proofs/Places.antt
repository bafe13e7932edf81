-- The places of a tree's keys, once an entry was written or the last was taken away.
use Rattle.std.proofs.Common.{◌≡◌, ◌<◌, ◌+◌, ◌-◌, ◌∙◌, true≢false, ℕ, true, false, List, [], ◌∷◌, ◌++◌, arith, length, length-append, slice_index_or, slice_set, take, ap, sym}
use Rattle.std.proofs.Math.ListN.{get_or-map}
use Rattle.std.proofs.Math.Seq.{get_or-append_seam, map-set_same, take-append_seam}
use Rattle.std.proofs.lemmas.List.{length-map, take-map}
use Rattle.go_history.specs.declared.key.Key.{Key}
use Rattle.go_history.specs.declared.entries.Entry.{Entry}
use Rattle.go_history.specs.declared.hashed.Hashed.{Hashed}
use Rattle.go_history.specs.Keys.{key_eq}
use Rattle.go_history.specs.inner.Trees.{IsTree, key_at, places_of, hashed, hashed_eq}
use Rattle.go_history.proofs.Noting.{hashed_alike}

pub places_written : (entries : List Entry) (i : ℕ) (x d : Entry) → x.hashed ≡ (slice_index_or entries i d).hashed →
    places_of (slice_set entries i x) ≡ places_of entries
places_written entries i x d same =
    map-set_same (λ (e : Entry). e.hashed.key) entries i x d (ap (λ (r : Hashed). r.key) same)

-- how many places there are, where the last is named
count : (entries : List Entry) (places : List Key) (k : Key) → places_of entries ≡ places ++ k ∷ [] →
    length entries ≡ length places + 1
count entries places k is = sym (length-map entries (λ (e : Entry). e.hashed.key)) ∙ ap length is
    ∙ length-append places (k ∷ [])

pub places_less : (entries : List Entry) (places : List Key) (k : Key) → places_of entries ≡ places ++ k ∷ [] →
    places_of (take (length entries - 1) entries) ≡ places
places_less entries places k is =
    let long = count entries places k is in
    let last : length entries - 1 ≡ length places = omega (arith, long) in
    sym (take-map (λ (e : Entry). e.hashed.key) (length entries - 1) entries)
    ∙ ap (take (length entries - 1)) is
    ∙ ap (λ n. take n (places ++ k ∷ [])) last
    ∙ take-append_seam places (k ∷ [])

-- the key of the last place is the last entry's
last_key : (entries : List Entry) (places : List Key) (k : Key) (d : Entry) → places_of entries ≡ places ++ k ∷ [] →
    key_at entries (length entries - 1) d ≡ k
last_key entries places k d is =
    let long = count entries places k is in
    let last : length entries - 1 ≡ length places = omega (arith, long) in
    sym (get_or-map (λ (e : Entry). e.hashed.key) entries (length entries - 1) d)
    ∙ ap (λ (keys : List Key). slice_index_or keys (length entries - 1) d.hashed.key) is
    ∙ ap (λ n. slice_index_or (places ++ k ∷ []) n d.hashed.key) last
    ∙ get_or-append_seam places k [] d.hashed.key

-- a key of the last place isn't overlooked
pub not_last : (entries : List Entry) (links : List ℕ) (key : Key) (r : Hashed) (places : List Key) (k : Key)
    (d : Entry) → IsTree entries links → r ≡ hashed key
    → (0 < length entries → hashed_eq r (slice_index_or entries (length entries - 1) d).hashed ≡ false) →
    places_of entries ≡ places ++ k ∷ [] → key_eq key k ≡ true → ⊥
not_last entries links key r places k d tree own other ends same =
    let long = count entries places k ends in
    let none = other (omega (arith, long)) in
    let by_key = ap (hashed_eq r) (tree.own (length entries - 1) d (omega (arith, long))) in
    let alike = ap (λ s. hashed_eq s (hashed (key_at entries (length entries - 1) d))) own
    ∙ hashed_alike key (key_at entries (length entries - 1) d) ∙ ap (key_eq key) (last_key entries places k d ends)
    ∙ same in
    true≢false (sym alike ∙ sym by_key ∙ none)
