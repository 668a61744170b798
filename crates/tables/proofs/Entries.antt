-- An entry of a table: its bytes, and the numbers in them.
use Rattle.std.proofs.Common.{arith, ◌≡◌, ℕ, zero, suc, ◌+◌, ◌*◌, ◌<◌, ◌≤◌, List, [], length, take, drop, slice_index_or, refl, ap, ap₂, ◌∙◌, Bor, MatchOption, Option, Some, None}
use Rattle.std.specs.Simd.{first_chunks}
use Rattle.std.specs.Slice.{IsItemAt}
use Rattle.std.proofs.lemmas.List.{get_or-take, get_or-drop, drop-drop}
use Rattle.endian.specs.Endian.{byte_at, number_at}

-- a chunk of a slice is the bytes from its place
chunk-of : {X : Type 0} (n k : ℕ) (xs : List X) (i : ℕ) (d : List X) → i < k → slice_index_or (first_chunks n k xs) i d ≡ take n (drop (i * n) xs)
chunk-of n zero xs i d below = elim below [ ]
chunk-of n (suc k) xs zero d below = let e : 0 ≡ 0 * n = omega arith in ap (λ j. take n (drop j xs)) e
chunk-of n (suc k) xs (suc i) d below =
    chunk-of n k (drop n xs) i d (omega arith) ∙ ap (take n) (drop-drop (i * n) n xs ∙ ap (λ j. drop j xs) (omega arith))

-- what `get` gives of the chunks is an entry
pub entry-is : (n k i : ℕ) (s : List ℕ) (chunks : List (List ℕ)) (r : Option (Bor (List ℕ))) → chunks ≡ first_chunks n k s → length chunks ≡ k → IsItemAt chunks i r
    → MatchOption r (k ≤ i) (λ bytes. (i < k) × (bytes.now ≡ take n (drop (i * n) s)))
entry-is n k i s chunks None front long item = let past = item.3 in omega arith
entry-is n k i s chunks (Some bytes) front long item =
    let below : i < k = (let inside = item.3.0 in omega arith) in
    (below, item.4 (omega arith) [] ∙ ap (λ c. slice_index_or c i []) front ∙ chunk-of n k s i [] below)

-- a number in a part of a byte string is the one at its place in the whole
number-within : (w n at i : ℕ) (s : List ℕ) → i + w ≤ n → number_at w (take n (drop at s)) i ≡ number_at w s (at + i)
unfolding number_at
number-within zero n at i s fits = refl
number-within (suc w) n at i s fits =
    ap₂ (λ x y. x + 256 * y) (get_or-take n (drop at s) i 0 (omega arith) ∙ get_or-drop at s i 0)
    (number-within w n at (i + 1) s (omega arith) ∙ ap (number_at w s) (omega arith))

-- a number in an entry
pub number-in : (w n i k at : ℕ) (table : List ℕ) {bytes : List ℕ} → bytes ≡ take n (drop (i * n) table) → k + w ≤ n → i * n + k ≡ at → number_at w bytes k ≡ number_at w table at
number-in w n i k at table is fits place = ap (λ s. number_at w s k) is ∙ number-within w n (i * n) k table fits ∙ ap (number_at w table) place

-- a byte of an entry
pub byte-in : (n i k at : ℕ) (table : List ℕ) {bytes : List ℕ} → bytes ≡ take n (drop (i * n) table) → k < n → i * n + k ≡ at → byte_at bytes k ≡ byte_at table at
byte-in n i k at table is fits place =
    ap (λ s. byte_at s k) is ∙ get_or-take n (drop (i * n) table) k 0 fits ∙ get_or-drop (i * n) table k 0 ∙ ap (byte_at table) place
