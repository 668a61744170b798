-- Laws of the cells that nine bytes at a time are. Assumes nothing.
use Prim.Native.Nat.{ℕ, zero, suc, ◌+◌, ◌*◌, ◌≤◌, ◌<◌}
use native.Mathlib.Omega.{arith}
use mathlib.Core.Path.{◌≡◌, refl, sym, ◌∙◌, ap}
use mathlib.Core.List.{List, [], ◌∷◌, ◌++◌}
use lib.ListN.{length, drop, get_or}
use Rattle.endian.specs.Endian.{byte_at, number_at, u64_at}
use Rattle.std.proofs.lemmas.List.{drop-drop, drop_at, get_or-drop, get_or_append_left}
use Rattle.std.proofs.lemmas.List.FromFn.{map-range_with_len_more, length-map-range_with_len}
use Rattle.report.specs.Cells.{kinds_from, values_from}

-- a byte and a number in a chunk that begins at place a of s
module _ (s chunk rest : List ℕ) (a : ℕ) (e : drop a s ≡ chunk ++ rest) where
  byte_of : (i j : ℕ) → a + i ≡ j → i < length chunk → byte_at s j ≡ byte_at chunk i
  byte_of i j k h = rw (← k) (sym (get_or-drop a s i 0) ∙ ap (λ l. get_or l i 0) e ∙ get_or_append_left chunk rest 0 i h)

  number_of : (w i j : ℕ) → a + i ≡ j → i + w ≤ length chunk → number_at w s j ≡ number_at w chunk i
  unfolding number_at
  number_of zero i j k h = refl
  number_of (suc w) i j k h = rw (byte_of i j k (omega arith), number_of w (i + 1) (j + 1) (omega arith) (omega arith))

-- one more cell, of the nine bytes of a chunk
module _ (s chunk rest : List ℕ) (n : ℕ) (e : drop (n * 9) s ≡ chunk ++ rest) (nine : length chunk ≡ 9) where
  pub kinds_more : kinds_from (n + 1) s 0 ≡ kinds_from n s 0 ++ get_or chunk 0 0 ∷ []
  kinds_more = map-range_with_len_more (λ k. byte_at s (k * 9)) 0 n n (omega arith) ∙ rw (byte_of s chunk rest (n * 9) e 0 (n * 9) (omega arith) (omega arith))

  pub values_more : values_from (n + 1) s 0 ≡ values_from n s 0 ++ u64_at chunk 1 ∷ []
  values_more = map-range_with_len_more (λ k. u64_at s (k * 9 + 1)) 0 n n (omega arith) ∙ rw (number_of s chunk rest (n * 9) e 8 1 (n * 9 + 1) (omega arith) (omega arith))

  pub rest_more : drop ((n + 1) * 9) s ≡ rest
  rest_more =
      let k : (n + 1) * 9 ≡ n * 9 + 9 = omega arith in
      rw k (sym (drop-drop 9 (n * 9) s) ∙ ap (λ l. drop 9 l) e ∙ drop_at chunk rest 9 nine)

pub ruleset lengths = (length-map-range_with_len)
