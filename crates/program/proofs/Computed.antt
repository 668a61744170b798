-- Facts that are computed over all numbers below one: two functions with the same list of values are the same there. Assumes
-- nothing.
use Prim.Native.Nat.{ℕ, zero, suc, ◌+◌, ◌<◌}
use native.Mathlib.Omega.{arith}
use mathlib.Core.Path.{◌≡◌, sym, ◌∙◌, ap}
use mathlib.Core.List.{List, [], ◌∷◌, map}
use lib.ListN.{get_or}

-- n numbers from a on
abbrev pub from : ℕ → ℕ → List ℕ
from a zero = []
from a (suc n) = a ∷ from (a + 1) n

module _ {A : Type 0} where
  value_at : (f : ℕ → A) (d : A) (a n k : ℕ) → k < n → get_or (map f (from a n)) k d ≡ f (a + k)
  value_at f d a zero k l = absurd (omega arith)
  value_at f d a (suc n) zero l = ap f (omega arith)
  value_at f d a (suc n) (suc k) l = value_at f d (a + 1) n k (omega arith) ∙ ap f (omega arith)

  pub same : (f g : ℕ → A) (n : ℕ) → map f (from 0 n) ≡ map g (from 0 n) → (k : ℕ) → k < n → f k ≡ g k
  same f g n e k l =
      let q : 0 + k ≡ k = omega arith in
      sym (value_at f (f 0) 0 n k l ∙ ap f q) ∙ ap (λ vs. get_or vs k (f 0)) e ∙ value_at g (f 0) 0 n k l ∙ ap g q
