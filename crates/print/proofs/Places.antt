-- Laws of a number's digits, the lowest first. Assumes nothing.
use Prim.Native.Nat.{ℕ, zero, suc, ◌+◌, ◌*◌, ◌/◌, ◌%◌, ◌^◌, ◌≤◌, ◌<◌}
use native.Mathlib.Omega.{arith}
use native.Mathlib.Numerals.{add-one}
use Rattle.std.proofs.Common.{add-zero}
use native.Mathlib.Nat.{pow-suc, add-mul, mul_assoc, mul_left_comm, mul-le-mul, mul-le-mul_left, pow-le-pow_right, le_refl, lt_of_le_of_lt}
use mathlib.Core.Path.{◌≡◌, refl, ◌∙◌, ap}
use mathlib.Core.List.{List, [], ◌∷◌, ◌++◌, append_assoc, append-nil}
use lib.Dec.{lit<}
use lib.ListN.{length, take, drop, get_or, set, drop_of_length-le}
use lib.Seq.{take-suc-set, drop-cons, drop-set-lt, take_all}
use Rattle.print.specs.Decimal.{places, value, product, Placed}

pub byte_product : (a b : ℕ) → a < 256 → b < 256 → a * b ≤ 65025
byte_product a b h k = mul-le-mul {n₂ = 255} {m₂ = 255} (omega arith) (omega arith)

-- ---- what digits say

length-places : (w n : ℕ) → length (places w n) ≡ w
unfolding places
length-places zero n = refl
length-places (suc w) n = ap suc (length-places w (n / 10))

value-places : (w n : ℕ) → n < 10 ^ w → value (places w n) ≡ n
unfolding value places
value-places zero n h = omega arith
value-places (suc w) n h = rw (value-places w (n / 10) (omega (arith, pow-suc 10 w))) (omega arith)

module _ (ds : List ℕ) (n : ℕ) (e : ds ≡ places 200 n) (h : n < 10 ^ 200) where
  pub says : value ds ≡ n
  says = ap value e ∙ value-places 200 n h

  pub placed : Placed ds (value ds)
  placed =
      let l : length ds ≡ 200 = ap length e ∙ length-places 200 n in
      record { digits = rw (l, says) e; below = rw (l, says) h }

-- the turns of a loop that writes the digits
pub fill_more : (d : List ℕ) (i w rest v : ℕ) (all : List ℕ) → i < length d → v ≡ rest % 10 → take i d ++ places (suc w) rest ≡ all
    → take (i + 1) (set d i v) ++ places w (rest / 10) ≡ all
unfolding places
fill_more d i w rest v all h e a = rw (add-one i, take-suc-set d i v h, e, append_assoc (take i d) (rest % 10 ∷ []) (places w (rest / 10))) a

pub fill_done : (d : List ℕ) (i : ℕ) (all : List ℕ) (w rest : ℕ) → length d ≤ i → w ≡ 0 → take i d ++ places w rest ≡ all → d ≡ all
unfolding places
fill_done d i all w rest h z a = rw (z, take_all i d h, append-nil d) at a

-- ---- products

-- the turns of a multiplication
pub times_more : (d : List ℕ) (k carry i v x : ℕ) (all : List ℕ) → i < length d → x ≡ get_or d i 0 * k + carry → v ≡ x % 10
    → take i d ++ product k carry (drop i d) ≡ all
    → take (i + 1) (set d i v) ++ product k (x / 10) (drop (i + 1) (set d i v)) ≡ all
unfolding product
times_more d k carry i v x all h e f a =
    let g = rw (drop-cons d i 0 h, ← e) at a in
    rw (add-one i, take-suc-set d i v h, drop-set-lt (suc i) d i v (omega arith), f, append_assoc (take i d) (x % 10 ∷ []) (product k (x / 10) (drop (suc i) d))) g

times_done : (d : List ℕ) (k carry i : ℕ) (all : List ℕ) → length d ≤ i → take i d ++ product k carry (drop i d) ≡ all → d ≡ all
unfolding product
times_done d k carry i all h a = rw (take_all i d h, drop_of_length-le d h, append-nil d) at a

product-places : (w k carry n : ℕ) → product k carry (places w n) ≡ places w (n * k + carry)
unfolding product places
product-places zero k carry n = refl
product-places (suc w) k carry n =
    let a = n / 10 in
    let b = n % 10 in
    let e : n ≡ a * 10 + b = omega arith in
    let p : n * k ≡ a * 10 * k + b * k = ap (λ (x : ℕ). x * k) e ∙ add-mul (a * 10) b k in
    let q : a * 10 * k ≡ 10 * (a * k) = mul_assoc a 10 k ∙ mul_left_comm a 10 k in
    let f : (n * k + carry) % 10 ≡ (b * k + carry) % 10 = omega arith in
    let g : (n * k + carry) / 10 ≡ a * k + (b * k + carry) / 10 = omega arith in
    rw (product-places w k ((b * k + carry) / 10) a, f, g)

pub multiplied : (before d : List ℕ) (k n carry i : ℕ) → Placed before n → length before ≡ 200 → length d ≤ i
    → take i d ++ product k carry (drop i d) ≡ product k 0 before → d ≡ places 200 (n * k)
multiplied before d k n carry i p l h a =
    let e : before ≡ places 200 n = rw l at p.digits in
    times_done d k carry i (product k 0 before) h a ∙ ap (product k 0) e ∙ product-places 200 k 0 n ∙ ap (places 200) (add-zero (n * k))

-- ---- powers

pub power_more : (n k i : ℕ) → n * k ^ i * k ≡ n * k ^ (i + 1)
power_more n k i = rw (add-one i, pow-suc k i) (mul_assoc n (k ^ i) k)

pub power_room : (n k i often room : ℕ) → i < often → n * k ^ often < room → n * k ^ i * k < room
power_room n zero i often room h b = omega arith
power_room n (suc k) i often room h b =
    let p : suc k ^ (i + 1) ≤ suc k ^ often = pow-le-pow_right (omega arith) (omega arith) in
    let q : n * suc k ^ (i + 1) ≤ n * suc k ^ often = mul-le-mul_left n p in
    omega (arith, power_more n (suc k) i)

pub scaled_below : (s p : ℕ) → s < 2 ^ 24 → p < 254 → s * 2 ^ p * 5 ^ 149 < 10 ^ 200
scaled_below s p h k =
    let q : p ≤ 253 = omega arith in
    let r : s ≤ 2 ^ 24 = omega arith in
    let a : 2 ^ p ≤ 2 ^ 253 = pow-le-pow_right {n = 2} (omega arith) q in
    let b : s * 2 ^ p * 5 ^ 149 ≤ 2 ^ 24 * 2 ^ 253 * 5 ^ 149 = mul-le-mul (mul-le-mul r a) (le_refl (5 ^ 149)) in
    lt_of_le_of_lt b (lit< tt)

pub doubled_below : (s p : ℕ) → s < 2 ^ 24 → p < 254 → s * 2 ^ p < 10 ^ 200
doubled_below s p h k =
    let q : p ≤ 253 = omega arith in
    let r : s ≤ 2 ^ 24 = omega arith in
    let a : 2 ^ p ≤ 2 ^ 253 = pow-le-pow_right {n = 2} (omega arith) q in
    let b : s * 2 ^ p ≤ 2 ^ 24 * 2 ^ 253 = mul-le-mul r a in
    lt_of_le_of_lt b (lit< tt)
