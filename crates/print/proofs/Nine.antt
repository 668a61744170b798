-- Laws of the first nine digits of a number. Assumes nothing.
use Prim.Native.Nat.{ℕ, zero, suc, ◌+◌, ◌-◌, ◌*◌, ◌/◌, ◌%◌, ◌^◌, ◌≤◌, ◌<◌}
use native.Mathlib.Omega.{arith}
use native.Mathlib.Nat.{pow-suc, mul_comm, div-div-eq-div-mul, mod-lt, mod-one, mul-le-mul_right, div-one, div-le_self, div-eq_of_lt, one-le-pow}
use mathlib.Core.Path.{◌≡◌, refl, sym, ◌∙◌, ap}
use mathlib.Core.Bool.{Bool, true, false, not, ◌&&◌, ◌||◌}
use mathlib.Core.List.{List, [], ◌∷◌, ◌++◌}
use lib.Dec.{ltb, eqb}
use Rattle.std.proofs.Math.Arith.{mod-mul}
use lib.ListN.{length, get_or, take, drop}
use Rattle.std.specs.List.{list_any}
use borrow.Author.Tests.{lt-ltb, le-ltb, eq-eqb, ne_eqb, ltb-false, ltb-true}
use Rattle.print.specs.declared.decimal.First.{First}
use Rattle.print.specs.Decimal.{places, Placed, beyond, after, first_of, goes_up}

-- ---- a digit more

div_more : (n i : ℕ) → n / 10 ^ suc i ≡ n / 10 ^ i / 10
div_more n i = rw (pow-suc 10 i) (sym (div-div-eq-div-mul n (10 ^ i) 10))

div-first : (n i : ℕ) → n / 10 / 10 ^ i ≡ n / 10 ^ suc i
div-first n i = rw (pow-suc 10 i, mul_comm (10 ^ i) 10) (div-div-eq-div-mul n 10 (10 ^ i))

place : (w n i : ℕ) → i < w → get_or (places w n) i 0 ≡ n / 10 ^ i % 10
unfolding places
place zero n i h = absurd (omega arith)
place (suc w) n zero h = ap (λ (x : ℕ). x % 10) (sym (div-one n))
place (suc w) n (suc i) h = place w (n / 10) i (omega arith) ∙ ap (λ (x : ℕ). x % 10) (div-first n i)

digit_at : (ds : List ℕ) (n i : ℕ) → Placed ds n → i < length ds → get_or ds i 0 ≡ n / 10 ^ i % 10
digit_at ds n i p h = ap (λ (l : List ℕ). get_or l i 0) p.digits ∙ place (length ds) n i h

mod_more : (n i : ℕ) → n % 10 ^ suc i ≡ n / 10 ^ i % 10 * 10 ^ i + n % 10 ^ i
mod_more n i = rw (pow-suc 10 i, mul_comm (10 ^ i) 10) (mod-mul n (omega arith) (one-le-pow i 10 (omega arith)))

-- ---- the digits below a place

or_some : (a b : ℕ) → a < 10 → not (eqb a 0) || not (eqb b 0) ≡ not (eqb (a + b * 10) 0)
or_some zero zero h = refl
or_some zero (suc b) h = rw (ne_eqb (suc b) 0 (λ e. omega arith), ne_eqb (0 + suc b * 10) 0 (λ e. omega arith))
or_some (suc a) b h = rw (ne_eqb (suc a) 0 (λ e. omega arith), ne_eqb (suc a + b * 10) 0 (λ e. omega arith))

some_place : (w k n : ℕ) → k ≤ w → list_any (λ d. not (eqb d 0)) (take k (places w n)) ≡ not (eqb (n % 10 ^ k) 0)
unfolding places
some_place w zero n h = rw (mod-one n)
some_place zero (suc k) n h = absurd (omega arith)
some_place (suc w) (suc k) n h =
    let o = one-le-pow k 10 (omega arith) in
    let m : n % 10 ^ suc k ≡ n % 10 + n / 10 % 10 ^ k * 10 = rw (pow-suc 10 k) (omega (arith, mod-mul n {m = 10 ^ k} {c = 10} o (omega arith))) in
    rw (some_place w k (n / 10) (omega arith), or_some (n % 10) (n / 10 % 10 ^ k) (omega arith), m)

pub some_below : (ds : List ℕ) (n k : ℕ) → Placed ds n → k ≤ length ds → list_any (λ d. not (eqb d 0)) (take k ds) ≡ not (eqb (n % 10 ^ k) 0)
some_below ds n k p h = ap (λ (l : List ℕ). list_any (λ d. not (eqb d 0)) (take k l)) p.digits ∙ some_place (length ds) k n h

-- ---- to the nearest

past_half : (d s : ℕ) → not (eqb s 0) ≡ ltb d (d + 2 * s)
past_half d zero = sym (le-ltb d (d + 2 * 0) (omega arith))
past_half d (suc s) = rw (ne_eqb (suc s) 0 (λ e. omega arith)) (sym (lt-ltb d (d + 2 * suc s) (omega arith)))

module _ (n d : ℕ) where
  goes_no : 2 * (n % d) < d → false ≡ goes_up n d
  unfolding goes_up
  goes_no h = rw (le-ltb d (2 * (n % d)) (omega arith), ne_eqb d (2 * (n % d)) (λ e. omega arith))

  goes_yes : d < 2 * (n % d) → true ≡ goes_up n d
  unfolding goes_up
  goes_yes h = rw (lt-ltb d (2 * (n % d)) h)

  goes_odd : (b : Bool) → ltb d (2 * (n % d)) ≡ b → d ≤ 2 * (n % d) → n / d % 2 ≡ 1 → true ≡ goes_up n d
  unfolding goes_up
  goes_odd true t h o = rw t
  goes_odd false t h o =
      let l = ltb-false d (2 * (n % d)) t in
      let e : d ≡ 2 * (n % d) = omega arith in
      rw (t, eq-eqb d (2 * (n % d)) e, eq-eqb (n / d % 2) 1 o)

  or-and : (a b : Bool) → a || (b && false) ≡ a
  or-and true b = refl
  or-and false true = refl
  or-and false false = refl

  goes_even : (s : ℕ) → 2 * (n % d) ≡ d + 2 * s → (n / d % 2 ≡ 1 → ⊥) → not (eqb s 0) ≡ goes_up n d
  unfolding goes_up
  goes_even s e o = rw (ne_eqb (n / d % 2) 1 o, or-and (ltb d (2 * (n % d))) (eqb d (2 * (n % d))), e) (past_half d s)

pub no_rest : (n : ℕ) → false ≡ goes_up n (10 ^ 0)
no_rest n = goes_no n 1 (omega (arith, mod-one n))

-- by the digit after the last that is kept, and those below it
module _ (ds : List ℕ) (n j : ℕ) (p : Placed ds n) (h : j < length ds) where
  rest_is : n % 10 ^ suc j ≡ get_or ds j 0 * 10 ^ j + n % 10 ^ j
  rest_is = rw (digit_at ds n j p h) (mod_more n j)

  rest-low : n % 10 ^ j < 10 ^ j
  rest-low = mod-lt n (one-le-pow j 10 (omega arith))

  below_half : get_or ds j 0 < 5 → false ≡ goes_up n (10 ^ suc j)
  below_half l =
      let a : get_or ds j 0 ≤ 4 = omega arith in
      let m : get_or ds j 0 * 10 ^ j ≤ 4 * 10 ^ j = mul-le-mul_right (10 ^ j) a in
      goes_no n (10 ^ suc j) (omega (arith, rest_is, rest-low, pow-suc 10 j))

  above_half : 5 < get_or ds j 0 → true ≡ goes_up n (10 ^ suc j)
  above_half l =
      let a : 6 ≤ get_or ds j 0 = omega arith in
      let m : 6 * 10 ^ j ≤ get_or ds j 0 * 10 ^ j = mul-le-mul_right (10 ^ j) a in
      goes_yes n (10 ^ suc j) (omega (arith, rest_is, rest-low, pow-suc 10 j))

  apart_by : (b : Bool) → ltb 5 (get_or ds j 0) ≡ b → (get_or ds j 0 ≡ 5 → ⊥) → b ≡ goes_up n (10 ^ suc j)
  apart_by true t e = above_half (ltb-true 5 (get_or ds j 0) t)
  apart_by false t e = let l = ltb-false 5 (get_or ds j 0) t in below_half (omega arith)

  tie : get_or ds j 0 ≡ 5 → 2 * (n % 10 ^ suc j) ≡ 10 ^ suc j + 2 * (n % 10 ^ j)
  tie f = omega (arith, rest_is, pow-suc 10 j, ap (λ (x : ℕ). x * 10 ^ j) f)

-- the last that is kept stands at place a
pub not_half : (ds : List ℕ) (n a : ℕ) → Placed ds n → ((a ≡ 0) → ⊥) → a ≤ length ds → ((get_or ds (a - 1) 0 ≡ 5) → ⊥)
    → ltb 5 (get_or ds (a - 1) 0) ≡ goes_up n (10 ^ a)
not_half ds n zero p z h e = absurd (z refl)
not_half ds n (suc j) p z h e =
    let m : suc j - 1 ≡ j = omega arith in
    rw m (apart_by ds n j p (omega arith) (ltb 5 (get_or ds j 0)) refl (rw m at e))

pub half_odd : (ds : List ℕ) (n a digits : ℕ) → Placed ds n → ((a ≡ 0) → ⊥) → a ≤ length ds → get_or ds (a - 1) 0 ≡ 5 → digits ≡ n / 10 ^ a
    → digits % 2 ≡ 1 → true ≡ goes_up n (10 ^ a)
half_odd ds n zero digits p z h f d o = absurd (z refl)
half_odd ds n (suc j) digits p z h f d o =
    let m : suc j - 1 ≡ j = omega arith in
    let t = tie ds n j p (omega arith) (rw m at f) in
    goes_odd n (10 ^ suc j) (ltb (10 ^ suc j) (2 * (n % 10 ^ suc j))) refl (omega arith) (rw d at o)

pub half_even : (ds : List ℕ) (n a digits : ℕ) → Placed ds n → ((a ≡ 0) → ⊥) → a ≤ length ds → get_or ds (a - 1) 0 ≡ 5 → digits ≡ n / 10 ^ a
    → ((digits % 2 ≡ 1) → ⊥) → not (eqb (n % 10 ^ (a - 1)) 0) ≡ goes_up n (10 ^ a)
half_even ds n zero digits p z h f d o = absurd (z refl)
half_even ds n (suc j) digits p z h f d o =
    let m : suc j - 1 ≡ j = omega arith in
    rw m (goes_even n (10 ^ suc j) (n % 10 ^ j) (tie ds n j p (omega arith) (rw m at f)) (rw d at o))

-- ---- the first nine

pub record Read (n i digits : ℕ) : Type 0 where
  pub value : digits ≡ n / 10 ^ i
  pub nine : digits < 1000000000

-- the digits that are still to be read, below those read
pub record Unread (n : ℕ) (ds : List ℕ) (digits : ℕ) : Type 0 where
  pub lowest : ds ≡ places (length ds) n
  pub read : Read n (length ds) digits

pub read_none : (ds : List ℕ) (n : ℕ) → Placed ds n → Unread n ds 0
read_none ds n p = record { lowest = p.digits; read = record { value = sym (div-eq_of_lt p.below); nine = omega arith } }

last_place : (n d : ℕ) (ds : List ℕ) → ds ++ d ∷ [] ≡ places (length (ds ++ d ∷ [])) n → (ds ≡ places (length ds) n) × (d ≡ n / 10 ^ length ds % 10)
unfolding places
last_place n d [] e = (refl, rw (div-one n) (ap (λ (l : List ℕ). get_or l 0 0) e))
last_place n d (x ∷ ds) e =
    let l = last_place (n / 10) d ds (ap (drop 1) e) in
    let h : x ≡ n % 10 = ap (λ (l : List ℕ). get_or l 0 0) e in
    (ap (λ (y : ℕ). y ∷ ds) h ∙ ap (λ (l : List ℕ). n % 10 ∷ l) l.0, l.1 ∙ ap (λ (y : ℕ). y % 10) (div-first n (length ds)))

pub length-snoc : (d : ℕ) (ds : List ℕ) → length (ds ++ d ∷ []) ≡ suc (length ds)
length-snoc d [] = refl
length-snoc d (x ∷ ds) = ap suc (length-snoc d ds)

pub read_last : (n d digits : ℕ) (ds : List ℕ) → digits < 100000000 → Unread n (ds ++ d ∷ []) digits → Unread n ds (digits * 10 + d)
read_last n d digits ds h u =
    let l = last_place n d ds u.lowest in
    let m : length (ds ++ d ∷ []) ≡ suc (length ds) = length-snoc d ds in
    let v : digits ≡ n / 10 ^ length ds / 10 = u.read.value ∙ rw m (div_more n (length ds)) in
    record { lowest = l.0; read = record { value = omega (arith, v, l.1); nine = omega (arith, l.1) } }

beyond_is : (fuel k n : ℕ) → n ≤ fuel → n / 10 ^ k < 1000000000 → (0 < k → 100000000 ≤ n / 10 ^ k) → beyond fuel n ≡ k
unfolding beyond
beyond_is zero zero n f h l = refl
beyond_is zero (suc k) n f h l = let z = l (omega arith) in absurd (omega (arith, div-le_self n (10 ^ suc k)))
beyond_is (suc fuel) zero n f h l = let b : n < 1000000000 = rw (div-one n) at h in rw (lt-ltb n 1000000000 b)
beyond_is (suc fuel) (suc k) n f h l =
    let z = l (omega arith) in
    let e = div-first n k in
    let b : 1000000000 ≤ n = omega (arith, div-le_self (n / 10) (10 ^ k)) in
    rw (le-ltb n 1000000000 b) (ap suc (beyond_is fuel k (n / 10) (omega arith) (omega arith) (λ _. omega arith)))

pub leads : (n i digits : ℕ) → Read n i digits → (0 < i → 100000000 ≤ digits) → record { digits = digits; after = i } ≡ first_of n
leads n i digits r l =
    let e : after n ≡ i = beyond_is n i n (omega arith) (omega (arith, r.value, r.nine)) (λ z. omega (arith, r.value, l z)) in
    rw e (ap (λ (x : ℕ). record { digits = x; after = i }) r.value)

pub first_digits : (n : ℕ) (f : First) → f ≡ first_of n → f.digits ≡ n / 10 ^ f.after
first_digits n f e = rw e

-- whether a number goes up
pub ruleset halves = (first_digits, no_rest, not_half, half_odd, half_even)
