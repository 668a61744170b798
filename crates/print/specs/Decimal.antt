-- A binary32 as a decimal of nine significant digits, in the form of `%.9g` of C's printf. Definitions only.
use Rattle.std.specs.Prelude.{ℕ, zero, suc, ◌+◌, ◌-◌, ◌*◌, ◌/◌, ◌%◌, ◌^◌, ◌<◌, ◌≤◌, Bool, cond, ◌&&◌, ◌||◌, List, [], ◌∷◌, ◌++◌, ◌≡◌, ltb, eqb, length, take, drop, replicate}
use Rattle.print.specs.declared.decimal.First.{First}
use Rattle.print.specs.Texts.{text, decimal}

-- ---- the number

-- s · 2^p · 2^-149 in units of 10^-149
unfoldable pub scaled : ℕ → ℕ → ℕ
scaled s p = s * 2 ^ p * 5 ^ 149

-- a finite magnitude in units of 10^-149, which is exact: 0 is the power of the subnormals, and of 1 besides
unfoldable pub units : ℕ → ℕ
units magnitude =
    let power = magnitude / 2 ^ 23 in
    let fraction = magnitude % 2 ^ 23 in
    cond (eqb power 0) (scaled fraction 0) (scaled (fraction + 2 ^ 23) (power - 1))

-- ---- its digits, as the code keeps them

-- the w lowest digits of n, the lowest first
unfoldable pub places : ℕ → ℕ → List ℕ
places zero n = []
places (suc w) n = n % 10 ∷ places w (n / 10)

-- what they say
unfoldable pub value : List ℕ → ℕ
value [] = 0
value (d ∷ ds) = d + 10 * value ds

-- the digits are those of n
pub record Placed (ds : List ℕ) (n : ℕ) : Type 0 where
  pub digits : ds ≡ places (length ds) n
  pub below : n < 10 ^ length ds

-- a product by long multiplication
unfoldable pub product : ℕ → ℕ → List ℕ → List ℕ
product k carry [] = []
product k carry (d ∷ ds) = (d * k + carry) % 10 ∷ product k ((d * k + carry) / 10) ds

-- ---- nine significant digits

-- how many digits n has after the first nine; fuel is n or more
unfoldable pub beyond : ℕ → ℕ → ℕ
beyond zero n = 0
beyond (suc fuel) n = let more = suc (beyond fuel (n / 10)) in cond (ltb n 1000000000) 0 more

abbrev pub after : ℕ → ℕ
after n = beyond n n

-- the first nine digits
abbrev pub first_of : ℕ → First
first_of n = record { digits = n / 10 ^ after n; after = after n }

pub record Leading (room : ℕ) (r : First) : Type 0 where
  pub within : r.after ≤ room
  pub small : r.digits < 2000000000

-- n / d to the nearest, half to even
unfoldable pub goes_up : ℕ → ℕ → Bool
goes_up n d = ltb d (2 * (n % d)) || (eqb d (2 * (n % d)) && eqb (n / d % 2) 1)

unfoldable pub nearest : ℕ → ℕ → ℕ
nearest n d = cond (goes_up n d) (n / d + 1) (n / d)

-- the first nine digits, to the nearest
abbrev pub rounded : ℕ → First
rounded n = record { digits = nearest n (10 ^ after n); after = after n }

-- ---- the form

-- a digit before digits whose zeros at the end are gone
unfoldable pub before : ℕ → List ℕ → List ℕ
before d [] = cond (eqb d 48) [] (d ∷ [])
before d (e ∷ es) = d ∷ e ∷ es

-- digits without the zeros at their end
unfoldable pub trimmed : List ℕ → List ℕ
trimmed [] = []
trimmed (d ∷ ds) = before d (trimmed ds)

-- digits with a point after n of them, or zeros up to there
unfoldable pub pointed : ℕ → List ℕ → List ℕ
pointed n ds = cond (ltb n (length ds)) (take n ds ++ (text "." ++ drop n ds)) (ds ++ replicate (n - length ds) 48)

-- an exponent, of two digits at least
unfoldable pub exponent : ℕ → List ℕ
exponent n = cond (ltb n 10) (text "0") [] ++ decimal n

-- digits of which the first stands for so many units as 10^place: plain from 10^-4 to below 10^9, else with an exponent
unfoldable pub laid : List ℕ → ℕ → List ℕ
laid ds place =
    cond (ltb place 145) (pointed 1 ds ++ (text "e-" ++ exponent (149 - place)))
    (cond (ltb place 149) (text "0." ++ (replicate (148 - place) 48 ++ ds))
    (cond (ltb place 158) (pointed (place - 148) ds)
    (pointed 1 ds ++ (text "e+" ++ exponent (place - 149)))))

unfoldable pub finite : ℕ → List ℕ
finite n =
    let ds = decimal (nearest n (10 ^ after n)) in
    laid (trimmed ds) (after n + length ds - 1)

unfoldable pub magnitude_text : ℕ → List ℕ
magnitude_text m = cond (eqb m 0x7F80_0000) (text "inf") (cond (eqb m 0) (text "0") (finite (units m)))

-- the number with these bits; a NaN has no sign
unfoldable pub float : ℕ → List ℕ
float bits =
    let m = bits % 2 ^ 31 in
    cond (ltb 0x7F80_0000 m) (text "nan") (cond (ltb m bits) (text "-") [] ++ magnitude_text m)
