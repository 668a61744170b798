-- Claims about counted loops that do not hold. Definitions only; that they do not is `laws::not_exact` (src/laws.rt).
use Rattle.std.specs.Prelude.{ℕ, ◌+◌, ◌-◌, ◌*◌, min, not, Option, Some, None}
use Rattle.passes.specs.Whole.{most}
use Rattle.passes.specs.Passes.{Claim, at_least, passes, charges, asked}

-- one charge fewer
abbrev pub fewer : Claim
fewer = record { largest = most; passes = passes; charges = λ n b. n * (b + 1) + 1; noticed = asked.noticed }

-- .. or one more
abbrev pub dearer : Claim
dearer = record { largest = most; passes = passes; charges = λ n b. n * (b + 1) + 3; noticed = asked.noticed }

-- k - 1 passes
abbrev pub one_less : Claim
one_less = record { largest = most; passes = λ l k. passes l k - 1; charges = charges; noticed = asked.noticed }

-- .. or k + 1
abbrev pub one_more : Claim
one_more = record { largest = most; passes = λ l k. passes l k + 1; charges = charges; noticed = asked.noticed }

-- a notice wherever the limit is below the count: for count 1 under limit 0 too
abbrev pub always_noticed : Claim
always_noticed = record { largest = most; passes = passes; charges = charges; noticed = λ l k. not (at_least k l) }

-- no pass under limit 0
abbrev pub fewest : Option ℕ → ℕ → ℕ
fewest None k = k
fewest (Some n) k = min n k

abbrev pub no_pass : Claim
no_pass = record { largest = most; passes = fewest; charges = charges; noticed = asked.noticed }

-- the range to 16,777,217
abbrev pub wider : Claim
wider = record { largest = most + 1; passes = passes; charges = charges; noticed = asked.noticed }
