-- The words that a program is given. Definitions only.
use Rattle.std.specs.Prelude.{ℕ, List, length, take, cond, leb, Option, None, Some, Result, Ok, Err}
use Rattle.std.specs.Result.{result_map_both}
use Rattle.std.specs.Borrow.{Bor}
use Rattle.std.specs.declared.env.FillError.{FillError}
use Rattle.std.specs.declared.env.FillError.TheVariants.{NotPresent, TooLong}

-- what a room of n bytes takes of a word that may be left out
abbrev pub read_into : ℕ → Option (List ℕ) → Result (List ℕ) FillError
read_into n None = Err NotPresent
read_into n (Some word) = cond (leb (length word) n) (Ok word) (Err TooLong)

-- the bytes of a word of which n were put at the start of a room
abbrev pub bytes_put : Result ℕ FillError → List ℕ → Result (List ℕ) FillError
bytes_put r room = result_map_both (λ n. take n room) (λ e. e) r

-- the bytes of a word that was read
abbrev pub bytes_of : Result (Bor (List ℕ)) FillError → Result (List ℕ) FillError
bytes_of r = result_map_both (λ word. word.now) (λ e. e) r
