-- The arguments STEPS, LOOPS, THIS and HOUSE, as docs/SERVICES.md has them. Definitions only.
use Rattle.std.specs.Prelude.{ℕ, ◌+◌, ◌^◌, Bool, cond, ◌&&◌, List, [], ltb, eqb, length, slice_get}
use Rattle.std.specs.Prelude.{Option, Some, None, option_map, option_and_then, Result, Ok, Err}
use Rattle.std.specs.Char.{is_digit}
use Rattle.std.specs.List.{list_all}
use Rattle.std.specs.Str.{bytes_eq}
use Rattle.std.specs.Str.Parse.{digits_value}
use Rattle.std.specs.declared.env.FillError.{FillError}
use Rattle.print.specs.Texts.{text}
use Rattle.print.specs.Words.{read_into}
use Rattle.vm.specs.declared.Terms.{Terms}
use Rattle.report.specs.declared.words.BadArgument.{BadArgument}
use Rattle.report.specs.declared.words.BadArgument.TheVariants.{Steps as NoSteps, Loops as NoLoops, This as NoThis, House as NoHouse}
use Rattle.report.specs.declared.arguments.Argument.{Argument}
use Rattle.report.specs.declared.arguments.Argument.TheVariants.{File, Cells, Steps, Loops, This, Context}

-- ---- numbers

-- whether all bytes are digits of a base: 0 to 9, A to F or a to f
abbrev pub all_digits : ℕ → List ℕ → Bool
all_digits base s = list_all (λ c. is_digit c base) s

-- the number that digits make, below 2^64
unfoldable pub number_read : ℕ → List ℕ → Option ℕ
number_read base s = let n = digits_value base s in cond (all_digits base s && ltb n (2 ^ 64)) (Some n) None

-- a number in decimal
unfoldable pub decimal_read : List ℕ → Option ℕ
decimal_read s = cond (eqb (length s) 0) None (number_read 10 s)

-- 32 bits as eight hexadecimal digits
unfoldable pub bits_read : List ℕ → Option ℕ
bits_read s = cond (eqb (length s) 8) (number_read 16 s) None

-- ---- what the words ask for

-- the places without --house
abbrev pub number_of : Argument → ℕ
number_of File = 1
number_of Cells = 2
number_of Steps = 3
number_of Loops = 4
number_of This = 5
number_of Context = 6

-- the place of an argument, by its place without --house: that and its number stand before all others
unfoldable pub place_of : Bool → ℕ → ℕ
place_of housed i = cond housed (i + 2) i

-- the place of an argument where it is there, of so many
abbrev pub place_found : Bool → ℕ → Argument → Option ℕ
place_found housed count argument = let i = place_of housed (number_of argument) in cond (ltb i count) (Some i) None

-- the place of HOUSE
abbrev pub house_found : Bool → Option ℕ
house_found housed = cond housed (Some 2) None

-- a word of which so much was read, or what stands for it where it is left out; of one that is too long nothing is read
abbrev pub word_read : Option (Result (List ℕ) FillError) → List ℕ → List ℕ
word_read None otherwise = otherwise
word_read (Some (Ok word)) otherwise = word
word_read (Some (Err e)) otherwise = []

-- the word at a place, of at most n bytes
abbrev pub word_at : List (List ℕ) → Option ℕ → ℕ → List ℕ → List ℕ
word_at all place n otherwise = word_read (option_map (λ i. read_into n (slice_get all i)) place) otherwise

-- 'none', or a number below 2^64
unfoldable pub limit_read : List ℕ → Option (Option ℕ)
limit_read s = cond (bytes_eq s (text "none")) (Some None) (option_map Some (decimal_read s))

-- LOOPS is below 2^32
unfoldable pub narrow : Option ℕ → Option (Option ℕ)
narrow None = Some None
narrow (Some n) = cond (ltb n (2 ^ 32)) (Some (Some n)) None

abbrev pub loop_limit_read : List ℕ → Option (Option ℕ)
loop_limit_read s = option_and_then narrow (limit_read s)

unfoldable pub with_house : Option ℕ → Option ℕ → ℕ → Option (Option ℕ) → Result Terms BadArgument
with_house steps loops this None = Err NoHouse
with_house steps loops this (Some house) = Ok (record { this = this; step_limit = steps; loop_limit = loops; house_limit = house })

unfoldable pub with_this : Option ℕ → Option ℕ → Option ℕ → Option (Option ℕ) → Result Terms BadArgument
with_this steps loops None house = Err NoThis
with_this steps loops (Some this) house = with_house steps loops this house

unfoldable pub with_loops : Option ℕ → Option (Option ℕ) → Option ℕ → Option (Option ℕ) → Result Terms BadArgument
with_loops steps None this house = Err NoLoops
with_loops steps (Some loops) this house = with_this steps loops this house

unfoldable pub with_steps : Option (Option ℕ) → Option (Option ℕ) → Option ℕ → Option (Option ℕ) → Result Terms BadArgument
with_steps None loops this house = Err NoSteps
with_steps (Some steps) loops this house = with_loops steps loops this house

-- the terms that STEPS, LOOPS, THIS and HOUSE name, or the first of them that is none
abbrev pub terms_read : List ℕ → List ℕ → List ℕ → List ℕ → Result Terms BadArgument
terms_read steps loops this house = with_steps (limit_read steps) (loop_limit_read loops) (bits_read this) (limit_read house)

-- the terms that the words of a command line name
unfoldable pub terms_given : List (List ℕ) → Bool → ℕ → Result Terms BadArgument
terms_given all housed count =
    let steps = word_at all (place_found housed count Steps) 20 (text "none") in
    let loops = word_at all (place_found housed count Loops) 20 (text "none") in
    let this = word_at all (place_found housed count This) 8 (text "00000000") in
    terms_read steps loops this (word_at all (house_found housed) 20 (text "none"))
