-- The account on the page, a line a field, as docs/SERVICES.md has it. Definitions only.
use Rattle.std.specs.Prelude.{ℕ, Bool, cond, List, [], ◌∷◌, ◌++◌}
use Rattle.vm.specs.declared.account.Account.{Account}
use Rattle.vm.specs.declared.account.End.{End}
use Rattle.vm.specs.declared.account.Remainders.{Remainders}
use Rattle.print.specs.Texts.{text, decimal, hex}
use Rattle.report.specs.Outcomes.{outcome_text}
use Rattle.report.specs.Pieces.{pieces}
use Rattle.report.specs.Cells.{value_text}

unfoldable pub field_line : List ℕ → ℕ → List ℕ
field_line name n = name ++ (decimal n ++ text "\n")

unfoldable pub value_line : List ℕ → ℕ → List ℕ
value_line name bits = name ++ (value_text bits ++ text "\n")

unfoldable pub outcome_line : ℕ → List ℕ
outcome_line n = text "outcome " ++ (outcome_text n ++ text "\n")

-- the next number of a line
unfoldable pub next : ℕ → List ℕ
next n = text " " ++ decimal n

-- numbers, and the end of their line
unfoldable pub numbers_end : List ℕ → List ℕ
numbers_end [] = text "\n"
numbers_end (n ∷ ns) = next n ++ numbers_end ns

unfoldable pub three_line : List ℕ → ℕ → ℕ → ℕ → List ℕ
three_line name a b c = name ++ (next a ++ (next b ++ (next c ++ text "\n")))

unfoldable pub temp_text : Bool → ℕ → List ℕ
temp_text given bits = cond given (text " " ++ hex 8 bits) (text " missing")

abbrev pub temps_text : List Bool → List ℕ → List ℕ
temps_text given numbers = pieces (λ i. temp_text) 0 given numbers

unfoldable pub temps_line : List Bool → List ℕ → List ℕ
temps_line given numbers = text "temps" ++ (temps_text given numbers ++ text "\n")

-- four lines of the end, ..
unfoldable pub depths_text : End → List ℕ
depths_text e =
    three_line (text "depths") e.depths.stack e.depths.loops e.depths.handlers
    ++ (temps_line e.temps.given e.temps.numbers
    ++ (three_line (text "notices") e.notices.missing_member e.notices.access_underflow e.notices.loop_limit
    ++ field_line (text "empty_pops ") e.empty_pops))

-- .. with the two before them
unfoldable pub charges_text : End → List ℕ
charges_text e = field_line (text "charges ") e.charges ++ (value_line (text "accumulator ") e.accumulator ++ depths_text e)

-- what remains of both limits, the guest's first
unfoldable pub remainders_line : Remainders → List ℕ
remainders_line r = text "remainders" ++ (next r.guest ++ (next r.house ++ text "\n"))

unfoldable pub account_text : Account → List ℕ
account_text a =
    let e = a.end in
    outcome_line e.outcome
    ++ (field_line (text "position ") e.position
    ++ (value_line (text "value ") e.value
    ++ (charges_text e
    ++ remainders_line a.remainders)))
