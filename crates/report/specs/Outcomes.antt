-- The words for the outcomes, by their numbers. Definitions only.
use Rattle.std.specs.Prelude.{ℕ, List, [], ◌∷◌, get_or}
use Rattle.print.specs.Texts.{text}

abbrev pub outcome_words : List (List ℕ)
outcome_words =
    -- tools/answers.py: report_words
    text "done"
    ∷ text "stopped for steps"
    ∷ text "stopped for a missing value"
    ∷ text "stopped for the stack cap"
    ∷ text "stopped for a full store"
    ∷ text "handed over"
    -- tools/answers.py: end
    ∷ []

-- no account has a higher number than the last
unfoldable pub outcome_text : ℕ → List ℕ
outcome_text n = get_or outcome_words n (text "handed over")
