-- The words of a number past the last. Assumes nothing.
use Prim.Native.Nat.{ℕ, zero, suc, ◌≤◌}
use native.Mathlib.Omega.{arith}
use mathlib.Core.Path.{◌≡◌, refl}
use Rattle.print.specs.Texts.{text}
use Rattle.report.specs.Outcomes.{outcome_text}

pub last_words : (n : ℕ) → 5 ≤ n → text "handed over" ≡ outcome_text n
unfolding outcome_text
last_words zero h = absurd (omega arith)
last_words (suc zero) h = absurd (omega arith)
last_words (suc (suc zero)) h = absurd (omega arith)
last_words (suc (suc (suc zero))) h = absurd (omega arith)
last_words (suc (suc (suc (suc zero)))) h = absurd (omega arith)
last_words (suc (suc (suc (suc (suc zero))))) h = refl
last_words (suc (suc (suc (suc (suc (suc n)))))) h = refl
