-- One program, on file bytes, with any count and any loop limit: Const, LoopBegin 5, Post 0, LoopCheck 2, LoopEnd, End. Definitions
-- only; the law is `laws::any_count` (src/laws.rt).
use Rattle.std.specs.Prelude.{ℕ, ◌+◌, ◌*◌, ◌≤◌, ◌≡◌, cond, ltb, [], Option, None}
use Rattle.eval.specs.Machine.{done}
use Rattle.vm.specs.Call.{Brought}
use Rattle.vm.specs.Called.{called}
use Rattle.vm.specs.Runs.{u32, with_limits, loop, none, answer}
use Rattle.passes.specs.Whole.{whole, most}
use Rattle.passes.specs.Passes.{passes}

-- the count is its constant
abbrev pub counting : Option ℕ → ℕ → Brought
counting limit count = with_limits None limit (u32 count) loop

-- done, with the count as its value and 4 charges beside 2 a pass: those of Const, LoopBegin, LoopEnd and End
abbrev pub AnyCount : Type 0
AnyCount = (limit : Option ℕ) (k : ℕ) → 1 ≤ k → k ≤ most → let n = passes limit k in
    called (counting limit (whole k)) ≡ answer none done (whole k) (n * 2 + 4) (whole k) [] (cond (ltb n k) 1 0)
