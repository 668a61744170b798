-- Operands that are taken at once. Definitions only.
use Rattle.std.specs.Prelude.{ℕ, ◌-◌, ◌≡◌, length, take}
use Rattle.eval.specs.Stacks.{often}
use Rattle.eval.specs.Machine.{Machine, counted, stack_is, empty_pops_are}
use Rattle.eval.specs.Acts.{without_top}

-- a machine of which k operands were taken, of a stack of d: those that were not there are counted
abbrev pub taken_from : ℕ → ℕ → Machine → Machine
taken_from d k m = empty_pops_are (often (k - d) counted m.empty_pops) (stack_is (take (d - k) m.stack) m)

-- operands that are taken one after another are taken at once
abbrev pub TakenAtOnce : Type 0
TakenAtOnce = (m : Machine) (k : ℕ) → often k without_top m ≡ taken_from (length m.stack) k m
