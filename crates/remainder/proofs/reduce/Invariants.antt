-- `remainder::reduce` meets its contract. The loop's invariant: r has 24 digits at most, and with what is left of the shift it gives the remainder asked for.
-- The measure is what is left. Assumes nothing.
use mathlib.Core.Path.{◌≡◌}
use Prim.Native.Nat.{◌*◌, ◌%◌, ◌^◌, ◌≤◌, ◌<◌}
use Rattle.remainder.proofs.reduce.Given as goal

abbrev pub invariant-loop-left : goal.invariant-loop-left
invariant-loop-left l = (l.r < 2 ^ 24) × (l.left ≤ l.shift) × (l.r * 2 ^ l.left % l.n ≡ l.m * 2 ^ l.shift % l.n)

abbrev pub decreases-loop-left : goal.decreases-loop-left
decreases-loop-left l = l.left
