use Rattle.std.proofs.Common.{◌≡◌, ◌≤◌, ◌+◌, ◌-◌, max, List, length, map}
use Rattle.std.specs.List.{FoldsTo, enumerate_from, fold}
use Rattle.print.specs.declared.status.Status.{Status}
use Rattle.print.specs.Status.{number_of, highest_of}
use Rattle.print.proofs.lines.highest.Given as goal

abbrev pub invariant-loop-i : goal.invariant-loop-i
invariant-loop-i g l =
    goal.F-IsAlwaysCallable g l.turn × (l.i - 1 ≤ l.fn.count - 1)
    × ((rest : List Status) → (last : _) → FoldsTo (λ f at h. goal.F-step g f at.0 at.1 h) l.turn (enumerate_from l.i rest) last
    → (all : List Status) × (length all ≡ (l.i - 1) + length rest)
    × FoldsTo (λ f at h. goal.F-step g f at.0 at.1 h) l.initial.turn (enumerate_from 1 all) last
    × (highest_of all ≡ fold max (number_of l.status) (map number_of rest)))
