use Rattle.std.proofs.Common.{◌≡◌, ◌<◌, ◌≤◌, length}
use Rattle.print.proofs.Nine.{Unread}
use Rattle.print.proofs.decimal.Natural.leading.Given as goal

abbrev pub invariant-loop-i : goal.invariant-loop-i
invariant-loop-i l =
    let rest = l.i-iterator.iter.iter.rest.now in
    (l.digits < 2000000000) × (l.i-iterator.iter.count ≡ 0) × (length rest ≤ 200) × Unread l.self rest l.digits
