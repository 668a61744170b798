use Rattle.std.proofs.Common.{rules, arith, refl, ◌∙◌, ap, ◌≡◌, length, ◌+◌}
use Rattle.print.proofs.Nine.{leads, length-snoc, read_none, read_last}
use Rattle.print.proofs.decimal.Natural.leading.Goals as goal

pub loop-i-init : goal.loop-i-init
loop-i-init c =
    rw (c.into_iter-i-iterator.ensures.into_iter_gives, c.rev-i-items.ensures.source, c.enumerate.ensures.source, c.enumerate.ensures.count, c.iter.ensures.rest)
    (omega arith, refl, search rules, read_none _ _ (rw c.self.view_is at c.self.invariant))

pub loop-i-preserved : goal.loop-i-preserved
loop-i-preserved c =
    let s = c.in-Some.ensures.steps in
    let i = c.loop-i.invariant in
    let n = ap length s.1.0 ∙ length-snoc c.in-Some.digit.now _ in
    (omega arith, s.0 ∙ i.1, omega (arith, n, i.2), read_last _ _ _ _ c.if-digits-ge100000000.false (rw s.1.0 at i.3))

pub returns-then-digits-ge100000000-clause-first :
    goal.returns-then-digits-ge100000000-clause-first
returns-then-digits-ge100000000-clause-first c =
    let s = c.in-Some.ensures.steps in
    let i = c.loop-i.invariant in
    let n = ap length s.1.0 ∙ length-snoc c.in-Some.digit.now _ in
    let e : length c.loop-i.i-iterator.iter.iter.rest.now ≡ c.in-Some.i + 1 = omega (arith, n, i.1, s.1.1) in
    leads _ _ _ (rw e at i.3.read) (λ _. c.if-digits-ge100000000.true)
