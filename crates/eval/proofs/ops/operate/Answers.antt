use Prim.Native.Nat.{ℕ}
use mathlib.Core.Path.{subst}
use Rattle.eval.proofs.Steps.{operates}
use Rattle.eval.proofs.ops.operate.Goals as goal

pub returns : goal.returns
returns c d =
    let gives = λ (a b n : ℕ). c.F.FnOnce.post d.args.op (a, (b, tt)) n in
    operates gives _ _ _ _ _ _ _ _ d.take-t.ensures (subst (λ (a : ℕ). gives a d.args.s.acc d.op-number.result) d.unwrap_or.ensures d.op-number.ensures) d.apply.ensures d.load.ensures
