-- A turn of the loop keeps its invariant: it loses no digit, and reduces what it moved. Assumes nothing.
use mathlib.Core.Path.{ap, ◌∙◌}
use Prim.Native.Nat.{ℕ, ◌-◌, ◌*◌, ◌%◌, ◌^◌}
use borrow.Author.Rules.{rules}
use Rattle.remainder.proofs.Modulo.{turn, shift_whole, mod_below}
use Rattle.remainder.proofs.reduce.Goals as goal

pub loop-left-preserved : goal.loop-left-preserved
loop-left-preserved c =
    let n = c.args.n in
    let r = c.loop-left.r in
    let left = c.loop-left.left in
    rw c.from-d.ensures (
      mod_below (r * 2 ^ 40 % 2 ^ 64) (search rules) (search rules),
      search rules,
      ap (λ (x : ℕ). x % n * 2 ^ (left - 40) % n) (shift_whole r {k = 40} (search rules) (search rules))
          ∙ turn r n {k = 40} (search rules)
          ∙ c.loop-left.invariant.2,
    )
