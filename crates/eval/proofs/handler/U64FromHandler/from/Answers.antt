use Prim.Native.Nat.{◌+◌, ◌*◌, ◌%◌, ◌^◌}
use native.Mathlib.Omega.{arith}
use mathlib.Core.Path.{◌≡◌}
use Rattle.std.proofs.lemmas.Nat.{or_shifted}
use Rattle.eval.specs.State.{packed}
use Rattle.eval.proofs.handler.U64FromHandler.from.Goals as goal

pub returns : goal.returns
unfolding packed
returns c =
    let t = c.args.h.to in
    let s = c.args.h.mark.stack in
    let l = c.args.h.mark.loops in
    let p = c.args.h.fits_stack_mark in
    let q = c.args.h.fits_loop_mark in
    let a : t * 2 ^ 32 % 2 ^ 64 ≡ t * 2 ^ 32 = omega arith in
    let b : s * 2 ^ 12 % 2 ^ 64 ≡ s * 2 ^ 12 = omega arith in
    let d : t * 2 ^ 32 + s * 2 ^ 12 ≡ (t * 2 ^ 20 + s) * 2 ^ 12 = omega arith in
    rw (a, b, or_shifted t 32 (s * 2 ^ 12) (omega arith), d, or_shifted (t * 2 ^ 20 + s) 12 l q)
