use Prim.Native.Nat.{◌-◌}
use native.Mathlib.Omega.{arith}
use mathlib.Core.Path.{◌≡◌, refl}
use lib.Seq.{length-take-le, take-take}
use Rattle.eval.specs.Stacks.{often}
use Rattle.eval.specs.State.{run}
use Rattle.eval.proofs.Takes.{often-taken}
use Rattle.eval.proofs.ops.take_many.Goals as goal

pub returns-then-s-k : goal.returns-then-s-k
returns-then-s-k c =
    let a = c.args in
    let none : a.s.stack - a.k ≡ 0 = omega arith in
    record {
      stays = refl;
      takes = λ x w.
          let e = length-take-le a.s.stack x.lent.stack w.on_stack in
          record {
            within = record { on_stack = omega arith; on_loops = w.on_loops; on_handlers = w.on_handlers };
            same = rw (often-taken (run a.s x).machine a.k, e, none, c.count_many.ensures);
          };
    }

pub returns : goal.returns
unfolding often
returns c =
    let a = c.args in
    let none : a.k - a.s.stack ≡ 0 = omega arith in
    record {
      stays = refl;
      takes = λ x w.
          let e = length-take-le a.s.stack x.lent.stack w.on_stack in
          let t = take-take (a.s.stack - a.k) a.s.stack x.lent.stack (omega arith) in
          record {
            within = record { on_stack = omega (arith, w.on_stack); on_loops = w.on_loops; on_handlers = w.on_handlers };
            same = rw (often-taken (run a.s x).machine a.k, e, none, t);
          };
    }
