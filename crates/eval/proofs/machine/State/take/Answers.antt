use native.Mathlib.Omega.{arith}
use Prim.Native.Nat.{◌<◌}
use mathlib.Core.Path.{refl, sym}
use Rattle.eval.proofs.Stacks.{top-at, top-none, pop-at, pop-none, none_there, some_there}
use Rattle.eval.proofs.machine.State.take.Goals as goal

pub returns-then-self-eq0 : goal.returns-then-self-eq0
returns-then-self-eq0 c =
    let z = c.if-self-eq0.true in
    record {
      stays = refl;
      lower = omega arith;
      takes = λ x w.
          record {
            within = w;
            number = sym (top-none _ _ z);
            there = sym (none_there _ _ z);
            left = rw (c.count.ensures, none_there _ _ z, ← pop-none _ _ z);
          };
    }

pub returns : goal.returns
returns c =
    let h = c.requires in
    let z : 0 < c.args.self.stack = omega arith in
    record {
      stays = refl;
      lower = omega arith;
      takes = λ x w.
          record {
            within = record { on_stack = omega arith; on_loops = omega arith; on_handlers = omega arith };
            number = top-at _ _ z h;
            there = sym (some_there _ _ z h);
            left = rw (some_there _ _ z h, ← pop-at _ _ h);
          };
    }
