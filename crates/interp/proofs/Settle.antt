-- What a run leaves once the stores are cleared, and where it starts. Assumes nothing.
use Prim.Native.Nat.{ℕ, ◌-◌, ◌≤◌}
use native.Mathlib.Omega.{arith}
use mathlib.Core.Path.{◌≡◌, sym, ◌∙◌, ap}
use mathlib.Core.Bool.{true}
use mathlib.Core.List.{List, ◌++◌, map}
use lib.ListN.{length, take, replicate}
use Rattle.std.proofs.lemmas.List.{length-take-le}
use Rattle.eval.specs.Stacks.{stored}
use Rattle.eval.specs.Machine.{Cells, Temps, Call}
use Rattle.eval.specs.Run.{Run, goes_on, run_of}
use Rattle.eval.specs.State.{Stores, run, Within, packed}
use Rattle.eval.specs.declared.machine.State.{State}
use Rattle.eval.proofs.Stacks.{stored-below, length-stored, map_pack}
use Rattle.interp.specs.Moves.{finish, Leaves}
use Rattle.interp.proofs.Laws.{finish_on}

-- a store once it is cleared from a depth on: the stack that it held, and zeros
module _ (d : ℕ) (st st' : List ℕ) (h : d ≤ length st) (e : st' ≡ take d st ++ replicate (length st - d) 0) where
  cleared : st' ≡ stored (length st) (take d st)
  unfolding stored
  cleared = e ∙ rw (length-take-le d st h)

  same_length : length st' ≡ length st
  same_length = ap length cleared ∙ length-stored d st h

  held : st' ≡ stored (length st') (take d st)
  held = cleared ∙ ap (λ (n : ℕ). stored n (take d st)) (sym same_length)

  fits : d ≤ length st'
  fits = rw same_length h

  below : take d st' ≡ take d st
  below = ap (take d) cleared ∙ stored-below d st h

-- the stores as a run left them, and once they are cleared
module _ (end : Run) (s : State) (cells : Cells) (temps : Temps) (st lp hs st' lp' hs' : List ℕ) where
  abbrev full : Stores
  full = record { lent = record { cells = cells; stack = st; loops = lp; handlers = hs }; temps = temps }

  abbrev clear : Stores
  clear = record { lent = record { cells = cells; stack = st'; loops = lp'; handlers = hs' }; temps = temps }

  pub settled : Within s full → st' ≡ take s.stack st ++ replicate (length st - s.stack) 0 → lp' ≡ take s.loops lp ++ replicate (length lp - s.loops) 0
      → hs' ≡ take s.handlers hs ++ replicate (length hs - s.handlers) 0 → run s full ≡ end → Leaves end s clear
  settled w e f g r =
      let a = w.on_stack in
      let b = w.on_loops in
      let d = w.on_handlers in
      record {
        within = record { on_stack = fits s.stack st st' a e; on_loops = fits s.loops lp lp' b f; on_handlers = fits s.handlers hs hs' d g };
        state = rw (below s.stack st st' a e, below s.loops lp lp' b f, below s.handlers hs hs' d g) r;
        stack = held s.stack st st' a e ∙ ap (λ (y : Run). stored (length st') y.machine.stack) r;
        loops = held s.loops lp lp' b f ∙ ap (λ (y : Run). stored (length lp') y.machine.loops) r;
        handlers =
            held s.handlers hs hs' d g ∙ ap (stored (length hs')) (sym (map_pack (take s.handlers hs)))
            ∙ ap (λ (y : Run). stored (length hs') (map packed y.machine.handlers)) r;
      }

-- a run that has made no charge
pub begins : (c : Call) (limit : ℕ) (r f : Run) → r ≡ f → f.charges ≡ 0 → goes_on f ≡ true → finish c (limit - r.charges) r ≡ run_of c limit f
begins c limit r f e z o =
    let q : limit - r.charges ≡ limit = let y = ap (λ (x : Run). x.charges) e in omega arith in
    ap (λ (n : ℕ). finish c n r) q ∙ ap (finish c limit) e ∙ finish_on c f limit o
