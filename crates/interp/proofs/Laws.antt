-- How a run goes on: by one charge, or by both of a PushConst. Assumes nothing.
use Prim.Native.Nat.{ℕ, suc, ◌+◌, ◌-◌, ◌<◌}
use native.Mathlib.Omega.{arith}
use mathlib.Core.Path.{◌≡◌, refl, sym, ◌∙◌, ap}
use mathlib.Core.Bool.{Bool, true, false, cond}
use mathlib.Core.List.{[]}
use Rattle.eval.specs.Machine.{Call}
use Rattle.eval.specs.Run.{Run, History, before, goes_on, ticked, history, run_of, out_of_steps}
use Rattle.eval.specs.State.{Stores, laid_over}
use Rattle.eval.proofs.Histories.{tick_charge}
use Rattle.interp.specs.Moves.{Moved, finish, stores_after, finish_stores}

-- the end of a history that goes on or not
end_either : (r t : Run) (h : History) (b : Bool) → (before r (cond b h (record { dues = []; end = t }))).end ≡ cond b h.end t
end_either r t h true = refl
end_either r t h false = refl

module _ (c : Call) (r : Run) where
  pub finish_on : (n : ℕ) → goes_on r ≡ true → finish c n r ≡ run_of c n r
  unfolding finish
  finish_on n h = simp h

  pub finish_end : (n : ℕ) → goes_on r ≡ false → finish c n r ≡ r
  unfolding finish
  finish_end n h = simp h

  pub run_none : run_of c 0 r ≡ out_of_steps r
  unfolding history
  run_none = refl

  pub run_tick : (n : ℕ) → run_of c (suc n) r ≡ finish c n (ticked c r)
  unfolding history finish
  run_tick n = end_either r (ticked c r) (history c n (ticked c r)) (goes_on (ticked c r))

  -- one more charge of a limit
  pub finish_tick : (limit : ℕ) → goes_on r ≡ true → r.charges < limit → finish c (limit - r.charges) r ≡ finish c (limit - (r.charges + 1)) (ticked c r)
  finish_tick limit h l =
      let q : limit - r.charges ≡ suc (limit - (r.charges + 1)) = omega arith in
      rw q (finish_on (suc (limit - (r.charges + 1))) h ∙ run_tick (limit - (r.charges + 1)))

  -- ---- the stores

  pub stores_on : (n : ℕ) (x : Stores) → goes_on r ≡ true → finish_stores c n r x ≡ stores_after c n r x
  unfolding finish_stores
  stores_on n x h = simp h

  pub stores_end : (n : ℕ) (x : Stores) → goes_on r ≡ false → finish_stores c n r x ≡ x
  unfolding finish_stores
  stores_end n x h = simp h

  pub stores_none : (x : Stores) → stores_after c 0 r x ≡ x
  unfolding stores_after
  stores_none x = refl

  stores_more : (n : ℕ) (x : Stores) → stores_after c (suc n) r x ≡ finish_stores c n (ticked c r) (laid_over x (ticked c r).machine)
  unfolding stores_after finish_stores
  stores_more n x = refl

  pub stores_tick : (limit : ℕ) (x : Stores) → goes_on r ≡ true → r.charges < limit
      → finish_stores c (limit - r.charges) r x ≡ finish_stores c (limit - (r.charges + 1)) (ticked c r) (laid_over x (ticked c r).machine)
  stores_tick limit x h l =
      let q : limit - r.charges ≡ suc (limit - (r.charges + 1)) = omega arith in
      rw q (stores_on (suc (limit - (r.charges + 1))) x h ∙ stores_more (limit - (r.charges + 1)) x)

  -- ---- one tick

  pub move_one : (limit : ℕ) (x : Stores) (n : Run) (y : Stores) → n ≡ ticked c r → y ≡ laid_over x n.machine → goes_on r ≡ true → r.charges < limit
      → Moved c limit r x n y
  move_one limit x n y e w h l =
      let u : n.charges ≡ r.charges + 1 = ap (λ (k : Run). k.charges) e ∙ tick_charge c r in
      record {
        up = omega arith;
        most = omega arith;
        same = ap (λ (k : ℕ). finish c (limit - k) n) u ∙ ap (finish c (limit - (r.charges + 1))) e ∙ sym (finish_tick limit h l);
        stores =
            ap (finish_stores c (limit - n.charges) n) w ∙ ap (λ (k : ℕ). finish_stores c (limit - k) n (laid_over x n.machine)) u
            ∙ ap (λ (k : Run). finish_stores c (limit - (r.charges + 1)) k (laid_over x k.machine)) e ∙ sym (stores_tick limit x h l);
      }
