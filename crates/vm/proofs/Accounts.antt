-- Every account: none is of a run that still goes on, and what it charged and what remains make each limit. Assumes nothing.
use Prim.Native.Nat.{ℕ, zero, suc}
use native.Mathlib.Omega.{arith}
use mathlib.Core.Path.{◌≡◌, refl, ◌∙◌, ap}
use mathlib.Core.Bool.{Bool, true, false}
use Rattle.eval.specs.Machine.{Call}
use Rattle.eval.specs.Run.{Run, goes_on, is_running, ticked, run_of}
use Rattle.interp.proofs.Laws.{finish_on, finish_end, run_none, run_tick}
use Rattle.vm.specs.Call.{Brought, refusal_of, call_of}
use Rattle.vm.specs.Purses.{purses, smaller}
use Rattle.vm.specs.Account.{end_of, left_by}
use Rattle.vm.specs.Called.{begun, ran, called}
use Rattle.vm.proofs.OneLimit.{kept}
use Rattle.vm.specs.Accounts.{HasEnded, NoneGoesOn, AddsUp, NothingTaken}
use Rattle.vm.proofs.Settled.{is_accepted, answered_by_refusal}

-- a run under any limit ends
ends : (c : Call) (n : ℕ) (r : Run) → goes_on (run_of c n r) ≡ false
ends c zero r = ap goes_on (run_none c r)
ends c (suc n) r = cases (goes_on (ticked c r)) refl (ends c n (ticked c r))
  where
    cases : (b : Bool) → goes_on (ticked c r) ≡ b → goes_on (run_of c n (ticked c r)) ≡ false → goes_on (run_of c (suc n) r) ≡ false
    cases true h i = ap goes_on (run_tick c r n ∙ finish_on c (ticked c r) n h) ∙ i
    cases false h i = ap goes_on (run_tick c r n ∙ finish_end c (ticked c r) n h) ∙ h

-- so the outcome of an accepted call's account is one of the six
pub has_ended : HasEnded
has_ended b =
    let p = purses b.terms in
    ap goes_on (kept (call_of b) p.guest p.house (begun b)).same ∙ ends (call_of b) (smaller p) (begun b)

-- .. and a refusal's account is that of no run
pub none_goes_on : NoneGoesOn
unfolding left_by end_of
none_goes_on b = cases (refusal_of b) refl
  where
    cases : (n : ℕ) → refusal_of b ≡ n → is_running (called b).reply.account.end.outcome ≡ false
    cases zero e = rw (is_accepted b e) (has_ended b)
    cases (suc n) e = rw (answered_by_refusal b (λ z. omega arith))

-- ---- what remains

ran_adds_up : (b : Brought) → AddsUp b (ran b)
unfolding left_by end_of
ran_adds_up b =
    let p = purses b.terms in
    let k = kept (call_of b) p.guest p.house (begun b) in
    let g = k.of_guest in
    let h = k.of_house in
    record { by_guest = omega arith; by_house = omega arith }

-- a refusal takes nothing from either limit
pub nothing-taken : (b : Brought) → (refusal_of b ≡ 0 → ⊥) → NothingTaken b (called b)
nothing-taken b z = rw (answered_by_refusal b z) record { charges = refl; remainders = refl }

-- every answer, an account or a refusal
pub adds_up : (b : Brought) → AddsUp b (called b)
adds_up b = cases (refusal_of b) refl
  where
    cases : (n : ℕ) → refusal_of b ≡ n → AddsUp b (called b)
    cases zero e = rw (is_accepted b e) (ran_adds_up b)
    cases (suc n) e =
        let t = nothing-taken b (λ z. omega arith) in
        rw (t.charges, t.remainders) record { by_guest = omega arith; by_house = omega arith }
