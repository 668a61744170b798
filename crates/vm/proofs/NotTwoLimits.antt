-- Evaluators that do not keep the rule of two limits. Assumes nothing.
use Prim.Native.Nat.{ℕ, max}
use native.Mathlib.Omega.{arith}
use mathlib.Core.Path.{◌≡◌, refl, sym, ◌∙◌, ap}
use mathlib.Core.List.{◌++◌}
use lib.Ieee.{nan_bits}
use Rattle.numeric.specs.Numbers.{zero, entered}
use Rattle.endian.specs.Endian.{number_at}
use Rattle.program.specs.Ranges.{parts_of}
use Rattle.program.specs.Instructions.{decoded}
use Rattle.tables.specs.Tables.{const_at, instr_at}
use Rattle.file.specs.Fields.{named, body, rest, length_fits}
use Rattle.file.specs.Records.{record_refusal, records_refusal}
use Rattle.file.specs.Refusals.{contents_refusal, field_refusal, refusal_for}
use Rattle.eval.specs.Machine.{acc_is, empty_pops_are}
use Rattle.eval.specs.Acts.{acted}
use Rattle.eval.specs.Run.{lift, charged, due_done, ticked, history}
use Rattle.vm.specs.Call.{Brought, Accepted, call_of, cell_fits, cells_fit, one_each, stores_fit, call_fits, refusal_by}
use Rattle.vm.specs.Account.{After, end_of, left_by}
use Rattle.vm.specs.NotTwoLimits.{altered, early, unbilled, limited}
use Rattle.vm.specs.Purses.{spend}
use Rattle.vm.specs.Limits.{Pair, limit_by, under, makes, standing, Compared, compared, stopped_with, KeepsTwoLimits, KeepsRule}
use Rattle.vm.specs.Runs.{u32, op, plain}
use Rattle.std.specs.Prelude.{Some, None}
use Rattle.vm.specs.declared.account.End.{End}
use Rattle.vm.specs.declared.account.Remainders.{Remainders}

-- Const 2.0, End: two charges, and 2.0 stands when the second falls due
call : Brought
call = plain (u32 0x4000_0000) (op 1 0 ++ op 48 0)

-- a limit of the guest's and none of the house's, and the other way round
abbrev guests : ℕ → Pair
guests n = record { guest = Some n; house = None }

abbrev houses : ℕ → Pair
houses n = record { guest = None; house = Some n }

accepted : Accepted call
unfolding call number_at parts_of named body rest length_fits record_refusal records_refusal contents_refusal field_refusal refusal_for cell_fits cells_fit one_each stores_fit call_fits refusal_by
accepted = refl

makes_two : makes call 2 ≡ 2
unfolding call number_at decoded const_at instr_at named body rest nan_bits entered acted due_done ticked history
makes_two = refl

-- what any evaluator that keeps the rule bills under the limit 1, and the accumulator that it leaves
stopped : Compared
stopped = stopped_with (call_of call) 1 (standing call 2 1)

bills : stopped.end.charges ≡ 1
unfolding stopped stopped_with
bills = refl

stands : stopped.end.accumulator ≡ 0x4000_0000
unfolding stopped call number_at decoded const_at instr_at named body rest nan_bits entered acted due_done ticked history stopped_with
stands = refl

pops : stopped.end.empty_pops ≡ 0
unfolding stopped call number_at decoded const_at instr_at named body rest nan_bits entered acted due_done ticked history stopped_with
pops = refl

-- a limit of 1 below one of 2, by pairs of which those are the smaller
module _ (f : Brought → After) (l : ℕ → Pair) (p : limit_by (l 1) ≡ 1) (q : limit_by (l 2) ≡ 2) where
  must : KeepsRule f → compared (f (under (l 1) call)) ≡ stopped
  unfolding stopped
  must k = let cut = (k call accepted (l 1) (l 2) (omega arith)).cut in (rw (p, q) at cut) (let e = makes_two in omega arith)

  end : End
  end = (f (under (l 1) call)).reply.account.end

  -- an evaluator whose account at this call has n where the rule has another number: as accumulator, charges or empty pops
  other : (part : End → ℕ) (n m : ℕ) → part end ≡ n → part stopped.end ≡ m → (n ≡ m → ⊥) → KeepsRule f → ⊥
  unfolding end
  other part n m e s d k = d (sym e ∙ ap (λ (w : Compared). part w.end) (must k) ∙ s)

-- 1. stops for steps before it acts
pub not_early : KeepsRule early → ⊥
unfolding end early left_by end_of call
not_early = other early guests refl refl (λ e. e.accumulator) 0 _ refl stands (λ e. omega arith)

-- 2. charges otherwise: one more
pub not_dear : KeepsRule (altered charged) → ⊥
unfolding end altered left_by end_of call number_at decoded const_at instr_at named body rest nan_bits entered acted due_done ticked spend
not_dear = other (altered charged) guests refl refl (λ e. e.charges) 2 _ refl bills (λ e. omega arith)

-- 3. clears the accumulator
pub not_clearing : KeepsRule (altered (lift (acc_is zero))) → ⊥
unfolding end altered left_by end_of call
not_clearing = other (altered (lift (acc_is zero))) guests refl refl (λ e. e.accumulator) 0 _ refl stands (λ e. omega arith)

-- one that bills 2 charges under a limit of 1, the guest's or the house's
module _ (pick : Remainders → ℕ) (l : ℕ → Pair) (p : limit_by (l 1) ≡ 1) (q : limit_by (l 2) ≡ 2) where
  not_limited : (end (limited pick) l p q).charges ≡ 2 → KeepsRule (limited pick) → ⊥
  not_limited e = other (limited pick) l p q (λ a. a.charges) 2 _ e bills (λ z. omega arith)

-- 4. looks at the guest's limit alone
pub not_guest_alone : KeepsRule (limited (λ r. r.guest)) → ⊥
unfolding end limited left_by end_of call number_at decoded const_at instr_at named body rest nan_bits entered acted due_done ticked spend
not_guest_alone = not_limited (λ r. r.guest) houses refl refl refl

-- 5. looks at the house's alone
pub not_house_alone : KeepsRule (limited (λ r. r.house)) → ⊥
unfolding end limited left_by end_of call number_at decoded const_at instr_at named body rest nan_bits entered acted due_done ticked spend
not_house_alone = not_limited (λ r. r.house) guests refl refl refl

-- 6. takes the larger for the smaller
pub not_larger : KeepsRule (limited (λ r. max r.guest r.house)) → ⊥
unfolding end limited left_by end_of call number_at decoded const_at instr_at named body rest nan_bits entered acted due_done ticked spend
not_larger = not_limited (λ r. max r.guest r.house) guests refl refl refl

-- 7. counts an empty pop where the run ends
pub not_popping : KeepsRule (altered (lift (empty_pops_are 1))) → ⊥
unfolding end altered left_by end_of call
not_popping = other (altered (lift (empty_pops_are 1))) guests refl refl (λ e. e.empty_pops) 1 _ refl pops (λ e. omega arith)

-- 8. bills nothing where a run ends by itself
not_both : (n : ℕ) → n ≡ 0 → n ≡ 2 → ⊥
not_both n p q = omega arith

pub not_free : KeepsTwoLimits (altered unbilled) → ⊥
unfolding altered left_by end_of call number_at decoded const_at instr_at named body rest nan_bits entered acted due_done ticked spend
not_free k =
    let made = (k call accepted (guests 1) (guests 2) (omega arith)).made in
    not_both (altered unbilled (under (guests 2) call)).reply.account.end.charges refl (made ∙ makes_two)
