-- The answer of one program with any count and any loop limit, by what is proved of its loop. Assumes nothing.
use Prim.Native.Nat.{ℕ, zero, suc, ◌+◌, ◌-◌, ◌*◌, ◌≤◌, ◌<◌, ◌^◌}
use native.Mathlib.Omega.{arith}
use mathlib.Core.Path.{◌≡◌, refl, ◌∙◌, ap}
use mathlib.Core.Bool.{Bool, true, false, cond}
use mathlib.Core.List.{[]}
use lib.Dec.{ltb}
use lib.Ieee.{of_bits, to_bits, eq as ieeeEq}
use Rattle.numeric.specs.Numbers.{OneNan, entered}
use Rattle.numeric.proofs.OneNan.{one_enters}
use Rattle.numeric.specs.Arithmetic.{is_identity, applied}
use Rattle.endian.specs.Endian.{number_at}
use Rattle.program.specs.Ranges.{parts_of}
use Rattle.program.specs.Instructions.{decoded}
use Rattle.tables.specs.Tables.{const_bits, const_at, post_at, instr_at}
use Rattle.file.specs.Fields.{named, body as fieldBody, rest, length_fits}
use Rattle.file.specs.Records.{record_refusal, records_refusal}
use Rattle.file.specs.Refusals.{contents_refusal, field_refusal, refusal_for}
use Rattle.eval.specs.Stacks.{stored, often}
use Rattle.eval.specs.Machine.{Call, Machine, done, start, no_temps, notices_of, at, acc_is, notices_are}
use Rattle.eval.specs.State.{packed}
use Rattle.eval.specs.Acts.{acted, limit_noticed}
use Rattle.eval.specs.Run.{Run, History, due_done, ticked, history, run_of}
use Rattle.std.specs.Prelude.{Option, Some, None}
use Rattle.eval.proofs.Histories.{history-next}
use Rattle.vm.specs.Call.{Brought, Accepted, call_of, cell_fits, cells_fit, one_each, stores_fit, call_fits, refusal_by}
use Rattle.vm.specs.Account.{end_of, left_by}
use Rattle.vm.specs.Called.{begun, called}
use Rattle.vm.specs.Purses.{Spent, remaining}
use Rattle.vm.specs.Runs.{cell, none, answer}
use Rattle.vm.proofs.Settled.{is_accepted}
use Rattle.vm.proofs.OneLimit.{one_limit}
use Rattle.passes.specs.Whole.{whole, most}
use Rattle.passes.specs.Passes.{post, CountedLoop, Before, Counting, body, holding, past, passes, charges, asked, past_by}
use Rattle.passes.specs.RunFive.{counting, AnyCount}
use Rattle.passes.proofs.Whole.{whole_small, whole-one}
use Rattle.passes.proofs.Loops.{further}
use Rattle.passes.proofs.Exact.{passes_are, exact_end}

-- ---- the program, with a count as its constant

accepted : (limit : Option ℕ) (count : ℕ) → Accepted (counting limit count)
unfolding number_at parts_of named fieldBody rest length_fits record_refusal records_refusal contents_refusal field_refusal refusal_for cell_fits cells_fit one_each stores_fit call_fits refusal_by
accepted limit count = refl

-- the loop at 1, with one body record
is_loop : (limit : Option ℕ) (count : ℕ) → CountedLoop (call_of (counting limit count)).code 1 1
unfolding instr_at decoded number_at named fieldBody rest length_fits
is_loop limit count = record { exit = 5; begin = refl; body = λ i o. let e : i ≡ 0 = omega arith in rw e (post _); check = refl; end = refl }

-- once Const has acted
abbrev pub loaded : Brought → Run
loaded b = ticked (call_of b) (begun b)

stands : (limit : Option ℕ) (count : ℕ) → count < 2 ^ 32 → OneNan count → Before (call_of (counting limit count)) 1 count (loaded (counting limit count))
unfolding ticked due_done acted const_at instr_at decoded number_at named fieldBody rest length_fits
stands limit count h o =
    let e : const_bits (call_of (counting limit count)).consts 0 ≡ count = omega arith in
    let counts = ap entered e ∙ one_enters count o in
    record { going = refl; place = refl; due = refl; counts = counts; stack_free = omega arith; loops_free = omega arith; under_cap = omega arith }

pub at-loop : (limit : Option ℕ) (k : ℕ) {largest : ℕ} → 1 ≤ k → k ≤ most → k ≤ largest
    → Counting largest (call_of (counting limit (whole k))) 1 1 k (loaded (counting limit (whole k)))
at-loop limit k l m n = record { loop = is_loop limit (whole k); from = l; to = n; stands = stands limit (whole k) (whole_small k m) (whole-one k m) }

-- ---- its account

-- no more passes than the count
few_passes : (limit : Option ℕ) (k : ℕ) → 1 ≤ k → passes limit k ≤ k
few_passes limit k l = let e = passes_are limit k l in let f = few limit in omega arith
  where
    few : (limit : Option ℕ) → further limit 1 (k - 1) ≤ k - 1
    few None = omega arith
    few (Some n) = omega arith

-- a run that no limit was set to, with what remains of both
abbrev unlimited : Run → Spent
unlimited r = record { run = r; remainders = remaining (none - r.charges) (none - r.charges) }

module _ (limit : Option ℕ) (count : ℕ) where
  abbrev c : Call
  c = call_of (counting limit count)

  -- at LoopBegin
  abbrev first : Run
  first = record { machine = acc_is count (at 1 (start cell no_temps)); charges = 1 }

  is_first : count < 2 ^ 32 → OneNan count → loaded (counting limit count) ≡ first
  unfolding ticked due_done acted const_at instr_at decoded number_at named fieldBody rest length_fits
  is_first h o = ap (λ (v : ℕ). record { machine = acc_is v (at 1 (start cell no_temps)); charges = 1 }) (stands limit count h o).counts

  -- past LoopEnd, with a notice or without
  abbrev out : ℕ → Bool → Run
  out n t = record { machine = at 5 (notices_are (cond t (notices_of 0 0 1) (notices_of 0 0 0)) first.machine); charges = 1 + charges n 1 }

  -- the body leaves accumulator, cells and temps as they are
  kept : (j : ℕ) (a m : Machine) → holding (often j (body c 2 1) a) m ≡ holding a m
  unfolding often body acted post_at is_identity applied instr_at decoded number_at named fieldBody rest length_fits ieeeEq of_bits
  kept zero a m = refl
  kept (suc j) a m = kept j a m

  comes_out : (n : ℕ) (t : Bool) → past c 1 1 n (charges n 1) t first ≡ out n t
  comes_out n t =
      let m = first.machine in
      ap (λ (x : Machine). record { machine = at 5 x; charges = 1 + charges n 1 }) (kept n m (notices_are (cond t (limit_noticed m).notices m.notices) m))

  -- End's charge is the last
  ends : (n : ℕ) (t : Bool) (N : ℕ) → 1 ≤ N → left_by c (unlimited (run_of c N (out n t))) ≡ answer none done count (1 + charges n 1 + 1) count [] (cond t 1 0)
  unfolding left_by end_of history ticked due_done acted instr_at decoded number_at named fieldBody rest length_fits stored packed
  ends n t zero o = absurd (omega arith)
  ends n true (suc N) o = refl
  ends n false (suc N) o = refl

pub any_count : AnyCount
any_count limit k l m =
    let v = whole k in
    let b = counting limit v in
    let n = passes limit k in
    let few = few_passes limit k l in
    let left = 2 ^ 64 - 2 - charges n 1 in
    let some : 1 ≤ left = omega arith in
    let h = whole_small k m in
    let o = whole-one k m in
    let const = ap (λ (x : History). x.end) (history-next (call_of b) (2 ^ 64 - 2) (begun b) (loaded b) refl (stands limit v h o).going) in
    let loop = exact_end (call_of b) 1 1 k (2 ^ 64 - 2) (loaded b) (at-loop limit k l m m) (omega arith) in
    let reaches = ap (λ (r : Run). past_by asked (call_of b) 1 1 k r) (is_first limit v h o) ∙ comes_out limit v n (ltb n k) in
    let told : 1 + charges n 1 + 1 ≡ n * 2 + 4 = omega arith in
    is_accepted b (accepted limit v) ∙ ap (left_by (call_of b)) (one_limit (call_of b) none none (begun b) refl)
    ∙ ap (λ (r : Run). left_by (call_of b) (unlimited r)) (const ∙ loop ∙ ap (run_of (call_of b) left) reaches)
    ∙ ends limit v n (ltb n k) left some ∙ ap (λ (x : ℕ). answer none done v x v [] (cond (ltb n k) 1 0)) told

-- a count of 3.0
pub run_five : called (counting None 0x4040_0000) ≡ answer none done 0x4040_0000 10 0x4040_0000 [] 0
unfolding whole to_bits
run_five = any_count None 3 (omega arith) (omega arith)

-- .. and under loop limit 0
pub run_six : called (counting (Some 0) 0x4040_0000) ≡ answer none done 0x4040_0000 6 0x4040_0000 [] 1
unfolding whole to_bits
run_six = any_count (Some 0) 3 (omega arith) (omega arith)
