-- The answer and the stores of a run that has ended are what the definition's run leaves. Assumes nothing.
use Prim.Native.Nat.{ℕ, zero, suc, ◌-◌, min}
use native.Mathlib.Omega.{arith}
use mathlib.Core.Path.{◌≡◌, refl, sym, ◌∙◌, ap}
use mathlib.Core.List.{map}
use lib.ListN.{length}
use borrow.Author.Tests.{ne_eqb}
use Rattle.eval.specs.Stacks.{stored}
use Rattle.eval.specs.Machine.{Lent, Call}
use Rattle.eval.specs.Run.{Run, history, run_of, paid}
use Rattle.eval.specs.State.{Stores, run, packed, Within, with_temps}
use Rattle.eval.specs.declared.machine.State.{State}
use Rattle.interp.specs.Moves.{Leaves}
use Rattle.vm.specs.Call.{Brought, Accepted, refusal_of, call_of}
use Rattle.vm.specs.Purses.{remaining, purses, smaller}
use Rattle.vm.specs.Account.{After, end_of, answered, lent_by, left_by}
use Rattle.vm.specs.Called.{begun, ran, refused, called, reply_of, paid_in}
use Rattle.vm.specs.Accounts.{RefusedAsMet, AnsweredByRun, AnsweredByRefusal, RefusalKeepsStores}
use Rattle.vm.specs.Numbers.{number_of_refusal}
use Rattle.vm.specs.declared.refusals.Refusal.{Refusal}
use Rattle.vm.specs.declared.refusals.Refusal.TheVariants.{File, Stores as NoFit}
use Rattle.file.proofs.Numbers.{is_some}
use Rattle.std.specs.Prelude.{Err}
use Rattle.vm.specs.declared.account.End.{End}
use Rattle.vm.specs.declared.account.Remainders.{Remainders}
use Rattle.vm.specs.OneLimit.{Covered}
use Rattle.vm.proofs.OneLimit.{covered, kept, one_limit}

-- an end, what remains and the lent stores, as the answer to an accepted call
abbrev answer : End → Remainders → Lent → After
answer e p l = record { reply = answered (record { end = e; remainders = p }); lent = l }

-- a state that a run under the smaller of two limits leaves has made no more charges than either
pub not_overdrawn : (c : Call) (guest house n : ℕ) (r : Run) (s : State) (x : Stores)
    → Leaves (run_of c n r) s x → n ≡ min guest house → r.charges ≡ 0 → Covered s.charges guest house
not_overdrawn c guest house n r s x v e z =
    let m : s.charges ≡ (run_of c n r).charges = ap (λ (y : Run). y.charges) v.state in
    rw (m, e) (covered c guest house r z)

-- where the run of a call ends, under one limit
abbrev pub ended : Brought → Run
ended b = run_of (call_of b) (smaller (purses b.terms)) (begun b)

module _ (b : Brought) (s : State) (x : Stores) (v : Leaves (ended b) s x) where
  -- the charges that the state has made
  made : s.charges ≡ (ended b).charges
  made = ap (λ (y : Run). y.charges) v.state

  -- stores that keep their lengths hold what the run leaves in them
  same_lent : length x.lent.stack ≡ length b.lent.stack → length x.lent.loops ≡ length b.lent.loops
      → length x.lent.handlers ≡ length b.lent.handlers → x.lent ≡ lent_by (call_of b) (ended b).machine
  same_lent p q r =
      let m = (ended b).machine in
      let e : stored (length b.lent.stack) m.stack ≡ x.lent.stack = ap (λ (n : ℕ). stored n m.stack) (sym p) ∙ sym v.stack in
      let f : stored (length b.lent.loops) m.loops ≡ x.lent.loops = ap (λ (n : ℕ). stored n m.loops) (sym q) ∙ sym v.loops in
      let g : stored (length b.lent.handlers) (map packed m.handlers) ≡ x.lent.handlers =
      ap (λ (n : ℕ). stored n (map packed m.handlers)) (sym r) ∙ sym v.handlers in
      let k : x.lent.cells ≡ m.cells = ap (λ (y : Run). y.machine.cells) v.state in
      rw (e, f, g, ← k)

  -- with the end that `end_of` promises
  pub has_run : (e : End) → ((y : Stores) → Within s y → e ≡ end_of (run s (with_temps x.temps y)))
      → length x.lent.stack ≡ length b.lent.stack → length x.lent.loops ≡ length b.lent.loops
      → length x.lent.handlers ≡ length b.lent.handlers
      → let limits = purses b.terms in answer e (remaining (limits.guest - s.charges) (limits.house - s.charges)) x.lent ≡ ran b
  unfolding left_by
  has_run e h p q r =
      let limits = purses b.terms in
      rw (h x v.within ∙ ap end_of v.state, made, same_lent p q r, one_limit (call_of b) limits.guest limits.house (begun b) refl)

-- an accepted call
pub is_accepted : AnsweredByRun
unfolding called
is_accepted b z = rw z

-- .. and what was charged in it
pub paid_in_lem : (b : Brought) → Accepted b → paid_in b ≡ paid (begun b) (history (call_of b) (smaller (purses b.terms)) (begun b))
unfolding left_by end_of
paid_in_lem b z =
    let p = purses b.terms in
    let e = (kept (call_of b) p.guest p.house (begun b)).same in
    let j : (ended b).charges - 0 ≡ (ended b).charges = omega arith in
    rw (is_accepted b z, e, j)

-- a call that is sent back
pub is_refused : (b : Brought) (n : ℕ) → n ≡ refusal_of b → (n ≡ 0 → ⊥) → refused n b ≡ called b
unfolding called
is_refused b n e z = rw (← e, ne_eqb n 0 z)

-- .. so that it is answered by the refusal that it meets
pub answered_by_refusal : AnsweredByRefusal
answered_by_refusal b z = sym (is_refused b (refusal_of b) refl z)

pub keeps_stores : RefusalKeepsStores
keeps_stores b z = rw (answered_by_refusal b z)

-- whether a call is accepted, and what it is refused by, can be told from its answer
pub as_met : RefusedAsMet
unfolding left_by
as_met b = cases (refusal_of b) refl
  where
    cases : (n : ℕ) → refusal_of b ≡ n → (called b).reply.refusal ≡ refusal_of b
    cases zero e = rw (is_accepted b e, e)
    cases (suc n) e = rw (answered_by_refusal b (λ z. omega arith))

-- no refusal has the number 0
pub has_number : (e : Refusal) → number_of_refusal e ≡ 0 → ⊥
has_number (File e) h = is_some e h
has_number NoFit h = cc h

-- what is sent back for e
pub sent_back : (b : Brought) (e : Refusal) → number_of_refusal e ≡ refusal_of b → record { reply = reply_of b.terms (Err e); lent = b.lent } ≡ called b
sent_back b e h = is_refused b (number_of_refusal e) h (has_number e)
