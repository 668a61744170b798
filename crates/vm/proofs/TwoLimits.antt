-- Two limits, one call. Assumes nothing.
use Prim.Native.Nat.{ℕ, zero, suc, ◌+◌, ◌≤◌, ◌<◌}
use native.Mathlib.Omega.{arith}
use mathlib.Core.Path.{◌≡◌, refl, sym, ◌∙◌, ap}
use mathlib.Core.Bool.{Bool, true, false}
use mathlib.Core.List.{List, ◌∷◌}
use lib.Dec.{leb}
use lib.ListN.{length, get_or}
use borrow.Author.Tests.{leb-true, leb-false}
use Rattle.eval.specs.Machine.{Call}
use Rattle.eval.proofs.Histories.{history-next, first_due, tick_charge}
use Rattle.eval.specs.Run.{Run, History, goes_on, ticked, history, run_of, out_of_steps}
use Rattle.interp.proofs.Laws.{finish_on, finish_end, run_none, run_tick}
use Rattle.vm.specs.Call.{Brought, Accepted, call_of, limit_of}
use Rattle.vm.specs.Purses.{Spent}
use Rattle.vm.specs.Account.{After, end_of, lent_by, left_by}
use Rattle.vm.specs.Called.{begun, called}
use Rattle.vm.specs.Limits.{Pair, limit_by, under, makes, standing, Compared, compared, stopped_with, Agree, AgreeInFull, KeepsTwoLimits, DuesReadOff, SameSmaller, NotCut}
use Rattle.vm.proofs.OneLimit.{kept}
use Rattle.vm.proofs.Settled.{is_accepted}

-- ---- how a run and its list of dues go on

module _ (c : Call) (n : ℕ) (r : Run) where
  on : goes_on (ticked c r) ≡ true → run_of c (suc n) r ≡ run_of c n (ticked c r)
  on h = run_tick c r n ∙ finish_on c (ticked c r) n h

  end : goes_on (ticked c r) ≡ false → run_of c (suc n) r ≡ ticked c r
  end h = run_tick c r n ∙ finish_end c (ticked c r) n h

  made_on : goes_on (ticked c r) ≡ true → (run_of c (suc n) r).charges ≡ (run_of c n (ticked c r)).charges
  made_on h = ap (λ (x : Run). x.charges) (on h)

  made_end : goes_on (ticked c r) ≡ false → (run_of c (suc n) r).charges ≡ r.charges + 1
  made_end h = ap (λ (x : Run). x.charges) (end h) ∙ tick_charge c r

  dues_on : goes_on (ticked c r) ≡ true → (history c (suc n) r).dues ≡ r ∷ (history c n (ticked c r)).dues
  dues_on h = ap (λ (x : History). x.dues) (history-next c n r (ticked c r) refl h)

  -- the first due is where the run stands
  dues-first : (d : Run) → get_or (history c n r).dues 0 d ≡ r
  dues-first d = ap (λ (x : List Run). get_or x 0 d) (first_due c n r)

  -- and there is one
  dues_some : 0 < length (history c n r).dues
  dues_some = let e = ap (λ (x : List Run). length x) (first_due c n r) in omega arith

-- a run makes charges, and no more than the limit
record Bounds (c : Call) (n : ℕ) (r : Run) : Type 0 where
  low : r.charges ≤ (run_of c n r).charges
  high : (run_of c n r).charges ≤ r.charges + n

bounds : (c : Call) (n : ℕ) (r : Run) → Bounds c n r
bounds c zero r =
    let e = ap (λ (x : Run). x.charges) (run_none c r) in
    record { low = omega arith; high = omega arith }
bounds c (suc n) r = cases (goes_on (ticked c r)) refl (bounds c n (ticked c r))
  where
    cases : (b : Bool) → goes_on (ticked c r) ≡ b → Bounds c n (ticked c r) → Bounds c (suc n) r
    cases true h i =
        let e = tick_charge c r in
        let k = made_on c n r h in
        let l = i.low in
        let g = i.high in
        record { low = omega arith; high = omega arith }
    cases false h i = let k = made_end c n r h in record { low = omega arith; high = omega arith }

first : (c : Call) (b : ℕ) (r : Run) → r.charges < (run_of c (suc b) r).charges
first c b r = cases (goes_on (ticked c r)) refl
  where
    cases : (t : Bool) → goes_on (ticked c r) ≡ t → r.charges < (run_of c (suc b) r).charges
    cases true h = let e = tick_charge c r in let k = made_on c b r h in let l = (bounds c b (ticked c r)).low in omega arith
    cases false h = let k = made_end c b r h in omega arith

-- ---- a limits of a and b more charges, from any run

record Same (c : Call) (a b : ℕ) (r : Run) : Type 0 where
  over : (run_of c b r).charges ≤ r.charges + a → run_of c a r ≡ run_of c b r
  cut : (d : Run) → r.charges + a < (run_of c b r).charges → run_of c a r ≡ out_of_steps (get_or (history c b r).dues a d)
  there : r.charges + a < (run_of c b r).charges → a < length (history c b r).dues
  made : (d : Run) → r.charges + a < (run_of c b r).charges → (get_or (history c b r).dues a d).charges ≡ r.charges + a

step : (c : Call) (a b : ℕ) (r : Run) (t : Bool) → goes_on (ticked c r) ≡ t → Same c a b (ticked c r) → Same c (suc a) (suc b) r
step c a b r true h i =
    let e = tick_charge c r in
    let k = made_on c b r h in
    record {
      over = λ l. on c a r h ∙ i.over (omega arith) ∙ sym (on c b r h);
      cut = λ d l. on c a r h ∙ i.cut d (omega arith) ∙ sym (ap (λ (x : List Run). out_of_steps (get_or x (suc a) d)) (dues_on c b r h));
      there = λ l. let f = i.there (omega arith) in let g = ap (λ (x : List Run). length x) (dues_on c b r h) in omega arith;
      made = λ d l. ap (λ (x : List Run). (get_or x (suc a) d).charges) (dues_on c b r h) ∙ (let f = i.made d (omega arith) in omega arith);
    }
step c a b r false h i =
    let k = made_end c b r h in
    record {
      over = λ l. end c a r h ∙ sym (end c b r h);
      cut = λ d l. absurd (omega arith);
      there = λ l. absurd (omega arith);
      made = λ d l. absurd (omega arith);
    }

same_first : (c : Call) (b : ℕ) (r : Run) → Same c zero (suc b) r
same_first c b r =
    let f = first c b r in
    record {
      over = λ h. absurd (omega arith);
      cut = λ d h. run_none c r ∙ sym (ap out_of_steps (dues-first c (suc b) r d));
      there = λ h. dues_some c (suc b) r;
      made = λ d h. ap (λ (x : Run). x.charges) (dues-first c (suc b) r d) ∙ omega arith;
    }

same : (c : Call) (a b : ℕ) (r : Run) → a < b → Same c a b r
same c zero zero r l = absurd (omega arith)
same c zero (suc b) r l = same_first c b r
same c (suc a) zero r l = absurd (omega arith)
same c (suc a) (suc b) r l = step c a b r (goes_on (ticked c r)) refl (same c a b (ticked c r) (omega arith))

-- ---- the accounts

-- what is compared of a run
abbrev seen : Call → Run → Compared
seen c r = record { refusal = 0; end = end_of r; lent = lent_by c r.machine }

-- .. whatever remains of its limits
seen-spent : (c : Call) (s : Spent) → compared (left_by c s) ≡ seen c s.run
unfolding left_by
seen-spent c s = refl

-- what a run out of steps leaves
left_stopped : (c : Call) (M : ℕ) (r : Run) → r.charges ≡ M → seen c (out_of_steps r) ≡ stopped_with c M r
unfolding end_of stopped_with
left_stopped c M r e = rw e

-- what it bills
billed : (c : Call) (r : Run) → (seen c r).end.charges ≡ r.charges
unfolding end_of
billed c r = refl

-- an accepted call is answered by its run under the smaller limit
seen-called : (b : Brought) → Accepted b → (l : Pair) → compared (called (under l b)) ≡ seen (call_of b) (run_of (call_of b) (limit_by l) (begun b))
seen-called b ok l =
    let c = call_of b in
    ap compared (is_accepted (under l b) ok) ∙ seen-spent c _ ∙ ap (seen c) (kept c (limit_of l.guest) (limit_of l.house) (begun b)).same

-- whichever of a pair's limits is the smaller, and where they are equal: pairs with one smaller limit give one account
pub same-smaller : SameSmaller called
same-smaller b ok K L e =
    seen-called b ok K ∙ ap (λ (n : ℕ). seen (call_of b) (run_of (call_of b) n (begun b))) e ∙ sym (seen-called b ok L)

-- what stands when charge M + 1 falls due in the run under N, where there is such a charge
pub read_off : DuesReadOff
read_off b M N l =
    let h = (bounds (call_of b) N (begun b)).high in
    let s = same (call_of b) M N (begun b) (omega arith) in
    record { there = s.there (omega arith); made = s.made (begun b) (omega arith) ∙ omega arith }

pub two_limits : KeepsTwoLimits called
two_limits b ok M N l =
    let c = call_of b in
    let m = limit_by M in
    let n = limit_by N in
    let s = same c m n (begun b) l in
    let k = (bounds c m (begun b)).high in
    let isM = seen-called b ok M in
    let isN = seen-called b ok N in
    let rule : Agree b M N (called (under M b)) (called (under N b)) =
    record {
      equal = λ h. isM ∙ ap (seen c) (s.over (omega arith)) ∙ sym isN;
      only = λ h.
          let e = sym (billed c (run_of c m (begun b))) ∙ ap (λ (x : Compared). x.end.charges) (sym isM ∙ h ∙ isN) ∙ billed c (run_of c n (begun b)) in
          omega arith;
      cut = λ h.
          isM ∙ ap (seen c) (s.cut (begun b) (omega arith)) ∙ left_stopped c m (standing b n m) (read_off b m n h).made;
    } in
    record { rule = rule; made = ap (λ (x : Compared). x.end.charges) isN ∙ billed c (run_of c n (begun b)); read = read_off b m n }

-- a run of which something remains of both limits was not cut: larger limits change nothing that is compared
pub not_cut : NotCut called
unfolding stopped_with
not_cut b ok M N l some = cases (leb (makes b (limit_by N)) (limit_by M)) refl
  where
    agree : Agree b M N (called (under M b)) (called (under N b))
    agree = (two_limits b ok M N l).rule

    cases : (t : Bool) → leb (makes b (limit_by N)) (limit_by M) ≡ t → compared (called (under M b)) ≡ compared (called (under N b))
    cases true e = agree.equal (leb-true _ _ e)
    cases false e = absurd (let c = ap (λ (x : Compared). x.end.charges) (agree.cut (leb-false _ _ e)) in omega arith)

-- two answers that `called` gives, as `vm::call` says of its own
pub two_calls : (b : Brought) → Accepted b → (M N : Pair) → limit_by M < limit_by N
    → (underM underN : After) → underM ≡ called (under M b) → underN ≡ called (under N b) → AgreeInFull b M N underM underN
two_calls b ok M N l underM underN p q = rw (p, q) (two_limits b ok M N l)
