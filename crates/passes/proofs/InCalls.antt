-- What a call answers that comes to a counted loop. Assumes nothing.
use Prim.Native.Nat.{ℕ, zero, suc, ◌+◌, ◌-◌, ◌≤◌, ◌<◌}
use native.Mathlib.Omega.{arith}
use mathlib.Core.Path.{◌≡◌, refl, ◌∙◌, ap}
use mathlib.Core.Bool.{Bool, true, false}
use mathlib.Core.List.{List, ◌∷◌}
use lib.ListN.{length, get_or}
use Rattle.eval.specs.Machine.{Call}
use Rattle.eval.specs.Run.{Run, History, goes_on, ticked, history, run_of, out_of_steps}
use Rattle.eval.proofs.Histories.{history-next, first_due, end_on, end_none, tick_charge}
use Rattle.vm.specs.Call.{Brought, Accepted, call_of, limit_of}
use Rattle.vm.specs.Account.{After, temps_of, end_of, left_by}
use Rattle.vm.specs.Called.{begun, called}
use Rattle.vm.specs.Limits.{Pair, limit_by, under, standing, Compared, compared, stopped_with}
use Rattle.vm.proofs.OneLimit.{one_limit}
use Rattle.vm.proofs.Settled.{is_accepted}
use Rattle.passes.specs.Passes.{asked, takes, past_by}
use Rattle.passes.specs.Answers.{ended, AnsweredPast, AnswersExactly}
use Rattle.passes.proofs.Exact.{exact_end}

-- ---- a run that stood somewhere comes there under any limit that is not too small

-- what stood when charge j + 1 fell due in the run under N, and a run under L from there
record Comes (c : Call) (j N L : ℕ) (r d : Run) : Type 0 where
  goes : run_of c L r ≡ run_of c (L - j) (get_or (history c N r).dues j d)
  made : (get_or (history c N r).dues j d).charges ≡ r.charges + j

module _ (c : Call) where
  comes_here : (N L : ℕ) (r d : Run) → Comes c 0 N L r d
  comes_here N L r d =
      let e : L - 0 ≡ L = omega arith in
      let f : get_or (history c N r).dues 0 d ≡ r = ap (λ (l : List Run). get_or l 0 d) (first_due c N r) in
      record { goes = rw (e, f); made = rw f (omega arith) }

  -- the last charge of a run is followed by none
  one_due : (N : ℕ) (r : Run) → goes_on (ticked c r) ≡ false → length (history c (suc N) r).dues ≡ 1
  unfolding history
  one_due N r h = rw h

  none_due : (r : Run) → length (history c 0 r).dues ≡ 1
  unfolding history
  none_due r = refl

  comes_on : (j N L : ℕ) (r d : Run) (b : Bool) → goes_on (ticked c r) ≡ b → suc j < length (history c (suc N) r).dues
      → (j < length (history c N (ticked c r)).dues → Comes c j N L (ticked c r) d) → Comes c (suc j) (suc N) (suc L) r d
  comes_on j N L r d false h o k = absurd (let l = one_due N r h in omega arith)
  comes_on j N L r d true h o k =
      let e : (history c (suc N) r).dues ≡ r ∷ (history c N (ticked c r)).dues = ap (λ (x : History). x.dues) (history-next c N r (ticked c r) refl h) in
      let w = k (let l = ap (λ (x : List Run). length x) e in omega arith) in
      let f : suc L - suc j ≡ L - j = omega arith in
      let t = tick_charge c r in
      let m = w.made in
      record { goes = rw (e, f) (end_on c L r h ∙ w.goes); made = rw e (omega arith) }

  comes : (j N L : ℕ) (r d : Run) → j < length (history c N r).dues → j ≤ L → Comes c j N L r d
  comes zero N L r d o l = comes_here N L r d
  comes (suc j) zero L r d o l = absurd (let e = none_due r in omega arith)
  comes (suc j) (suc N) zero r d o l = absurd (omega arith)
  comes (suc j) (suc N) (suc L) r d o l = comes_on j N L r d (goes_on (ticked c r)) refl o (λ p. comes j N L (ticked c r) d p (omega arith))

-- ---- the answers

-- an accepted call is answered by its run under the smaller limit
answers : (call : Brought) → Accepted call → (l : Pair) → called (under l call) ≡ left_by (call_of call) (ended l (run_of (call_of call) (limit_by l) (begun call)))
answers call ok l =
    let c = call_of call in
    is_accepted (under l call) ok ∙ ap (left_by c) (one_limit c (limit_of l.guest) (limit_of l.house) (begun call) refl)

-- with nothing left it is stopped
stopped : (c : Call) (l : Pair) (m : ℕ) (r : Run) → r.charges ≡ m → compared (left_by c (ended l (out_of_steps r))) ≡ stopped_with c m r
unfolding left_by end_of stopped_with
stopped c l m r e = rw e

module _ (call : Brought) (m : ℕ) (r : Run) (l : Pair) (made : r.charges ≡ m)
    (past : m ≤ limit_by l → called (under l call) ≡ left_by (call_of call) (ended l (run_of (call_of call) (limit_by l - m) r))) where
  abbrev c : Call
  c = call_of call

  abbrev answer : After
  answer = called (under l call)

  stops : limit_by l ≡ m → compared answer ≡ stopped_with c m r
  stops e =
      let z : limit_by l - m ≡ 0 = omega arith in
      ap compared (past (omega arith) ∙ ap (λ (n : ℕ). left_by c (ended l (run_of c n r))) z ∙ ap (λ (x : Run). left_by c (ended l x)) (end_none c r))
      ∙ stopped c l m r made

  answered_past : AnsweredPast call m r l answer
  unfolding stopped_with
  answered_past =
      record {
        goes_on = past;
        stops = stops;
        outcome = λ e. ap (λ (x : Compared). x.end.outcome) (stops e);
        charges = λ e. ap (λ (x : Compared). x.end.charges) (stops e);
        accumulator = λ e. ap (λ (x : Compared). x.end.accumulator) (stops e);
        temps = λ e. ap (λ (x : Compared). temps_of x.end.temps) (stops e);
        cells = λ e. ap (λ (x : Compared). x.lent.cells) (stops e);
      }

pub exact_answers : AnswersExactly asked
exact_answers call p b k N j ok there w l = answered_past call (j + n) out l made past
  where
    c : Call
    c = call_of call

    -- what stands before the loop and past it, and the charges between
    first : Run
    first = standing call N j

    out : Run
    out = past_by asked c p b k first

    n : ℕ
    n = takes asked c b k

    made : out.charges ≡ j + n
    made = let m = (comes c j N j (begun call) (begun call) there (omega arith)).made in omega arith

    past : j + n ≤ limit_by l → called (under l call) ≡ left_by c (ended l (run_of c (limit_by l - (j + n)) out))
    past h =
        let a = comes c j N (limit_by l) (begun call) (begun call) there (omega arith) in
        let f = exact_end c p b k (limit_by l - j) first w (omega arith) in
        let e : limit_by l - j - n ≡ limit_by l - (j + n) = omega arith in
        answers call ok l
        ∙ ap (λ (x : Run). left_by c (ended l x)) (a.goes ∙ f ∙ ap (λ (q : ℕ). run_of c q out) e)
