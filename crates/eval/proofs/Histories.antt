-- How a history goes on: the laws of its list of dues. Assumes nothing.
use Prim.Native.Nat.{ℕ, zero, suc, ◌+◌, ◌-◌, ◌≤◌, ◌<◌}
use native.Mathlib.Omega.{arith}
use mathlib.Core.Path.{◌≡◌, refl, ap}
use mathlib.Core.Bool.{Bool, true, false, cond}
use mathlib.Core.List.{List, [], ◌∷◌, ◌++◌}
use lib.ListN.{length, get_or, take, drop}
use Rattle.eval.specs.Machine.{Call}
use Rattle.eval.specs.Run.{Run, History, before, goes_on, ticked, out_of_steps, history, paid}

-- a history with dues before its own
abbrev pub before_all : List Run → History → History
before_all l h = record { dues = l ++ h.dues; end = h.end }

-- of a run that goes on, and of one that does not
on : (r : Run) (h k : History) (b : Bool) → b ≡ true → before r (cond b h k) ≡ before_all (r ∷ []) h
on r h k true p = refl
on r h k false p = absurd (let z : ◌≡◌ {A = ℕ} 0 1 = cc p in omega arith)

off : (r : Run) (h k : History) (b : Bool) → b ≡ false → before r (cond b h k) ≡ before r k
off r h k true p = absurd (let z : ◌≡◌ {A = ℕ} 0 1 = cc p in omega arith)
off r h k false p = refl

module _ (c : Call) where
  -- a charge, to t
  pub history-next : (N : ℕ) (r t : Run) → ticked c r ≡ t → goes_on t ≡ true → history c (suc N) r ≡ before_all (r ∷ []) (history c N t)
  unfolding history
  history-next N r t e h = rw e (on r (history c N t) (record { dues = []; end = t }) (goes_on t) h)

  -- the last one
  history_last : (N : ℕ) (r : Run) → goes_on (ticked c r) ≡ false → length (history c (suc N) r).dues ≡ 1
  unfolding history
  history_last N r h =
      ap (λ (x : History). length x.dues) (off r (history c N (ticked c r)) (record { dues = []; end = ticked c r }) (goes_on (ticked c r)) h)

  history-none : (r : Run) → length (history c 0 r).dues ≡ 1
  unfolding history
  history-none r = refl

  -- where a run stands is its first due
  pub first_due : (N : ℕ) (r : Run) → (history c N r).dues ≡ r ∷ drop 1 (history c N r).dues
  unfolding history
  first_due zero r = refl
  first_due (suc N) r = refl

  -- ---- the rest of a history is the history of the rest

  -- what stood when charge j + 1 fell due, and the charges that were left
  abbrev Rest : ℕ → Run → ℕ → Run → Type 0
  Rest N r j d = drop j (history c N r).dues ≡ (history c (N - j) (get_or (history c N r).dues j d)).dues

  rest-first : (N : ℕ) (r d : Run) → Rest N r 0 d
  rest-first N r d =
      let e : N - 0 ≡ N = omega arith in
      let f : get_or (history c N r).dues 0 d ≡ r = ap (λ (l : List Run). get_or l 0 d) (first_due N r) in
      rw (e, f)

  rest-next : (N j : ℕ) (r d : Run) (b : Bool) → goes_on (ticked c r) ≡ b → suc j < length (history c (suc N) r).dues
      → (j < length (history c N (ticked c r)).dues → Rest N (ticked c r) j d) → Rest (suc N) r (suc j) d
  rest-next N j r d false e o k = absurd (let l = history_last N r e in omega arith)
  rest-next N j r d true e o k =
      let h : (history c (suc N) r).dues ≡ r ∷ (history c N (ticked c r)).dues = ap (λ (x : History). x.dues) (history-next N r (ticked c r) refl e) in
      let f : suc N - suc j ≡ N - j = omega arith in
      rw (h, f) (k (let l = ap (λ (x : List Run). length x) h in omega arith))

  pub rest_of : (j N : ℕ) (r d : Run) → j < length (history c N r).dues → Rest N r j d
  rest_of zero N r d o = rest-first N r d
  rest_of (suc j) zero r d o = absurd (let l = history-none r in omega arith)
  rest_of (suc j) (suc N) r d o = rest-next N j r d (goes_on (ticked c r)) refl o (λ l. rest_of j N (ticked c r) d l)

  -- ---- the charges

  pub tick_charge : (r : Run) → (ticked c r).charges ≡ r.charges + 1
  unfolding ticked
  tick_charge r = refl

  -- none is taken back
  no_fewer : (n : ℕ) (r : Run) → r.charges ≤ (history c n r).end.charges
  unfolding history
  no_fewer zero r = omega arith
  no_fewer (suc n) r = cases (goes_on (ticked c r)) refl (no_fewer n (ticked c r))
    where
      cases : (b : Bool) → goes_on (ticked c r) ≡ b → (ticked c r).charges ≤ (history c n (ticked c r)).end.charges
          → r.charges ≤ (history c (suc n) r).end.charges
      cases true h l = let k = tick_charge r in rw h (omega arith)
      cases false h l = let k = tick_charge r in rw h (omega arith)

  -- ---- where a run ends, and what was charged

  module _ (n : ℕ) (r : Run) where
    pub end_on : goes_on (ticked c r) ≡ true → (history c (suc n) r).end ≡ (history c n (ticked c r)).end
    end_on h = ap (λ (x : History). x.end) (history-next n r (ticked c r) refl h)

    pub end_last : goes_on (ticked c r) ≡ false → (history c (suc n) r).end ≡ ticked c r
    unfolding history
    end_last h =
        ap (λ (x : History). x.end) (off r (history c n (ticked c r)) (record { dues = []; end = ticked c r }) (goes_on (ticked c r)) h)

    pub paid_on : goes_on (ticked c r) ≡ true → paid r (history c (suc n) r) ≡ r ∷ paid (ticked c r) (history c n (ticked c r))
    paid_on h =
        let k = tick_charge r in
        let l = no_fewer n (ticked c r) in
        let j : (history c n (ticked c r)).end.charges - r.charges ≡ suc ((history c n (ticked c r)).end.charges - (ticked c r).charges) = omega arith in
        rw (history-next n r (ticked c r) refl h, j)

    pub paid_last : goes_on (ticked c r) ≡ false → paid r (history c (suc n) r) ≡ r ∷ []
    unfolding history
    paid_last h = let k = tick_charge r in let j : (ticked c r).charges - r.charges ≡ 1 = omega arith in rw (h, j)

  pub end_none : (r : Run) → (history c 0 r).end ≡ out_of_steps r
  unfolding history
  end_none r = refl

  pub paid-none : (r : Run) → paid r (history c 0 r) ≡ []
  unfolding history
  paid-none r = let j : r.charges - r.charges ≡ 0 = omega arith in rw j

-- ---- by one charge after another

-- What holds of a run that has made no charge, and of one that made a charge more at r than another: from r, over what was charged,
-- to where it stands.
module _ (c : Call) (P : Run → List Run → Run → Type 0) (none : (r : Run) → P r [] r)
    (more : (r : Run) (l : List Run) (s : Run) → P (ticked c r) l s → P r (r ∷ l) s) where
  -- it holds at each due
  pub at-dues : (n : ℕ) (r : Run) (k : ℕ) (d : Run) → let l = (history c n r).dues in k < length l → P r (take k l) (get_or l k d)
  unfolding history
  at-dues zero r zero d o = none r
  at-dues (suc n) r zero d o = none r
  at-dues zero r (suc k) d o = absurd (omega arith)
  at-dues (suc n) r (suc k) d o = cases (goes_on (ticked c r)) refl (at-dues n (ticked c r) k d) o
    where
      cases : (b : Bool) → goes_on (ticked c r) ≡ b
          → (let l = (history c n (ticked c r)).dues in k < length l → P (ticked c r) (take k l) (get_or l k d))
          → let l = (history c (suc n) r).dues in suc k < length l → P r (take (suc k) l) (get_or l (suc k) d)
      cases true h i o =
          let e = ap (λ (x : History). length x.dues) (history-next c n r (ticked c r) refl h) in
          rw h (more r _ _ (i (omega arith)))
      cases false h i o = absurd (let e = history_last c n r h in omega arith)

  -- .. and at the end, if it does not turn on the outcome
  pub at_end : ((r : Run) (l : List Run) (s : Run) → P r l s → P r l (out_of_steps s)) → (n : ℕ) (r : Run) → let h = history c n r in P r (paid r h) h.end
  at_end out zero r = rw (paid-none c r, end_none c r) (out r [] r (none r))
  at_end out (suc n) r = cases (goes_on (ticked c r)) refl (at_end out n (ticked c r))
    where
      cases : (b : Bool) → goes_on (ticked c r) ≡ b → (let h = history c n (ticked c r) in P (ticked c r) (paid (ticked c r) h) h.end)
          → let h = history c (suc n) r in P r (paid r h) h.end
      cases true h i = rw (paid_on c n r h, end_on c n r h) (more r _ _ i)
      cases false h i = rw (paid_last c n r h, end_last c n r h) (more r [] (ticked c r) (none (ticked c r)))
