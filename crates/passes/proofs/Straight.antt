-- A body record goes to the next position, and what it makes of accumulator, cells and temps turns on nothing else. Assumes
-- nothing.
use Prim.Native.Nat.{ℕ, zero, suc, ◌+◌, ◌≤◌, ◌<◌}
use native.Mathlib.Omega.{arith}
use mathlib.Core.Path.{◌≡◌, refl, ap}
use mathlib.Core.Bool.{Bool, true, false, cond}
use mathlib.Core.List.{List}
use lib.Dec.{ltb, eqb}
use borrow.Author.Tests.{eqb-true, eq-eqb, ne_eqb}
use Rattle.program.specs.declared.instr.Instr.{Instr}
use Rattle.tables.specs.Tables.{instr_at}
use Rattle.eval.specs.Machine.{Call, Machine, Handler, fetch, running, made, at, temps_are}
use Rattle.eval.specs.declared.machine.Notices.{Notices}
use Rattle.eval.specs.Acts.{acted, store_var, store_temp, temp_set, posted, loaded}
use Rattle.eval.specs.Run.{Run, ticked, due_done}
use Rattle.passes.specs.Passes.{InBody, const, this, post, negate, not, store_var as stores, store_temp as keeps, Before, body, holding}
use Rattle.passes.proofs.Ways.{Way, way_none, way_next, way_on}

straight : (c : Call) (i : Instr) → InBody i → (q : ℕ) (a m : Machine) → acted c i (at q (holding a m)) ≡ at (q + 1) (holding (acted c i a) m)
unfolding acted store_var store_temp
straight c _ (const k) q a m = refl
straight c _ (this p) q a m = refl
straight c _ (post p) q a m = refl
straight c _ (negate p) q a m = refl
straight c _ (not p) q a m = refl
straight c _ (stores n p) q a m = refl
straight c _ (keeps t p) q a m = cases (ltb t.0 8)
  where
    cases : (b : Bool) → loaded (posted c.posts p.0 a.acc) (cond b (temps_are (temp_set t.0 a) (at q (holding a m))) (at q (holding a m)))
        ≡ at (q + 1) (holding (loaded (posted c.posts p.0 a.acc) (cond b (temps_are (temp_set t.0 a) a) a)) m)
    cases true = refl
    cases false = refl

-- ---- the body

-- a run in or about a loop: the position, what holds accumulator, cells and temps, the stacks, the notices, the empty pops and
-- the charges
abbrev pub stands : ℕ → Machine → List ℕ → List ℕ → List Handler → Notices → ℕ → ℕ → Run
stands q a s l h n pops ch =
    record { machine = made q a.acc fetch running s l h a.cells a.temps n pops; charges = ch }

-- a machine before the loop, by its parts
abbrev pub waiting : ℕ → ℕ → Machine → Machine
waiting p v m = made p v fetch running m.stack m.loops m.handlers m.cells m.temps m.notices m.empty_pops

pub given : (c : Call) (p v : ℕ) (r : Run) → Before c p v r → record { machine = waiting p v r.machine; charges = r.charges } ≡ r
given c p v r t =
    let o = eqb-true r.machine.outcome running t.going in
    rw (← t.place, ← t.counts, ← t.due, ← o)

-- how often the fetch at x falls due where b records from q on are fetched once each
unfoldable pub inside : ℕ → ℕ → ℕ → ℕ
inside x q zero = 0
inside x q (suc b) = cond (eqb q x) 1 0 + inside x (q + 1) b

module _ (c : Call) (s l : List ℕ) (h : List Handler) (n : Notices) (pops : ℕ) where
  -- one record of it
  pub tick : (q : ℕ) (a : Machine) (ch : ℕ) → InBody (instr_at c.code q)
      → ticked c (stands q a s l h n pops ch) ≡ stands (q + 1) (acted c (instr_at c.code q) a) s l h n pops (ch + 1)
  unfolding ticked due_done
  tick q a ch e =
      ap (λ (m : Machine). record { machine = m; charges = ch + 1 }) (straight c (instr_at c.code q) e q a (stands q a s l h n pops ch).machine)

  -- its way from q, b records long, on which the fetch at x is counted
  abbrev Through : ℕ → ℕ → ℕ → Machine → ℕ → Type 0
  Through x b q a ch = Way c x (stands q a s l h n pops ch) (stands (q + b) (body c q b a) s l h n pops (ch + b)) b (inside x q b)

  through_none : (x q : ℕ) (a : Machine) (ch : ℕ) → Through x zero q a ch
  unfolding body inside
  through_none x q a ch =
      let i : q + 0 ≡ q = omega arith in
      let j : ch + 0 ≡ ch = omega arith in
      rw (i, j) way_none

  through_one : (x b q : ℕ) (a : Machine) (ch : ℕ) → InBody (instr_at c.code q)
      → Through x b (q + 1) (acted c (instr_at c.code q) a) (ch + 1) → Through x (suc b) q a ch
  unfolding body inside
  through_one x b q a ch e w =
      let i : q + 1 + b ≡ q + suc b = omega arith in
      let j : ch + 1 + b ≡ ch + suc b = omega arith in
      let k : 1 + b ≡ suc b = omega arith in
      rw (i, j, k) at (way_on (way_next (tick q a ch e) refl) w)

  pub through : (x b q : ℕ) (a : Machine) (ch : ℕ) → ((i : ℕ) → i < b → InBody (instr_at c.code (q + i))) → Through x b q a ch
  through x zero q a ch e = through_none x q a ch
  through x (suc b) q a ch e = through_one x b q a ch (first (e 0 (omega arith))) (through x b (q + 1) _ (ch + 1) rest)
    where
      first : InBody (instr_at c.code (q + 0)) → InBody (instr_at c.code q)
      first d = let g : q + 0 ≡ q = omega arith in rw g at d

      rest : (i : ℕ) → i < b → InBody (instr_at c.code (q + 1 + i))
      rest i o = let g : q + 1 + i ≡ q + suc i = omega arith in rw g (e (suc i) (omega arith))

-- ---- which records are fetched

-- none before the first
pub inside_before : (x q b : ℕ) → x < q → inside x q b ≡ 0
unfolding inside
inside_before x q zero h = refl
inside_before x q (suc b) h = rw (ne_eqb q x (λ e. omega arith), inside_before x (q + 1) b (omega arith))

-- none past the last
pub inside_past : (x q b : ℕ) → q + b ≤ x → inside x q b ≡ 0
unfolding inside
inside_past x q zero h = refl
inside_past x q (suc b) h = rw (ne_eqb q x (λ e. omega arith), inside_past x (q + 1) b (omega arith))

-- x is the i-th of them
inside_from : (b x i q : ℕ) → x ≡ q + i → i < b → inside x q b ≡ 1
unfolding inside
inside_from zero x i q e h = absurd (omega arith)
inside_from (suc b) x zero q e h = rw (eq-eqb q x (omega arith), inside_before x (q + 1) b (omega arith))
inside_from (suc b) x (suc i) q e h = rw (ne_eqb q x (λ z. omega arith), inside_from b x i (q + 1) (omega arith) (omega arith))

pub inside_at : (i q b : ℕ) → i < b → inside (q + i) q b ≡ 1
inside_at i q b h = inside_from b (q + i) i q refl h
