-- From the first record of the body past LoopEnd, pass after pass. Assumes nothing.
use Prim.Native.Nat.{ℕ, zero, suc, ◌+◌, ◌-◌, ◌*◌, ◌≤◌, min}
use native.Mathlib.Omega.{arith}
use mathlib.Core.Path.{◌≡◌, refl}
use mathlib.Core.Bool.{Bool, true, false, cond}
use mathlib.Core.List.{List}
use lib.Dec.{ltb, eqb}
use lib.ListN.{length}
use borrow.Author.Tests.{lt-ltb, le-ltb, le-leb, lt-leb, ltb-true, ltb-false}
use Rattle.program.specs.declared.instr.Instr.{Instr}
use Rattle.tables.specs.Tables.{instr_at}
use Rattle.eval.specs.Stacks.{push, often}
use Rattle.eval.specs.Machine.{Call, Machine, Handler}
use Rattle.eval.proofs.Stacks.{often-first}
use Rattle.eval.specs.declared.machine.Notices.{Notices}
use Rattle.std.specs.Prelude.{Option, Some, None}
use Rattle.eval.specs.Run.{Run, goes_on, ticked}
use Rattle.passes.specs.Whole.{whole, most}
use Rattle.passes.specs.Passes.{CountedLoop, body}
use Rattle.passes.proofs.Whole.{less_one, whole-spent, whole-left}
use Rattle.passes.proofs.Ways.{Way, way_next, way_on, way_as}
use Rattle.passes.proofs.Straight.{stands, inside, through}
use Rattle.passes.proofs.Ticks.{noticed, spent, goes_back, counts_back, falls_short, ends}

-- how many passes follow the present one, with j left of the count and a loop count of d
abbrev pub further : Option ℕ → ℕ → ℕ → ℕ
further None d j = j
further (Some n) d j = min j (n - d)

-- the loop count of the next pass: it rises only under a limit
abbrev raised : Option ℕ → ℕ → ℕ
raised None d = d
raised (Some n) d = d + 1

further_less : (limit : Option ℕ) (d j e : ℕ) → further limit d j ≡ suc e → further limit (raised limit d) (j - 1) ≡ e
further_less None d j e h = omega arith
further_less (Some n) d j e h = omega arith

further_some : (limit : Option ℕ) (d j e : ℕ) → further limit d j ≡ suc e → 1 ≤ j
further_some None d j e h = omega arith
further_some (Some n) d j e h = omega arith

pub ltb_less : (e j : ℕ) → 1 ≤ j → ltb e (j - 1) ≡ ltb (suc e) j
ltb_less e j o = cases (ltb (suc e) j) refl
  where
    cases : (t : Bool) → ltb (suc e) j ≡ t → ltb e (j - 1) ≡ t
    cases true h = let k = ltb-true (suc e) j h in lt-ltb e (j - 1) (omega arith)
    cases false h = let k = ltb-false (suc e) j h in le-ltb e (j - 1) (omega arith)

module _ (c : Call) (x p b : ℕ) (loop : CountedLoop c.code p b) (s l : List ℕ) (h : List Handler) (n : Notices) (pops : ℕ) (low : length s + 1 ≤ 65536) where
  check : instr_at c.code (p + 1 + b) ≡ Instr.LoopCheck (p + 1)
  check = let e : p + 1 + b ≡ p + b + 1 = omega arith in rw e loop.check

  end : instr_at c.code (p + 1 + b + 1) ≡ Instr.LoopEnd
  end = let e : p + 1 + b + 1 ≡ p + b + 2 = omega arith in rw e loop.end

  -- with v on the stack and d on the loops
  abbrev within : ℕ → Machine → ℕ → ℕ → ℕ → Run
  within q a v d ch = stands q a (push v s) (push d l) h n pops ch

  -- the body and LoopCheck are fetched once each
  abbrev once : ℕ
  once = inside x (p + 1) b + cond (eqb (p + 1 + b) x) 1 0

  -- one pass, to wherever LoopCheck goes
  pass : (a : Machine) (v d ch : ℕ) (t : Run) → ticked c (within (p + 1 + b) (body c (p + 1) b a) v d (ch + b)) ≡ t → goes_on t ≡ true
      → Way c x (within (p + 1) a v d ch) t (b + 1) once
  pass a v d ch t e g = way_on (through c (push v s) (push d l) h n pops x b (p + 1) a ch loop.body) (way_next e g)

  -- LoopCheck, where a pass follows
  back : (limit : Option ℕ) (a : Machine) (j d ch e : ℕ) → c.loop_limit ≡ limit → further limit d j ≡ suc e → j ≤ most
      → ticked c (within (p + 1 + b) a (whole j) d ch) ≡ within (p + 1) a (whole (j - 1)) (raised limit d) (ch + 1)
  back None a j d ch e u f m =
      goes_back c (p + 1 + b) a s l h n pops ch (whole j) d (p + 1) check low (whole (j - 1)) u (whole-left j (omega arith) m) (less_one j (omega arith) m)
  back (Some k) a j d ch e u f m =
      counts_back c (p + 1 + b) a s l h n pops ch (whole j) d (p + 1) check low (whole (j - 1)) k u (whole-left j (omega arith) m) (less_one j (omega arith) m)
      (lt-leb k d (omega arith))

  -- .. and where none does: with some of the count left, there is a notice
  out : (limit : Option ℕ) (a : Machine) (j d ch : ℕ) → c.loop_limit ≡ limit → further limit d j ≡ 0 → j ≤ most
      → ticked c (within (p + 1 + b) a (whole j) d ch) ≡ stands (p + 1 + b + 1) a (push (whole j) s) (push d l) h (cond (ltb 0 j) (noticed n) n) pops (ch + 1)
  out limit a zero d ch u f m = spent c (p + 1 + b) a s l h n pops ch (whole 0) d (p + 1) check low whole-spent
  out None a (suc j) d ch u f m = absurd (omega arith)
  out (Some k) a (suc j) d ch u f m =
      rw (lt-ltb 0 (suc j) (omega arith))
      (falls_short c (p + 1 + b) a s l h n pops ch (whole (suc j)) d (p + 1) check low k u (whole-left (suc j) (omega arith) m) (le-leb k d (omega arith)))

  -- past LoopEnd
  abbrev pub left : ℕ → ℕ → Machine → ℕ → Run
  left e j a ch = stands (p + b + 3) (often (suc e) (body c (p + 1) b) a) s l h (cond (ltb e j) (noticed n) n) pops (ch + (suc e * (b + 1) + 1))

  abbrev Leaves : ℕ → ℕ → ℕ → Machine → ℕ → Type 0
  Leaves e j d a ch =
      Way c x (within (p + 1) a (whole j) d ch) (left e j a ch) (suc e * (b + 1) + 1) (suc e * once + cond (eqb (p + b + 2) x) 1 0)

  -- the last pass
  last : (limit : Option ℕ) (j d : ℕ) (a : Machine) (ch : ℕ) → c.loop_limit ≡ limit → further limit d j ≡ 0 → j ≤ most → Leaves 0 j d a ch
  unfolding often
  last limit j d a ch u f m =
      let w = pass a (whole j) d ch _ (out limit (body c (p + 1) b a) j d (ch + b) u f m) refl in
      let v = ends c (p + 1 + b + 1) (body c (p + 1) b a) s l h (cond (ltb 0 j) (noticed n) n) pops (ch + b + 1) (whole j) d end in
      let g : p + 1 + b + 1 + 1 ≡ p + b + 3 = omega arith in
      let i : ch + b + 1 + 1 ≡ ch + (suc 0 * (b + 1) + 1) = omega arith in
      let k : p + 1 + b + 1 ≡ p + b + 2 = omega arith in
      way_as (way_on w (way_next v refl)) (rw (g, i)) (omega arith) (rw k (omega arith))

  -- the same place, told from one pass earlier
  left_more : (e j : ℕ) (a : Machine) (ch : ℕ) → 1 ≤ j → left e (j - 1) (body c (p + 1) b a) (ch + b + 1) ≡ left (suc e) j a ch
  left_more e j a ch o =
      let i : ch + b + 1 + (suc e * (b + 1) + 1) ≡ ch + (suc (suc e) * (b + 1) + 1) = omega arith in
      rw (i, often-first (suc e) (body c (p + 1) b) a, ltb_less e j o)

  -- a pass, and those after it
  more : (limit : Option ℕ) (e j d : ℕ) (a : Machine) (ch : ℕ) → c.loop_limit ≡ limit → further limit d j ≡ suc e → j ≤ most
      → Leaves e (j - 1) (raised limit d) (body c (p + 1) b a) (ch + b + 1) → Leaves (suc e) j d a ch
  more limit e j d a ch u f m w =
      let v = pass a (whole j) d ch _ (back limit (body c (p + 1) b a) j d (ch + b) e u f m) refl in
      way_as (way_on v w) (left_more e j a ch (further_some limit d j e f)) (omega arith) (omega arith)

  pub leaves : (limit : Option ℕ) (e j d : ℕ) (a : Machine) (ch : ℕ) → c.loop_limit ≡ limit → further limit d j ≡ e → j ≤ most
      → Leaves e j d a ch
  leaves limit zero j d a ch u f m = last limit j d a ch u f m
  leaves limit (suc e) j d a ch u f m =
      more limit e j d a ch u f m
      (leaves limit e (j - 1) (raised limit d) (body c (p + 1) b a) (ch + b + 1) u (further_less limit d j e f) (omega arith))
