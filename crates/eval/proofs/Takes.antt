-- Operands that are taken one after another: what is left, and how many were not there. Assumes nothing.
use Prim.Native.Nat.{ℕ, zero, suc, ◌+◌, ◌-◌, ◌^◌, ◌≤◌, ◌<◌, min}
use native.Mathlib.Omega.{arith}
use mathlib.Core.Path.{◌≡◌, refl, sym, ◌∙◌, ap}
use mathlib.Core.Bool.{Bool, true, false}
use lib.Dec.{ltb}
use lib.ListN.{length}
use lib.Seq.{length-take-le, take-take, take_all}
use borrow.Author.Tests.{lt-ltb, ltb-true, ltb-false}
use Rattle.eval.specs.Stacks.{pop, often}
use Rattle.eval.specs.Machine.{Machine, counted}
use Rattle.eval.specs.Acts.{without_top}
use Rattle.eval.specs.Takes.{taken_from}

-- a count that rises k times stays at its largest
pub often_counted : (k n : ℕ) → n ≤ 2 ^ 64 - 1 → often k counted n ≡ min (n + k) (2 ^ 64 - 1)
unfolding often
often_counted zero n h = omega arith
often_counted (suc k) n h = ap counted (often_counted k n h) ∙ cases (ltb (min (n + k) (2 ^ 64 - 1)) (2 ^ 64 - 1)) refl
  where
    cases : (b : Bool) → ltb (min (n + k) (2 ^ 64 - 1)) (2 ^ 64 - 1) ≡ b → counted (min (n + k) (2 ^ 64 - 1)) ≡ min (n + suc k) (2 ^ 64 - 1)
    cases true e = let l = ltb-true (min (n + k) (2 ^ 64 - 1)) (2 ^ 64 - 1) e in rw e (omega arith)
    cases false e = let l = ltb-false (min (n + k) (2 ^ 64 - 1)) (2 ^ 64 - 1) e in rw e (omega arith)

module _ (m : Machine) where
  abbrev d : ℕ
  d = length m.stack

  taken_none : taken_from d 0 m ≡ m
  unfolding often
  taken_none =
      let a : 0 - d ≡ 0 = omega arith in
      let b : d - 0 ≡ d = omega arith in
      rw (a, b, take_all d m.stack (omega arith))

  -- one more, that is there
  taken_there : (k : ℕ) → k < d → without_top (taken_from d k m) ≡ taken_from d (suc k) m
  unfolding often pop
  taken_there k h =
      let a : k - d ≡ 0 = omega arith in
      let b : suc k - d ≡ 0 = omega arith in
      let e : d - k - 1 ≡ d - suc k = omega arith in
      rw (
        length-take-le (d - k) m.stack (omega arith),
        lt-ltb 0 (d - k) (omega arith),
        take-take (d - k - 1) (d - k) m.stack (omega arith),
        a,
        b,
        e,
      )

  -- .. or is not
  taken_absent : (k : ℕ) → d ≤ k → without_top (taken_from d k m) ≡ taken_from d (suc k) m
  unfolding often pop
  taken_absent k h =
      let a : d - k ≡ 0 = omega arith in
      let b : d - suc k ≡ 0 = omega arith in
      let e : suc k - d ≡ suc (k - d) = omega arith in
      rw (a, b, e)

  pub often-taken : (k : ℕ) → often k without_top m ≡ taken_from d k m
  unfolding often
  often-taken zero = sym taken_none
  often-taken (suc k) = ap without_top (often-taken k) ∙ cases (ltb k d) refl
    where
      cases : (b : Bool) → ltb k d ≡ b → without_top (taken_from d k m) ≡ taken_from d (suc k) m
      cases true e = taken_there k (ltb-true k d e)
      cases false e = taken_absent k (ltb-false k d e)
