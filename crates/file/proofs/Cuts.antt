-- The parts of a byte string that a field's body and rest are. Assumes nothing.
use Prim.Native.Nat.{ℕ, ◌+◌, ◌-◌, ◌≤◌}
use native.Mathlib.Omega.{arith}
use mathlib.Core.Path.{◌≡◌, ◌∙◌, ap}
use mathlib.Core.List.{List}
use lib.ListN.{length, take, drop, length-drop}
use lib.Seq.{take_all, length-take-le}
use mathlib.Core.Bool.{true}
use borrow.Author.Tests.{eqb-true, eq-eqb, ne_eqb, le-ltb}
use Rattle.endian.specs.Endian.{byte_at, u16_at}
use Rattle.file.specs.Fields.{named, body, rest, length_fits}
use Rattle.file.specs.Refusals.{field_refusal, contents_refusal}

module _ (s : List ℕ) (n : ℕ) (e : n ≡ u16_at s 1) (h : 3 + n ≤ length s) where
  is_named : n ≡ named s
  unfolding named
  is_named = rw (le-ltb (length s) 3 (omega arith)) e

  -- the body of a field that is there whole, and what follows it
  pub body_there : take (3 + n - 3) (drop 3 s) ≡ body s
  unfolding body
  body_there = let q : 3 + n - 3 ≡ named s = omega (arith, is_named) in rw q

  pub rest_there : take (length s - (3 + n)) (drop (3 + n) s) ≡ rest s
  unfolding rest
  rest_there = take_all (length s - (3 + n)) (drop (3 + n) s) (simp length-drop (omega arith)) ∙ ap (λ (k : ℕ). drop (3 + k) s) is_named

  module _ (tag : ℕ) (f : length_fits tag n ≡ true) where
    -- field 1 has its four bytes
    pub four : tag ≡ 1 → 4 ≤ length (take (3 + n - 3) (drop 3 s))
    unfolding length_fits
    four t =
        let m : n ≡ 4 = eqb-true n 4 (rw t at f) in
        rw (m, length-take-le 4 (drop 3 s) (simp length-drop (omega arith))) (omega arith)

    -- it is answered by its contents
    pub by_contents : byte_at s 0 ≡ tag → field_refusal tag s ≡ contents_refusal tag (take (3 + n - 3) (drop 3 s))
    unfolding field_refusal
    by_contents t =
        rw (
          ne_eqb (length s) 0 (λ z. omega arith),
          eq-eqb (byte_at s 0) tag t,
          le-ltb (length s) 3 (omega arith),
          ← e,
          f,
          le-ltb (length s) (3 + n) h,
          body_there,
        )
