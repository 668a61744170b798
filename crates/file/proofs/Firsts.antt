-- Tests in their order: the first that is met, and what is known where none is. Assumes nothing.
use Prim.Native.Nat.{ℕ, zero, suc, ◌+◌, ◌≤◌}
use native.Mathlib.Omega.{arith}
use mathlib.Core.Path.{◌≡◌, refl}
use mathlib.Core.Bool.{Bool, true, false, not}
use mathlib.Core.List.{List}
use lib.Dec.{ltb, eqb}
use lib.ListN.{length}
use borrow.Author.Tests.{ltb-false, not-false, ne_eqb}
use Rattle.endian.specs.Endian.{byte_at, u16_at}
use Rattle.file.specs.Fields.{body, length_fits}
use Rattle.file.specs.Records.{when, first}
use Rattle.file.specs.Refusals.{field_refusal, contents_refusal}

-- neither of two tests is met
pub neither : (a b : ℕ) → first a b ≡ 0 → (a ≡ 0) × (b ≡ 0)
neither zero b h = (refl, h)
neither (suc a) b h =
    let e : eqb (suc a) 0 ≡ false = ne_eqb (suc a) 0 (λ z. omega arith) in
    let z : suc a ≡ 0 = rw e at h in
    absurd (omega arith)

-- a test that is not met
pub unmet : (b : Bool) (n : ℕ) → when b (suc n) ≡ 0 → b ≡ false
unmet true n h = absurd (omega arith)
unmet false n h = refl

-- what a field that passes has: its length fits, its body is there, and its contents pass
pub record Passes (tag : ℕ) (s : List ℕ) : Type 0 where
  pub fits : length_fits tag (u16_at s 1) ≡ true
  pub there : 3 + u16_at s 1 ≤ length s
  pub contents : contents_refusal tag (body s) ≡ 0

pub passes : (tag : ℕ) (s : List ℕ) → field_refusal tag s ≡ 0 → Passes tag s
unfolding field_refusal
passes tag s h =
    let a = neither (when (eqb (length s) 0) 1) _ h in
    let b = neither (when (not (eqb (byte_at s 0) tag)) 2) _ a.1 in
    let c = neither (when (ltb (length s) 3) 1) _ b.1 in
    let d = neither (when (not (length_fits tag (u16_at s 1))) 3) _ c.1 in
    let e = neither (when (ltb (length s) (3 + u16_at s 1)) 1) _ d.1 in
    record { fits = not-false _ (unmet _ 2 d.0); there = ltb-false _ _ (unmet _ 0 e.0); contents = e.1 }
