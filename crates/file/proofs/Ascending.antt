-- Tests in ascending order: the fields of a file, and the records of its code. Assumes nothing.
use Prim.Native.Nat.{ℕ, zero, suc, ◌+◌, ◌-◌, ◌*◌, ◌/◌, ◌<◌, ◌≤◌}
use native.Mathlib.Omega.{arith}
use mathlib.Core.Path.{◌≡◌, refl, sym, ◌∙◌}
use mathlib.Core.Bool.{Bool}
use mathlib.Core.List.{List, ◌++◌}
use lib.ListN.{length, length-append}
use borrow.Author.Tests.{ne_eqb}
use Rattle.std.proofs.lemmas.List.{get_or_append_left, get_or-append-add}
use Rattle.endian.specs.Endian.{number_at}
use Rattle.file.specs.Records.{first, ascending, refusal_at, records_refusal}
use Rattle.file.specs.declared.records.Counts.{Counts}
use Rattle.file.specs.declared.refusal.Refusal.{Refusal}
use Rattle.file.specs.Numbers.{number_of_refusal}
use Rattle.file.proofs.Numbers.{is_some}
use Rattle.file.proofs.Firsts.{neither}

module _ (test : ℕ → ℕ) where
  module _ (i n : ℕ) (h : i < n) where
    turn : ascending test i (n - i) ≡ first (test i) (ascending test (i + 1) (n - (i + 1)))
    turn = let q : n - i ≡ suc (n - (i + 1)) = omega arith in rw q

    -- test i is met
    pub met : (r : ℕ) → r ≡ test i → (r ≡ 0 → ⊥) → ascending test i (n - i) ≡ r
    met r e z = turn ∙ rw (← e) (simp (ne_eqb r 0 z))

    -- it is not
    pub on : (r : ℕ) → r ≡ test i → r ≡ 0 → ascending test i (n - i) ≡ ascending test (i + 1) (n - (i + 1))
    on r e z = turn ∙ rw (sym e ∙ z)

  -- none of k tests from i on is met
  pub each : (k i j : ℕ) → ascending test i k ≡ 0 → j < k → test (i + j) ≡ 0
  each zero i j h l = absurd (omega arith)
  each (suc k) i zero h l = let e : i + 0 ≡ i = omega arith in rw e (neither (test i) _ h).0
  each (suc k) i (suc j) h l =
      let e : i + suc j ≡ i + 1 + j = omega arith in
      rw e (each k (i + 1) j (neither (test i) _ h).1 (omega arith))

-- tests that are one later in another order
later : (f g : ℕ → ℕ) → ((i : ℕ) → f (i + 1) ≡ g i) → (k i : ℕ) → ascending f (i + 1) k ≡ ascending g i k
later f g e zero i = refl
later f g e (suc k) i = rw (e i, later f g e k (i + 1))

-- the numbers of the first of two parts of a code, and of the second
pub of_left : (x r : List ℕ) (w i : ℕ) → i + w ≤ length x → number_at w (x ++ r) i ≡ number_at w x i
unfolding number_at
of_left x r zero i h = refl
of_left x r (suc w) i h = rw (get_or_append_left x r 0 i (omega arith), of_left x r w (i + 1) (omega arith))

of_right : (x r : List ℕ) (w i : ℕ) → number_at w (x ++ r) (length x + i) ≡ number_at w r i
unfolding number_at
of_right x r zero i = refl
of_right x r (suc w) i =
    let e : length x + i + 1 ≡ length x + (i + 1) = omega arith in
    rw (get_or-append-add x r i 0, e, of_right x r w (i + 1))

-- the number of a whole code, for the converter or for another
abbrev pub of_code : Bool → Counts → List ℕ → ℕ
of_code w t code = records_refusal w t code 0 (length code / 8)

-- a code whose first record is x
module _ (w : Bool) (t : Counts) (x r : List ℕ) (e : length x ≡ 8) where
  at_first : refusal_at w t (x ++ r) 0 ≡ refusal_at w t x 0
  at_first = rw (get_or_append_left x r 0 0 (omega arith), get_or_append_left x r 0 1 (omega arith), of_left x r 2 2 (omega arith), of_left x r 4 4 (omega arith))

  at_later : (i : ℕ) → refusal_at w t (x ++ r) (i + 1) ≡ refusal_at w t r i
  at_later i =
      let e0 : (i + 1) * 8 ≡ length x + i * 8 = omega arith in
      let e1 : (i + 1) * 8 + 1 ≡ length x + (i * 8 + 1) = omega arith in
      let e2 : (i + 1) * 8 + 2 ≡ length x + (i * 8 + 2) = omega arith in
      let e4 : (i + 1) * 8 + 4 ≡ length x + (i * 8 + 4) = omega arith in
      rw (
        e1,
        e2,
        e4,
        e0,
        get_or-append-add x r (i * 8) 0,
        get_or-append-add x r (i * 8 + 1) 0,
        of_right x r 2 (i * 8 + 2),
        of_right x r 4 (i * 8 + 4),
      )

  by_first : of_code w t (x ++ r) ≡ first (refusal_at w t x 0) (of_code w t r)
  unfolding records_refusal
  by_first =
      let q : length (x ++ r) / 8 ≡ suc (length r / 8) = omega (arith, length-append x r) in
      rw (q, at_first, later (refusal_at w t (x ++ r)) (refusal_at w t r) at_later (length r / 8) 0)

  module _ (code : List ℕ) (c : code ≡ x ++ r) where
    -- it is sent back
    pub sent_first : (e : Refusal) → number_of_refusal e ≡ refusal_at w t x 0 → of_code w t code ≡ number_of_refusal e
    sent_first e k = rw (c, by_first, ← k, ne_eqb (number_of_refusal e) 0 (is_some e))

    -- it passes
    pub on_first : 0 ≡ refusal_at w t x 0 → of_code w t code ≡ of_code w t r
    on_first k = rw (c, by_first, ← k)

-- a code without a record
pub none_left : (w : Bool) (t : Counts) (code : List ℕ) → length code < 8 → of_code w t code ≡ 0
unfolding records_refusal
none_left w t code h = let q : length code / 8 ≡ 0 = omega arith in rw q
