-- The fields of a file by their tags: what the check knows where a field is due, and where all five have passed. Assumes nothing.
use Prim.Native.Nat.{ℕ, zero, suc, ◌+◌, ◌-◌, ◌<◌, ◌≤◌}
use native.Mathlib.Omega.{arith}
use mathlib.Core.Path.{◌≡◌, refl, ◌∙◌, ap}
use mathlib.Core.Bool.{Bool}
use mathlib.Core.List.{List}
use lib.ListN.{length}
use borrow.Author.Tests.{eq-eqb, ne_eqb}
use Rattle.file.specs.Fields.{body, rest, after, entries}
use Rattle.file.specs.Numbers.{number_of_refusal}
use Rattle.file.specs.declared.refusal.Refusal.{Refusal}
use Rattle.file.specs.Records.{ascending}
use Rattle.file.specs.Refusals.{field_refusal, Passed, tag_refusal, fields_refusal, refusal_for}
use Rattle.file.proofs.Numbers.{is_some}
use Rattle.file.proofs.Ascending.{met, on, of_code}

-- the tag is 1 to 6, `s` begins with its field, and no field before it is sent back
pub record Due (file s : List ℕ) (tag : ℕ) : Type 0 where
  pub head : s ≡ after (tag - 1) file
  pub left : fields_refusal file ≡ ascending (tag_refusal file) tag (6 - tag)

pub begun : (file : List ℕ) → Due file file 1
begun file = record { head = refl; left = refl }

-- what follows the field of a tag is the next field and what follows it
after_next : (tag : ℕ) (file : List ℕ) → 1 ≤ tag → rest (after (tag - 1) file) ≡ after (tag + 1 - 1) file
after_next zero file h = absurd (omega arith)
after_next (suc k) file h =
    let a : suc k - 1 ≡ k = omega arith in
    let b : suc k + 1 - 1 ≡ suc k = omega arith in
    rw (a, b)

module _ {file s : List ℕ} {tag : ℕ} (d : Due file s tag) (low : 1 ≤ tag) (l : tag < 6) where
  here : (r : ℕ) → r ≡ field_refusal tag s → r ≡ tag_refusal file tag
  here r e = e ∙ ap (field_refusal tag) d.head

  -- the field is sent back
  pub sent : (w : Bool) (e : Refusal) → number_of_refusal e ≡ field_refusal tag s → number_of_refusal e ≡ refusal_for w file
  unfolding refusal_for
  sent w e k =
      let n = number_of_refusal e in
      let q = d.left ∙ met (tag_refusal file) tag 6 l n (here n k) (is_some e) in
      rw (q, ne_eqb n 0 (is_some e))

  -- it passes
  next : {b r : List ℕ} → Passed tag s b r → Due file r (tag + 1)
  next p = record {
    head = p.is_rest ∙ ap rest d.head ∙ after_next tag file low;
    left = d.left ∙ on (tag_refusal file) tag 6 l 0 (here 0 p.number) refl;
  }

-- where the fields before that of a tag pass
module _ {file a r : List ℕ} (p : Passed 1 file a r) where
  pub second : Due file r 2
  second = next (begun file) (omega arith) (omega arith) p

  module _ {b s : List ℕ} (q : Passed 2 r b s) where
    pub third : Due file s 3
    third = next second (omega arith) (omega arith) q

    module _ {c t : List ℕ} (m : Passed 3 s c t) where
      pub fourth : Due file t 4
      fourth = next third (omega arith) (omega arith) m

      module _ {h u : List ℕ} (n : Passed 4 t h u) where
        pub fifth : Due file u 5
        fifth = next fourth (omega arith) (omega arith) n

        -- all five do
        module _ {k v : List ℕ} (o : Passed 5 u k v) where
          last : Due file v 6
          last = next fifth (omega arith) (omega arith) o

          pub more : (w : Bool) → (length v ≡ 0 → ⊥) → 4 ≡ refusal_for w file
          unfolding refusal_for
          more w z = rw (last.left, ← last.head, ne_eqb _ _ z)

          -- the records are left
          pub by_records : (w : Bool) → length v ≡ 0 → (i : ℕ) → i ≡ of_code w (entries a b c h) k → i ≡ refusal_for w file
          unfolding refusal_for
          by_records w e i er =
              rw (
                last.left,
                ← last.head,
                eq-eqb _ _ e,
                ← (o.is_body ∙ ap body fifth.head),
                ← p.is_body,
                ← (q.is_body ∙ ap body second.head),
                ← (m.is_body ∙ ap body third.head),
                ← (n.is_body ∙ ap body fourth.head),
              )
              er
