-- The numbers of both checks, the reader's and the converter's, and what the one says of the other. Assumes nothing.
use Prim.Native.Nat.{ℕ, zero, suc, ◌+◌, ◌-◌, ◌/◌, ◌≤◌}
use native.Mathlib.Omega.{arith}
use mathlib.Core.Path.{◌≡◌, refl, sym, ◌∙◌, ap}
use mathlib.Core.Bool.{Bool, true, false, cond, not, ◌&&◌, ◌||◌}
use mathlib.Core.List.{List}
use mathlib.Core.Logic.{◌⊎◌, inl, inr}
use lib.Dec.{ltb, leb, eqb}
use lib.ListN.{length}
use borrow.Author.Tests.{eqb-true, ne_eqb, eq-eqb}
use Rattle.endian.specs.Endian.{byte_at, u16_at}
use Rattle.program.specs.Opcodes.{last_opcode}
use Rattle.program.specs.Ranges.{parts_of}
use Rattle.file.specs.Fields.{body, after, code, counts_of, length_fits}
use Rattle.file.specs.Records.{when, first, withdrawn, stray, outside, ascending, record_refusal, refusal_at, records_refusal}
use Rattle.file.specs.Refusals.{many_names, no_identity, contents_refusal, field_refusal, tag_refusal, fields_refusal, longer, refusal_for, refusal, converter_refusal}
use Rattle.file.specs.declared.records.Counts.{Counts}
use Rattle.convert.specs.Convert.{withdrawn_in}
use Rattle.convert_laws.specs.Laws.{IsReaders, IsConverters, ReaderWithdrawn, ConverterWithdrawn}
use Rattle.convert_laws.proofs.Accepted.{one_answer, accepted, none_in, left_alone}

-- ---- what holds of each number of a check holds of its answer

module _ (P : ℕ → Type 0) where
  of_cond : (b : Bool) (x y : ℕ) → P x → P y → P (cond b x y)
  of_cond true x y p q = p
  of_cond false x y p q = q

  of_first : (a b : ℕ) → P a → P b → P (first a b)
  of_first a b p q = of_cond (eqb a 0) b a q p

  module _ (none : P 0) where
    of_when : (b : Bool) (n : ℕ) → P n → P (when b n)
    of_when b n p = of_cond b n 0 p none

    of_ascending : (test : ℕ → ℕ) → ((j : ℕ) → P (test j)) → (k i : ℕ) → P (ascending test i k)
    of_ascending test p zero i = none
    of_ascending test p (suc k) i = of_first (test i) _ (p i) (of_ascending test p k (i + 1))

    -- numbers 14 and 15, of which each check has one
    fourteen : (w d : Bool) → P (cond w 15 14) → P (when (d && not w) 14)
    fourteen w false p = none
    fourteen true true p = none
    fourteen false true p = p

    fifteen : (w d m : Bool) → P (cond w 15 14) → P (when (d && (w && m)) 15)
    fifteen w false m p = none
    fifteen false true m p = none
    fifteen true true m p = of_when m 15 p

    module _ (seven : P 7) (eight : P 8) (nine : P 9) (w : Bool) (own : P (cond w 15 14)) where
      of_record : (t : Counts) (op choice post arg : ℕ) → P (record_refusal w t op choice post arg)
      unfolding record_refusal
      of_record t op choice post arg =
          of_first _ _ (of_when (eqb op 0 || ltb last_opcode op) 7 seven)
          (of_first _ _ (fourteen w (withdrawn op) own)
          (of_first _ _ (of_when (ltb (parts_of op).choice choice || (stray (parts_of op).post post || stray (parts_of op).argument arg)) 8 eight)
          (of_first _ _ (of_when (outside t (parts_of op).post post || outside t (parts_of op).argument arg) 9 nine)
          (fifteen w (withdrawn op) (ltb 1 choice) own))))

      of_records : (t : Counts) (code : List ℕ) (i k : ℕ) → P (records_refusal w t code i k)
      unfolding records_refusal
      of_records t code i k = of_ascending (refusal_at w t code) (λ j. of_record t _ _ _ _) k i

-- ---- the fields

abbrev Early : ℕ → Type 0
Early n = n ≤ 6

early_when : (b : Bool) (n : ℕ) → n ≤ 6 → Early (when b n)
early_when b n l = of_when Early (omega arith) b n l

early_contents : (tag : ℕ) (b : List ℕ) → Early (contents_refusal tag b)
unfolding contents_refusal
early_contents tag b =
    of_cond Early (eqb tag 1) _ _ (early_when (many_names b) 5 (omega arith))
    (of_cond Early (eqb tag 3) _ 0 (early_when (no_identity b) 6 (omega arith)) (omega arith))

early_field : (tag : ℕ) (s : List ℕ) → Early (field_refusal tag s)
unfolding field_refusal
early_field tag s =
    of_first Early _ _ (early_when (eqb (length s) 0) 1 (omega arith))
    (of_first Early _ _ (early_when (not (eqb (byte_at s 0) tag)) 2 (omega arith))
    (of_first Early _ _ (early_when (ltb (length s) 3) 1 (omega arith))
    (of_first Early _ _ (early_when (not (length_fits tag (u16_at s 1))) 3 (omega arith))
    (of_first Early _ _ (early_when (ltb (length s) (3 + u16_at s 1)) 1 (omega arith)) (early_contents tag (body s))))))

early_fields : (file : List ℕ) → Early (fields_refusal file)
early_fields file = of_ascending Early (omega arith) (tag_refusal file) (λ tag. early_field tag (after (tag - 1) file)) 5 1

-- ---- the answers

module _ (P : ℕ → Type 0) (low : (n : ℕ) → n ≤ 9 → P n) (w : Bool) (own : P (cond w 15 14)) where
  of_code : (t : Counts) (code : List ℕ) → P (records_refusal w t code 0 (length code / 8))
  of_code t code = of_records P (low 0 (omega arith)) (low 7 (omega arith)) (low 8 (omega arith)) (low 9 (omega arith)) w own t code 0 (length code / 8)

  of_answer : (file : List ℕ) → P (refusal_for w file)
  unfolding refusal_for
  of_answer file =
      let e = early_fields file in
      of_first P (fields_refusal file) _ (low (fields_refusal file) (omega arith))
      (of_first P (when (longer file) 4) _ (of_when P (low 0 (omega arith)) (longer file) 4 (low 4 (omega arith))) (of_code (counts_of file) (code file)))

pub readers : (file : List ℕ) → IsReaders (refusal file)
readers = of_answer IsReaders (λ n l. inl l) false (inr refl)

pub converters : (file : List ℕ) → IsConverters (converter_refusal file)
converters = of_answer IsConverters (λ n l. inl l) true (inr refl)

-- 14 is never the converter's answer, and 15 never the reader's
pub never_withdrawn : (file : List ℕ) → converter_refusal file ≡ 14 → ⊥
never_withdrawn file h = cases (converters file)
  where
    cases : IsConverters (converter_refusal file) → ⊥
    cases (inl l) = omega arith
    cases (inr e) = omega arith

pub never_many : (file : List ℕ) → refusal file ≡ 15 → ⊥
never_many file h = cases (readers file)
  where
    cases : IsReaders (refusal file) → ⊥
    cases (inl l) = omega arith
    cases (inr e) = omega arith

-- ---- a record of opcode 22, and any other

pub reader_withdrawn : ReaderWithdrawn
unfolding record_refusal
reader_withdrawn t op choice post arg w = rw (eqb-true op 22 w)

pub converter_withdrawn : ConverterWithdrawn
unfolding record_refusal parts_of
converter_withdrawn t choice post arg = rw (or_false (leb t.posts post))
  where
    or_false : (b : Bool) → (b || false) ≡ b
    or_false true = refl
    or_false false = refl

-- ---- what one answer says of the other

-- the reader's number is 14, or the converter's is the same
abbrev Alike : ℕ → ℕ → Type 0
Alike a b = (a ≡ 14) ⊎ (b ≡ a)

alike_first : (a b r s : ℕ) → Alike a b → Alike r s → Alike (first a r) (first b s)
alike_first a b r s (inl e) q = inl (rw e)
alike_first zero b r s (inr e) (inl q) = inl q
alike_first (suc a) b r s (inr e) (inl q) = inr (rw (e, ne_eqb (suc a) 0 (λ z. omega arith)))
alike_first a b r s (inr e) (inr q) = inr (rw (e, q))

alike_ascending : (f g : ℕ → ℕ) → ((j : ℕ) → Alike (f j) (g j)) → (k i : ℕ) → Alike (ascending f i k) (ascending g i k)
alike_ascending f g h zero i = inr refl
alike_ascending f g h (suc k) i = alike_first (f i) (g i) _ _ (h i) (alike_ascending f g h k (i + 1))

alike_record : (t : Counts) (op choice post arg : ℕ) → Alike (record_refusal false t op choice post arg) (record_refusal true t op choice post arg)
alike_record t op choice post arg = cases (withdrawn op) refl
  where
    cases : (b : Bool) → withdrawn op ≡ b → Alike (record_refusal false t op choice post arg) (record_refusal true t op choice post arg)
    cases true o = inl (reader_withdrawn t op choice post arg o)
    cases false o = inr (sym (one_answer t op choice post arg o))

alike_code : (t : Counts) (code : List ℕ) → Alike (records_refusal false t code 0 (length code / 8)) (records_refusal true t code 0 (length code / 8))
unfolding records_refusal
alike_code t code = alike_ascending (refusal_at false t code) (refusal_at true t code) (λ j. alike_record t _ _ _ _) (length code / 8) 0

alike : (file : List ℕ) → Alike (refusal file) (converter_refusal file)
unfolding refusal_for
alike file =
    alike_first (fields_refusal file) _ _ _ (inr refl)
    (alike_first (when (longer file) 4) _ _ _ (inr refl) (alike_code (counts_of file) (code file)))

-- one number by both, unless the reader's is 14
pub one_number : (file : List ℕ) → (refusal file ≡ 14 → ⊥) → converter_refusal file ≡ refusal file
one_number file z = cases (alike file)
  where
    cases : Alike (refusal file) (converter_refusal file) → converter_refusal file ≡ refusal file
    cases (inl e) = absurd (z e)
    cases (inr e) = e

-- numbers 1 to 6 come before the records
abbrev Late : ℕ → Type 0
Late n = (n ≡ 0) ⊎ (7 ≤ n)

late_records : (w : Bool) (t : Counts) (code : List ℕ) (i k : ℕ) → Late (records_refusal w t code i k)
late_records w t code i k = of_records Late (inl refl) (inr (omega arith)) (inr (omega arith)) (inr (omega arith)) w (own w) t code i k
  where
    own : (w : Bool) → Late (cond w 15 14)
    own true = inr (omega arith)
    own false = inr (omega arith)

before_late : (f l a b : ℕ) → Late a → 1 ≤ first f (first l a) → first f (first l a) ≤ 6 → first f (first l b) ≡ first f (first l a)
before_late zero zero a b (inl e) h g = absurd (omega arith)
before_late zero zero a b (inr e) h g = absurd (omega arith)
before_late zero (suc l) a b e h g = rw (ne_eqb (suc l) 0 (λ z. omega arith))
before_late (suc f) l a b e h g = rw (ne_eqb (suc f) 0 (λ z. omega arith))

-- so they are one number in both checks
pub same_early : (v w : Bool) (file : List ℕ) → 1 ≤ refusal_for v file → refusal_for v file ≤ 6 → refusal_for w file ≡ refusal_for v file
unfolding refusal_for
same_early v w file h g =
    before_late (fields_refusal file) (when (longer file) 4) _ _ (late_records v (counts_of file) (code file) 0 (length (code file) / 8)) h g

-- of a file that the converter takes the reader says just whether it has a record of opcode 22
pub by_count : (file : List ℕ) → converter_refusal file ≡ 0 → refusal file ≡ when (not (eqb (withdrawn_in (code file)) 0)) 14
by_count file h = cases (withdrawn_in (code file)) refl (alike file)
  where
    cases :
        (n : ℕ) → withdrawn_in (code file) ≡ n
        → Alike (refusal file) (converter_refusal file)
        → refusal file ≡ when (not (eqb (withdrawn_in (code file)) 0)) 14
    cases zero e a = rw (eq-eqb (withdrawn_in (code file)) 0 e) (ap refusal (sym (left_alone file e)) ∙ accepted file h)
    cases (suc n) e (inl a) = rw (ne_eqb (withdrawn_in (code file)) 0 (λ z. omega arith)) a
    cases (suc n) e (inr a) = let z = none_in file (sym a ∙ h) in absurd (omega arith)
