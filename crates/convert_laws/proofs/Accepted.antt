-- The reader accepts a converted file; what it accepts, the converter leaves alone. Assumes nothing.
use Prim.Native.Nat.{ℕ, zero, suc, ◌+◌, ◌*◌, ◌/◌, ◌<◌, ◌≤◌}
use native.Mathlib.Omega.{arith}
use mathlib.Core.Path.{◌≡◌, refl, sym, ◌∙◌, ap}
use mathlib.Core.Bool.{Bool, true, false, cond, not, ◌&&◌, ◌||◌}
use mathlib.Core.List.{List, [], ◌++◌}
use lib.Dec.{ltb, eqb}
use lib.ListN.{length, take, drop}
use borrow.Author.Tests.{ltb-false, ne_eqb}
use Rattle.std.proofs.lemmas.Bool.{or_parts, lt-leb}
use Rattle.std.proofs.lemmas.List.{drop-drop, take-append-drop, get_or-take, get_or-drop}
use Rattle.endian.specs.Endian.{byte_at, number_at}
use Rattle.program.specs.Opcodes.{last_opcode}
use Rattle.program.specs.Ranges.{parts_of}
use Rattle.file.specs.Fields.{after, posts, code, counts_of}
use Rattle.file.specs.Records.{when, withdrawn, ascending, record_refusal, refusal_at, records_refusal}
use Rattle.file.specs.Refusals.{no_identity, contents_refusal, fields_refusal, longer, refusal_for, refusal, converter_refusal}
use Rattle.file.specs.declared.records.Counts.{Counts}
use Rattle.file.proofs.Firsts.{neither, unmet, passes}
use Rattle.file.proofs.Ascending.{each}
use Rattle.convert.proofs.Parts.{third_passes, fields_pass, nothing_after, with_code, is_with_code}
use Rattle.convert.specs.Convert.{pointer_enter, is_withdrawn, converted_records, converted_code, withdrawn_records, withdrawn_in, converted, conversion}
use Rattle.convert_laws.specs.Laws.{record_at}
use Rattle.convert_laws.proofs.Records.{number_of_part, withdrawn_at, record_kept, record_made, length_of_converted_code}
use Rattle.convert_laws.proofs.Fields.{counts_of_converted, consts_of_converted, posts_of_converted, hashes_of_converted, code_of_converted, fields_of_converted, nothing_after_converted, converted_with_code}

-- ---- one record

-- its refusal is by its own bytes
at_record : (w : Bool) (t : Counts) (code : List ℕ) (i : ℕ) → refusal_at w t (record_at i code) 0 ≡ refusal_at w t code i
at_record w t code i =
    let e : i * 8 + 0 ≡ i * 8 = omega arith in
    rw (
      get_or-take 8 (drop (i * 8) code) 0 0 (omega arith),
      get_or-drop (i * 8) code 0 0,
      get_or-take 8 (drop (i * 8) code) 1 0 (omega arith),
      get_or-drop (i * 8) code 1 0,
      number_of_part 8 (i * 8) code 2 2 (omega arith),
      number_of_part 8 (i * 8) code 4 4 (omega arith),
      e,
    )

-- a record of another opcode gets one answer in every check
pub one_answer : (t : Counts) (op choice post arg : ℕ) → withdrawn op ≡ false → record_refusal false t op choice post arg ≡ record_refusal true t op choice post arg
unfolding record_refusal
one_answer t op choice post arg o = rw o

-- none of opcode 22 passes the reader
none_passes : (t : Counts) (op choice post arg : ℕ) → record_refusal false t op choice post arg ≡ 0 → withdrawn op ≡ false
unfolding record_refusal
none_passes t op choice post arg h =
    let a = neither (when (eqb op 0 || ltb last_opcode op) 7) _ h in
    cases (withdrawn op) (unmet (withdrawn op && not false) 13 (neither (when (withdrawn op && not false) 14) _ a.1).0)
  where
    cases : (b : Bool) → (b && not false) ≡ false → b ≡ false
    cases true e = e
    cases false e = refl

-- a PointerEnter with post 0 passes wherever there is a post 0, whatever its target
enter_passes : (t : Counts) (target : ℕ) → 0 < t.posts → refusal_at false t (pointer_enter target) 0 ≡ 0
unfolding record_refusal parts_of number_at
enter_passes t target h = rw (lt-leb _ _ h)

-- ---- k records

-- tests that are not met
pub none_met : (test : ℕ → ℕ) (k i : ℕ) → ((j : ℕ) → j < k → test (i + j) ≡ 0) → ascending test i k ≡ 0
none_met test zero i h = refl
none_met test (suc k) i h =
    let e : i + 0 ≡ i = omega arith in
    rw (rw e at (h 0 (omega arith)))
    (none_met test k (i + 1) (λ j l. let q : i + suc j ≡ i + 1 + j = omega arith in rw q at (h (suc j) (omega arith))))

-- the record one later is that of the rest
later_record : (code : List ℕ) (j : ℕ) → record_at j (drop 8 code) ≡ record_at (suc j) code
later_record code j = let e : suc j * 8 ≡ 8 + j * 8 = omega arith in rw (e, drop-drop (j * 8) 8 code)

-- where none is of opcode 22
none_withdrawn : (k : ℕ) (code : List ℕ) → ((j : ℕ) → j < k → is_withdrawn (record_at j code) ≡ false) → withdrawn_records k code ≡ 0
unfolding withdrawn_records
none_withdrawn zero code h = refl
none_withdrawn (suc k) code h =
    rw (h 0 (omega arith), none_withdrawn k (drop 8 code) (λ j l. ap is_withdrawn (later_record code j) ∙ h (suc j) (omega arith)))

-- they stay
records_stay : (k i : ℕ) (code : List ℕ) → withdrawn_records k code ≡ 0 → converted_records i k code ≡ code
unfolding withdrawn_records converted_records
records_stay zero i code h = refl
records_stay (suc k) i code h = cases (is_withdrawn (take 8 code)) h (records_stay k (i + 1) (drop 8 code))
  where
    cases :
        (b : Bool) → cond b 1 0 + withdrawn_records k (drop 8 code) ≡ 0
        → (withdrawn_records k (drop 8 code) ≡ 0 → converted_records (i + 1) k (drop 8 code) ≡ drop 8 code)
        → cond b (pointer_enter (i + 1)) (take 8 code) ++ converted_records (i + 1) k (drop 8 code) ≡ code
    cases true e f = absurd (omega arith)
    cases false e f = rw (f (omega arith)) (take-append-drop 8 code)

-- ---- a file that passes

module _ (w : Bool) (file : List ℕ) where
  module _ (h : refusal_for w file ≡ 0) where
    pub record_passes : (i : ℕ) → i < length (code file) / 8 → refusal_at w (counts_of file) (code file) i ≡ 0
    unfolding refusal_for records_refusal
    record_passes i l =
        let a = neither (fields_refusal file) _ h in
        let b = neither (when (longer file) 4) _ a.1 in
        let q : 0 + i ≡ i = omega arith in
        rw q at (each (refusal_at w (counts_of file) (code file)) (length (code file) / 8) 0 i b.1 l)

    post_there : 0 < length (posts file) / 8
    unfolding contents_refusal
    post_there =
        let q = (passes 3 (after 2 file) (third_passes file (fields_pass w file h))).contents in
        let n = or_parts (ltb (length (posts file)) 8) _ (unmet (no_identity (posts file)) 5 q) in
        let l : 8 ≤ length (posts file) = ltb-false _ _ n.0 in
        omega arith

  -- by its fields and its records
  passes_by_records :
      fields_refusal file ≡ 0
      → after 5 file ≡ []
      → ((i : ℕ) → i < length (code file) / 8 → refusal_at w (counts_of file) (code file) i ≡ 0)
      → refusal_for w file ≡ 0
  unfolding refusal_for records_refusal
  passes_by_records f e r =
      rw (f, e)
      (none_met (refusal_at w (counts_of file) (code file)) (length (code file) / 8) 0 (λ j l. let q : 0 + j ≡ j = omega arith in rw q (r j l)))

-- ---- a converted file is accepted by the reader

module _ (file : List ℕ) (h : converter_refusal file ≡ 0) where
  counts_same : counts_of (converted file) ≡ counts_of file
  counts_same = rw (counts_of_converted file h, consts_of_converted file h, posts_of_converted file h, hashes_of_converted file h)

  abbrev by_bytes : List ℕ → ℕ
  by_bytes bytes = refusal_at false (counts_of file) bytes 0

  record_accepted : (i : ℕ) → i < length (code file) / 8 → refusal_at false (counts_of file) (converted_code (code file)) i ≡ 0
  record_accepted i l = cases (withdrawn (byte_at (code file) (i * 8))) refl
    where
      cases : (b : Bool) → withdrawn (byte_at (code file) (i * 8)) ≡ b → refusal_at false (counts_of file) (converted_code (code file)) i ≡ 0
      cases true o =
          sym (at_record false (counts_of file) (converted_code (code file)) i)
          ∙ (ap by_bytes (record_made (code file) i l o)
          ∙ enter_passes (counts_of file) (i + 1) (post_there true file h))
      cases false o =
          sym (at_record false (counts_of file) (converted_code (code file)) i)
          ∙ (ap by_bytes (record_kept (code file) i l o)
          ∙ (at_record false (counts_of file) (code file) i
          ∙ (one_answer (counts_of file) _ _ _ _ o
          ∙ record_passes true file h i l)))

  pub accepted : refusal (converted file) ≡ 0
  accepted =
      passes_by_records false (converted file) (fields_of_converted file h) (nothing_after_converted file h)
      (λ i l.
      let e = ap length (code_of_converted file h) ∙ length_of_converted_code (code file) in
      rw (counts_same, code_of_converted file h) (record_accepted i (omega (arith, e))))

-- ---- what the reader accepts, the converter leaves alone

module _ (file : List ℕ) (h : refusal file ≡ 0) where
  not_withdrawn : (i : ℕ) → i < length (code file) / 8 → withdrawn (byte_at (code file) (i * 8)) ≡ false
  not_withdrawn i l = none_passes (counts_of file) _ _ _ _ (record_passes false file h i l)

  pub none_in : withdrawn_in (code file) ≡ 0
  none_in = none_withdrawn (length (code file) / 8) (code file) (λ i l. withdrawn_at (code file) i ∙ not_withdrawn i l)

  converter_takes : converter_refusal file ≡ 0
  converter_takes =
      passes_by_records true file (fields_pass false file h) (nothing_after false file h)
      (λ i l. sym (one_answer (counts_of file) _ _ _ _ (not_withdrawn i l)) ∙ record_passes false file h i l)

-- a file that is sent back keeps its bytes
pub sent_back_kept : (file : List ℕ) → (converter_refusal file ≡ 0 → ⊥) → converted file ≡ file
unfolding converted
sent_back_kept file z = rw (ne_eqb (converter_refusal file) 0 z)

-- a file without a record of opcode 22 is left as it is, whatever it is
pub left_alone : (file : List ℕ) → withdrawn_in (code file) ≡ 0 → converted file ≡ file
left_alone file e = cases (converter_refusal file) refl
  where
    cases : (n : ℕ) → converter_refusal file ≡ n → converted file ≡ file
    cases zero h =
        converted_with_code file h
        ∙ (ap (with_code file) (records_stay (length (code file) / 8) 0 (code file) e)
        ∙ sym (is_with_code file (fields_pass true file h) (nothing_after true file h)))
    cases (suc n) h = sent_back_kept file (λ z. omega arith)

pub reader_leaves : (file : List ℕ) → refusal file ≡ 0 → (converter_refusal file ≡ 0) × (converted file ≡ file)
reader_leaves file h = (converter_takes file h, left_alone file (none_in file h))

-- ---- converting again

pub twice : (file : List ℕ) → converted (converted file) ≡ converted file
twice file = cases (converter_refusal file) refl
  where
    cases : (n : ℕ) → converter_refusal file ≡ n → converted (converted file) ≡ converted file
    cases zero h = (reader_leaves (converted file) (accepted file h)).1
    cases (suc n) h = ap converted (sent_back_kept file (λ z. omega arith))

-- gives the same answer, and converts no record
pub again : (file : List ℕ) → conversion (converted file) ≡ record { refusal = converter_refusal file; records = 0; file = converted file }
unfolding conversion
again file = cases (converter_refusal file) refl
  where
    cases : (n : ℕ) → converter_refusal file ≡ n → conversion (converted file) ≡ record { refusal = converter_refusal file; records = 0; file = converted file }
    cases zero h =
        let a = accepted file h in
        rw (h, twice file, (reader_leaves (converted file) a).0, none_in (converted file) a)
    cases (suc n) h =
        let z : converter_refusal file ≡ 0 → ⊥ = λ z. omega arith in
        rw (sent_back_kept file z, sent_back_kept file z, ne_eqb (converter_refusal file) 0 z)
