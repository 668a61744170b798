-- The records of a converted code. Assumes nothing.
use Prim.Native.Nat.{ℕ, zero, suc, ◌+◌, ◌*◌, ◌/◌, ◌^◌, ◌<◌, ◌≤◌}
use native.Mathlib.Omega.{arith}
use mathlib.Core.Path.{◌≡◌, refl, sym, ◌∙◌, ap}
use mathlib.Core.Bool.{true, false, cond}
use mathlib.Core.List.{List, ◌++◌}
use lib.ListN.{length, take, drop, length-append, length-drop}
use lib.Seq.{length-take-le}
use Rattle.std.proofs.lemmas.List.{take_at, drop_at, drop-drop, get_or-take, get_or-drop}
use Rattle.endian.specs.Endian.{byte_at, number_at}
use Rattle.file.specs.Records.{withdrawn}
use Rattle.convert.proofs.Progress.{eight}
use Rattle.convert.specs.Convert.{pointer_enter, is_withdrawn, converted_record, converted_records, converted_code}
use Rattle.convert_laws.specs.Laws.{record_at, IsPointerEnter}

-- the first of k + 1 records, converted
module _ (k i : ℕ) (code : List ℕ) (h : suc k * 8 ≤ length code) where
  first_length : length (converted_record i (take 8 code)) ≡ 8
  first_length = eight i (take 8 code) (length-take-le 8 code (omega arith))

  others : k * 8 ≤ length (drop 8 code)
  others = rw (length-drop 8 code) (omega arith)

-- k records, and what follows them
records_length : (k i : ℕ) (code : List ℕ) → k * 8 ≤ length code → length (converted_records i k code) ≡ length code
unfolding converted_records
records_length zero i code h = refl
records_length (suc k) i code h =
    rw (
      length-append (converted_record i (take 8 code)) (converted_records (i + 1) k (drop 8 code)),
      first_length k i code h,
      records_length k (i + 1) (drop 8 code) (others k i code h),
      length-drop 8 code,
    )
    (omega arith)

records_at : (k i j : ℕ) (code : List ℕ) → k * 8 ≤ length code → j < k → record_at j (converted_records i k code) ≡ converted_record (i + j) (record_at j code)
unfolding converted_records
records_at zero i j code h l = absurd (omega arith)
records_at (suc k) i zero code h l =
    let q : i + 0 ≡ i = omega arith in
    rw q (take_at (converted_record i (take 8 code)) (converted_records (i + 1) k (drop 8 code)) 8 (first_length k i code h))
records_at (suc k) i (suc j) code h l =
    let e : suc j * 8 ≡ 8 + j * 8 = omega arith in
    let q : i + suc j ≡ i + 1 + j = omega arith in
    rw (
      e,
      q,
      ← drop-drop (j * 8) 8 (converted_record i (take 8 code) ++ converted_records (i + 1) k (drop 8 code)),
      ← drop-drop (j * 8) 8 code,
      drop_at (converted_record i (take 8 code)) (converted_records (i + 1) k (drop 8 code)) 8 (first_length k i code h),
    )
    (records_at k (i + 1) j (drop 8 code) (others k i code h) (omega arith))

-- the numbers of a part of a byte string
pub number_of_part : (n m : ℕ) (s : List ℕ) (w k : ℕ) → k + w ≤ n → number_at w (take n (drop m s)) k ≡ number_at w s (m + k)
unfolding number_at
number_of_part n m s zero k h = refl
number_of_part n m s (suc w) k h =
    let e : m + (k + 1) ≡ m + k + 1 = omega arith in
    rw (get_or-take n (drop m s) k 0 (omega arith), get_or-drop m s k 0, number_of_part n m s w (k + 1) (omega arith), e)

-- a whole code
module _ (code : List ℕ) where
  pub length_of_converted_code : length (converted_code code) ≡ length code
  length_of_converted_code = records_length (length code / 8) 0 code (omega arith)

  module _ (i : ℕ) (l : i < length code / 8) where
    pub record_converted : record_at i (converted_code code) ≡ converted_record i (record_at i code)
    record_converted =
        let e : 0 + i ≡ i = omega arith in
        records_at (length code / 8) 0 i code (omega arith) l ∙ ap (λ (n : ℕ). converted_record n (record_at i code)) e

    -- the bytes of record i are those of that record alone
    pub byte_converted : (k : ℕ) → k < 8 → byte_at (converted_code code) (i * 8 + k) ≡ byte_at (converted_record i (record_at i code)) k
    byte_converted k h =
        sym (get_or-take 8 (drop (i * 8) (converted_code code)) k 0 h ∙ get_or-drop (i * 8) (converted_code code) k 0)
        ∙ ap (λ (s : List ℕ). byte_at s k) record_converted

-- the first byte of a record says whether it is of opcode 22
pub withdrawn_at : (code : List ℕ) (i : ℕ) → is_withdrawn (record_at i code) ≡ withdrawn (byte_at code (i * 8))
withdrawn_at code i =
    let e : i * 8 + 0 ≡ i * 8 = omega arith in
    rw (get_or-take 8 (drop (i * 8) code) 0 0 (omega arith), get_or-drop (i * 8) code 0 0, e)

module _ (code : List ℕ) (i : ℕ) (l : i < length code / 8) where
  -- a record of another opcode stays
  pub record_kept : withdrawn (byte_at code (i * 8)) ≡ false → record_at i (converted_code code) ≡ record_at i code
  record_kept o = record_converted code i l ∙ ap (λ b. cond b (pointer_enter (i + 1)) (record_at i code)) (withdrawn_at code i ∙ o)

  -- one of opcode 22 is a PointerEnter to the next
  pub record_made : withdrawn (byte_at code (i * 8)) ≡ true → record_at i (converted_code code) ≡ pointer_enter (i + 1)
  record_made o = record_converted code i l ∙ ap (λ b. cond b (pointer_enter (i + 1)) (record_at i code)) (withdrawn_at code i ∙ o)

-- the parts of that PointerEnter
pub parts_made : (target : ℕ) → target < 2 ^ 32 → IsPointerEnter (pointer_enter target) target
unfolding number_at
parts_made target h = record { long = refl; opcode = refl; choice = refl; post = refl; argument = omega arith }
