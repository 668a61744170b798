-- All else stays, byte for byte. Assumes nothing.
use Prim.Native.Nat.{ℕ, zero, suc, ◌+◌, ◌-◌, ◌*◌, ◌/◌, ◌%◌, ◌<◌, ◌≤◌}
use native.Mathlib.Omega.{arith}
use mathlib.Core.Path.{◌≡◌, refl, sym, ◌∙◌, ap}
use mathlib.Core.Bool.{Bool, true, false, cond}
use mathlib.Core.List.{List, ◌++◌}
use lib.Dec.{ltb, leb, eqb}
use lib.ListN.{length, take, drop}
use lib.Seq.{length-take-le}
use borrow.Author.Tests.{ltb-true, ltb-false, leb-true, leb-false, eqb-true, eq-eqb, ne_eqb}
use Rattle.std.proofs.lemmas.Bool.{and_parts}
use Rattle.std.proofs.lemmas.List.{ext_get_or, drop_all, get_or-take, get_or-drop, get_or_append_left, get_or-append_right, get_or_past}
use Rattle.endian.specs.Endian.{byte_at, u16_at}
use Rattle.file.specs.Fields.{after, code, length_fits}
use Rattle.file.specs.Refusals.{converter_refusal}
use Rattle.file.proofs.Firsts.{passes}
use Rattle.convert.proofs.Parts.{fifth_passes, body_length, fields_pass, nothing_after, is_with_code, cut_with_code}
use Rattle.convert.specs.Convert.{pointer_enter, is_withdrawn, converted_code, with_converted_code, converted}
use Rattle.convert_laws.specs.Laws.{record_at, code_start, converts, byte_after, ChangesOnlyWithdrawn}
use Rattle.convert_laws.proofs.Records.{length_of_converted_code, byte_converted}
use Rattle.convert_laws.proofs.Fields.{is_converted, length_of_converted}
use Rattle.convert_laws.proofs.Accepted.{sent_back_kept}

-- ---- a code of whole records

-- byte m of it, converted
abbrev made : List ℕ → ℕ → ℕ
made code m = cond (is_withdrawn (record_at (m / 8) code)) (byte_at (pointer_enter (m / 8 + 1)) (m % 8)) (byte_at code m)

-- in a record
in_record : (code : List ℕ) (m : ℕ) → m / 8 < length code / 8 → byte_at (converted_code code) m ≡ made code m
in_record code m l =
    let e : m / 8 * 8 + m % 8 ≡ m = omega arith in
    rw e at (byte_converted code (m / 8) l (m % 8) (omega arith)) ∙ cases (is_withdrawn (record_at (m / 8) code))
  where
    cases : (b : Bool) → byte_at (cond b (pointer_enter (m / 8 + 1)) (record_at (m / 8) code)) (m % 8) ≡ cond b (byte_at (pointer_enter (m / 8 + 1)) (m % 8)) (byte_at code m)
    cases true = refl
    cases false =
        let e : m / 8 * 8 + m % 8 ≡ m = omega arith in
        get_or-take 8 (drop (m / 8 * 8) code) (m % 8) 0 (omega arith) ∙ (get_or-drop (m / 8 * 8) code (m % 8) 0 ∙ ap (byte_at code) e)

-- past the last
past_records : (code : List ℕ) (m : ℕ) → length code % 8 ≡ 0 → length code / 8 ≤ m / 8 → byte_at (converted_code code) m ≡ made code m
past_records code m e l =
    rw (
      get_or_past (converted_code code) m 0 (omega (arith, length_of_converted_code code)),
      drop_all (m / 8 * 8) code (omega arith),
      get_or_past code m 0 (omega arith),
    )

byte_of_code : (code : List ℕ) (m : ℕ) → length code % 8 ≡ 0 → byte_at (converted_code code) m ≡ made code m
byte_of_code code m e = cases (ltb (m / 8) (length code / 8)) refl
  where
    cases : (b : Bool) → ltb (m / 8) (length code / 8) ≡ b → byte_at (converted_code code) m ≡ made code m
    cases true h = in_record code m (ltb-true _ _ h)
    cases false h = past_records code m e (ltb-false _ _ h)

-- ---- a file that passes

module _ (file : List ℕ) (h : converter_refusal file ≡ 0) where
  whole_records : length (code file) % 8 ≡ 0
  unfolding length_fits
  whole_records =
      let p = fifth_passes file (fields_pass true file h) in
      let f = and_parts (eqb (u16_at (after 4 file) 1 % 8) 0) _ (passes 5 (after 4 file) p).fits in
      rw (body_length 5 (after 4 file) p) (eqb-true _ _ f.0)

  is_cut : file ≡ take (code_start file) file ++ code file
  is_cut =
      let p = fields_pass true file h in
      let n = nothing_after true file h in
      is_with_code file p n ∙ sym (cut_with_code file p n (code file))

  cut_length : length (take (code_start file) file) ≡ code_start file
  cut_length = length-take-le (code_start file) file (omega arith)

  before : (x : List ℕ) (j : ℕ) → j < code_start file → byte_at (take (code_start file) file ++ x) j ≡ byte_at file j
  before x j l =
      get_or_append_left (take (code_start file) file) x 0 j (omega (arith, cut_length)) ∙ get_or-take (code_start file) file j 0 l

  within : (x : List ℕ) (j : ℕ) → code_start file ≤ j → byte_at (take (code_start file) file ++ x) j ≡ byte_at x (j - code_start file)
  within x j l = get_or-append_right (take (code_start file) file) x (code_start file) j 0 cut_length l

  byte_passed : (j : ℕ) → byte_at (converted file) j ≡ byte_after file j
  unfolding converts
  byte_passed j = ap (λ s. byte_at s j) (is_converted file h) ∙ cases (leb (code_start file) j) refl
    where
      cases : (b : Bool) → leb (code_start file) j ≡ b → byte_at (with_converted_code file) j ≡ byte_after file j
      cases true l =
          let m = leb-true _ _ l in
          let e = ap (λ s. byte_at s j) is_cut ∙ within (code file) j m in
          rw (eq-eqb (converter_refusal file) 0 h, l, e) (within (converted_code (code file)) j m ∙ byte_of_code (code file) (j - code_start file) whole_records)
      cases false l = rw (eq-eqb (converter_refusal file) 0 h, l) (before (converted_code (code file)) j (leb-false _ _ l))

-- ---- every byte string

pub changes_only_withdrawn : ChangesOnlyWithdrawn converted
unfolding converts
changes_only_withdrawn file = cases (converter_refusal file) refl
  where
    cases : (n : ℕ) → converter_refusal file ≡ n → (length (converted file) ≡ length file) × ((j : ℕ) → byte_at (converted file) j ≡ byte_after file j)
    cases zero h = (length_of_converted file h, byte_passed file h)
    cases (suc n) h =
        let z : converter_refusal file ≡ 0 → ⊥ = λ z. omega arith in
        rw (sent_back_kept file z, ne_eqb (converter_refusal file) 0 z) (refl, λ j. refl)

length_kept : (file : List ℕ) → length (converted file) ≡ length file
length_kept file = (changes_only_withdrawn file).0

-- a byte that lies in no such record
pub byte_kept : (file : List ℕ) (j : ℕ) → converts file j ≡ false → byte_at (converted file) j ≡ byte_at file j
byte_kept file j e = rw e at ((changes_only_withdrawn file).1 j)

-- and nothing else does so: what it leaves of each byte string is said in full
pub only_one : (f : List ℕ → List ℕ) → ChangesOnlyWithdrawn f → (file : List ℕ) → f file ≡ converted file
only_one f h file =
    ext_get_or 0 (f file) (converted file) ((h file).0 ∙ sym (length_kept file)) (λ j l. (h file).1 j ∙ sym ((changes_only_withdrawn file).1 j))
