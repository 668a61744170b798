-- How far the converter has come in a code. Assumes nothing.
use Prim.Native.Nat.{ℕ, suc, ◌+◌, ◌-◌, ◌*◌, ◌/◌, ◌<◌, ◌≤◌}
use native.Mathlib.Omega.{arith}
use mathlib.Core.Path.{◌≡◌, refl, sym, ◌∙◌, ap}
use mathlib.Core.Bool.{Bool, true, false, cond}
use mathlib.Core.List.{List, ◌++◌}
use lib.ListN.{length, take, drop, length-drop}
use lib.Seq.{length-take-le, drop-drop}
use borrow.Rule.Slice.PartMut.{put_mid}
use Rattle.std.proofs.lemmas.Slice.{take-put_mid, drop-put_mid}
use Rattle.std.proofs.lemmas.List.{append_assoc, take-append-drop}
use Rattle.convert.specs.Convert.{is_withdrawn, pointer_enter, converted_record, converted_records, converted_code, withdrawn_records, withdrawn_in}

-- the record at position i is the next, and `records` of those before it were converted
pub record Reached (old now : List ℕ) (i records : ℕ) : Type 0 where
  pub few : records ≤ i
  pub code : converted_code old ≡ take (i * 8) now ++ converted_records i (length old / 8 - i) (drop (i * 8) now)
  pub count : withdrawn_in old ≡ records + withdrawn_records (length old / 8 - i) (drop (i * 8) now)

pub begun : (old : List ℕ) → Reached old old 0 0
begun old =
    let a : 0 * 8 ≡ 0 = omega arith in
    let k : length old / 8 - 0 ≡ length old / 8 = omega arith in
    record { few = omega arith; code = rw (a, k) refl; count = rw (a, k) (omega arith) }

-- a record has 8 bytes, converted or not
pub eight : (i : ℕ) (x : List ℕ) → length x ≡ 8 → length (converted_record i x) ≡ 8
eight i x h = by_kind (is_withdrawn x)
  where
    by_kind : (b : Bool) → length (cond b (pointer_enter (i + 1)) x) ≡ 8
    by_kind true = refl
    by_kind false = h

module _ {old now : List ℕ} {i records : ℕ} (r : Reached old now i records) (s : length now ≡ length old) (l : i < length old / 8) where
  -- the record, and the code with it converted
  abbrev here : List ℕ
  here = take 8 (drop (i * 8) now)

  abbrev next : List ℕ
  next = put_mid (i * 8) 8 now (converted_record i here)

  long : length (converted_record i here) ≡ 8
  long = eight i here (length-take-le 8 (drop (i * 8) now) (omega (arith, length-drop (i * 8) now)))

  turn : length old / 8 - i ≡ suc (length old / 8 - (i + 1))
  turn = omega arith

  on : drop ((i + 1) * 8) next ≡ drop 8 (drop (i * 8) now)
  on =
      let e : (i + 1) * 8 ≡ i * 8 + 8 = omega arith in
      drop-put_mid (i * 8) 8 now (converted_record i here) ((i + 1) * 8) (omega arith) (omega arith) long ∙ ap (λ n. drop n now) e ∙ sym (drop-drop 8 (i * 8) now)

  pub step : (n : ℕ) → n ≡ records + cond (is_withdrawn here) 1 0 → Reached old next (i + 1) n
  unfolding converted_records withdrawn_records
  step n e =
      let k = length old / 8 - (i + 1) in
      let front = take-put_mid (i * 8) 8 now (converted_record i here) ((i + 1) * 8) (omega (arith, long)) (omega arith) in
      record {
        few = few_more (is_withdrawn here) e;
        code = rw (front, on) ((rw turn at r.code) ∙ sym (append_assoc (take (i * 8) now) (converted_record i here) (converted_records (i + 1) k (drop 8 (drop (i * 8) now)))));
        count = rw (e, on) ((rw turn at r.count) ∙ omega arith);
      }
    where
      few_more : (b : Bool) → n ≡ records + cond b 1 0 → n ≤ i + 1
      few_more true q = let f = r.few in omega arith
      few_more false q = let f = r.few in omega arith

-- every record was met
module _ {old now : List ℕ} {i records : ℕ} (r : Reached old now i records) (e : length old / 8 ≤ i) where
  pub ended : converted_code old ≡ now
  unfolding converted_records
  ended =
      let z : length old / 8 - i ≡ 0 = omega arith in
      (rw z at r.code) ∙ take-append-drop (i * 8) now

  pub counted : withdrawn_in old ≡ records
  unfolding withdrawn_records
  counted = let z : length old / 8 - i ≡ 0 = omega arith in (rw z at r.count) ∙ omega arith
