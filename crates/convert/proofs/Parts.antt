-- The parts of a file that passes: its fields, and what stands before its code, the last of them. Assumes nothing.
use Prim.Native.Nat.{ℕ, ◌+◌, ◌-◌, ◌%◌, ◌≤◌}
use native.Mathlib.Omega.{arith}
use mathlib.Core.Path.{◌≡◌, refl, sym, ◌∙◌, ap}
use mathlib.Core.Bool.{Bool, false, not}
use mathlib.Core.List.{List, [], ◌∷◌, ◌++◌}
use lib.Dec.{eqb}
use lib.ListN.{length, take, drop, length-append, length-drop}
use lib.Seq.{length-take-le}
use borrow.Author.Tests.{eqb-true, leb-true, not-false, le-ltb}
use Rattle.std.proofs.lemmas.Bool.{and_parts}
use Rattle.std.proofs.lemmas.List.{take_at, drop_at, drop-drop, take-append-drop, append_assoc, append-nil}
use Rattle.endian.specs.Endian.{u16_at}
use Rattle.file.specs.Fields.{named, body, rest, after, counts, consts, posts, hashes, code, length_fits}
use Rattle.file.specs.Records.{when}
use Rattle.file.specs.Refusals.{field_refusal, tag_refusal, fields_refusal, longer, refusal_for}
use Rattle.file.proofs.Firsts.{neither, unmet, passes}
use Rattle.file.proofs.Ascending.{each}

-- ---- one field

-- the field at the head of some bytes, with another body and other bytes after it
abbrev pub refitted : List ℕ → List ℕ → List ℕ → List ℕ
refitted s b t = take 3 s ++ (b ++ t)

-- the length that a head of three bytes names
pub is_named : (s : List ℕ) → 3 ≤ length s → named s ≡ u16_at s 1
unfolding named
is_named s h = rw (le-ltb (length s) 3 h)

-- a field that passes is its head, its body and what follows it
module _ (tag : ℕ) (s : List ℕ) (p : field_refusal tag s ≡ 0) where
  there : 3 + u16_at s 1 ≤ length s
  there = (passes tag s p).there

  pub has_head : 3 ≤ length s
  has_head = let h = there in omega arith

  pub body_length : length (body s) ≡ u16_at s 1
  unfolding body
  body_length =
      rw (is_named s has_head)
      (length-take-le (u16_at s 1) (drop 3 s) (let h = there in rw (length-drop 3 s) (omega arith)))

  parted : s ≡ refitted s (body s) (rest s)
  unfolding body rest
  parted =
      rw (is_named s has_head, ← drop-drop (u16_at s 1) 3 s, take-append-drop (u16_at s 1) (drop 3 s), take-append-drop 3 s)

-- ---- the five fields of a file

-- a file with another code
abbrev pub with_code : List ℕ → List ℕ → List ℕ
with_code file c =
    refitted file (counts file)
    (refitted (after 1 file) (consts file)
    (refitted (after 2 file) (posts file)
    (refitted (after 3 file) (hashes file)
    (refitted (after 4 file) c []))))

-- all of it but its code
abbrev front : List ℕ → List ℕ
front file =
    refitted file (counts file)
    (refitted (after 1 file) (consts file)
    (refitted (after 2 file) (posts file)
    (refitted (after 3 file) (hashes file)
    (take 3 (after 4 file)))))

joined : (s b t c : List ℕ) → refitted s b t ++ c ≡ refitted s b (t ++ c)
joined s b t c = append_assoc (take 3 s) (b ++ t) c ∙ ap (λ r. take 3 s ++ r) (append_assoc b t c)

front_joined : (file c : List ℕ) → front file ++ c ≡ with_code file c
front_joined file c =
    rw (
      joined file (counts file) _ c,
      joined (after 1 file) (consts file) _ c,
      joined (after 2 file) (posts file) _ c,
      joined (after 3 file) (hashes file) _ c,
      append-nil c,
    )

-- a file of which the five fields pass
module _ (file : List ℕ) (h : fields_refusal file ≡ 0) where
  pub first_passes : field_refusal 1 file ≡ 0
  first_passes = each (tag_refusal file) 5 1 0 h (omega arith)

  pub second_passes : field_refusal 2 (after 1 file) ≡ 0
  second_passes = each (tag_refusal file) 5 1 1 h (omega arith)

  pub third_passes : field_refusal 3 (after 2 file) ≡ 0
  third_passes = each (tag_refusal file) 5 1 2 h (omega arith)

  pub fourth_passes : field_refusal 4 (after 3 file) ≡ 0
  fourth_passes = each (tag_refusal file) 5 1 3 h (omega arith)

  pub fifth_passes : field_refusal 5 (after 4 file) ≡ 0
  fifth_passes = each (tag_refusal file) 5 1 4 h (omega arith)

  -- nothing follows them
  module _ (n : after 5 file ≡ []) where
    pub is_with_code : file ≡ with_code file (code file)
    is_with_code =
        parted 1 file first_passes
        ∙ ap (refitted file (counts file)) (parted 2 (after 1 file) second_passes
        ∙ ap (refitted (after 1 file) (consts file)) (parted 3 (after 2 file) third_passes
        ∙ ap (refitted (after 2 file) (posts file)) (parted 4 (after 3 file) fourth_passes
        ∙ ap (refitted (after 3 file) (hashes file)) (parted 5 (after 4 file) fifth_passes
        ∙ ap (refitted (after 4 file) (code file)) n))))

    is_front : file ≡ front file ++ code file
    is_front = is_with_code ∙ sym (front_joined file (code file))

    lengths : length file ≡ length (front file) + length (code file)
    lengths = ap length is_front ∙ length-append (front file) (code file)

    pub cut_with_code : (c : List ℕ) → take (length file - length (code file)) file ++ c ≡ with_code file c
    cut_with_code c =
        let e : length (front file) ≡ length file - length (code file) = omega (arith, lengths) in
        let q = ap (take (length file - length (code file))) is_front ∙ take_at (front file) (code file) (length file - length (code file)) e in
        ap (λ x. x ++ c) q ∙ front_joined file c

    pub with_code_length : (c : List ℕ) → length c ≡ length (code file) → length (with_code file c) ≡ length file
    with_code_length c e = ap length (sym (front_joined file c)) ∙ (length-append (front file) c ∙ omega (arith, e, lengths))

-- ---- a file that passes

none : (s : List ℕ) → not (eqb (length s) 0) ≡ false → s ≡ []
none [] h = refl
none (x ∷ s) h = let z = eqb-true (length (x ∷ s)) 0 (not-false _ h) in absurd (omega arith)

module _ (w : Bool) (file : List ℕ) (h : refusal_for w file ≡ 0) where
  pub fields_pass : fields_refusal file ≡ 0
  unfolding refusal_for
  fields_pass = (neither (fields_refusal file) _ h).0

  pub nothing_after : after 5 file ≡ []
  unfolding refusal_for
  nothing_after =
      let a = neither (fields_refusal file) _ h in
      let b = neither (when (longer file) 4) _ a.1 in
      none (after 5 file) (unmet (longer file) 3 b.0)

-- the code is the end of the file
pub record IsLast (file : List ℕ) : Type 0 where
  pub short : length (code file) ≤ 32768
  pub within : length (code file) ≤ length file
  pub last : drop (length file - length (code file)) file ≡ code file

pub code_is_last : (w : Bool) (file : List ℕ) → refusal_for w file ≡ 0 → IsLast file
unfolding length_fits
code_is_last w file h =
    let f = fields_pass w file h in
    let p = fifth_passes file f in
    let n = nothing_after w file h in
    let e = lengths file f n in
    let fits = leb-true _ _ (and_parts (eqb (u16_at (after 4 file) 1 % 8) 0) _ (passes 5 (after 4 file) p).fits).1 in
    let size = body_length 5 (after 4 file) p in
    let start : length (front file) ≡ length file - length (code file) = omega (arith, e) in
    record {
      short = omega arith;
      within = omega (arith, e);
      last = ap (drop (length file - length (code file))) (is_front file f n) ∙ drop_at (front file) (code file) (length file - length (code file)) start;
    }
