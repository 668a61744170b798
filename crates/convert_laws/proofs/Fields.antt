-- The fields of a converted file: the first four are those of the file, and the fifth is its code, converted. Assumes nothing.
use Prim.Native.Nat.{ℕ, ◌+◌, ◌≤◌}
use native.Mathlib.Omega.{arith}
use mathlib.Core.Path.{◌≡◌, refl, sym, ◌∙◌, ap}
use mathlib.Core.Bool.{true, not}
use mathlib.Core.List.{List, [], ◌++◌}
use lib.Dec.{eqb}
use lib.ListN.{length, take, length-append}
use lib.Seq.{length-take-le}
use borrow.Author.Tests.{eqb-true, eq-eqb, not-false}
use Rattle.std.proofs.lemmas.List.{take_at, drop_at, drop-drop, get_or_append_left, get_or-take}
use Rattle.endian.specs.Endian.{byte_at, u16_at}
use Rattle.file.specs.Fields.{named, body, rest, after, counts, consts, posts, hashes, code}
use Rattle.file.specs.Records.{when}
use Rattle.file.specs.Refusals.{contents_refusal, field_refusal, fields_refusal, converter_refusal}
use Rattle.file.proofs.Ascending.{of_left}
use Rattle.file.proofs.Firsts.{neither, unmet, passes}
use Rattle.file.proofs.Cuts.{body_there, by_contents}
use Rattle.convert.proofs.Parts.{refitted, is_named, has_head, body_length, with_code, first_passes, second_passes, third_passes, fourth_passes, fifth_passes, cut_with_code, with_code_length, fields_pass, nothing_after}
use Rattle.convert.specs.Convert.{converted_code, with_converted_code, converted}
use Rattle.convert_laws.proofs.Records.{number_of_part, length_of_converted_code}

-- ---- one field

-- the tag of a field that passes
is_tag : (tag : ℕ) (s : List ℕ) → field_refusal tag s ≡ 0 → byte_at s 0 ≡ tag
unfolding field_refusal
is_tag tag s h =
    let a = neither (when (eqb (length s) 0) 1) _ h in
    let b = neither (when (not (eqb (byte_at s 0) tag)) 2) _ a.1 in
    eqb-true _ _ (not-false _ (unmet _ 1 b.0))

-- a field of which the body has the length that is named
module _ (s b t : List ℕ) (h : 3 ≤ length s) (e : length b ≡ u16_at s 1) where
  head_length : length (take 3 s) ≡ 3
  head_length = length-take-le 3 s h

  tag_kept : byte_at (refitted s b t) 0 ≡ byte_at s 0
  tag_kept = get_or_append_left (take 3 s) (b ++ t) 0 0 (omega (arith, head_length)) ∙ get_or-take 3 s 0 0 (omega arith)

  size_kept : u16_at (refitted s b t) 1 ≡ u16_at s 1
  size_kept = of_left (take 3 s) (b ++ t) 2 1 (omega (arith, head_length)) ∙ number_of_part 3 0 s 2 1 (omega arith)

  long : 3 + u16_at s 1 ≤ length (refitted s b t)
  long = rw (length-append (take 3 s) (b ++ t), length-append b t, head_length) (omega arith)

  named_kept : named (refitted s b t) ≡ u16_at s 1
  named_kept = let l = long in is_named (refitted s b t) (omega arith) ∙ size_kept

  rest_refitted : rest (refitted s b t) ≡ t
  unfolding rest
  rest_refitted =
      rw (
        named_kept,
        ← drop-drop (u16_at s 1) 3 (refitted s b t),
        drop_at (take 3 s) (b ++ t) 3 head_length,
      )
      (drop_at b t (u16_at s 1) e)

  body_refitted : body (refitted s b t) ≡ b
  unfolding body
  body_refitted =
      rw (named_kept, drop_at (take 3 s) (b ++ t) 3 head_length)
      (take_at b t (u16_at s 1) e)

  -- it passes where the field that it is made of passes
  refitted_passes : (tag : ℕ) → field_refusal tag s ≡ 0 → contents_refusal tag b ≡ 0 → field_refusal tag (refitted s b t) ≡ 0
  refitted_passes tag p c =
      let n = u16_at s 1 in
      let q = sym size_kept in
      by_contents (refitted s b t) n q long tag (passes tag s p).fits (tag_kept ∙ is_tag tag s p)
      ∙ (ap (contents_refusal tag) (body_there (refitted s b t) n q long ∙ body_refitted)
      ∙ c)

-- what is known of a field that passes with other bytes after it
module _ (tag : ℕ) (s : List ℕ) (p : field_refusal tag s ≡ 0) (t : List ℕ) where
  body_kept : body (refitted s (body s) t) ≡ body s
  body_kept = body_refitted s (body s) t (has_head tag s p) (body_length tag s p)

  rest_kept : rest (refitted s (body s) t) ≡ t
  rest_kept = rest_refitted s (body s) t (has_head tag s p) (body_length tag s p)

  passes_still : field_refusal tag (refitted s (body s) t) ≡ 0
  passes_still = refitted_passes s (body s) t (has_head tag s p) (body_length tag s p) tag p (passes tag s p).contents

-- ---- the five fields of a file

-- of which all pass
module _ (file : List ℕ) (h : fields_refusal file ≡ 0) where
  -- the fields of the file with another code of the same length
  module _ (c : List ℕ) (e : length c ≡ length (code file)) where
    abbrev tail_4 : List ℕ
    tail_4 = refitted (after 4 file) c []

    abbrev tail_3 : List ℕ
    tail_3 = refitted (after 3 file) (hashes file) tail_4

    abbrev tail_2 : List ℕ
    tail_2 = refitted (after 2 file) (posts file) tail_3

    abbrev tail_1 : List ℕ
    tail_1 = refitted (after 1 file) (consts file) tail_2

    size : length c ≡ u16_at (after 4 file) 1
    size = e ∙ body_length 5 (after 4 file) (fifth_passes file h)

    after_1 : after 1 (with_code file c) ≡ tail_1
    after_1 = rest_kept 1 file (first_passes file h) tail_1

    after_2 : after 2 (with_code file c) ≡ tail_2
    after_2 = ap rest after_1 ∙ rest_kept 2 (after 1 file) (second_passes file h) tail_2

    after_3 : after 3 (with_code file c) ≡ tail_3
    after_3 = ap rest after_2 ∙ rest_kept 3 (after 2 file) (third_passes file h) tail_3

    after_4 : after 4 (with_code file c) ≡ tail_4
    after_4 = ap rest after_3 ∙ rest_kept 4 (after 3 file) (fourth_passes file h) tail_4

    after_5 : after 5 (with_code file c) ≡ []
    after_5 = ap rest after_4 ∙ rest_refitted (after 4 file) c [] (has_head 5 (after 4 file) (fifth_passes file h)) size

    counts_with_code : counts (with_code file c) ≡ counts file
    counts_with_code = body_kept 1 file (first_passes file h) tail_1

    consts_with_code : consts (with_code file c) ≡ consts file
    consts_with_code = ap body after_1 ∙ body_kept 2 (after 1 file) (second_passes file h) tail_2

    posts_with_code : posts (with_code file c) ≡ posts file
    posts_with_code = ap body after_2 ∙ body_kept 3 (after 2 file) (third_passes file h) tail_3

    hashes_with_code : hashes (with_code file c) ≡ hashes file
    hashes_with_code = ap body after_3 ∙ body_kept 4 (after 3 file) (fourth_passes file h) tail_4

    code_with_code : code (with_code file c) ≡ c
    code_with_code = ap body after_4 ∙ body_refitted (after 4 file) c [] (has_head 5 (after 4 file) (fifth_passes file h)) size

    -- they pass
    fifth_refitted : field_refusal 5 tail_4 ≡ 0
    unfolding contents_refusal
    fifth_refitted = refitted_passes (after 4 file) c [] (has_head 5 (after 4 file) (fifth_passes file h)) size 5 (fifth_passes file h) refl

    with_code_passes : fields_refusal (with_code file c) ≡ 0
    with_code_passes =
        rw (
          passes_still 1 file (first_passes file h) tail_1,
          ap (field_refusal 2) after_1 ∙ passes_still 2 (after 1 file) (second_passes file h) tail_2,
          ap (field_refusal 3) after_2 ∙ passes_still 3 (after 2 file) (third_passes file h) tail_3,
          ap (field_refusal 4) after_3 ∙ passes_still 4 (after 3 file) (fourth_passes file h) tail_4,
          ap (field_refusal 5) after_4 ∙ fifth_refitted,
        )

-- ---- what the converter leaves of a file that passes

module _ (file : List ℕ) (h : converter_refusal file ≡ 0) where
  pub is_converted : converted file ≡ with_converted_code file
  unfolding converted
  is_converted = rw (eq-eqb (converter_refusal file) 0 h)

  passed : fields_refusal file ≡ 0
  passed = fields_pass true file h

  ends : after 5 file ≡ []
  ends = nothing_after true file h

  abbrev made : List ℕ
  made = converted_code (code file)

  made_length : length made ≡ length (code file)
  made_length = length_of_converted_code (code file)

  pub converted_with_code : converted file ≡ with_code file made
  converted_with_code = is_converted ∙ cut_with_code file passed ends made

  pub length_of_converted : length (converted file) ≡ length file
  length_of_converted = ap length converted_with_code ∙ with_code_length file passed ends made made_length

  pub counts_of_converted : counts (converted file) ≡ counts file
  counts_of_converted = ap counts converted_with_code ∙ counts_with_code file passed made made_length

  pub consts_of_converted : consts (converted file) ≡ consts file
  consts_of_converted = ap consts converted_with_code ∙ consts_with_code file passed made made_length

  pub posts_of_converted : posts (converted file) ≡ posts file
  posts_of_converted = ap posts converted_with_code ∙ posts_with_code file passed made made_length

  pub hashes_of_converted : hashes (converted file) ≡ hashes file
  hashes_of_converted = ap hashes converted_with_code ∙ hashes_with_code file passed made made_length

  pub code_of_converted : code (converted file) ≡ converted_code (code file)
  code_of_converted = ap code converted_with_code ∙ code_with_code file passed made made_length

  pub fields_of_converted : fields_refusal (converted file) ≡ 0
  fields_of_converted = ap fields_refusal converted_with_code ∙ with_code_passes file passed made made_length

  pub nothing_after_converted : after 5 (converted file) ≡ []
  nothing_after_converted = ap (after 5) converted_with_code ∙ after_5 file passed made made_length
