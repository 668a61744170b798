-- Document 01, 'Files and calls sent back', and document 02, Nine: for every byte string the one answer, 0 where it is accepted, else
-- the number: 1 to 9 or 14, and for the converter 1 to 9 or 15. Definitions only, in the order of the tests.
use Rattle.std.specs.Prelude.{ℕ, ◌≡◌, ◌+◌, ◌-◌, ◌/◌, Bool, true, false, not, ◌&&◌, ◌||◌, cond, List, ltb, eqb, length}
use Rattle.endian.specs.Endian.{byte_at, u16_at, u32_at}
use Rattle.file.specs.Fields.{body, rest, after, names_of, temps_of, code, counts_of, length_fits}
use Rattle.file.specs.Records.{when, first, ascending, records_refusal}

-- "names over 256 or temps over 8"
abbrev pub many_names : List ℕ → Bool
many_names c = ltb 256 (names_of c) || ltb 8 (temps_of c)

-- "no post 0, or not bits 3F800000, 00000000"
abbrev pub no_identity : List ℕ → Bool
no_identity p = ltb (length p) 8 || not (eqb (u32_at p 0) 0x3F80_0000 && eqb (u32_at p 4) 0)

-- "contents (5, 6)"
unfoldable pub contents_refusal : ℕ → List ℕ → ℕ
contents_refusal tag b = cond (eqb tag 1) (when (many_names b) 5) (cond (eqb tag 3) (when (no_identity b) 6) 0)

-- "Per field: end, tag, end in the length, length, end in the body, contents (5, 6)." The end is 1, "bytes end where a tag,
-- length or body is due"
unfoldable pub field_refusal : ℕ → List ℕ → ℕ
field_refusal tag s =
    first (when (eqb (length s) 0) 1)
    (first (when (not (eqb (byte_at s 0) tag)) 2)
    (first (when (ltb (length s) 3) 1)
    (first (when (not (length_fits tag (u16_at s 1))) 3)
    (first (when (ltb (length s) (3 + u16_at s 1)) 1)
    (contents_refusal tag (body s))))))

-- the field of a tag passes, and is taken apart into its body and what follows it
pub record Passed (tag : ℕ) (s b r : List ℕ) : Type 0 where
  pub number : 0 ≡ field_refusal tag s
  pub is_body : b ≡ body s
  pub is_rest : r ≡ rest s

-- the refusal of the field of a tag of a file, and of all five: "tags 1 to 5 in order"
abbrev pub tag_refusal : List ℕ → ℕ → ℕ
tag_refusal file tag = field_refusal tag (after (tag - 1) file)

abbrev pub fields_refusal : List ℕ → ℕ
fields_refusal file = ascending (tag_refusal file) 1 5

-- "bytes after field 5"
abbrev pub longer : List ℕ → Bool
longer file = not (eqb (length (after 5 file)) 0)

-- the five fields, "then 4, then records ascending"; "The answer is the number alone."
unfoldable pub refusal_for : Bool → List ℕ → ℕ
refusal_for for_converter file =
    first (fields_refusal file)
    (first (when (longer file) 4)
    (records_refusal for_converter (counts_of file) (code file) 0 (length (code file) / 8)))

-- in every check but the converter's
abbrev pub refusal : List ℕ → ℕ
refusal = refusal_for false

-- and in the converter's
abbrev pub converter_refusal : List ℕ → ℕ
converter_refusal = refusal_for true
