-- Document 01, 'The file': five fields, and the tables that they hold. Definitions only.
use Rattle.std.specs.Prelude.{ℕ, zero, suc, ◌+◌, ◌-◌, ◌*◌, ◌/◌, ◌%◌, Bool, ◌&&◌, cond, List, ltb, leb, eqb, length, take, drop}
use Rattle.endian.specs.Endian.{u16_at}
use Rattle.file.specs.declared.records.Counts.{Counts}

-- "Five fields, tags 1 to 5 in order, each once: one-byte tag, two-byte length, body."
-- The length that the field at the head of some bytes names; 0 where the bytes end in it
unfoldable pub named : List ℕ → ℕ
named s = cond (ltb (length s) 3) 0 (u16_at s 1)

-- the body of the field at the head of some bytes
unfoldable pub body : List ℕ → List ℕ
body s = take (named s) (drop 3 s)

-- what follows that field
unfoldable pub rest : List ℕ → List ℕ
rest s = drop (3 + named s) s

-- the bytes after the first k fields of a file
abbrev pub after : ℕ → List ℕ → List ℕ
after zero file = file
after (suc k) file = rest (after k file)

-- the body of the field of a tag, and the five by their names
abbrev pub body_of : ℕ → List ℕ → List ℕ
body_of tag file = body (after (tag - 1) file)

abbrev pub counts : List ℕ → List ℕ
counts = body_of 1

abbrev pub consts : List ℕ → List ℕ
consts = body_of 2

abbrev pub posts : List ℕ → List ℕ
posts = body_of 3

abbrev pub hashes : List ℕ → List ℕ
hashes = body_of 4

abbrev pub code : List ℕ → List ℕ
code = body_of 5

-- "1. Counts, 4 bytes: names u16 (0 to 256), temps u16 (0 to 8)."
abbrev pub names_of : List ℕ → ℕ
names_of c = u16_at c 0

abbrev pub temps_of : List ℕ → ℕ
temps_of c = u16_at c 2

-- how many entries each table has: "Constants, 4 bytes each", "Posts, 8 bytes each", "Hashes, 8 bytes each"
abbrev pub entries : List ℕ → List ℕ → List ℕ → List ℕ → Counts
entries counts consts posts hashes = record {
  names = names_of counts;
  temps = temps_of counts;
  consts = length consts / 4;
  posts = length posts / 8;
  hashes = length hashes / 8;
}

abbrev pub counts_of : List ℕ → Counts
counts_of file = entries (counts file) (consts file) (posts file) (hashes file)

-- a whole count of entries, and at most so many
abbrev pub whole : ℕ → ℕ → ℕ → Bool
whole size most n = eqb (n % size) 0 && leb n (size * most)

-- the lengths that a field may have; any other is a "length not a whole count of entries, or over the maximum (field 1: not 4)"
unfoldable pub length_fits : ℕ → ℕ → Bool
length_fits tag n =
    cond (eqb tag 1) (eqb n 4)
    (cond (eqb tag 2) (whole 4 4096 n)  -- constants
    (cond (eqb tag 3) (whole 8 1024 n)  -- posts
    (cond (eqb tag 4) (whole 8 256 n)  -- hashes
    (whole 8 4096 n))))  -- records
