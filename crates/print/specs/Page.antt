-- A page that a text is put together in: its bytes, and how many of them are used. Definitions only.
use Rattle.std.specs.Prelude.{ℕ, ◌+◌, ◌≤◌, ◌≡◌, cond, List, [], ◌∷◌, ltb, length, set}

pub record Page : Type 0 where
  pub bytes : List ℕ
  pub end : ℕ

abbrev pub page_of : List ℕ → ℕ → Page
page_of bytes end = record { bytes = bytes; end = end }

-- a byte put after what is used; where there is no room nothing changes
unfoldable pub with : Page → ℕ → Page
with p b =
    cond (ltb p.end (length p.bytes)) (page_of (set p.bytes p.end b) (p.end + 1)) p

-- a text put, byte after byte
unfoldable pub written : Page → List ℕ → Page
written p [] = p
written p (b ∷ bs) = written (with p b) bs

-- ---- what a text leaves of any page

-- as many bytes; no more of them used than there are; and where it has room, so many more used as it is long
pub record Keeps (p : Page) (s : List ℕ) : Type 0 where
  pub as_many : length (written p s).bytes ≡ length p.bytes
  pub within : p.end ≤ length p.bytes → (written p s).end ≤ length p.bytes
  pub more : p.end + length s ≤ length p.bytes → (written p s).end ≡ p.end + length s

abbrev pub KeepsPage : Type 0
KeepsPage = (p : Page) (s : List ℕ) → Keeps p s

-- a text that is as long as an empty page is all of it
abbrev pub Fills : Type 0
Fills = (bytes s : List ℕ) → length s ≡ length bytes → (written (page_of bytes 0) s).bytes ≡ s
