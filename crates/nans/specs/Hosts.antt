-- A lens that is moved between two hosts does not tell them apart by the bits of a NaN, by EqHash or otherwise. Two calls that differ
-- in nothing but these. Definitions only; the law is `laws::same_on_hosts` (src/laws.rt).
use Rattle.std.specs.Prelude.{ℕ, ◌<◌, ◌^◌, Bool, true, ◌≡◌, length, get_or}
use Rattle.numeric.specs.Numbers.{is_nan}
use Rattle.eval.specs.Machine.{Cells}
use Rattle.vm.specs.Call.{Brought, call_of}
use Rattle.vm.specs.Account.{After}
use Rattle.vm.specs.Called.{called, paid_in}
use Rattle.nans.specs.Stored.{stored_to}

-- ---- two hosts

-- a NaN's 32 bits
pub record Nan (n : ℕ) : Type 0 where
  pub short : n < 2 ^ 32
  pub is : is_nan n ≡ true

-- two values of a cell of some kind: the same, or of a float cell two NaNs
pub data Alike (kind x y : ℕ) : Type 0 where
  same : x ≡ y → Alike kind x y
  nans : kind ≡ 1 → Nan x → Nan y → Alike kind x y

-- cells that differ in nothing but the bits of NaNs in float cells
pub record AlikeCells (a b : Cells) : Type 0 where
  pub kinds : b.kinds ≡ a.kinds
  pub count : length b.values ≡ length a.values
  pub values : (i : ℕ) → Alike (get_or a.kinds i 0) (get_or a.values i 0) (get_or b.values i 0)

-- the same call with other cells, context cells and `this`
abbrev pub elsewhere : Cells → Cells → ℕ → Brought → Brought
elsewhere cells context this b =
    let l = b.lent in
    let t = b.terms in
    record {
      file = b.file;
      lent = record { cells = cells; stack = l.stack; loops = l.loops; handlers = l.handlers };
      context = context;
      terms = record { this = this; step_limit = t.step_limit; loop_limit = t.loop_limit; house_limit = t.house_limit };
    }

-- ---- what is claimed

-- two answers: the same account or refusal and the same lent stores, with the same cells but for those that were not stored to
pub record SameBut (stored : ℕ → Bool) (here there : After) : Type 0 where
  pub reply : there.reply ≡ here.reply
  pub stack : there.lent.stack ≡ here.lent.stack
  pub loops : there.lent.loops ≡ here.lent.loops
  pub handlers : there.lent.handlers ≡ here.lent.handlers
  pub cells : AlikeCells here.lent.cells there.lent.cells
  pub equal : (i : ℕ) → stored i ≡ true → get_or there.lent.cells.values i 0 ≡ get_or here.lent.cells.values i 0

-- every call, accepted or not: no program can tell the two hosts apart
abbrev pub SameOnHosts : Type 0
SameOnHosts = (b : Brought) (cells context : Cells) (this : ℕ)
    → AlikeCells b.lent.cells cells → AlikeCells b.context context → Alike 1 b.terms.this this
    → SameBut (stored_to (call_of b) (paid_in b)) (called b) (called (elsewhere cells context this b))
