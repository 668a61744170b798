-- The ranges say of an opcode what its row says, and each opcode lies in one of them. Computed over the values of a byte; above them
-- no number has a row or a range. Assumes nothing.
use Prim.Native.Nat.{ℕ, ◌<◌, ◌≤◌}
use native.Mathlib.Nat.{zero-add}
use native.Mathlib.Omega.{arith}
use mathlib.Core.Path.{◌≡◌, refl, sym, ap, ◌∙◌}
use mathlib.Core.Bool.{Bool, true, false, cond}
use mathlib.Core.List.{List, [], ◌∷◌, map}
use lib.Dec.{leb, ltb}
use lib.ListN.{length}
use borrow.Author.Tests.{leb-true, lt-leb, ltb-true, ltb-false}
use Rattle.std.proofs.lemmas.Bool.{and_parts}
use Rattle.program.specs.Opcodes.{Row, rows, last_opcode, parts_of_row}
use Rattle.program.specs.Ranges.{Range, between, ranges, parts_of, holding, InOne, EachNext}
use Rattle.program.specs.declared.opcodes.Parts.{Parts}
use Rattle.program.proofs.Computed.{from, same}
use Rattle.program.proofs.Deciding.{up_to, nowhere, to_the_last, undecided}
use Rattle.program.proofs.Decoding.{no_row}

-- one row for each opcode
pub rows_all : length rows ≡ last_opcode
rows_all = refl

-- ---- the ranges say what the rows say

-- computed over all 256 values of a byte
pub as_before : map parts_of (from 0 256) ≡ map parts_of_row (from 0 256)
unfolding parts_of
as_before = refl

pub classified : (op : ℕ) → op < 256 → parts_of op ≡ parts_of_row op
classified = same parts_of parts_of_row 256 as_before

-- what the row of a number uses
parts_by : Row → Parts
parts_by r = record { argument = r.argument; post = r.post; choice = r.choice }

pub by_rows : (op : ℕ) → parts_of op ≡ parts_of_row op
unfolding parts_by
by_rows op = cases (ltb op 256) refl
  where
    cases : (b : Bool) → ltb op 256 ≡ b → parts_of op ≡ parts_of_row op
    cases true e = classified op (ltb-true op 256 e)
    cases false e =
        let above = ltb-false op 256 e in
        undecided op (λ l u. omega arith) ∙ sym (ap parts_by (no_row op (λ l u. omega arith)))

-- ---- in how many ranges a number lies

pub in_one : map (holding ranges) (from 0 256) ≡ map (λ op. cond (between 1 last_opcode op) 1 0) (from 0 256)
unfolding holding
in_one = refl

-- a number behind all ranges
behind : (rs : List Range) (op m : ℕ) → up_to m rs ≡ true → m < op → holding rs op ≡ 0
unfolding up_to holding
behind [] op m e l = refl
behind (r ∷ rs) op m e l =
    let b = and_parts (leb r.last m) _ e in
    let x : r.last ≤ m = leb-true _ _ b.0 in
    rw (lt-leb op r.last (omega arith), nowhere (leb r.first op)) (zero-add (holding rs op) ∙ behind rs op m b.1 l)

pub one_range : InOne
one_range op = cases (ltb op 256) refl
  where
    cases : (b : Bool) → ltb op 256 ≡ b → holding ranges op ≡ cond (between 1 last_opcode op) 1 0
    cases true e = same (holding ranges) (λ k. cond (between 1 last_opcode k) 1 0) 256 in_one op (ltb-true op 256 e)
    cases false e =
        let above = ltb-false op 256 e in
        rw (lt-leb op last_opcode (omega arith), nowhere (leb 1 op)) (behind ranges op last_opcode to_the_last.0 (omega arith))

-- ---- single opcodes

-- what bytes 2-3 of 44 and 45 hold is no post
pub each_next : EachNext
unfolding parts_of
each_next = (refl, refl)

-- a choice is one byte
small : map (λ op. leb (parts_of op).choice 255) (from 0 256) ≡ map (λ op. true) (from 0 256)
unfolding parts_of
small = refl

pub choice_fits : (op : ℕ) → (parts_of op).choice ≤ 255
choice_fits op = cases (ltb op 256) refl
  where
    cases : (b : Bool) → ltb op 256 ≡ b → (parts_of op).choice ≤ 255
    cases true e = leb-true _ 255 (same (λ k. leb (parts_of k).choice 255) (λ k. true) 256 small op (ltb-true op 256 e))
    cases false e =
        let above = ltb-false op 256 e in
        rw (undecided op (λ l u. omega arith)) (omega arith)
