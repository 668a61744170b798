-- The decision over ranges: an opcode is decided by the one range that it lies in. Assumes nothing.
use Prim.Native.Nat.{ℕ, zero, suc, ◌<◌, ◌≤◌}
use native.Mathlib.Omega.{arith}
use mathlib.Core.Path.{◌≡◌, refl, sym, ◌∙◌, subst}
use mathlib.Core.Bool.{Bool, true, false, ◌&&◌}
use mathlib.Core.List.{List, [], ◌∷◌}
use lib.Dec.{ltb, leb}
use lib.ListN.{get_or, length}
use borrow.Author.Tests.{le-leb, lt-leb, ltb-true, leb-true}
use Rattle.program.specs.Opcodes.{last_opcode}
use Rattle.program.specs.Ranges.{Range, range, nothing, ranges, parts_in, parts_of, Decided, Undecided}
use Rattle.std.proofs.lemmas.Bool.{and_parts}
use Rattle.std.proofs.lemmas.List.{get_or_default}

-- a range without an opcode
abbrev none : Range
none = range 1 0 (λ op. nothing)

-- the k-th range
abbrev pub at : List Range → ℕ → Range
at rs k = get_or rs k none

-- each range begins behind a number, and the next behind its last
pub ascending : ℕ → List Range → Bool
ascending a [] = true
ascending a (r ∷ rs) = ltb a r.first && (leb r.first r.last && ascending r.last rs)

-- no range goes beyond a number
unfoldable pub up_to : ℕ → List Range → Bool
up_to m [] = true
up_to m (r ∷ rs) = leb r.last m && up_to m rs

pub nowhere : (x : Bool) → (x && false) ≡ false
nowhere true = refl
nowhere false = refl

here : (r : Range) (rs : List Range) (op : ℕ) → r.first ≤ op → op ≤ r.last → parts_in (r ∷ rs) op ≡ r.uses op
here r rs op f l = rw (le-leb _ _ f, le-leb _ _ l)

past : (r : Range) (rs : List Range) (op : ℕ) → r.last < op → parts_in (r ∷ rs) op ≡ parts_in rs op
past r rs op l = rw (lt-leb _ _ l, nowhere (leb r.first op))

beyond : (rs : List Range) (k a : ℕ) → ascending a rs ≡ true → k < length rs → a < (at rs k).first
unfolding ascending
beyond [] k a e l = absurd (omega arith)
beyond (r ∷ rs) zero a e l = ltb-true _ _ (and_parts _ _ e).0
beyond (r ∷ rs) (suc k) a e l =
    let b = and_parts (ltb a r.first) _ e in
    let d = and_parts (leb r.first r.last) _ b.1 in
    let x : a < r.first = ltb-true _ _ b.0 in
    let y : r.first ≤ r.last = leb-true _ _ d.0 in
    let z : r.last < (at rs k).first = beyond rs k r.last d.1 (omega arith) in
    omega arith

-- in ascending ranges, the k-th decides what lies in it
found : (rs : List Range) (k op a : ℕ) → ascending a rs ≡ true → k < length rs → (at rs k).first ≤ op → op ≤ (at rs k).last
    → parts_in rs op ≡ (at rs k).uses op
unfolding ascending
found [] k op a e l f g = absurd (omega arith)
found (r ∷ rs) zero op a e l f g = here r rs op f g
found (r ∷ rs) (suc k) op a e l f g =
    let d = and_parts (leb r.first r.last) _ (and_parts (ltb a r.first) _ e).1 in
    let z : r.last < (at rs k).first = beyond rs k r.last d.1 (omega arith) in
    past r rs op (omega arith) ∙ found rs k op r.last d.1 (omega arith) f g

-- what lies behind all ranges uses nothing
behind : (rs : List Range) (op m : ℕ) → up_to m rs ≡ true → m < op → parts_in rs op ≡ nothing
unfolding up_to
behind [] op m e l = refl
behind (r ∷ rs) op m e l =
    let b = and_parts (leb r.last m) _ e in
    let x : r.last ≤ m = leb-true _ _ b.0 in
    past r rs op (omega arith) ∙ behind rs op m b.1 l

-- the ranges ascend from 1 on, and the last opcode is in the last of them
pub all_ascending : ascending 0 ranges ≡ true
unfolding ascending
all_ascending = refl

pub to_the_last : (up_to last_opcode ranges ≡ true) × ((at ranges 10).last ≡ last_opcode)
unfolding up_to
to_the_last = (refl, refl)

pub decided : Decided
unfolding parts_of
decided k d l op f g =
    let same : get_or ranges k d ≡ at ranges k = get_or_default ranges k d none l in
    subst (λ (r : Range). r.first ≤ op → op ≤ r.last → parts_in ranges op ≡ r.uses op) (sym same) (found ranges k op 0 all_ascending l) f g

-- what is no opcode uses nothing
pub undecided : Undecided
unfolding parts_of
undecided zero n = refl
undecided (suc k) n =
    let m : suc k ≤ last_opcode → ⊥ = n (omega arith) in
    behind ranges (suc k) last_opcode to_the_last.0 (omega arith)
