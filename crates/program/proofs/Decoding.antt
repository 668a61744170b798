-- What each arm of a `match` on an opcode knows of its row, and that every row has an instruction. Assumes nothing.
use Prim.Native.Nat.{ℕ, zero, suc, ◌+◌, ◌<◌, ◌≤◌}
use native.Mathlib.Omega.{arith}
use mathlib.Core.Path.{◌≡◌, refl, sym, ◌∙◌, ap}
use mathlib.Core.Bool.{Bool, true, false, not, cond, ◌&&◌}
use mathlib.Core.List.{List, [], ◌∷◌}
use mathlib.Core.Logic.{inl, inr}
use Rattle.std.proofs.lemmas.Bool.{and_parts}
use lib.Dec.{eqb}
use lib.ListN.{length, get_or, get_or-eq_default}
use borrow.Author.Tests.{eq-eqb, ne_eqb}
use denote.Struct.Field.{Field}
use denote.Enum.Declared.{Choice}
use Rattle.program.specs.contracts.instr.Instr.{the_parts as parts, as_values}
use Rattle.program.specs.Instructions.{decoded, Listed, LookedFor}
use Rattle.program.specs.Opcodes.{Row, made, none, rows, row_of, last_opcode, const_op, store_var_op, store_temp_op, halt_op, end_op}
use Rattle.program.specs.declared.instr.Instr.{Instr}

-- opcodes without a row
pub no_row : (op : ℕ) → (1 ≤ op → op ≤ last_opcode → ⊥) → row_of op ≡ none
no_row zero d = refl
no_row (suc n) d = get_or-eq_default (none ∷ rows) none {n = suc n} (let z : suc n ≤ last_opcode → ⊥ = d (omega arith) in omega arith)

pub not_listed : (op choice post arg : ℕ) → (1 ≤ op → op ≤ last_opcode → ⊥) → Instr.Outside ≡ decoded op choice post arg
unfolding decoded
not_listed op choice post arg d = rw (no_row op d)

-- what the k-th row and those after it make of an opcode, by a test for each
abbrev pub tested : List Row → ℕ → ℕ → ℕ → ℕ → ℕ → Instr
tested [] k op choice post arg = Instr.Outside
tested (r ∷ rs) k op choice post arg = cond (eqb op k) (made r choice post arg) (tested rs (suc k) op choice post arg)

tested_at : (rs : List Row) (k n op choice post arg : ℕ) → op ≡ n + k → made (get_or rs n none) choice post arg ≡ tested rs k op choice post arg
tested_at [] k n op choice post arg e = refl
tested_at (r ∷ rs) k zero op choice post arg e = rw (eq-eqb op k (omega arith))
tested_at (r ∷ rs) k (suc n) op choice post arg e = rw (ne_eqb op k (λ z. omega arith)) (tested_at rs (suc k) n op choice post arg (omega arith))

pub by_tests : (op choice post arg : ℕ) → decoded op choice post arg ≡ tested (none ∷ rows) 0 op choice post arg
unfolding decoded
by_tests op choice post arg = tested_at (none ∷ rows) 0 op op choice post arg (omega arith)

-- ---- an opcode of the table has an instruction

-- the place of a variant among those of its enum
place : (variants : List (List Field)) → Choice variants → ℕ
place [] c = absurd c
place (v ∷ vs) (inl x) = 0
place (v ∷ vs) (inr c) = suc (place vs c)

-- an instruction that is not `Outside`
abbrev some : Instr → Bool
some i = not (eqb (place parts (as_values i)) (place parts (as_values Instr.Outside)))

abbrev every : (Row → Bool) → List Row → Bool
every f [] = true
every f (r ∷ rs) = f r && every f rs

no : false ≡ true → ⊥
no h = let z : ◌≡◌ {A = ℕ} 0 1 = cc h in omega arith

at : (f : Row → Bool) (rs : List Row) → every f rs ≡ true → (k : ℕ) → k < length rs → f (get_or rs k none) ≡ true
at f [] e k h = absurd (omega arith)
at f (r ∷ rs) e zero h = (and_parts (f r) _ e).0
at f (r ∷ rs) e (suc k) h = at f rs (and_parts (f r) _ e).1 k (omega arith)

module _ (choice post arg : ℕ) where
  makes : Row → Bool
  makes r = some (made r choice post arg)

  -- the rule, computed over the whole table
  all : every makes rows ≡ true
  unfolding makes place
  all = refl

  pub listed_some : (op : ℕ) → (op ≡ 0 → ⊥) → op ≤ last_opcode → decoded op choice post arg ≡ Instr.Outside → ⊥
  unfolding decoded makes place
  listed_some zero z l e = z refl
  listed_some (suc k) z l e =
      let t : some (decoded (suc k) choice post arg) ≡ true = at makes rows all k l in
      let u : some Instr.Outside ≡ false = refl in
      no (sym u ∙ sym (ap some e) ∙ t)

-- the opcodes that have a name are those of the instructions so named
module _ (choice post arg : ℕ) where
  pub const_is : decoded const_op choice post arg ≡ Instr.Const (record { 0 = arg })
  unfolding decoded
  const_is = refl

  pub store_var_is : decoded store_var_op choice post arg ≡ Instr.StoreVar (record { 0 = arg }) (record { 0 = post })
  unfolding decoded
  store_var_is = refl

  pub store_temp_is : decoded store_temp_op choice post arg ≡ Instr.StoreTemp (record { 0 = arg }) (record { 0 = post })
  unfolding decoded
  store_temp_is = refl

  pub halt_is : decoded halt_op choice post arg ≡ Instr.Halt
  unfolding decoded
  halt_is = refl

  pub end_is : decoded end_op choice post arg ≡ Instr.End
  unfolding decoded
  end_is = refl

-- ---- the laws

pub listed : (op choice post arg : ℕ) → Listed op choice post arg
listed op choice post arg = record {
  some = λ l u. listed_some choice post arg op (λ z. omega arith) u;
  none = λ d. sym (not_listed op choice post arg d);
}

pub looked_for : (choice post arg : ℕ) → LookedFor choice post arg
looked_for choice post arg = record {
  const_is = const_is choice post arg;
  store_var_is = store_var_is choice post arg;
  store_temp_is = store_temp_is choice post arg;
  halt_is = halt_is choice post arg;
  end_is = end_is choice post arg;
}
