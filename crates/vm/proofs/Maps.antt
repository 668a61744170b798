-- A list that calls of a closure made of another, one element after another. Assumes nothing.
use Prim.Native.Nat.{ℕ}
use native.Mathlib.Omega.{arith}
use mathlib.Core.Path.{◌≡◌, sym, ◌∙◌}
use mathlib.Core.List.{List, map}
use lib.ListN.{length, length-map}
use Rattle.std.proofs.lemmas.List.{ext_get_or, get_or-map}
use Rattle.std.specs.Array.{IsMapOf}
use denote.Param.Members.{Mut, Called}

module _ {F A B : Type 0} (g : Mut F (A × Unit {0}) B) (k : F) (xs : List A) (ys : List B) (n : ℕ) where
  pub mapped : (f : A → B) (d : A) → ((p : F) (x : A) (y : B) (q : F) → Called g p (x, tt) y q → y ≡ f x) → length xs ≡ n → IsMapOf g k xs ys n → ys ≡ map f xs
  mapped f d h l m =
      ext_get_or (f d) ys (map f xs) (m.long ∙ sym l ∙ sym (length-map xs f))
      (λ i b. let a = m.at i d (f d) (omega (arith, m.long)) in h _ _ _ _ a.2 ∙ sym (get_or-map f xs i d (f d) (omega (arith, m.long))))
