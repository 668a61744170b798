-- The code's temps: what is read and written of them. Assumes nothing.
use Prim.Native.Nat.{ℕ, ◌<◌}
use native.Mathlib.Omega.{arith}
use mathlib.Core.Path.{◌≡◌, refl}
use mathlib.Core.Bool.{Bool, true, false, cond}
use mathlib.Core.List.{List, map}
use lib.Dec.{ltb}
use lib.ListN.{length, get_or, set, get_or-map, get_or-eq_default}
use lib.Seq.{set_out}
use borrow.Author.Tests.{ltb-true, ltb-false}
use Rattle.std.specs.Prelude.{Option, Some, None, is_some, unwrap_or}
use Rattle.std.proofs.lemmas.List.{map-set}
use Rattle.eval.specs.Machine.{Machine, temps_are}
use Rattle.eval.specs.State.{temps_of}

module _ (temps : List (Option ℕ)) (t : ℕ) where
  pub given_at : get_or (map is_some temps) t false ≡ is_some (get_or temps t None)
  given_at = get_or-map is_some temps t None

  pub number_at : get_or (map (λ n. unwrap_or n 0) temps) t 0 ≡ unwrap_or (get_or temps t None) 0
  number_at = get_or-map (λ n. unwrap_or n 0) temps t None

module _ (temps : List (Option ℕ)) (h : length temps ≡ 8) (t : ℕ) where
  -- a temp that is given is one of the eight
  pub within : (v : ℕ) → get_or temps t None ≡ Some v → t < 8
  within v e = cases (ltb t 8) refl
    where
      cases : (b : Bool) → ltb t 8 ≡ b → t < 8
      cases true k = ltb-true t 8 k
      cases false k = absurd (let l = ltb-false t 8 k in let n = get_or-eq_default temps None {n = t} (omega arith) in cc)

  -- what is stored in a temp outside is nowhere
  pub stored_at : (v : ℕ) (m : Machine)
      → cond (ltb t 8) (temps_are (record { given = set (map is_some temps) t true; numbers = set (map (λ n. unwrap_or n 0) temps) t v }) m) (temps_are (temps_of temps) m)
      ≡ temps_are (temps_of (set temps t (Some v))) m
  stored_at v m = cases (ltb t 8) refl
    where
      cases : (b : Bool) → ltb t 8 ≡ b
          → cond b (temps_are (record { given = set (map is_some temps) t true; numbers = set (map (λ n. unwrap_or n 0) temps) t v }) m) (temps_are (temps_of temps) m)
          ≡ temps_are (temps_of (set temps t (Some v))) m
      cases true k = simp map-set
      cases false k = let l = ltb-false t 8 k in rw (set_out temps t (Some v) (omega arith))

pub either : {A : Type 0} (c : Bool) (a : A) → cond c a a ≡ a
either true a = refl
either false a = refl
