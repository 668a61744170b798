-- Lists with no NaN but one, through what is done to a stack or a store. Assumes nothing.
use Prim.Native.Nat.{ℕ, zero, suc, ◌-◌}
use mathlib.Core.List.{List, [], ◌∷◌, ◌++◌}
use lib.ListN.{length, get_or, set, take, replicate}
use Rattle.numeric.specs.Numbers.{OneNan}
use Rattle.numeric.proofs.OneNan.{zero_one}
use Rattle.eval.specs.Stacks.{push, pop, retop, cut, stored}
use Rattle.nans.specs.OneNan.{AllOne}

pub all_none : AllOne []
all_none i = zero_one

all_more : (v : ℕ) (l : List ℕ) → OneNan v → AllOne l → AllOne (v ∷ l)
all_more v l o h zero = o
all_more v l o h (suc i) = h i

all_append : (a b : List ℕ) → AllOne a → AllOne b → AllOne (a ++ b)
all_append [] b h k = k
all_append (v ∷ a) b h k = all_more v (a ++ b) (h 0) (all_append a b (λ i. h (suc i)) k)

all_take : (n : ℕ) (l : List ℕ) → AllOne l → AllOne (take n l)
all_take zero l h = all_none
all_take (suc n) [] h = all_none
all_take (suc n) (v ∷ l) h = all_more v (take n l) (h 0) (all_take n l (λ i. h (suc i)))

pub all_set : (l : List ℕ) (i v : ℕ) → OneNan v → AllOne l → AllOne (set l i v)
all_set [] i v o h = all_none
all_set (w ∷ l) zero v o h = all_more v l o (λ i. h (suc i))
all_set (w ∷ l) (suc i) v o h = all_more w (set l i v) (h 0) (all_set l i v o (λ i. h (suc i)))

-- the entry that was set, if there is one
pub set-one : (l : List ℕ) (i v : ℕ) → OneNan v → OneNan (get_or (set l i v) i 0)
set-one [] i v o = zero_one
set-one (w ∷ l) zero v o = o
set-one (w ∷ l) (suc i) v o = set-one l i v o

pub all_zeros : (n : ℕ) → AllOne (replicate n 0)
all_zeros zero = all_none
all_zeros (suc n) = all_more 0 (replicate n 0) zero_one (all_zeros n)

-- ---- stacks

pub all_push : (s : List ℕ) (v : ℕ) → OneNan v → AllOne s → AllOne (push v s)
unfolding push
all_push s v o h = all_append s (v ∷ []) h (all_more v [] o all_none)

pub all_pop : (s : List ℕ) → AllOne s → AllOne (pop s)
unfolding pop
all_pop s h = all_take (length s - 1) s h

pub all_cut : (mark : ℕ) (s : List ℕ) → AllOne s → AllOne (cut mark s)
unfolding cut
all_cut mark s h = all_take mark s h

pub all_retop : (s : List ℕ) (v : ℕ) → OneNan v → AllOne s → AllOne (retop v s)
unfolding retop
all_retop s v o h = all_set s (length s - 1) v o h

pub all_stored : (room : ℕ) (s : List ℕ) → AllOne s → AllOne (stored room s)
unfolding stored
all_stored room s h = all_append s _ h (all_zeros (room - length s))
