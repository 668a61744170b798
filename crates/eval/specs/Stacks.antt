-- Stacks as lists, the bottom first, and the stores that hold them. Definitions only.
use Rattle.std.specs.Prelude.{ℕ, zero, suc, ◌-◌, List, [], ◌∷◌, ◌++◌, length, get_or, set, take, drop, replicate}

unfoldable pub push : {A : Type 0} → A → List A → List A
push v s = s ++ (v ∷ [])

-- one less, or none
unfoldable pub pop : {A : Type 0} → List A → List A
pop s = take (length s - 1) s

-- the top, or what stands for it where there is none
unfoldable pub top : {A : Type 0} → A → List A → A
top none s = get_or s (length s - 1) none

-- the top replaced, where there is one
unfoldable pub retop : ℕ → List ℕ → List ℕ
retop v s = set s (length s - 1) v

-- cut to a mark, never lengthened
unfoldable pub cut : {A : Type 0} → ℕ → List A → List A
cut mark s = take mark s

-- a store of some length that holds a stack: "the stores hold the stacks below the depths, zeros from there on"
unfoldable pub stored : ℕ → List ℕ → List ℕ
stored room s = s ++ replicate (room - length s) 0

-- a store with a stack laid over it: the stack from the first entry on, and above it what stood there
unfoldable pub over : List ℕ → List ℕ → List ℕ
over store s = s ++ drop (length s) store

-- k times
unfoldable pub often : {A : Type 0} → ℕ → (A → A) → A → A
often zero f x = x
often (suc k) f x = f (often k f x)
