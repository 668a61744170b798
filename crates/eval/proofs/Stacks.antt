-- A stack in a store: the first d entries. What the store's reads and writes are on the stack. Assumes nothing.
use Prim.Native.Nat.{ℕ, zero, suc, ◌+◌, ◌-◌, ◌*◌, ◌/◌, ◌%◌, ◌^◌, ◌≤◌, ◌<◌, min}
use native.Mathlib.Omega.{arith}
use native.Mathlib.Numerals.{add-one, unary_clauses}
use mathlib.Core.Path.{◌≡◌, refl, sym, ◌∙◌, ap}
use mathlib.Core.List.{List, [], ◌∷◌, ◌++◌, map, map-append}
use lib.Dec.{ltb}
use mathlib.Core.Bool.{true, false}
use borrow.Author.Tests.{lt-ltb}
use lib.ListN.{length, get_or, set, take, drop, replicate, length-append, length-replicate, take-append-drop, get_or-map, length-map}
use lib.Seq.{take-append_seam, get_or-append_seam, set-append_seam}
use lib.Seq.{length-take-le, take-suc-set, take-take, get_or-take, take-set-lt, take-append-le, drop-set-lt, drop-append_seam}
use Rattle.eval.specs.Stacks.{push, pop, top, retop, cut, over, stored, often}
use Rattle.eval.specs.Machine.{Handler, no_handler}
use Rattle.eval.specs.State.{packed, unpacked}

take_min : (k d : ℕ) (st : List ℕ) → take (min k d) st ≡ take k (take d st)
take_min zero d st = simp unary_clauses
take_min (suc k) zero st = simp unary_clauses
take_min (suc k) (suc d) [] = simp unary_clauses
take_min (suc k) (suc d) (x ∷ xs) = simp unary_clauses (ap (λ (l : List ℕ). x ∷ l) (take_min k d xs))

module _ (d : ℕ) (st : List ℕ) where
  pub push_at : (v : ℕ) → d < length st → take (d + 1) (set st d v) ≡ push v (take d st)
  unfolding push
  push_at v h = rw (add-one, take-suc-set)

  -- .. and what stands above stays
  pub push_above : (v : ℕ) → drop (d + 1) (set st d v) ≡ drop (d + 1) st
  push_above v = drop-set-lt (d + 1) st d v (omega arith)

  pub pop-at : d ≤ length st → take (d - 1) st ≡ pop (take d st)
  unfolding pop
  pop-at h = rw (length-take-le d st h) (sym (take-take (d - 1) d st (omega arith)))

  pub pop-none : d ≡ 0 → take d st ≡ pop (take d st)
  unfolding pop
  pop-none e = rw e

  pub top-at : 0 < d → d ≤ length st → get_or st (d - 1) 0 ≡ top 0 (take d st)
  unfolding top
  top-at z h = rw (length-take-le d st h) (sym (get_or-take d st (d - 1) 0 (omega arith)))

  pub top-none : d ≡ 0 → top 0 (take d st) ≡ 0
  unfolding top
  top-none e = rw e

  pub none_there : d ≡ 0 → ltb 0 (length (take d st)) ≡ false
  none_there e = rw e

  pub some_there : 0 < d → d ≤ length st → ltb 0 (length (take d st)) ≡ true
  some_there z h = rw (length-take-le d st h) (lt-ltb 0 d z)

  pub retop-at : (v : ℕ) → 0 < d → d ≤ length st → take d (set st (d - 1) v) ≡ retop v (take d st)
  unfolding retop
  retop-at v z h = rw (length-take-le d st h) (take-set-lt d st (d - 1) v (omega arith))

  pub retop_above : (v : ℕ) → 0 < d → drop d (set st (d - 1) v) ≡ drop d st
  retop_above v z = drop-set-lt d st (d - 1) v (omega arith)

  pub retop-none : (v : ℕ) → d ≡ 0 → take d st ≡ retop v (take d st)
  unfolding retop
  retop-none v e = rw e

  pub cut_at : (k : ℕ) → take (min k d) st ≡ cut k (take d st)
  unfolding cut
  cut_at k = take_min k d st

-- ---- a stack once something is pushed onto it

module _ {A : Type 0} (v : A) (s : List A) where
  pub length_push : length (push v s) ≡ length s + 1
  unfolding push
  length_push = length-append s (v ∷ [])

  last : length (push v s) - 1 ≡ length s
  last = let e = length_push in omega arith

  pub top-push : (none : A) → top none (push v s) ≡ v
  unfolding top push
  top-push none = rw last (get_or-append_seam s v [] none)

  pub pop-push : pop (push v s) ≡ s
  unfolding pop push
  pop-push = rw last (take-append_seam s (v ∷ []))

pub retop-push : (w v : ℕ) (s : List ℕ) → retop w (push v s) ≡ push w s
unfolding retop push
retop-push w v s = rw (last v s) (set-append_seam s v [] w)

-- once more is once more, last or first
pub often-first : {A : Type 0} (k : ℕ) (f : A → A) (x : A) → often k f (f x) ≡ often (suc k) f x
unfolding often
often-first zero f x = refl
often-first (suc k) f x = ap f (often-first k f x)

-- ---- handlers, packed in their store

map-take : (k : ℕ) (xs : List ℕ) → take k (map unpacked xs) ≡ map unpacked (take k xs)
map-take zero xs = refl
map-take (suc k) [] = refl
map-take (suc k) (x ∷ xs) = ap (λ (l : List Handler). unpacked x ∷ l) (map-take k xs)

unpack_pack : (h : Handler) → h.stack_mark < 2 ^ 20 → h.loop_mark < 2 ^ 12 → unpacked (packed h) ≡ h
unfolding packed unpacked
unpack_pack h hs hl =
    let t = h.target in
    let s = h.stack_mark in
    let l = h.loop_mark in
    let a : (t * 2 ^ 32 + s * 2 ^ 12 + l) / 2 ^ 32 ≡ t = omega arith in
    let b : (t * 2 ^ 32 + s * 2 ^ 12 + l) / 2 ^ 12 % 2 ^ 20 ≡ s = omega arith in
    let d : (t * 2 ^ 32 + s * 2 ^ 12 + l) % 2 ^ 12 ≡ l = omega arith in
    rw (a, b, d)

pack_unpack : (w : ℕ) → packed (unpacked w) ≡ w
unfolding packed unpacked
pack_unpack w = omega arith

pub map_pack : (xs : List ℕ) → map packed (map unpacked xs) ≡ xs
map_pack [] = refl
map_pack (x ∷ xs) = rw (pack_unpack x, map_pack xs)

module _ (d : ℕ) (st : List ℕ) (h : d ≤ length st) where
  pub length_handlers : length (map unpacked (take d st)) ≡ d
  length_handlers = length-map (take d st) unpacked ∙ length-take-le d st h

  pub pop_handler : map unpacked (take (d - 1) st) ≡ pop (map unpacked (take d st))
  unfolding pop
  pop_handler = rw (length_handlers, map-take, take-take (d - 1) d st (omega arith))

  pub top_handler : 0 < d → top no_handler (map unpacked (take d st)) ≡ unpacked (get_or st (d - 1) 0)
  unfolding top unpacked
  top_handler z = rw length_handlers (get_or-map unpacked (take d st) (d - 1) 0 ∙ ap unpacked (get_or-take d st (d - 1) 0 (omega arith)))

pub push_handler : (d : ℕ) (st : List ℕ) (h : Handler) → d < length st → h.stack_mark < 2 ^ 20 → h.loop_mark < 2 ^ 12
    → map unpacked (take (d + 1) (set st d (packed h))) ≡ push h (map unpacked (take d st))
unfolding push
push_handler d st h l hs hl =
    rw (add-one, take-suc-set, map-append) (ap (λ (x : Handler). map unpacked (take d st) ++ (x ∷ [])) (unpack_pack h hs hl))

-- ---- a store that holds a stack

module _ (d : ℕ) (st : List ℕ) (h : d ≤ length st) where
  pub stored-below : take d (stored (length st) (take d st)) ≡ take d st
  unfolding stored
  stored-below =
      let e = length-take-le d st h in
      take-append-le d (take d st) (replicate (length st - length (take d st)) 0) (omega arith) ∙ take-take d d st (omega arith)

  pub length-stored : length (stored (length st) (take d st)) ≡ length st
  unfolding stored
  length-stored =
      let e = length-take-le d st h in
      length-append (take d st) (replicate (length st - length (take d st)) 0) ∙ rw (length-replicate, e) (omega arith)

-- a store that differs below the depth alone is the other with its stack laid over it
pub over_own : (d : ℕ) (store st : List ℕ) → d ≤ length st → drop d st ≡ drop d store → over store (take d st) ≡ st
unfolding over
over_own d store st h e =
    rw (length-take-le d st h) (ap (λ (l : List ℕ). take d st ++ l) (sym e) ∙ take-append-drop d st)

-- a stack is laid over a store once
pub over_twice : (store s : List ℕ) → over (over store s) s ≡ over store s
unfolding over
over_twice store s = ap (λ (l : List ℕ). s ++ l) (drop-append_seam s (drop (length s) store))
