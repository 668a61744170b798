-- Laws of a page. Assumes nothing.
use Prim.Native.Nat.{ℕ, suc, ◌+◌, ◌≤◌, ◌<◌}
use native.Mathlib.Omega.{arith}
use native.Mathlib.Numerals.{add-one}
use mathlib.Core.Path.{◌≡◌, refl, sym, ◌∙◌, ap}
use mathlib.Core.Bool.{Bool, true, false, cond}
use mathlib.Core.List.{List, [], ◌∷◌, ◌++◌, append_assoc, append-nil}
use Rattle.std.proofs.lemmas.List.{length-replicate}
use lib.ListN.{replicate, length, take, set, length-set}
use lib.Dec.{ltb}
use lib.Seq.{take-suc-set, take_all}
use borrow.Author.Tests.{lt-ltb, le-ltb, ltb-true}
use Rattle.print.specs.Page.{Page, page_of, with, written, KeepsPage, Fills}

-- a text after another
pub written_append : (p : Page) (s t : List ℕ) → written p (s ++ t) ≡ written (written p s) t
unfolding written
written_append p [] t = refl
written_append p (b ∷ s) t = written_append (with p b) s t

pub with_room : (bytes : List ℕ) (end b : ℕ) → end < length bytes → page_of (set bytes end b) (end + 1) ≡ with (page_of bytes end) b
unfolding with
with_room bytes end b h = rw (lt-ltb end (length bytes) h)

pub with_full : (bytes : List ℕ) (end b : ℕ) → length bytes ≤ end → page_of bytes end ≡ with (page_of bytes end) b
unfolding with
with_full bytes end b h = rw (le-ltb end (length bytes) h)

-- a byte after a text
pub written_push : (p : Page) (s : List ℕ) (b : ℕ) → written p (s ++ b ∷ []) ≡ with (written p s) b
unfolding written
written_push p s b = written_append p s (b ∷ [])

-- one text put after another, by the pages between
pub then : {q r : Page} (p : Page) (s t : List ℕ) → q ≡ written p s → r ≡ written q t → r ≡ written p (s ++ t)
then p s t e f = f ∙ ap (λ (x : Page). written x t) e ∙ sym (written_append p s t)

-- where there is room for it, a text stands after what was used
pub room : (p : Page) (s : List ℕ) → p.end + length s ≤ length p.bytes → take (written p s).end (written p s).bytes ≡ take p.end p.bytes ++ s
unfolding written
room p [] h = sym (append-nil (take p.end p.bytes))
room p (b ∷ s) h =
    let l : p.end < length p.bytes = omega arith in
    let e = sym (with_room p.bytes p.end b l) in
    let q = page_of (set p.bytes p.end b) (p.end + 1) in
    let m : q.end + length s ≤ length q.bytes = simp length-set (omega arith) in
    let t : take (p.end + 1) (set p.bytes p.end b) ≡ take p.end p.bytes ++ (b ∷ []) = rw (add-one p.end) (take-suc-set p.bytes p.end b l) in
    ap (λ (x : Page). take (written x s).end (written x s).bytes) e ∙ room q s m ∙ rw t (append_assoc (take p.end p.bytes) (b ∷ []) s)

-- what is used of a new page that has room for a text
pub fresh : (p : Page) (n : ℕ) (s used : List ℕ) → p ≡ written (page_of (replicate n 0) 0) s → used ≡ take p.end p.bytes → length s ≤ n → used ≡ s
fresh p n s used e u h = u ∙ rw e (room (page_of (replicate n 0) 0) s (simp length-replicate (omega arith)))

-- ---- any page

-- a byte keeps the page's length
length_cond : (t : Bool) (l : List ℕ) (p : Page) (i b : ℕ) → length p.bytes ≡ length l → length (cond t (page_of (set l i b) (i + 1)) p).bytes ≡ length l
length_cond true l p i b h = length-set l i b
length_cond false l p i b h = h

pub length_with : (p : Page) (b : ℕ) → length (with p b).bytes ≡ length p.bytes
unfolding with
length_with p b = length_cond (ltb p.end (length p.bytes)) p.bytes p p.end b refl

pub length_written : (p : Page) (s : List ℕ) → length (written p s).bytes ≡ length p.bytes
unfolding written
length_written p [] = refl
length_written p (b ∷ s) = length_written (with p b) s ∙ length_with p b

end_with : (t : Bool) (p : Page) (b : ℕ) → ltb p.end (length p.bytes) ≡ t → p.end ≤ length p.bytes → (with p b).end ≤ length p.bytes
unfolding with
end_with true p b e h = let l = ltb-true p.end (length p.bytes) e in rw e (omega arith)
end_with false p b e h = rw e h

-- no more is used than there is
pub end_within : (p : Page) (s : List ℕ) → p.end ≤ length p.bytes → (written p s).end ≤ length p.bytes
unfolding written
end_within p [] h = h
end_within p (b ∷ s) h =
    let k : (with p b).end ≤ length (with p b).bytes = rw (length_with p b) (end_with (ltb p.end (length p.bytes)) p b refl h) in
    rw (length_with p b) at (end_within (with p b) s k)

-- where there is room, so much more is used as the text is long
pub room_end : (p : Page) (s : List ℕ) → p.end + length s ≤ length p.bytes → (written p s).end ≡ p.end + length s
unfolding written
room_end p [] h = omega arith
room_end p (b ∷ s) h =
    let l : p.end < length p.bytes = omega arith in
    let q = page_of (set p.bytes p.end b) (p.end + 1) in
    let m : q.end + length s ≤ length q.bytes = simp length-set (omega arith) in
    let f : p.end + 1 + length s ≡ p.end + suc (length s) = omega arith in
    ap (λ (x : Page). (written x s).end) (sym (with_room p.bytes p.end b l)) ∙ room_end q s m ∙ f

pub keeps_page : KeepsPage
keeps_page p s = record { as_many = length_written p s; within = end_within p s; more = room_end p s }

-- a text that is as long as the page is all of it
pub filled : Fills
filled bytes s e =
    let p = page_of bytes 0 in
    let h : p.end + length s ≤ length p.bytes = omega arith in
    let n : length (written p s).bytes ≤ (written p s).end = omega (arith, length_written p s, room_end p s h) in
    sym (take_all (written p s).end (written p s).bytes n) ∙ room p s h
