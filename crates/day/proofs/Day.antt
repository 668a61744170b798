-- A day adds up: what its calls charged, and what remains, make the house limit that it began with. Assumes nothing.
use Prim.Native.Nat.{ℕ, ◌+◌}
use native.Mathlib.Omega.{arith}
use mathlib.Core.List.{[], ◌∷◌}
use mathlib.Core.Path.{◌≡◌, ◌∙◌}
use Rattle.vm.specs.Call.{limit_of}
use Rattle.vm.proofs.Accounts.{adds_up, nothing-taken}
use Rattle.day.specs.Day.{Turn, charges, house_left, Under, Day, charged_by, remains_of, DayAddsUp, NeverMore, RefusedTakesNothing, RestOfDay}

-- a call takes from the house limit what it charged
takes : (house : ℕ) (t : Turn) → Under house t → charges t + house_left t ≡ house
takes house t u =
    let e : charges t + house_left t ≡ limit_of t.brought.terms.house_limit = rw u.answered (adds_up t.brought).by_house in
    e ∙ u.limit

-- a refused call takes nothing: its charges are 0, and what came remains
pub refused-takes-nothing : RefusedTakesNothing
refused-takes-nothing house t u z =
    let n = nothing-taken t.brought z in
    let c : charges t ≡ 0 = rw u.answered n.charges in
    (c, let e = takes house t u in omega arith)

-- what was charged in all, and what remains, make the house limit of the first call
pub day_adds_up : DayAddsUp
unfolding Day charged_by remains_of
day_adds_up house [] d = omega arith
day_adds_up house (t ∷ ts) d =
    let e = takes house t d.0 in
    let f = day_adds_up (house_left t) ts d.1 in
    omega arith

-- so a partner is never given more than the house limit
pub never_more : NeverMore
never_more house ts d = let e = day_adds_up house ts d in omega arith

-- a day may be cut anywhere: what remains of its first part is what its second begins with
pub rest_of_day : RestOfDay
unfolding Day remains_of
rest_of_day house [] us d = d
rest_of_day house (t ∷ ts) us d = rest_of_day (house_left t) ts us d.1
