-- How a run of a program ended, as the number that the launcher exits by. Definitions only.
use Rattle.std.specs.Prelude.{◌≡◌, ℕ, List, length, map, max}
use Rattle.std.specs.List.{FoldsTo, enumerate_from, fold}
use Rattle.print.specs.declared.status.Status.{Status}
use Rattle.print.specs.declared.status.Status.TheVariants.{Done, Refused, Failed}

abbrev pub number_of : Status → ℕ
number_of Done = 0
number_of Refused = 1
number_of Failed = 2

-- the highest number, 0 where there is none
abbrev pub highest_of : List Status → ℕ
highest_of statuses = fold max 0 (map number_of statuses)

-- n calls, at 1, 2 and so on, one after the other, answer these statuses
abbrev pub Answered : {F : Type 0} → (F → ℕ → Status → F → Type 0) → F → ℕ → List Status → Type 0
Answered {F} step turn n statuses = (length statuses ≡ n) × (last : F) × FoldsTo (λ f at g. step f at.0 at.1 g) turn (enumerate_from 1 statuses) last
