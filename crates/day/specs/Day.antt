-- A partner's day under the house limit. Definitions only; the laws that say it are in src/laws.rt.
use Rattle.std.specs.Prelude.{ℕ, ◌+◌, ◌≤◌, List, [], ◌∷◌, ◌++◌, ◌≡◌}
use Rattle.vm.specs.Call.{Brought, Accepted, limit_of}
use Rattle.vm.specs.Account.{After}
use Rattle.vm.specs.Called.{called}

-- a call of the day, and its answer
pub record Turn : Type 0 where
  pub brought : Brought
  pub answer : After

-- the charges that an answer bills
abbrev pub charges : Turn → ℕ
charges t = t.answer.reply.account.end.charges

-- what an answer leaves of the house limit
abbrev pub house_left : Turn → ℕ
house_left t = t.answer.reply.account.remainders.house

-- a call under so much of the house limit, answered as every call is (`vm::call`); no house limit counts as 2^64 - 1
pub record Under (house : ℕ) (t : Turn) : Type 0 where
  pub limit : limit_of t.brought.terms.house_limit ≡ house
  pub answered : t.answer ≡ called t.brought

-- calls in their order, accepted and refused, the first under the house limit given, each after it under what the one before left
unfoldable pub Day : ℕ → List Turn → Type 0
Day house [] = Unit {0}
Day house (t ∷ ts) = Under house t × Day (house_left t) ts

-- what the calls charged in all
unfoldable pub charged_by : List Turn → ℕ
charged_by [] = 0
charged_by (t ∷ ts) = charges t + charged_by ts

-- what remains of the house limit after the last of them
unfoldable pub remains_of : ℕ → List Turn → ℕ
remains_of house [] = house
remains_of house (t ∷ ts) = remains_of (house_left t) ts

-- what the calls of a day charged in all, and what remains, make the house limit of the first
abbrev pub DayAddsUp : Type 0
DayAddsUp = (house : ℕ) (ts : List Turn) → Day house ts → charged_by ts + remains_of house ts ≡ house

-- so a partner is never given more than the house limit
abbrev pub NeverMore : Type 0
NeverMore = (house : ℕ) (ts : List Turn) → Day house ts → charged_by ts ≤ house

-- a refused call takes nothing: it charges 0, and what came remains
abbrev pub RefusedTakesNothing : Type 0
RefusedTakesNothing = (house : ℕ) (t : Turn) → Under house t → (Accepted t.brought → ⊥) → (charges t ≡ 0) × (house_left t ≡ house)

-- a day may be cut anywhere: what remains of its first part is what its second begins with
abbrev pub RestOfDay : Type 0
RestOfDay = (house : ℕ) (ts us : List Turn) → Day house (ts ++ us) → Day (remains_of house ts) us
