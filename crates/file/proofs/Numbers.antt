-- The number of a refusal that is passed on. Assumes nothing.
use native.Mathlib.Omega.{arith}
use mathlib.Core.Path.{◌≡◌, ap}
use Rattle.std.specs.Prelude.{Result, Ok, Err}
use Rattle.std.specs.Result.{IsErrAnd}
use Rattle.file.specs.Numbers.{number_of_refusal, numbered}
use Rattle.file.specs.declared.refusal.Refusal.{Refusal}
use Rattle.file.specs.declared.refusal.Refusal.TheVariants.{EndsEarly, OtherTag, OtherLength, BytesAfter, ManyNames, NoIdentity, NoOpcode, StrayPart, OutsideTable, Withdrawn, ManyArguments}

-- what `?` returns has the number of the error
pub passed_on : {A : Type 0} (r : Result A Refusal) (e : Refusal) → IsErrAnd r (λ x. x ≡ e) → numbered r ≡ number_of_refusal e
passed_on (Ok x) e h = absurd h
passed_on (Err x) e h = ap number_of_refusal h

-- 0 is no refusal
pub is_some : (e : Refusal) → number_of_refusal e ≡ 0 → ⊥
is_some EndsEarly h = omega arith
is_some OtherTag h = omega arith
is_some OtherLength h = omega arith
is_some BytesAfter h = omega arith
is_some ManyNames h = omega arith
is_some NoIdentity h = omega arith
is_some NoOpcode h = omega arith
is_some StrayPart h = omega arith
is_some OutsideTable h = omega arith
is_some Withdrawn h = omega arith
is_some ManyArguments h = omega arith
