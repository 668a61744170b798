-- The numbers that the refusals of a call have. Definitions only.
use Rattle.std.specs.Prelude.{ℕ, Result, Ok, Err}
use Rattle.file.specs.Numbers.{number_of_refusal as number_of_file}
use Rattle.vm.specs.declared.refusals.Refusal.{Refusal}
use Rattle.vm.specs.declared.refusals.Refusal.TheVariants.{File, Stores}

abbrev pub number_of_refusal : Refusal → ℕ
number_of_refusal (File e) = number_of_file e
number_of_refusal Stores = 10

-- the number of a result: 0, which is none, where it is not sent back
abbrev pub numbered : {A : Type 0} → Result A Refusal → ℕ
numbered (Ok x) = 0
numbered (Err e) = number_of_refusal e
