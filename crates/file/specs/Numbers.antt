-- The numbers that the tags and the refusals have. Definitions only.
use Rattle.std.specs.Prelude.{ℕ, Result, Ok, Err}
use Rattle.file.specs.declared.fields.Tag.{Tag}
use Rattle.file.specs.declared.refusal.Refusal.{Refusal}
use Rattle.file.specs.declared.refusal.Refusal.TheVariants.{EndsEarly, OtherTag, OtherLength, BytesAfter, ManyNames, NoIdentity, NoOpcode, StrayPart, OutsideTable, Withdrawn, ManyArguments}

abbrev pub number_of_tag : Tag → ℕ
number_of_tag Tag.Counts = 1
number_of_tag Tag.Consts = 2
number_of_tag Tag.Posts = 3
number_of_tag Tag.Hashes = 4
number_of_tag Tag.Code = 5

abbrev pub number_of_refusal : Refusal → ℕ
number_of_refusal EndsEarly = 1
number_of_refusal OtherTag = 2
number_of_refusal OtherLength = 3
number_of_refusal BytesAfter = 4
number_of_refusal ManyNames = 5
number_of_refusal NoIdentity = 6
number_of_refusal NoOpcode = 7
number_of_refusal StrayPart = 8
number_of_refusal OutsideTable = 9
number_of_refusal Withdrawn = 14
number_of_refusal ManyArguments = 15

-- the number of a result: 0, which is none, where it is not sent back
abbrev pub numbered : {A : Type 0} → Result A Refusal → ℕ
numbered (Ok x) = 0
numbered (Err e) = number_of_refusal e
