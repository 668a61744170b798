use Rattle.std.proofs.Common.{◌≡◌, ◌<◌, ◌^◌, drop}
use Rattle.report.specs.Words.{number_read}
use Rattle.report.proofs.Readings.{read_on}
use Rattle.report.proofs.words.number_of.Given as goal

abbrev pub invariant-loop-c : goal.invariant-loop-c
invariant-loop-c l = record { small : l.n < 2 ^ 64; read : number_read l.base l.word ≡ read_on l.base l.n (drop l.c-index l.word) }
