-- A whole file: its code is its end, and the converter's answer. Assumes nothing.
use Prim.Native.Nat.{ℕ, ◌-◌, ◌<◌, ◌≤◌}
use native.Mathlib.Omega.{arith}
use mathlib.Core.Path.{◌≡◌, refl, sym, ◌∙◌}
use mathlib.Core.Bool.{true}
use mathlib.Core.List.{List, []}
use lib.ListN.{length, take, drop, length-drop}
use lib.Seq.{take_all}
use borrow.Author.Tests.{ne_eqb}
use borrow.Rule.Slice.PartMut.{put_mid}
use Rattle.std.specs.Prelude.{Result, Ok, Err}
use Rattle.std.specs.Result.{IsErrAnd}
use Rattle.std.proofs.lemmas.List.{append-nil, drop_all}
use Rattle.file.specs.Fields.{code}
use Rattle.file.specs.Numbers.{number_of_refusal, numbered}
use Rattle.file.specs.Refusals.{converter_refusal}
use Rattle.file.specs.declared.refusal.Refusal.{Refusal}
use Rattle.file.proofs.Numbers.{is_some}
use Rattle.convert.proofs.Parts.{IsLast, code_is_last}
use Rattle.convert.specs.Convert.{converted_code, withdrawn_in, converted, conversion, records_of}

-- a file that is sent back
pub sent_back : (file : List ℕ) (r : Result ℕ Refusal) (e : Refusal) → IsErrAnd r (λ x. x ≡ e) → number_of_refusal e ≡ converter_refusal file → record { refusal = numbered r; records = records_of r; file = file } ≡ conversion file
unfolding conversion converted
sent_back file (Ok n) e h k = absurd h
sent_back file (Err x) e h k = rw (← k, ne_eqb (number_of_refusal e) 0 (is_some e), h) refl

-- one that passes
module _ (file : List ℕ) (h : 0 ≡ converter_refusal file) where
  abbrev start : ℕ
  start = length file - length (code file)

  is_last : IsLast file
  is_last = code_is_last true file (sym h)

  pub within : length (code file) ≤ length file
  within = is_last.within

  -- the part that the code is lent
  is_code : take (length file - start) (drop start file) ≡ code file
  is_code = take_all (length file - start) (drop start file) (omega (arith, length-drop start file)) ∙ is_last.last

  pub short : length (take (length file - start) (drop start file)) < 4294967296
  short = let s = is_last.short in rw is_code (omega arith)

  pub passes : (n : ℕ) (new : List ℕ) → n ≡ withdrawn_in (take (length file - start) (drop start file)) → new ≡ converted_code (take (length file - start) (drop start file)) → record { refusal = 0; records = n; file = put_mid start (length file - start) file new } ≡ conversion file
  unfolding conversion converted
  passes n new a b =
      let nothing : drop (length file - start) (drop start file) ≡ [] = drop_all (length file - start) (drop start file) (omega (arith, length-drop start file)) in
      rw (← h, a, b, is_code, nothing, append-nil (converted_code (code file))) refl
