-- What one call of Studio or House leaves on the page and in the bytes of the cells. Definitions only.
use Rattle.std.specs.Prelude.{ℕ, ◌+◌, ◌≤◌, cond, List, ◌++◌, ◌≡◌, eqb, length, take, Result}
use Rattle.eval.specs.Machine.{Cells, Lent}
use Rattle.vm.specs.Account.{After}
use Rattle.print.specs.Texts.{text}
use Rattle.print.specs.Page.{Page, written}
use Rattle.vm.specs.Numbers.{numbered}
use Rattle.vm.specs.declared.refusals.Refusal.{Refusal}
use Rattle.report.specs.Account.{field_line, account_text}
use Rattle.report.specs.Cells.{cells_text, cells_bytes}

abbrev pub lent_with : Cells → List ℕ → List ℕ → List ℕ → Lent
lent_with cells stack loops handlers = record { cells = cells; stack = stack; loops = loops; handlers = handlers }

-- docs/SERVICES.md: a refusal is the one line `refused N`. Otherwise the account is written, and a line for each cell as left
unfoldable pub bill_text : After → List ℕ
bill_text a =
    let n = a.reply.refusal in
    let cells = a.lent.cells in
    cond (eqb n 0) (account_text a.reply.account ++ cells_text cells.kinds cells.values) (field_line (text "refused ") n)

-- docs/SERVICES.md: a refusal replaces nothing
unfoldable pub bytes_left : After → List ℕ → List ℕ
bytes_left a bytes =
    let cells = a.lent.cells in
    cond (eqb a.reply.refusal 0) (cells_bytes cells.kinds cells.values) bytes

-- the bytes of the cells before and after, and the page before and after
pub record Billed (a : After) (bytes bytesAfter : List ℕ) (page pageAfter : Page) (r : Result Unit Refusal) : Type 0 where
  pub refusal : numbered r ≡ a.reply.refusal
  pub in_file : bytesAfter ≡ bytes_left a bytes
  pub on_page : pageAfter ≡ written page (bill_text a)
  pub whole : page.end + length (bill_text a) ≤ length page.bytes → take pageAfter.end pageAfter.bytes ≡ take page.end page.bytes ++ bill_text a
