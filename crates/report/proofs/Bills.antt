-- What a call leaves, by what is put on the page. Assumes nothing.
use Prim.Native.Nat.{ℕ}
use mathlib.Core.Path.{◌≡◌, refl, sym, ◌∙◌, ap}
use mathlib.Core.List.{List, ◌++◌}
use lib.ListN.{length, take, drop}
use borrow.Author.Tests.{ne_eqb}
use Rattle.vm.proofs.Settled.{has_number}
use Rattle.std.proofs.Math.Seq.{take-append_seam}
use Rattle.std.specs.List.{refill}
use Rattle.std.specs.Prelude.{Ok, Err}
use Rattle.eval.specs.Machine.{Lent}
use Rattle.vm.specs.Called.{reply_of}
use Rattle.vm.specs.Numbers.{number_of_refusal}
use Rattle.vm.specs.declared.Terms.{Terms}
use Rattle.vm.specs.declared.account.Account.{Account}
use Rattle.vm.specs.declared.refusals.Refusal.{Refusal}
use Rattle.print.specs.Page.{Page, written}
use Rattle.print.specs.Texts.{text}
use Rattle.print.proofs.Pages.{then, room}
use Rattle.report.specs.Account.{field_line, account_text}
use Rattle.report.specs.Cells.{cells_bytes, cells_text}
use Rattle.report.specs.Bill.{Billed, bill_text, bytes_left}

module _ (terms : Terms) (lent : Lent) (bytes : List ℕ) (page after : Page) where
  pub refused_bill : (e : Refusal) → after ≡ written page (field_line (text "refused ") (number_of_refusal e))
      → Billed (record { reply = reply_of terms (Err e); lent = lent }) bytes bytes page after (Err e)
  unfolding bill_text bytes_left
  refused_bill e h =
      let z = ne_eqb (number_of_refusal e) 0 (has_number e) in
      let t = field_line (text "refused ") (number_of_refusal e) in
      record { refusal = refl; in_file = rw z; on_page = rw z h; whole = rw (z, h) (room page t) }

  pub account_bill : (a : Account) (left kinds values : List ℕ) (between : Page) → left ≡ cells_bytes kinds values
      → between ≡ written page (account_text a)
      → after ≡ written between (cells_text kinds values)
      → kinds ≡ lent.cells.kinds → values ≡ lent.cells.values
      → Billed (record { reply = reply_of terms (Ok a); lent = lent }) bytes left page after (Ok tt)
  unfolding bill_text bytes_left
  account_bill a left kinds values between f e g k v =
      let t = account_text a ++ cells_text lent.cells.kinds lent.cells.values in
      let h : after ≡ written page t = then _ _ _ e (rw (k, v) at g) in
      record { refusal = refl; in_file = rw (k, v) at f; on_page = h; whole = rw h (room page t) }

-- what a vector has after a write of as many elements as it had
pub refilled : {X : Type 0} (xs ws : List X) → length ws ≡ length xs → refill (length xs) xs ws ≡ ws
refilled xs ws h = ap (λ n. take n (ws ++ drop (length ws) xs)) (sym h) ∙ take-append_seam ws (drop (length ws) xs)
