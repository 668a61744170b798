-- The answer to every call: a refusal, with every lent store as it was, or the account of a run. Definitions only.
use Rattle.std.specs.Prelude.{ℕ, cond, List, eqb, take, Result, Ok, Err}
use Rattle.eval.specs.Machine.{no_temps}
use Rattle.eval.specs.Run.{Run, fresh, history}
use Rattle.vm.specs.Call.{Brought, refusal_of, call_of}
use Rattle.vm.specs.Purses.{Spent, spend, purses, smaller}
use Rattle.vm.specs.Account.{After, answered, no_account, left_by}
use Rattle.vm.specs.Numbers.{number_of_refusal}
use Rattle.vm.specs.declared.Terms.{Terms}
use Rattle.vm.specs.declared.refusals.Refusal.{Refusal}
use Rattle.vm.specs.declared.account.Account.{Account}
use Rattle.vm.specs.declared.account.Reply.{Reply}

-- the run of a call before its first charge
abbrev pub begun : Brought → Run
begun b = fresh b.lent.cells no_temps

-- the run of a call, and what remains of its two limits
abbrev pub spent : Brought → Spent
spent b =
    let p = purses b.terms in
    spend (call_of b) p.guest p.house (begun b)

-- what the run of an accepted call leaves
abbrev pub ran : Brought → After
ran b = left_by (call_of b) (spent b)

-- a refusal: "it writes to no lent store and bills nothing"; "The answer is the number alone." What remains of both limits is
-- what the call brought
abbrev pub refused : ℕ → Brought → After
refused n b = record { reply = record { refusal = n; account = no_account (purses b.terms) }; lent = b.lent }

-- "The answer to every call, on every byte string, limit and lent store, is the account of a run or one of ten refusals"; 14,
-- which Nine adds, is the eleventh
unfoldable pub called : Brought → After
called b =
    let n = refusal_of b in
    cond (eqb n 0) (ran b) (refused n b)

-- the reply that crosses to C for what a call gives: an account, or the number of a refusal, no account, and both limits as
-- they came
abbrev pub reply_of : Terms → Result Account Refusal → Reply
reply_of t (Ok a) = answered a
reply_of t (Err e) = record { refusal = number_of_refusal e; account = no_account (purses t) }

-- what fell due in a call, under the smaller of its two limits, and was charged: nothing where the call is sent back
abbrev pub paid_in : Brought → List Run
paid_in b = take (called b).reply.account.end.charges (history (call_of b) (smaller (purses b.terms)) (begun b)).dues
