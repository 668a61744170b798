-- A counted loop, at any place in any program, and what it makes of a run: it makes exactly the passes of its count. Definitions only;
-- src/laws.rt has the laws, Answers.antt beside this file what a call with such a loop answers, Claims.antt claims that do not hold.
use Rattle.std.specs.Prelude.{ℕ, zero, suc, ◌+◌, ◌-◌, ◌*◌, ◌≤◌, ◌<◌, max, Bool, true, false, ◌&&◌, cond, List, [], ◌∷◌, ◌≡◌, ltb, leb, eqb, length, get_or, take, drop}
use Rattle.program.specs.declared.instr.Instr.{Instr}
use Rattle.program.specs.declared.instr.ConstIdx.{ConstIdx}
use Rattle.program.specs.declared.instr.NameIdx.{NameIdx}
use Rattle.program.specs.declared.instr.PostIdx.{PostIdx}
use Rattle.program.specs.declared.instr.TempIdx.{TempIdx}
use Rattle.tables.specs.Tables.{instr_at}
use Rattle.eval.specs.Stacks.{often}
use Rattle.eval.specs.Machine.{Call, Machine, Due, fetch, constant, at, acc_is, cells_are, temps_are, notices_are, for_steps}
use Rattle.eval.specs.Acts.{acted, limit_noticed}
use Rattle.eval.specs.Run.{Run, History, goes_on, history, run_of}
use Rattle.std.specs.Prelude.{Option, Some, None}
use Rattle.vm.specs.Call.{Brought, call_of}
use Rattle.vm.specs.Limits.{dues, standing}
use Rattle.passes.specs.Whole.{whole, most, next}

-- ---- the loop in the code

-- what a body may hold: Const, This, Post, Negate, Not, StoreVar and StoreTemp, with any post
pub data InBody : Instr → Type 0 where
  const : (k : ConstIdx) → InBody (Instr.Const k)
  this : (p : PostIdx) → InBody (Instr.This p)
  post : (p : PostIdx) → InBody (Instr.Post p)
  negate : (p : PostIdx) → InBody (Instr.Negate p)
  not : (p : PostIdx) → InBody (Instr.Not p)
  store_var : (n : NameIdx) (p : PostIdx) → InBody (Instr.StoreVar n p)
  store_temp : (t : TempIdx) (p : PostIdx) → InBody (Instr.StoreTemp t p)

-- LoopBegin at p with any exit, b body records from p + 1 on, LoopCheck, which returns to the first of them, and LoopEnd. Where b is
-- 0, LoopCheck returns to itself.
pub record CountedLoop (code : List ℕ) (p b : ℕ) : Type 0 where
  pub exit : ℕ
  pub begin : instr_at code p ≡ Instr.LoopBegin exit
  pub body : (i : ℕ) → i < b → InBody (instr_at code (p + 1 + i))
  pub check : instr_at code (p + b + 1) ≡ Instr.LoopCheck (p + 1)
  pub end : instr_at code (p + b + 2) ≡ Instr.LoopEnd

-- ---- the run before it

-- a run that stands at p, its fetch due, with a count in the accumulator. The stores have place for one count, and the stack's depth
-- with it is at most 65,536. It may hold anything else.
pub record Before (c : Call) (p count : ℕ) (r : Run) : Type 0 where
  pub going : goes_on r ≡ true
  pub place : r.machine.pos ≡ p
  pub due : r.machine.due ≡ fetch
  pub counts : r.machine.acc ≡ count
  pub stack_free : length r.machine.stack < c.stack_room
  pub loops_free : length r.machine.loops < c.loop_room
  pub under_cap : length r.machine.stack + 1 ≤ 65536

-- a whole count k from 1 to 16,777,216, or to another largest one: r stands at a counted loop with it
pub record Counting (largest : ℕ) (c : Call) (p b k : ℕ) (r : Run) : Type 0 where
  pub loop : CountedLoop c.code p b
  pub from : 1 ≤ k
  pub to : k ≤ largest
  pub stands : Before c p (whole k) r

-- ---- the run after it

-- the body once: its b records from q on, one after another
unfoldable pub body : Call → ℕ → ℕ → Machine → Machine
body c q zero m = m
body c q (suc b) m = body c (q + 1) b (acted c (instr_at c.code q) m)

-- a machine with the accumulator, the cells and the temps of another
abbrev pub holding : Machine → Machine → Machine
holding a m = acc_is a.acc (cells_are a.cells (temps_are a.temps m))

-- Past LoopEnd, n passes and m charges later: accumulator, cells and temps are those of the body applied n times. Stack, loops,
-- handlers, empty pops and notices are as they were, but for a loop-limit notice where one is given.
abbrev pub past : Call → ℕ → ℕ → ℕ → ℕ → Bool → Run → Run
past c p b n m given r =
    let notices = cond given (limit_noticed r.machine).notices r.machine.notices in
    record { machine = at (p + b + 3) (holding (often n (body c (p + 1) b) r.machine) (notices_are notices r.machine)); charges = r.charges + m }

-- ---- fetches, counted in the list of dues that a run gives

abbrev pub is_fetch : Due → Bool
is_fetch fetch = true
is_fetch (constant k) = false

-- whether it is the fetch of the record at q that is due
abbrev pub fetches_at : ℕ → Run → Bool
fetches_at q r = is_fetch r.machine.due && eqb r.machine.pos q

-- how often it fell due
unfoldable pub fetches : ℕ → List Run → ℕ
fetches q [] = 0
fetches q (r ∷ l) = cond (fetches_at q r) 1 0 + fetches q l

-- of the dues from a run at p on: m charges later another falls due, and then t stands; in between the fetch of LoopBegin fell
-- due once, that of each body record and of LoopCheck n times, that of LoopEnd once
pub record Counted (p b n m : ℕ) (t : Run) (dues : List Run) : Type 0 where
  pub there : m < length dues
  pub stands : (d : Run) → get_or dues m d ≡ t
  pub begin : fetches p (take m dues) ≡ 1
  pub body : (i : ℕ) → i < b → fetches (p + 1 + i) (take m dues) ≡ n
  pub check : fetches (p + b + 1) (take m dues) ≡ n
  pub end : fetches (p + b + 2) (take m dues) ≡ 1

-- ---- what is claimed

-- what is said of a count k: how large it may be, how many passes are made, how many charges from LoopBegin to LoopEnd with so
-- many passes and b body records, and whether the loop-limit notice is given
pub record Claim : Type 0 where
  pub largest : ℕ
  pub passes : Option ℕ → ℕ → ℕ
  pub charges : ℕ → ℕ → ℕ
  pub noticed : Option ℕ → ℕ → Bool

-- whether the loop limit leaves k passes: there is none, or it is at least k
abbrev pub at_least : ℕ → Option ℕ → Bool
at_least k None = true
at_least k (Some n) = leb k n

-- how many passes a count k makes: k, or under a limit below k as many as the limit, and one for limit 0
abbrev pub passes : Option ℕ → ℕ → ℕ
passes None k = k
passes (Some n) k = cond (at_least k (Some n)) k (cond (eqb n 0) 1 n)

-- what n passes with b body records charge, LoopBegin and LoopEnd included
abbrev pub charges : ℕ → ℕ → ℕ
charges n b = n * (b + 1) + 2

-- what holds. The notice is given where the passes fall short of the count: LoopCheck looks at the count before it looks at the limit.
abbrev pub asked : Claim
asked = record { largest = most; passes = passes; charges = charges; noticed = λ l k. ltb (passes l k) k }

-- how many charges a claim has the loop take, and what it has stand past LoopEnd
abbrev pub takes : Claim → Call → ℕ → ℕ → ℕ
takes a c b k = a.charges (a.passes c.loop_limit k) b

abbrev pub past_by : Claim → Call → ℕ → ℕ → ℕ → Run → Run
past_by a c p b k r = past c p b (a.passes c.loop_limit k) (takes a c b k) (a.noticed c.loop_limit k) r

-- what it says of the dues from r on
abbrev pub CountedBy : Claim → Call → ℕ → ℕ → ℕ → Run → List Run → Type 0
CountedBy a c p b k r dues = Counted p b (a.passes c.loop_limit k) (takes a c b k) (past_by a c p b k r) dues

-- The claim for every place in every program: from any run at p, with N more charges left, which are enough.
abbrev pub Holds : Claim → Type 0
Holds a = (c : Call) (p b k N : ℕ) (r : Run) → Counting a.largest c p b k r → takes a c b k ≤ N
    → CountedBy a c p b k r (history c N r).dues

-- The same read off a whole call under a step limit of N: what stood when its charge j + 1 fell due is such a run.
abbrev pub HoldsInCalls : Claim → Type 0
HoldsInCalls a = (call : Brought) (p b k N j : ℕ) → j < length (dues call N) → Counting a.largest (call_of call) p b k (standing call N j)
    → j + takes a (call_of call) b k ≤ N → CountedBy a (call_of call) p b k (standing call N j) (drop j (dues call N))

-- From there the run goes on to its end as any run that stands so.
abbrev pub GoesOn : Claim → Type 0
GoesOn a = (c : Call) (p b k N : ℕ) (r : Run) → Counting a.largest c p b k r → takes a c b k ≤ N
    → run_of c N r ≡ run_of c (N - takes a c b k) (past_by a c p b k r)

-- ---- the two cases, in numbers

-- k passes, k(b + 1) + 2 charges, no notice
abbrev pub InFull : Type 0
InFull = (c : Call) (p b k N : ℕ) (r : Run) → Counting most c p b k r → at_least k c.loop_limit ≡ true → k * (b + 1) + 2 ≤ N
    → Counted p b k (k * (b + 1) + 2) (past c p b k (k * (b + 1) + 2) false r) (history c N r).dues

-- under a limit below k as many passes as the limit, or one for limit 0, and a notice where that falls short of k: count 1 under limit
-- 0 makes its one pass without
abbrev pub CutShort : Type 0
CutShort = (c : Call) (p b k N L : ℕ) (r : Run) → Counting most c p b k r → c.loop_limit ≡ Some L → L < k
    → let n = max L 1 in n * (b + 1) + 2 ≤ N
    → Counted p b n (n * (b + 1) + 2) (past c p b n (n * (b + 1) + 2) (ltb n k) r) (history c N r).dues

-- ---- where counting ends

-- 16,777,218 makes the passes of 16,777,217, one fewer than it says
abbrev pub OneFewer : Type 0
OneFewer = (c : Call) (p b N : ℕ) (r : Run) → CountedLoop c.code p b → Before c p (whole next) r → takes asked c b (next - 1) ≤ N
    → CountedBy asked c p b (next - 1) r (history c N r).dues

-- ---- a count that never ends

-- a run at a body record or at LoopCheck
pub record InLoop (p b : ℕ) (r : Run) : Type 0 where
  pub entered : p < r.machine.pos
  pub not_left : r.machine.pos < p + b + 2

-- N charges are made, and however many that is, after each of them the run stands in the loop; it is stopped for steps
pub record Endless (p b N : ℕ) (r : Run) (h : History) : Type 0 where
  pub all : length h.dues ≡ N + 1
  pub inside : (i : ℕ) (d : Run) → i < N → InLoop p b (get_or h.dues (i + 1) d)
  pub stopped : h.end.machine.outcome ≡ for_steps
  pub made : h.end.charges ≡ r.charges + N

-- without a loop limit, a count of this kind never leaves the loop, however many charges it is given
abbrev pub NeverLeaves : (ℕ → Type 0) → Type 0
NeverLeaves kind = (c : Call) (p b v N : ℕ) (r : Run) → kind v → CountedLoop c.code p b → c.loop_limit ≡ None → Before c p v r
    → Endless p b N r (history c N r)
