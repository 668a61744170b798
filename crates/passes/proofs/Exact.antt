-- A counted loop makes exactly its passes. Assumes nothing.
use Prim.Native.Nat.{ℕ, suc, ◌+◌, ◌-◌, ◌*◌, ◌≤◌, ◌<◌, max}
use native.Mathlib.Omega.{arith}
use mathlib.Core.Path.{◌≡◌, refl, sym, ◌∙◌, ap, subst}
use mathlib.Core.Bool.{Bool, true, false, cond}
use mathlib.Core.List.{List}
use lib.Dec.{ltb, leb, eqb}
use lib.ListN.{length}
use borrow.Author.Tests.{eqb-true, eqb-false, leb-true, leb-false, le-ltb, lt-leb, eq-eqb, ne_eqb}
use Rattle.numeric.specs.Numbers.{zero, one, sub, le}
use Rattle.eval.specs.Machine.{Cells, Temps, Call, Machine, Handler, fetch, running, made}
use Rattle.eval.specs.declared.machine.Notices.{Notices}
use Rattle.std.specs.Prelude.{Option, Some, None}
use Rattle.eval.specs.Run.{Run, History, history}
use Rattle.eval.proofs.Histories.{rest_of}
use Rattle.vm.specs.Call.{call_of}
use Rattle.vm.specs.Called.{begun}
use Rattle.vm.specs.Limits.{standing}
use Rattle.passes.specs.Whole.{whole, most, next}
use Rattle.passes.specs.Passes.{CountedLoop, Before, past, Counted, passes, charges, asked, takes, past_by, CountedBy}
use Rattle.passes.specs.Passes.{Holds, HoldsInCalls, GoesOn, at_least, InFull, CutShort, OneFewer}
use Rattle.passes.proofs.Whole.{less_one, whole-left}
use Rattle.passes.proofs.Beyond.{next-less_one, next-left}
use Rattle.passes.proofs.Ways.{Way, way_next, way_on, way_as, way_history, way_there, way_stands, way_fetched}
use Rattle.passes.proofs.Straight.{given, inside, inside_before, inside_past, inside_at}
use Rattle.passes.proofs.Ticks.{begins}
use Rattle.passes.proofs.Loops.{further, ltb_less, leaves, left}

-- the passes are one, and those that follow it
pub passes_are : (limit : Option ℕ) (k : ℕ) → 1 ≤ k → suc (further limit 1 (k - 1)) ≡ passes limit k
passes_are None k o = omega arith
passes_are (Some n) k o = cases (leb k n) refl (eqb n 0) refl
  where
    cases : (s : Bool) → leb k n ≡ s → (t : Bool) → eqb n 0 ≡ t → suc (further (Some n) 1 (k - 1)) ≡ passes (Some n) k
    cases true e t f = let l = leb-true k n e in rw e (omega arith)
    cases false e true f = let l = leb-false k n e in let z = eqb-true n 0 f in rw (e, f) (omega arith)
    cases false e false f = let l = leb-false k n e in let z = eqb-false n 0 f in rw (e, f) (omega arith)

-- the notice is given where they fall short
noticed_short : (limit : Option ℕ) (k : ℕ) → ltb (passes limit k) k ≡ asked.noticed limit k
noticed_short limit k = refl

-- ---- from LoopBegin past LoopEnd

-- how often the fetch at x falls due
abbrev fetched : Call → ℕ → ℕ → ℕ → ℕ → ℕ
fetched c p b k x =
    cond (eqb p x) 1 0 + (passes c.loop_limit k * (inside x (p + 1) b + cond (eqb (p + 1 + b) x) 1 0) + cond (eqb (p + b + 2) x) 1 0)

-- a count v that is not spent, and less 1 is the float of k - 1
record Falls (v k : ℕ) : Type 0 where
  some : 1 ≤ k
  small : k - 1 ≤ most
  left_over : le v zero ≡ false
  less : sub v one ≡ whole (k - 1)

module _ (c : Call) (p b k v x : ℕ) (loop : CountedLoop c.code p b) (falls : Falls v k) where
  -- the passes that follow the first
  abbrev rest : ℕ
  rest = further c.loop_limit 1 (k - 1)

  module _ (cells : Cells) (temps : Temps) (s l : List ℕ) (h : List Handler) (n : Notices) (pops ch : ℕ)
      (f : length s < c.stack_room) (g : length l < c.loop_room) (low : length s + 1 ≤ 65536) where
    -- the machine at LoopBegin, the run, and the run past LoopEnd after j passes
    abbrev here : Machine
    here = made p v fetch running s l h cells temps n pops

    abbrev start : Run
    start = record { machine = here; charges = ch }

    abbrev out : ℕ → Run
    out j = past c p b j (charges j b) (ltb j k) start

    comes_out : (j : ℕ) → suc rest ≡ j → left c x p b loop s l h n pops low rest (k - 1) here (ch + 1) ≡ out j
    comes_out j e =
        let i : ch + 1 + (suc rest * (b + 1) + 1) ≡ ch + charges (suc rest) b = omega arith in
        rw (← e) (rw (i, ltb_less rest k falls.some))

    way : Way c x start (past_by asked c p b k start) (takes asked c b k) (fetched c p b k x)
    way =
        let first = begins c p here s l h n pops ch loop.exit v (whole (k - 1)) loop.begin refl falls.left_over falls.less f g in
        let others = leaves c x p b loop s l h n pops low c.loop_limit rest (k - 1) 1 here (ch + 1) refl refl falls.small in
        let e = passes_are c.loop_limit k falls.some in
        let n-passes = passes c.loop_limit k in
        let told = ap (λ (t : Bool). past c p b n-passes (charges n-passes b) t start) (noticed_short c.loop_limit k) in
        way_as (way_on (way_next first refl) others) (comes_out n-passes e ∙ told) (rw (← e) (omega arith)) (rw (← e) (omega arith))

  -- from any run
  exact_way : (r : Run) → Before c p v r → Way c x r (past_by asked c p b k r) (takes asked c b k) (fetched c p b k x)
  exact_way r t =
      let m = r.machine in
      subst (λ (s : Run). Way c x s (past_by asked c p b k s) (takes asked c b k) (fetched c p b k x)) (given c p v r t)
      (way m.cells m.temps m.stack m.loops m.handlers m.notices m.empty_pops r.charges t.stack_free t.loops_free t.under_cap)

-- ---- the fetches of each record

module _ (c : Call) (p b k : ℕ) where
  once_begun : fetched c p b k p ≡ 1
  once_begun =
      rw (
        eq-eqb p p refl,
        inside_before p (p + 1) b (omega arith),
        ne_eqb (p + 1 + b) p (λ z. omega arith),
        ne_eqb (p + b + 2) p (λ z. omega arith),
      ) (omega arith)

  each_pass : (i : ℕ) → i < b → fetched c p b k (p + 1 + i) ≡ passes c.loop_limit k
  each_pass i d =
      rw (
        ne_eqb p (p + 1 + i) (λ z. omega arith),
        inside_at i (p + 1) b d,
        ne_eqb (p + 1 + b) (p + 1 + i) (λ z. omega arith),
        ne_eqb (p + b + 2) (p + 1 + i) (λ z. omega arith),
      ) (omega arith)

  each_check : fetched c p b k (p + b + 1) ≡ passes c.loop_limit k
  each_check =
      rw (
        ne_eqb p (p + b + 1) (λ z. omega arith),
        inside_past (p + b + 1) (p + 1) b (omega arith),
        eq-eqb (p + 1 + b) (p + b + 1) (omega arith),
        ne_eqb (p + b + 2) (p + b + 1) (λ z. omega arith),
      ) (omega arith)

  once_ended : fetched c p b k (p + b + 2) ≡ 1
  once_ended =
      rw (
        ne_eqb p (p + b + 2) (λ z. omega arith),
        inside_past (p + b + 2) (p + 1) b (omega arith),
        ne_eqb (p + 1 + b) (p + b + 2) (λ z. omega arith),
        eq-eqb (p + b + 2) (p + b + 2) refl,
      ) (omega arith)

-- ---- the theorems

counted : (c : Call) (p b k v N : ℕ) (r : Run) → CountedLoop c.code p b → Falls v k → Before c p v r → takes asked c b k ≤ N
    → CountedBy asked c p b k r (history c N r).dues
counted c p b k v N r loop falls t enough =
    let way : (x : ℕ) → Way c x r (past_by asked c p b k r) (takes asked c b k) (fetched c p b k x) = λ x. exact_way c p b k v x loop falls r t in
    record {
      there = way_there (way 0) N enough;
      stands = way_stands (way 0) N enough;
      begin = way_fetched (way p) N enough ∙ once_begun c p b k;
      body = λ i d. way_fetched (way (p + 1 + i)) N enough ∙ each_pass c p b k i d;
      check = way_fetched (way (p + b + 1)) N enough ∙ each_check c p b k;
      end = way_fetched (way (p + b + 2)) N enough ∙ once_ended c p b k;
    }

whole_falls : (k : ℕ) → 1 ≤ k → k ≤ most → Falls (whole k) k
whole_falls k o m = record { some = o; small = omega arith; left_over = whole-left k o m; less = less_one k o m }

pub exact_passes : Holds asked
exact_passes c p b k N r w enough = counted c p b k (whole k) N r w.loop (whole_falls k w.from w.to) w.stands enough

pub exact_end : GoesOn asked
exact_end c p b k N r w enough =
    ap (λ (h : History). h.end) (way_history (exact_way c p b k (whole k) 0 w.loop (whole_falls k w.from w.to) r w.stands) N enough)

pub one_fewer : OneFewer
one_fewer c p b N r loop t enough =
    counted c p b (next - 1) (whole next) N r loop (record { some = omega arith; small = omega arith; left_over = next-left; less = next-less_one }) t enough

pub exact_in_calls : HoldsInCalls asked
exact_in_calls call p b k N j there w enough =
    rw (rest_of (call_of call) j N (begun call) (begun call) there) (exact_passes (call_of call) p b k (N - j) (standing call N j) w (omega arith))

-- ---- by the two cases

-- the passes and the notice, told in other words
told : (c : Call) (p b k N n : ℕ) (r : Run) (t : Bool) → passes c.loop_limit k ≡ n → asked.noticed c.loop_limit k ≡ t
    → CountedBy asked c p b k r (history c N r).dues → Counted p b n (charges n b) (past c p b n (charges n b) t r) (history c N r).dues
told c p b k N n r t e f w = rw (← f, ← e) w

-- no limit below the count
full : (limit : Option ℕ) (k : ℕ) → at_least k limit ≡ true → passes limit k ≡ k
full None k h = refl
full (Some n) k h = rw h

pub in_full : InFull
in_full c p b k N r w h enough =
    let e = full c.loop_limit k h in
    let f = sym (noticed_short c.loop_limit k) ∙ ap (λ (n : ℕ). ltb n k) e ∙ le-ltb k k (omega arith) in
    told c p b k N k r false e f (exact_passes c p b k N r w (rw e enough))

-- a limit below it
cut : (n k : ℕ) → n < k → passes (Some n) k ≡ max n 1
cut n k l = cases (eqb n 0) refl
  where
    cases : (t : Bool) → eqb n 0 ≡ t → passes (Some n) k ≡ max n 1
    cases true e = let z = eqb-true n 0 e in rw (lt-leb k n l, e) (omega arith)
    cases false e = let z = eqb-false n 0 e in rw (lt-leb k n l, e) (omega arith)

pub cut_short : CutShort
cut_short c p b k N L r w u l enough =
    let e : passes c.loop_limit k ≡ max L 1 = rw u (cut L k l) in
    let f = sym (noticed_short c.loop_limit k) ∙ ap (λ (n : ℕ). ltb n k) e in
    told c p b k N (max L 1) r (ltb (max L 1) k) e f (exact_passes c p b k N r w (rw e enough))
