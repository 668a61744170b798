-- A count that no pass spends never leaves the loop. Assumes nothing.
use Prim.Native.Nat.{ℕ, zero, suc, ◌+◌, ◌≤◌, ◌<◌}
use native.Mathlib.Omega.{arith}
use native.Mathlib.Numerals.{add-one}
use mathlib.Core.Path.{◌≡◌, refl, sym, ◌∙◌, ap}
use mathlib.Core.Bool.{Bool, true, false}
use mathlib.Core.List.{List, [], ◌∷◌}
use lib.ListN.{length, get_or}
use lib.Dec.{ltb}
use borrow.Author.Tests.{ltb-true, ltb-false}
use Rattle.numeric.specs.Numbers.{one, sub}
use Rattle.tables.specs.Tables.{instr_at}
use Rattle.eval.specs.Stacks.{push}
use Rattle.eval.specs.Machine.{Call, Machine, Handler, for_steps}
use Rattle.eval.specs.declared.machine.Notices.{Notices}
use Rattle.std.specs.Prelude.{None}
use Rattle.eval.specs.Acts.{acted}
use Rattle.eval.specs.Run.{Run, History, ticked, history}
use Rattle.passes.specs.Whole.{Lasting, IsStuck, IsEndless, IsNan}
use Rattle.passes.specs.Passes.{CountedLoop, Before, InLoop, Endless, NeverLeaves}
use Rattle.passes.proofs.Beyond.{stuck_lasts, endless_lasts, nan_lasts}
use Rattle.eval.proofs.Histories.{before_all, history-next}
use Rattle.passes.proofs.Straight.{stands, waiting, given, tick}
use Rattle.passes.proofs.Ticks.{begins, goes_back}

-- a run in the loop stays there: of N more charges all are made
record Stays (p b N ch : ℕ) (h : History) : Type 0 where
  all : length h.dues ≡ N + 1
  inside : (i : ℕ) (d : Run) → i ≤ N → InLoop p b (get_or h.dues i d)
  stopped : h.end.machine.outcome ≡ for_steps
  charged : h.end.charges ≡ ch + N

module _ (c : Call) (p b : ℕ) (r : Run) (here : InLoop p b r) where
  stays_none : Stays p b 0 r.charges (history c 0 r)
  unfolding history
  stays_none =
      record {
        all = refl;
        inside = λ i d o. let e : i ≡ 0 = omega arith in rw e here;
        stopped = refl;
        charged = omega arith;
      }

  stays_before : (N : ℕ) (h : History) → Stays p b N (r.charges + 1) h → Stays p b (suc N) r.charges (before_all (r ∷ []) h)
  stays_before N h w =
      record {
        all = let l = w.all in omega arith;
        inside = first_or_later;
        stopped = w.stopped;
        charged = let l = w.charged in omega arith;
      }
    where
      first_or_later : (i : ℕ) (d : Run) → i ≤ suc N → InLoop p b (get_or (before_all (r ∷ []) h).dues i d)
      first_or_later zero d o = here
      first_or_later (suc j) d o = w.inside j d (omega arith)

-- counts of a kind of which none is spent
module _ (P : ℕ → Type 0) (lasting : Lasting P) (c : Call) (p b : ℕ) (loop : CountedLoop c.code p b) (unlimited : c.loop_limit ≡ None) where
  module _ (s l : List ℕ) (h : List Handler) (n : Notices) (pops : ℕ) (low : length s + 1 ≤ 65536) where
    -- at record i of the body, or at LoopCheck
    abbrev within : ℕ → Machine → ℕ → ℕ → Run
    within i a v ch = stands (p + 1 + i) a (push v s) (push 1 l) h n pops ch

    is_within : (i : ℕ) (a : Machine) (v ch : ℕ) → i ≤ b → InLoop p b (within i a v ch)
    is_within i a v ch o = record { entered = omega arith; not_left = omega arith }

    abbrev StaysFrom : ℕ → Run → Type 0
    StaysFrom N r = Stays p b N r.charges (history c N r)

    -- a body record
    goes_on : (N i : ℕ) (a : Machine) (v ch : ℕ) → i < b
        → StaysFrom N (within (i + 1) (acted c (instr_at c.code (p + 1 + i)) a) v (ch + 1)) → StaysFrom (suc N) (within i a v ch)
    goes_on N i a v ch o w =
        let e : p + 1 + i + 1 ≡ p + 1 + (i + 1) = omega arith in
        let t = tick c (push v s) (push 1 l) h n pops (p + 1 + i) a ch (loop.body i o) in
        rw (history-next c N (within i a v ch) _ t refl, e) (stays_before c p b (within i a v ch) (is_within i a v ch (omega arith)) N _ w)

    -- LoopCheck
    goes_round : (N : ℕ) (a : Machine) (v ch : ℕ) → P v → StaysFrom N (within 0 a (sub v one) (ch + 1)) → StaysFrom (suc N) (within b a v ch)
    goes_round N a v ch o w =
        let e : p + 1 + b ≡ p + b + 1 = omega arith in
        let f : p + 1 + 0 ≡ p + 1 = omega arith in
        let t = goes_back c (p + 1 + b) a s l h n pops ch v 1 (p + 1) (rw e loop.check) low (sub v one) unlimited (lasting.left v o) refl in
        rw (history-next c N (within b a v ch) _ t refl) (stays_before c p b (within b a v ch) (is_within b a v ch (omega arith)) N _ (rw f at w))

    stays : (N i : ℕ) (a : Machine) (v ch : ℕ) → i ≤ b → P v → StaysFrom N (within i a v ch)
    stays zero i a v ch o w = stays_none c p b (within i a v ch) (is_within i a v ch o)
    stays (suc N) i a v ch o w =
        either (ltb i b) refl (λ l. stays N (i + 1) next v (ch + 1) l w) (stays N 0 a (sub v one) (ch + 1) (omega arith) (lasting.again v w))
      where
        next : Machine
        next = acted c (instr_at c.code (p + 1 + i)) a

        either : (t : Bool) → ltb i b ≡ t → (i + 1 ≤ b → StaysFrom N (within (i + 1) next v (ch + 1)))
            → StaysFrom N (within 0 a (sub v one) (ch + 1)) → StaysFrom (suc N) (within i a v ch)
        either true e f g = goes_on N i a v ch (ltb-true i b e) (f (let u = ltb-true i b e in omega arith))
        either false e f g = let u : i ≡ b = let z = ltb-false i b e in omega arith in rw u (goes_round N a v ch w g)

  -- LoopBegin lets it in
  module _ (v : ℕ) (r : Run) (o : P v) (at : Before c p v r) where
    abbrev m : Machine
    m = r.machine

    abbrev entered : Run
    entered = stands (p + 1) (waiting p v m) (push (sub v one) m.stack) (push 1 m.loops) m.handlers m.notices m.empty_pops (r.charges + 1)

    enters : ticked c r ≡ entered
    enters =
        ap (ticked c) (sym (given c p v r at))
        ∙ begins c p (waiting p v m) m.stack m.loops m.handlers m.notices m.empty_pops r.charges loop.exit v (sub v one) loop.begin
        refl (lasting.left v o) refl at.stack_free at.loops_free

    stays_in : (N : ℕ) → Stays p b N (r.charges + 1) (history c N entered)
    stays_in N =
        let e : p + 1 + 0 ≡ p + 1 = omega arith in
        let w = stays m.stack m.loops m.handlers m.notices m.empty_pops at.under_cap N 0 (waiting p v m) (sub v one) (r.charges + 1) in
        rw e at (w (omega arith) (lasting.again v o))

  lasts_none : (r : Run) → Endless p b 0 r (history c 0 r)
  unfolding history
  lasts_none r =
      record { all = refl; inside = λ i d o. absurd (omega arith); stopped = refl; made = omega arith }

  lasts_more : (N : ℕ) (r : Run) (h : History) → Stays p b N (r.charges + 1) h → Endless p b (suc N) r (before_all (r ∷ []) h)
  lasts_more N r h w =
      record {
        all = let l = w.all in omega arith;
        inside = λ i d o. rw add-one (w.inside i d (omega arith));
        stopped = w.stopped;
        made = let l = w.charged in omega arith;
      }

  lasts : (N v : ℕ) (r : Run) → P v → Before c p v r → Endless p b N r (history c N r)
  lasts zero v r o at = lasts_none r
  lasts (suc N) v r o at =
      rw (history-next c N r (entered v r o at) (enters v r o at) refl) (lasts_more N r (history c N (entered v r o at)) (stays_in v r o at N))

never : (P : ℕ → Type 0) → Lasting P → NeverLeaves P
never P lasting c p b v N r o loop unlimited at = lasts P lasting c p b loop unlimited N v r o at

pub never_leaves : NeverLeaves IsStuck
never_leaves = never IsStuck stuck_lasts

-- .. nor does any count from 16,777,220 on leave, whole or not
pub none_leaves : NeverLeaves IsEndless
none_leaves = never IsEndless endless_lasts

-- .. nor does a NaN
pub nan_never_leaves : NeverLeaves IsNan
nan_never_leaves = never IsNan nan_lasts
