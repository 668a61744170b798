-- In a run from the start no NaN but 7FC00000 ever stands, and a cell nobody stores to keeps its bits. Assumes nothing.
use Prim.Native.Nat.{ℕ}
use mathlib.Core.Path.{◌≡◌, refl, sym, ◌∙◌, ap}
use mathlib.Core.Bool.{Bool, false, ◌||◌, cond}
use mathlib.Core.List.{List, [], ◌∷◌}
use lib.Dec.{eqb}
use lib.ListN.{get_or}
use lib.Seq.{get_or-set_other}
use borrow.Author.Tests.{eqb-true, eqb-false}
use Rattle.numeric.specs.Numbers.{OneNan, zero}
use Rattle.numeric.proofs.OneNan.{on_both, zero_one, entered-one}
use Rattle.tables.specs.Tables.{instr_at}
use Rattle.eval.specs.Machine.{Cells, Call, Machine, Due, fetch, constant, done}
use Rattle.program.specs.declared.instr.Instr.{Instr}
use Rattle.eval.specs.Acts.{acted}
use Rattle.eval.specs.Run.{Run, due_done, ticked, history}
use Rattle.eval.proofs.Histories.{at-dues, at_end}
use Rattle.vm.specs.Call.{Brought, call_of}
use Rattle.vm.specs.Purses.{purses, smaller}
use Rattle.std.proofs.lemmas.Bool.{or_parts}
use Rattle.vm.specs.Account.{end_of, left_by}
use Rattle.vm.specs.Called.{begun}
use Rattle.vm.proofs.OneLimit.{kept}
use Rattle.vm.proofs.Settled.{is_accepted, paid_in_lem}
use Rattle.nans.specs.Stored.{stores_to, stores_at, stored_to}
use Rattle.nans.specs.OneNan.{Clean, Kept, Stands, OneNanEver, OneNanInCalls}
use Rattle.nans.proofs.Tests.{neither, or_left}
use Rattle.nans.proofs.Lists.{all_none, set-one, all_zeros, all_stored}
use Rattle.nans.proofs.Clean.{due_cleanly}
use Rattle.nans.proofs.Cells.{alike_itself, storing, Way, apart, stores, way}

-- ---- cells

untouched : (a b : Cells) → b ≡ a → (stored : ℕ → Bool) → ((j : ℕ) → stored j ≡ false) → Kept stored a b
untouched a b e stored n =
    record {
      one = λ i s. neither s (n i);
      kind = λ i s. ap (λ (x : Cells). get_or x.kinds i 0) e;
      value = λ i s. ap (λ (x : Cells). get_or x.values i 0) e;
    }

-- the accumulator in cell n
stored_to_lem : (n v : ℕ) (a b : Cells) → OneNan v → b ≡ storing n v a → (stored : ℕ → Bool) → ((j : ℕ) → stored j ≡ eqb n j) → Kept stored a b
stored_to_lem n v a b o e stored t =
    let others : (i : ℕ) → stored i ≡ false → i ≡ n → ⊥ = λ i s q. eqb-false n i (sym (t i) ∙ s) (sym q) in
    record {
      one = λ i s. rw (e, ← eqb-true n i (sym (t i) ∙ s)) (set-one a.values n v o);
      kind = λ i s. rw e (get_or-set_other a.kinds n i 1 0 (others i s));
      value = λ i s. rw e (get_or-set_other a.values n i v 0 (others i s));
    }

-- two stretches of a run, one after the other
joined : (s t : ℕ → Bool) (a b c : Cells) → Kept s a b → Kept t b c → Kept (λ i. s i || t i) a c
joined s t a b c h k =
    record {
      one = λ i e. on_both (t i) (k.one i) (λ f. rw (k.value i f) (h.one i (or_left (s i) (t i) e f)));
      kind = λ i e. k.kind i (or_parts (s i) (t i) e).1 ∙ h.kind i (or_parts (s i) (t i) e).0;
      value = λ i e. k.value i (or_parts (s i) (t i) e).1 ∙ h.value i (or_parts (s i) (t i) e).0;
    }

-- ---- one charge

kept_by : (c : Call) (i : Instr) (m : Machine) → OneNan m.acc → Way c i m → Kept (stores_to i) m.cells (acted c i m).cells
kept_by c i m o (apart n e) =
    untouched m.cells _ (ap (λ (x : Machine). x.cells) (e c.context m.cells (alike_itself c.context) (alike_itself m.cells))) (stores_to i) n
kept_by c i m o (stores n t e f) = stored_to_lem n m.acc m.cells _ o e (stores_to i) t

due_kept : (c : Call) (d : Due) (m : Machine) → OneNan m.acc → Kept (stores_at c d m) m.cells (due_done c d m).cells
unfolding due_done
due_kept c fetch m o = let i = instr_at c.code m.pos in kept_by c i m o (way c i m)
due_kept c (constant k) m o = untouched m.cells _ refl (λ j. false) (λ j. refl)

-- ---- a history

module _ (c : Call) (t : OneNan c.this) where
  tick_clean : (r : Run) → Clean r.machine → Clean (ticked c r).machine
  unfolding ticked
  tick_clean r h = due_cleanly c r.machine.due r.machine t h

  tick_kept : (r : Run) → Clean r.machine → Kept (stores_at c r.machine.due r.machine) r.machine.cells (ticked c r).machine.cells
  unfolding ticked
  tick_kept r h = due_kept c r.machine.due r.machine h.acc_one

  -- from a clean run
  abbrev From : Run → List Run → Run → Type 0
  From r l s = Clean r.machine → Stands c r l s

  none : (r : Run) → From r [] r
  unfolding stored_to
  none r h = record { clean = h; cells = untouched r.machine.cells _ refl (λ j. false) (λ j. refl) }

  more : (r : Run) (l : List Run) (s : Run) → From (ticked c r) l s → From r (r ∷ l) s
  unfolding stored_to
  more r l s f h =
      let k = f (tick_clean r h) in
      record { clean = k.clean; cells = joined _ (stored_to c l) _ _ _ (tick_kept r h) k.cells }

-- ---- the theorems

pub one_nan_lem : OneNanEver
one_nan_lem b n r h =
    let c = call_of b in
    let t = entered-one b.terms.this in
    record {
      due = λ k l. at-dues c (From c t) (none c t) (more c t) n r k r l h;
      end = at_end c (From c t) (none c t) (more c t) (λ r l s f. λ e. record { clean = (f e).clean; cells = (f e).cells }) n r h;
    }

-- the start of every run
clean_start : (b : Brought) → Clean (begun b).machine
clean_start b = record { acc_one = zero_one; stack_one = all_none; temps_one = all_zeros 8 }

-- the value is the accumulator or +0.0
value_one : (outcome acc : ℕ) → OneNan acc → OneNan (cond (eqb outcome done) acc zero)
value_one outcome acc o = on_both (eqb outcome done) (λ e. rw e o) (λ e. rw e zero_one)

pub one_nan_in_calls : OneNanInCalls
unfolding left_by end_of
one_nan_in_calls b z =
    let c = call_of b in
    let p = purses b.terms in
    let e = (kept c p.guest p.house (begun b)).same in
    let s = (one_nan_lem b (smaller p) (begun b) (clean_start b)).end in
    let m = (history c (smaller p) (begun b)).end.machine in
    rw (paid_in_lem b z, is_accepted b z, e)
    (record {
      value = value_one m.outcome m.acc s.clean.acc_one;
      accumulator = s.clean.acc_one;
      temps = s.clean.temps_one;
      stack = all_stored c.stack_room m.stack s.clean.stack_one;
      cells = s.cells;
    })
