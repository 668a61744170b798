-- Two calls that differ in nothing but the bits of NaNs in float cells, float context cells and `this` are answered alike. Assumes nothing.
use Prim.Native.Nat.{ℕ, zero, suc, ◌+◌, ◌^◌}
use native.Mathlib.Omega.{arith}
use mathlib.Core.Path.{◌≡◌, refl, sym, ◌∙◌, ap}
use mathlib.Core.Bool.{Bool, true, false, ◌||◌}
use mathlib.Core.List.{List, [], ◌∷◌}
use lib.Dec.{eqb}
use lib.ListN.{length, get_or, set, length-set}
use lib.Seq.{get_or-set_other}
use borrow.Author.Tests.{eqb-true, eqb-false, lt-ltb}
use Rattle.numeric.specs.Numbers.{entered}
use Rattle.numeric.proofs.OneNan.{on_both, entered-nan}
use Rattle.program.specs.declared.instr.Instr.{Instr}
use Rattle.tables.specs.Tables.{instr_at}
use Rattle.eval.specs.Machine.{Cells, Call, Machine, Due, fetch, constant, cells_are}
use Rattle.eval.specs.Acts.{acted}
use Rattle.eval.specs.Run.{Run, lift, goes_on, due_done, ticked, history, run_of, paid}
use Rattle.eval.proofs.Histories.{paid-none, paid_on, paid_last, end_none, end_on, end_last}
use Rattle.vm.specs.Call.{Brought, refusal_of, call_of, cell_fits, cells_fit, one_each, call_fits, refusal_by}
use Rattle.vm.specs.Purses.{purses, smaller}
use Rattle.vm.specs.Account.{end_of, left_by}
use Rattle.vm.specs.Called.{begun, called, paid_in}
use Rattle.vm.proofs.OneLimit.{one_limit}
use Rattle.vm.proofs.Settled.{is_accepted, is_refused, paid_in_lem}
use Rattle.nans.specs.Stored.{stores_to, stores_at, stored_to}
use Rattle.nans.specs.Hosts.{Alike, same, nans, AlikeCells, elsewhere, SameBut, SameOnHosts}
use Rattle.nans.proofs.Tests.{neither, or_left}
use Rattle.nans.proofs.Cells.{other, alike_itself, storing, Way, apart, stores, way}

-- ---- the cells of two hosts

-- equal at cell j
abbrev EqualAt : Cells → Cells → ℕ → Type 0
EqualAt a b j = get_or b.values j 0 ≡ get_or a.values j 0

-- from a and k to x and y: alike, equal where it was stored to, and where they were equal
record Twin (stored : ℕ → Bool) (a k x y : Cells) : Type 0 where
  alike : AlikeCells x y
  equal : (j : ℕ) → stored j ≡ true → EqualAt x y j
  stays : (j : ℕ) → EqualAt a k j → EqualAt x y j

-- nothing is stored to
twin_none : (stored : ℕ → Bool) (a k x : Cells) → ((j : ℕ) → stored j ≡ false) → x ≡ a → AlikeCells a k → Twin stored a k x k
twin_none stored a k x n e h = rw e (record { alike = h; equal = λ j s. neither s (n j); stays = λ j q. q })

-- two stretches of a run, one after the other
twin_joined : (s t : ℕ → Bool) (a k b l x y : Cells) → Twin s a k b l → Twin t b l x y → Twin (λ j. s j || t j) a k x y
twin_joined s t a k b l x y f g =
    record {
      alike = g.alike;
      equal = λ j e. on_both (t j) (g.equal j) (λ n. g.stays j (f.equal j (or_left (s j) (t j) e n)));
      stays = λ j q. g.stays j (f.stays j q);
    }

-- one number stored to the same cell of both
set_both : (x y : List ℕ) (n v : ℕ) → length y ≡ length x → get_or (set y n v) n 0 ≡ get_or (set x n v) n 0
set_both [] [] n v e = refl
set_both [] (w ∷ y) n v e = absurd (omega arith)
set_both (u ∷ x) [] n v e = absurd (omega arith)
set_both (u ∷ x) (w ∷ y) zero v e = refl
set_both (u ∷ x) (w ∷ y) (suc n) v e = set_both x y n v (omega arith)

module _ (n v : ℕ) (a k : Cells) (h : AlikeCells a k) where
  apart_from : (i : ℕ) → eqb n i ≡ false → i ≡ n → ⊥
  apart_from i e q = eqb-false n i e (sym q)

  stored_alike : AlikeCells (storing n v a) (storing n v k)
  stored_alike =
      record {
        kinds = ap (λ (x : List ℕ). set x n 1) h.kinds;
        count = length-set k.values n v ∙ h.count ∙ sym (length-set a.values n v);
        values = λ i.
            on_both (eqb n i) (λ e. same (rw (← eqb-true n i e) (sym (set_both a.values k.values n v h.count))))
            (λ e.
            rw (
              get_or-set_other a.kinds n i 1 0 (apart_from i e),
              get_or-set_other a.values n i v 0 (apart_from i e),
              get_or-set_other k.values n i v 0 (apart_from i e),
            )
            (h.values i));
      }

  stored_equal : (j : ℕ) → eqb n j ≡ true → EqualAt (storing n v a) (storing n v k) j
  stored_equal j e = rw (← eqb-true n j e) (set_both a.values k.values n v h.count)

  twin_stored : (stored : ℕ → Bool) (x : Cells) → ((j : ℕ) → stored j ≡ eqb n j) → x ≡ storing n v a → Twin stored a k x (storing n v k)
  twin_stored stored x t e =
      rw e
      (record {
        alike = stored_alike;
        equal = λ j s. stored_equal j (sym (t j) ∙ s);
        stays = λ j q.
            on_both (eqb n j) (stored_equal j)
            (λ f. get_or-set_other k.values n j v 0 (apart_from j f) ∙ q ∙ sym (get_or-set_other a.values n j v 0 (apart_from j f)));
      })

-- ---- two runs, charge by charge

abbrev having : Cells → Run → Run
having k r = lift (cells_are k) r

module _ (c : Call) (context : Cells) (x : AlikeCells c.context context) where
  abbrev d : Call
  d = other context c

  -- what an act leaves on the other host
  record Acts (stored : ℕ → Bool) (m : Machine) (k : Cells) (here there : Machine) : Type 0 where
    cells : Cells
    same_but : there ≡ cells_are cells here
    twin : Twin stored m.cells k here.cells cells

  act : (i : Instr) (m : Machine) (k : Cells) → AlikeCells m.cells k → Way c i m → Acts (stores_to i) m k (acted c i m) (acted d i (cells_are k m))
  act i m k h (apart n e) =
      let own = ap (λ (y : Machine). y.cells) (e c.context m.cells (alike_itself c.context) (alike_itself m.cells)) in
      record { cells = k; same_but = e context k x h; twin = twin_none (stores_to i) m.cells k _ n own h }
  act i m k h (stores n t e f) =
      record { cells = storing n m.acc k; same_but = f context k; twin = twin_stored n m.acc m.cells k h (stores_to i) _ t e }

  due : (w : Due) (m : Machine) (k : Cells) → AlikeCells m.cells k → Acts (stores_at c w m) m k (due_done c w m) (due_done d w (cells_are k m))
  unfolding due_done
  due fetch m k h = let i = instr_at c.code m.pos in act i m k h (way c i m)
  due (constant v) m k h = record { cells = k; same_but = refl; twin = twin_none (λ j. false) m.cells k _ (λ j. refl) refl h }

  -- the ends of both runs
  record Ends (n : ℕ) (r : Run) (k : Cells) : Type 0 where
    cells : Cells
    same_but : run_of d n (having k r) ≡ having cells (run_of c n r)
    twin : Twin (stored_to c (paid r (history c n r))) r.machine.cells k (run_of c n r).machine.cells cells

  -- after one charge
  record Ticks (r : Run) (k : Cells) : Type 0 where
    cells : Cells
    same_but : ticked d (having k r) ≡ having cells (ticked c r)
    twin : Twin (stores_at c r.machine.due r.machine) r.machine.cells k (ticked c r).machine.cells cells

  tick : (r : Run) (k : Cells) → AlikeCells r.machine.cells k → Ticks r k
  unfolding ticked
  tick r k h =
      let a = due r.machine.due r.machine k h in
      record { cells = a.cells; same_but = ap (λ (m : Machine). record { machine = m; charges = r.charges + 1 }) a.same_but; twin = a.twin }

  ends-none : (r : Run) (k : Cells) → AlikeCells r.machine.cells k → Ends zero r k
  unfolding stored_to
  ends-none r k h =
      record {
        cells = k;
        same_but = end_none d (having k r) ∙ ap (having k) (sym (end_none c r));
        twin = rw (paid-none c r, end_none c r) (twin_none (λ j. false) r.machine.cells k _ (λ j. refl) refl h);
      }

  ends_on : (n : ℕ) (r : Run) (k : Cells) (t : Ticks r k) → goes_on (ticked c r) ≡ true → Ends n (ticked c r) t.cells → Ends (suc n) r k
  unfolding stored_to
  ends_on n r k t g i =
      let g' : goes_on (ticked d (having k r)) ≡ true = rw t.same_but g in
      record {
        cells = i.cells;
        same_but = end_on d n (having k r) g' ∙ ap (run_of d n) t.same_but ∙ i.same_but ∙ ap (having i.cells) (sym (end_on c n r g));
        twin = rw (paid_on c n r g, end_on c n r g) (twin_joined _ (stored_to c (paid (ticked c r) (history c n (ticked c r)))) _ _ _ _ _ _ t.twin i.twin);
      }

  ends_last : (n : ℕ) (r : Run) (k : Cells) (t : Ticks r k) → goes_on (ticked c r) ≡ false → Ends (suc n) r k
  unfolding stored_to
  ends_last n r k t g =
      let g' : goes_on (ticked d (having k r)) ≡ false = rw t.same_but g in
      record {
        cells = t.cells;
        same_but = end_last d n (having k r) g' ∙ t.same_but ∙ ap (having t.cells) (sym (end_last c n r g));
        twin =
            rw (paid_last c n r g, end_last c n r g)
            (twin_joined _ (λ j. false) _ _ _ _ _ _ t.twin (twin_none (λ j. false) _ _ _ (λ j. refl) refl t.twin.alike));
      }

  ends : (n : ℕ) (r : Run) (k : Cells) → AlikeCells r.machine.cells k → Ends n r k
  ends zero r k h = ends-none r k h
  ends (suc n) r k h =
      let t = tick r k h in
      on_both (goes_on (ticked c r)) (λ g. ends_on n r k t g (ends n (ticked c r) t.cells t.twin.alike)) (λ g. ends_last n r k t g)

-- ---- two calls

-- 10 is tested alike
fits_cell : (kind x y : ℕ) → Alike kind x y → cell_fits kind y ≡ cell_fits kind x
unfolding cell_fits
fits_cell kind x y (same e) = rw e
fits_cell kind x y (nans k g h) = rw (k, lt-ltb x (2 ^ 32) g.short, lt-ltb y (2 ^ 32) h.short)

fits_cells : (kinds x y : List ℕ) → ((i : ℕ) → Alike (get_or kinds i 0) (get_or x i 0) (get_or y i 0)) → (i n : ℕ) → cells_fit kinds y i n ≡ cells_fit kinds x i n
unfolding cells_fit
fits_cells kinds x y h i zero = refl
fits_cells kinds x y h i (suc n) = rw (fits_cell (get_or kinds i 0) _ _ (h i), fits_cells kinds x y h (i + 1) n)

fits_each : (names : ℕ) (a k : Cells) → AlikeCells a k → one_each names k.kinds k.values ≡ one_each names a.kinds a.values
unfolding one_each
fits_each names a k h = rw (h.kinds, h.count, fits_cells a.kinds a.values k.values h.values 0 names)

-- `this` enters alike
this_alike : (x y : ℕ) → Alike 1 x y → entered y ≡ entered x
this_alike x y (same e) = rw e
this_alike x y (nans k g h) = entered-nan y h.is ∙ sym (entered-nan x g.is)

module _ (b : Brought) (cells context : Cells) (this : ℕ) (h : AlikeCells b.lent.cells cells) (x : AlikeCells b.context context)
    (t : Alike 1 b.terms.this this) where
  abbrev there : Brought
  there = elsewhere cells context this b

  same-refusal : refusal_of there ≡ refusal_of b
  unfolding refusal_by call_fits
  same-refusal = rw (fits_each _ b.lent.cells cells h, fits_each _ b.context context x)

  same_call : call_of there ≡ other context (call_of b)
  same_call = rw (this_alike b.terms.this this t)

  accepted : refusal_of b ≡ 0 → SameBut (stored_to (call_of b) (paid_in b)) (called b) (called there)
  unfolding left_by end_of
  accepted z =
      let c = call_of b in
      let p = purses b.terms in
      let e = ends c context x (smaller p) (begun b) cells h in
      rw (
        paid_in_lem b z,
        is_accepted b z,
        is_accepted there (same-refusal ∙ z),
        same_call,
        one_limit c p.guest p.house (begun b) refl,
        one_limit (other context c) p.guest p.house (begun there) refl,
        e.same_but,
      )
      (record { reply = refl; stack = refl; loops = refl; handlers = refl; cells = e.twin.alike; equal = e.twin.equal })

  nothing-charged : (refusal_of b ≡ 0 → ⊥) → paid_in b ≡ []
  nothing-charged z = rw (← is_refused b (refusal_of b) refl z)

  sent_back : (refusal_of b ≡ 0 → ⊥) → SameBut (stored_to (call_of b) (paid_in b)) (called b) (called there)
  unfolding stored_to
  sent_back z =
      rw (nothing-charged z, ← is_refused b (refusal_of b) refl z, ← is_refused there (refusal_of b) (sym same-refusal) z)
      (record { reply = refl; stack = refl; loops = refl; handlers = refl; cells = h; equal = λ i s. neither s refl })

pub same_on_hosts : SameOnHosts
same_on_hosts b cells context this h x t =
    on_both (eqb (refusal_of b) 0)
    (λ e. accepted b cells context this h x t (eqb-true (refusal_of b) 0 e))
    (λ e. sent_back b cells context this h x t (eqb-false (refusal_of b) 0 e))
