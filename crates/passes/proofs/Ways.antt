-- How a run goes on from one due charge to a later one. Assumes nothing.
use Prim.Native.Nat.{ℕ, suc, ◌+◌, ◌-◌, ◌≤◌, ◌<◌}
use native.Mathlib.Omega.{arith}
use mathlib.Core.Path.{◌≡◌, refl, ◌∙◌, ap}
use mathlib.Core.Bool.{true, cond}
use mathlib.Core.List.{List, [], ◌∷◌, ◌++◌, append_assoc}
use lib.ListN.{length, get_or, take, drop, length-append}
use lib.Seq.{take_at, get_or_at}
use Rattle.eval.specs.Machine.{Call}
use Rattle.eval.specs.Run.{Run, History, goes_on, ticked, history}
use Rattle.eval.proofs.Histories.{before_all, history-next, first_due}
use Rattle.passes.specs.Passes.{fetches, fetches_at}

-- from r the run comes to t, and l is what stood each time a charge fell due on the way, t not among it
abbrev Comes : Call → Run → List Run → Run → Type 0
Comes c r l t = (N : ℕ) → history c (length l + N) r ≡ before_all l (history c N t)

module _ (c : Call) where
  comes_here : (r : Run) → Comes c r [] r
  comes_here r N = let q : 0 + N ≡ N = omega arith in rw q

  -- one charge
  comes_next : (r t : Run) → ticked c r ≡ t → goes_on t ≡ true → Comes c r (r ∷ []) t
  comes_next r t e h N = let q : 1 + N ≡ suc N = omega arith in rw q (history-next c N r t e h)

  -- one way after another
  comes_on : (r : Run) (l : List Run) (s : Run) (m : List Run) (t : Run) → Comes c r l s → Comes c s m t → Comes c r (l ++ m) t
  comes_on r l s m t f g N =
      let q : length (l ++ m) + N ≡ length l + (length m + N) = let a = length-append l m in omega arith in
      rw q (f (length m + N) ∙ ap (before_all l) (g N) ∙ rw append_assoc)

fetches-append : (q : ℕ) (l m : List Run) → fetches q (l ++ m) ≡ fetches q l + fetches q m
unfolding fetches
fetches-append q [] m = omega arith
fetches-append q (r ∷ l) m = rw (fetches-append q l m) (omega arith)

-- a way of n charges, on which the fetch of the record at q falls due f times
pub record Way (c : Call) (q : ℕ) (r t : Run) (n f : ℕ) : Type 0 where
  pub between : List Run
  pub comes : Comes c r between t
  pub long : length between ≡ n
  pub fetched : fetches q between ≡ f

module _ {c : Call} {q : ℕ} where
  pub way_none : {r : Run} → Way c q r r 0 0
  unfolding fetches
  way_none {r} = record { between = []; comes = comes_here c r; long = refl; fetched = refl }

  pub way_on : {r s t : Run} {n f m g : ℕ} → Way c q r s n f → Way c q s t m g → Way c q r t (n + m) (f + g)
  way_on {r} {s} {t} v w =
      record {
        between = v.between ++ w.between;
        comes = comes_on c r v.between s w.between t v.comes w.comes;
        long = length-append v.between w.between ∙ rw (v.long, w.long);
        fetched = fetches-append q v.between w.between ∙ rw (v.fetched, w.fetched);
      }

  pub way_next : {r t : Run} → ticked c r ≡ t → goes_on t ≡ true → Way c q r t 1 (cond (fetches_at q r) 1 0)
  unfolding fetches
  way_next {r} {t} e h =
      record { between = r ∷ []; comes = comes_next c r t e h; long = refl; fetched = omega arith }

  -- told in other words
  pub way_as : {r t u : Run} {n m f g : ℕ} → Way c q r t n f → t ≡ u → n ≡ m → f ≡ g → Way c q r u m g
  way_as w d e i =
      record {
        between = w.between;
        comes = λ N. w.comes N ∙ ap (λ (k : Run). before_all w.between (history c N k)) d;
        long = w.long ∙ e;
        fetched = w.fetched ∙ i;
      }

-- ---- read off a history

module _ {c : Call} {q : ℕ} {r t : Run} {n f : ℕ} (w : Way c q r t n f) (N : ℕ) (enough : n ≤ N) where
  pub way_history : history c N r ≡ before_all w.between (history c (N - n) t)
  way_history =
      let e : length w.between + (N - n) ≡ N = let l = w.long in omega arith in
      rw e at (w.comes (N - n))

  abbrev dues : List Run
  dues = (history c N r).dues

  split : dues ≡ w.between ++ t ∷ drop 1 (history c (N - n) t).dues
  split = ap (λ (h : History). h.dues) way_history ∙ ap (λ (l : List Run). w.between ++ l) (first_due c (N - n) t)

  -- so many charges later another falls due
  pub way_there : n < length dues
  way_there =
      let e = ap (λ (l : List Run). length l) split ∙ length-append w.between (t ∷ drop 1 (history c (N - n) t).dues) in
      let l = w.long in
      omega arith

  -- .. and then t stands
  pub way_stands : (d : Run) → get_or dues n d ≡ t
  way_stands d = ap (λ (l : List Run). get_or l n d) split ∙ get_or_at w.between t (drop 1 (history c (N - n) t).dues) d n w.long

  pub way_fetched : fetches q (take n dues) ≡ f
  way_fetched =
      ap (λ (l : List Run). fetches q (take n l)) split
      ∙ ap (fetches q) (take_at w.between (t ∷ drop 1 (history c (N - n) t).dues) n w.long) ∙ w.fetched
