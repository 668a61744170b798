-- What several records' proofs rest on. Assumes nothing.
use Prim.Native.Nat.{ℕ}
use mathlib.Core.Path.{◌≡◌, refl, sym, ◌∙◌, ap, subst}
use mathlib.Core.Bool.{true}
use mathlib.Core.List.{List}
use lib.ListN.{length, drop}
use lib.Ieee.{lt, eq, le, of_bits}
use Rattle.std.specs.Prelude.{unwrap_or}
use Rattle.numeric.specs.Numbers.{zero}
use Rattle.numeric.specs.Numbers.{le as at_most}
use Rattle.eval.specs.Machine.{Machine}
use Rattle.eval.specs.Acts.{operand, without_top, on_operand, posted, loaded}
use Rattle.eval.specs.Run.{Run, lift}
use Rattle.eval.specs.State.{Stores, run, laid_over, Within, Made, Wrote, Took, Acts, Reads, Writes, Operates, Loads, both, with_stack}
use Rattle.eval.proofs.Stacks.{over_own, map_pack}
use Rattle.eval.specs.declared.machine.State.{State}
use Rattle.eval.specs.declared.machine.Taken.{Taken}

-- no entry at or above a state's depths differs
pub record Kept (s : State) (x y : Stores) : Type 0 where
  pub stack : drop s.stack y.lent.stack ≡ drop s.stack x.lent.stack
  pub loops : drop s.loops y.lent.loops ≡ drop s.loops x.lent.loops
  pub handlers : drop s.handlers y.lent.handlers ≡ drop s.handlers x.lent.handlers

-- such stores are the others with the state's own stacks laid over them
pub own : (s : State) (x y : Stores) → Within s y → Kept s x y → laid_over x (run s y).machine ≡ y
own s x y w k =
    rw (
      map_pack,
      over_own s.stack x.lent.stack y.lent.stack w.on_stack k.stack,
      over_own s.loops x.lent.loops y.lent.loops w.on_loops k.loops,
      over_own s.handlers x.lent.handlers y.lent.handlers w.on_handlers k.handlers,
    )

-- the stores whole: t with the stores y has the stacks of R, which k leaves as they are
whole : (k : Machine → Machine) (t : State) (x y : Stores) (R : Run) → ((m : Machine) → laid_over x (k m) ≡ laid_over x m) → Within t y → Kept t x y
    → lift k (run t y) ≡ R → y ≡ laid_over x R.machine
whole k t x y R keeps w kept e = sym (own t x y w kept) ∙ sym (keeps (run t y).machine) ∙ ap (λ (q : Run). laid_over x q.machine) e

-- no store is written to
abbrev pub unwritten : (s : State) (x : Stores) → Kept s x x
unwritten s x = record { stack = refl; loops = refl; handlers = refl }

-- what f makes of s is what k makes of t, which changes no stack and no store; the stores are put in by g as they came, by
-- h as they are left
pub onto : (g h : Stores → Stores) (f k : Machine → Machine) (s t r : State) → Acts k t r → ((x : Stores) (m : Machine) → laid_over x (k m) ≡ laid_over x m)
    → ((x : Stores) → Within s (g x) → Within t (g x)) → ((x : Stores) → Within s (g x) → Within t (h x))
    → ((x : Stores) → Kept t (g x) (h x)) → ((x : Stores) → Within s (g x) → lift k (run t (h x)) ≡ lift f (run s (g x)))
    → Writes g h f s r
onto g h f k s t r acts keeps before after kept e x w =
    record {
      made = record { within = (acts (g x) (before x w)).within; same = (acts (h x) (after x w)).same ∙ e x w };
      whole = whole k t (g x) (h x) (lift f (run s (g x))) (keeps (g x)) (after x w) (kept x) (e x w);
    }

-- the same of both charges of a PushConst
pub loads : (limit v : ℕ) (k : Machine → Machine) (s t r : State) (x y : Stores) → Acts k t r → ((m : Machine) → laid_over x (k m) ≡ laid_over x m)
    → Within t x → Within t y → Kept t x y → lift k (run t y) ≡ both (length x.lent.stack) v limit (run s x) → Loads limit v s x r y
loads limit v k s t r x y acts keeps before after kept e =
    record {
      within = (acts x before).within;
      same = (acts y after).same ∙ e;
      whole = whole k t x y (both (length x.lent.stack) v limit (run s x)) keeps after kept e;
    }

-- a state that was made, and above whose depths nothing changed
pub wrote : (f : Machine → Machine) (s r : State) (x y : Stores) → Made f s x r y → Within r y → Kept r x y → Wrote f s x r y
wrote f s r x y m w kept = record { made = m; whole = whole (λ n. n) r x y (lift f (run s x)) (λ n. refl) w kept m.same }

-- a function that writes to the stores that it is lent on another way alone
pub reads : (g : Stores → Stores) (f : Machine → Machine) (s r : State) → Reads g f s r → Writes g g f s r
reads g f s r acts x w = let m = acts x w in wrote f s r (g x) (g x) m m.within (unwritten r (g x))

-- what g makes is what f makes
pub likewise : (f g : Machine → Machine) (s r : State) (x y : Stores) → Wrote g s x r y → lift g (run s x) ≡ lift f (run s x) → Wrote f s x r y
likewise f g s r x y m e =
    record {
      made = record { within = m.made.within; same = m.made.same ∙ e };
      whole = m.whole ∙ ap (λ (q : Run). laid_over x q.machine) e;
    }

-- what f makes of s is what k makes of t, of stores that are read
pub after : (g : Stores → Stores) (f k : Machine → Machine) (s t r : State) → Acts k t r → ((x : Stores) → Within s (g x) → Within t (g x))
    → ((x : Stores) → Within s (g x) → lift k (run t (g x)) ≡ lift f (run s (g x))) → Reads g f s r
after g f k s t r acts deep e x w = let m = acts (g x) (deep x w) in record { within = m.within; same = m.same ∙ e x w }

-- the same of one state
pub by : (k : Stores → Stores) (f g : Machine → Machine) (s r : State) → Acts g s r
    → ((x : Stores) → Within s (k x) → lift g (run s (k x)) ≡ lift f (run s (k x))) → Reads k f s r
by k f g s r acts e = after k f g s s r acts (λ x w. w) e

-- an operand is taken, and then a number loaded, which is what f loads
pub on_operand_lem : (f : Machine → Machine) (s r : State) (stack : List ℕ) (t : Taken) (v : ℕ) → Took s stack t → Acts (loaded v) t.left r
    → ((x : Stores) → unwrap_or t.number zero ≡ operand (run s (with_stack stack x)).machine → lift (loaded v) (lift without_top (run s (with_stack stack x))) ≡ lift f (run s (with_stack stack x)))
    → Reads (with_stack stack) f s r
on_operand_lem f s r stack t v took load e x w =
    let k = took.takes x w in
    let l = load (with_stack stack x) k.within in
    record { within = l.within; same = l.same ∙ ap (lift (loaded v)) k.left ∙ e x k.number }

-- an operand is taken, an operation gives a number of it and of the accumulator, and the number's post is loaded
pub operates : (Op : ℕ → ℕ → ℕ → Type 0) (s r : State) (stack posts : List ℕ) (p : ℕ) (t : Taken) (n v : ℕ) → Took s stack t
    → Op (unwrap_or t.number zero) s.acc n → v ≡ posted posts p n → Acts (loaded v) t.left r → Operates Op stack posts p s r
operates Op s r stack posts p t n v took op e load x w =
    let k = took.takes x w in
    let l = load (with_stack stack x) k.within in
    let left = lift without_top (run s (with_stack stack x)) in
    record {
      number = n;
      gives = subst (λ (a : ℕ). Op a s.acc n) k.number op;
      made = record { within = l.within; same = l.same ∙ ap (lift (loaded v)) k.left ∙ ap (λ (q : ℕ). lift (loaded q) left) e };
    }

-- the same of an operation that is a function
pub operated : {Op : ℕ → ℕ → ℕ → Type 0} (g : ℕ → ℕ → ℕ) {s r : State} {stack posts : List ℕ} {p : ℕ} → Operates Op stack posts p s r
    → ((a b n : ℕ) → Op a b n → n ≡ g a b) → Reads (with_stack stack) (on_operand (λ popped acc. posted posts p (g popped acc))) s r
operated g {s} {r} {stack} {posts} {p} o gives x w =
    let k = o x w in
    let with = λ (n : ℕ). lift (on_operand (λ popped acc. posted posts p n)) (run s (with_stack stack x)) in
    record { within = k.made.within; same = k.made.same ∙ ap with (gives _ _ _ k.gives) }

-- a count of +0.0 is spent
pub zero-spent : at_most zero zero ≡ true
unfolding at_most le lt eq of_bits
zero-spent = refl
