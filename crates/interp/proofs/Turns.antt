-- The turns of the loop in `go`. Assumes nothing.
use Prim.Native.Nat.{ℕ, ◌+◌, ◌-◌, ◌≤◌}
use native.Mathlib.Omega.{arith}
use mathlib.Core.Path.{◌≡◌, sym, ◌∙◌, subst}
use mathlib.Core.Bool.{true, false}
use mathlib.Core.List.{List}
use Rattle.std.specs.Prelude.{Option}
use Rattle.eval.specs.Machine.{Call, stop, for_steps}
use Rattle.eval.specs.Run.{goes_on}
use Rattle.eval.specs.State.{run, Within, Acts}
use Rattle.eval.specs.declared.machine.State.{State}
use Rattle.interp.specs.declared.Task.{Task}
use Rattle.interp.specs.declared.Lent.{Lent}
use Rattle.interp.specs.Moves.{call_of, lent_in, stores_in, SameLent, Moved, Stepped, Finished, finish, finish_stores}
use Rattle.interp.proofs.Laws.{finish_on, finish_end, run_none, stores_on, stores_end, stores_none}

-- between two turns: the run ends where it would have ended from the start, and leaves the same
pub record Turning (t : Task) (s₀ : State) (l₀ : Lent) (p₀ : List (Option ℕ)) (s : State) (l : Lent) (p : List (Option ℕ)) : Type 0 where
  pub same_lent : SameLent l₀ l
  pub within : Within s (stores_in l₀ p₀)
  pub running : goes_on (run s (stores_in l p)) ≡ true
  pub same : let c = call_of t (lent_in l₀) in
      finish c (t.limit - s.charges) (run s (stores_in l p)) ≡ finish c (t.limit - s₀.charges) (run s₀ (stores_in l₀ p₀))
  pub left : let c = call_of t (lent_in l₀) in
      finish_stores c (t.limit - s.charges) (run s (stores_in l p)) (stores_in l p) ≡ finish_stores c (t.limit - s₀.charges) (run s₀ (stores_in l₀ p₀)) (stores_in l₀ p₀)

-- stores of the same lengths are handed the same call
same_call : (t : Task) {l₀ l : Lent} → SameLent l₀ l → call_of t (lent_in l) ≡ call_of t (lent_in l₀)
same_call t k = rw (k.stack_room, k.loop_room, k.handler_room)

-- a state that lies within stores lies within those of the same lengths
lies_within : {l₀ l : Lent} (p₀ p : List (Option ℕ)) (s : State) → SameLent l₀ l → Within s (stores_in l p) → Within s (stores_in l₀ p₀)
lies_within p₀ p s k w = record { on_stack = omega arith; on_loops = omega arith; on_handlers = omega arith }

within_now : {t : Task} {s₀ : State} {l₀ : Lent} {p₀ : List (Option ℕ)} {s : State} {l : Lent} {p : List (Option ℕ)} → Turning t s₀ l₀ p₀ s l p → Within s (stores_in l p)
within_now j =
    let k = j.same_lent in
    let w = j.within in
    record { on_stack = omega arith; on_loops = omega arith; on_handlers = omega arith }

-- a state with one charge more
abbrev counted : State → State
counted s = record s { charges = s.charges + 1 }

module _ {t : Task} {s₀ : State} {l₀ : Lent} {p₀ : List (Option ℕ)} {s : State} {l : Lent} {p : List (Option ℕ)} (j : Turning t s₀ l₀ p₀ s l p) where
  -- a record has acted, and its charge is counted
  module _ {r : State} {l' : Lent} (p' : List (Option ℕ)) (k : SameLent l l')
      (e : Stepped (call_of t (lent_in l)) t.limit s (stores_in l p) r (stores_in l' p')) where
    moved : Moved (call_of t (lent_in l₀)) t.limit (run s (stores_in l p)) (stores_in l p) (run (counted r) (stores_in l' p')) (stores_in l' p')
    moved =
        let P : Call → Type 0 = λ c. Moved c t.limit (run s (stores_in l p)) (stores_in l p) (run (counted r) (stores_in l' p')) (stores_in l' p') in
        subst P (same_call t j.same_lent) e.moved

    on : Within r (stores_in l₀ p₀)
    on = lies_within p₀ p r j.same_lent e.within

    -- the run goes on
    pub turned : goes_on (run r (stores_in l' p')) ≡ true → Turning t s₀ l₀ p₀ (counted r) l' p'
    turned h =
        let i = j.same_lent in
        record {
          same_lent = record {
            kinds = k.kinds ∙ i.kinds;
            values = k.values ∙ i.values;
            stack = k.stack ∙ i.stack;
            loops = k.loops ∙ i.loops;
            handlers = k.handlers ∙ i.handlers;
            kind_room = k.kind_room ∙ i.kind_room;
            value_room = k.value_room ∙ i.value_room;
            stack_room = k.stack_room ∙ i.stack_room;
            loop_room = k.loop_room ∙ i.loop_room;
            handler_room = k.handler_room ∙ i.handler_room;
          };
          within = on;
          running = h;
          same = moved.same ∙ j.same;
          left = moved.stores ∙ j.left;
        }

    -- the run has ended
    pub ended : goes_on (run r (stores_in l' p')) ≡ false
        → Finished (call_of t (lent_in l₀)) t.limit s₀ (stores_in l₀ p₀) (counted r) (stores_in l' p')
    ended h =
        let c = call_of t (lent_in l₀) in
        record {
          within = on;
          same = sym (finish_end c (run (counted r) (stores_in l' p')) (t.limit - (counted r).charges) h) ∙ moved.same ∙ j.same;
          whole = sym (stores_end c (run (counted r) (stores_in l' p')) (t.limit - (counted r).charges) (stores_in l' p') h) ∙ moved.stores ∙ j.left;
        }

  -- no charge is left
  pub stopped : {r : State} → t.limit ≤ s.charges → Acts (stop for_steps) s r
      → Finished (call_of t (lent_in l₀)) t.limit s₀ (stores_in l₀ p₀) r (stores_in l p)
  stopped h a =
      let c = call_of t (lent_in l₀) in
      let x = stores_in l p in
      let none : t.limit - s.charges ≡ 0 = omega arith in
      record {
        within = (a (stores_in l₀ p₀) j.within).within;
        same = (a x (within_now j)).same ∙ sym (rw none (finish_on c (run s x) 0 j.running ∙ run_none c (run s x))) ∙ j.same;
        whole = sym (rw none (stores_on c (run s x) 0 x j.running ∙ stores_none c (run s x) x)) ∙ j.left;
      }
