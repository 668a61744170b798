-- What an arm of `step` shows: the instruction that was fetched acts. Assumes nothing.
use Prim.Native.Nat.{ℕ, ◌+◌, ◌-◌, ◌/◌, ◌^◌, ◌≤◌, ◌<◌}
use native.Mathlib.Omega.{arith}
use mathlib.Core.Path.{◌≡◌, refl, sym, ◌∙◌, ap}
use mathlib.Core.Bool.{Bool, true, false}
use mathlib.Core.List.{List}
use lib.Dec.{ltb}
use lib.ListN.{length, take}
use borrow.Author.Tests.{ltb-true, ltb-false}
use Rattle.program.specs.declared.instr.Instr.{Instr}
use Rattle.program.specs.declared.instr.Instr.TheVariants.{Outside}
use Rattle.program.specs.declared.instr.ConstIdx.{ConstIdx}
use Rattle.tables.specs.Tables.{const_at, instr_at}
use Rattle.eval.specs.Stacks.{push}
use Rattle.eval.specs.Machine.{Call, Machine, constant, due_is, stop, stack_is, for_steps, for_full_store}
use Rattle.eval.specs.Acts.{acted, push_const, loaded}
use Rattle.eval.specs.Run.{Run, lift, charged, goes_on, ticked, due_done}
use Rattle.eval.specs.State.{Stores, run, laid_over, Made, Wrote, Acts, Loads, both}
use Rattle.eval.proofs.Stacks.{over_twice}
use Rattle.eval.proofs.Steps.{unwritten, own}
use Rattle.eval.specs.declared.machine.State.{State}
use Rattle.interp.specs.Moves.{MayCharge, Stepped, Moved, finish, finish_stores}
use Rattle.interp.proofs.Laws.{finish_on, finish_end, run_none, finish_tick, stores_on, stores_end, stores_none, stores_tick, move_one}

-- whether an instruction is a record of a code
abbrev pub is_record : Instr → Bool
is_record Outside = false
is_record _ = true

-- a record was fetched, so that its position has a next one
pub inside : (code : List ℕ) (pos : ℕ) (i j : Instr) → i ≡ instr_at code pos → i ≡ j → is_record j ≡ true → length code < 2 ^ 64 → pos < 2 ^ 63
unfolding instr_at
inside code pos i j p q r f = cases (ltb pos (length code / 8)) refl
  where
    cases : (b : Bool) → ltb pos (length code / 8) ≡ b → pos < 2 ^ 63
    cases true h = let k = ltb-true _ _ h in omega arith
    cases false h =
        let o : instr_at code pos ≡ Outside = rw h in
        let n : is_record j ≡ false = ap is_record (sym q ∙ p ∙ o) in
        cc

-- the stores that a run holds whose next charge may be made
abbrev pub held : {limit : ℕ} {s : State} {x : Stores} → MayCharge limit s x → Stores
held {limit} {s} {x} m = x

-- a machine's stacks are laid over the stores once
laid_twice : (x : Stores) (m : Machine) → laid_over (laid_over x m) m ≡ laid_over x m
laid_twice x m = simp over_twice

module _ (c : Call) (limit : ℕ) (s : State) (x : Stores) (on : goes_on (run s x) ≡ true) (l : s.charges < limit) where
  -- n is what j makes of the run, and i, which was fetched, is j; the charge is counted once the record has acted
  pub arm : (n : Run) (y : Stores) (i j : Instr) → i ≡ instr_at c.code s.pos → i ≡ j → n ≡ lift (acted c j) (run s x) → y ≡ laid_over x n.machine
      → Moved c limit (run s x) x (charged n) y
  unfolding ticked due_done
  arm n y i j p q e w = move_one c (run s x) limit x (charged n) y (ap charged (e ∙ ap (λ (k : Instr). lift (acted c k) (run s x)) (sym q ∙ p))) w on l

  -- both charges of a PushConst, or as many of them as the limit lets be made
  module _ (k : ConstIdx) (f : instr_at c.code s.pos ≡ Instr.PushConst k) (n : Run) (y : Stores) (w : y ≡ laid_over x n.machine) where
    -- between the two charges
    between : Run
    between = lift (λ m. due_is (constant k.0) (stack_is (push m.acc m.stack) m)) (charged (run s x))

    first : ltb (length (take s.stack x.lent.stack)) c.stack_room ≡ true → ticked c (run s x) ≡ between
    unfolding ticked due_done acted push_const between
    first h = rw (f, h)

    -- the stores between them
    half : Stores
    half = laid_over x between.machine

    stores_first : ltb (length (take s.stack x.lent.stack)) c.stack_room ≡ true
        → finish_stores c (limit - s.charges) (run s x) x ≡ finish_stores c (limit - (s.charges + 1)) between half
    unfolding half
    stores_first h =
        stores_tick c (run s x) limit x on l ∙ ap (λ (r : Run). finish_stores c (limit - (s.charges + 1)) r (laid_over x r.machine)) (first h)

    arm_full : ltb (length (take s.stack x.lent.stack)) c.stack_room ≡ false → n ≡ lift (stop for_full_store) (run s x) → Moved c limit (run s x) x (charged n) y
    unfolding acted push_const
    arm_full h e = arm n y (instr_at c.code s.pos) (Instr.PushConst k) refl f (e ∙ rw h) w

    pushed : Run
    pushed = lift (λ m. stack_is (push m.acc m.stack) m) (run s x)

    arm_stop : ltb (length (take s.stack x.lent.stack)) c.stack_room ≡ true → limit ≤ s.charges + 1 → n ≡ lift (stop for_steps) pushed → Moved c limit (run s x) x (charged n) y
    unfolding between half pushed
    arm_stop h g e =
        let q : limit - (s.charges + 1) ≡ 0 = omega arith in
        let u : n.charges ≡ s.charges = ap (λ (r : Run). r.charges) e in
        record {
          up = omega arith;
          most = omega arith;
          same = ap (λ (r : Run). finish c (limit - r.charges) r) (ap charged e) ∙ finish_end c (charged (lift (stop for_steps) pushed)) (limit - (s.charges + 1)) refl
              ∙ sym (finish_tick c (run s x) limit on l ∙ ap (finish c (limit - (s.charges + 1))) (first h) ∙ rw q (finish_on c between 0 on ∙ run_none c between));
          stores = stores_end c (charged n) (limit - (n.charges + 1)) y (ap (λ (r : Run). goes_on r) e) ∙ w ∙ ap (λ (r : Run). laid_over x r.machine) e
              ∙ sym (stores_first h ∙ rw q (stores_on c between 0 half on ∙ stores_none c between half));
        }

    arm_two : ltb (length (take s.stack x.lent.stack)) c.stack_room ≡ true → s.charges + 1 < limit → n ≡ lift (loaded (const_at c.consts k.0)) (charged pushed) → Moved c limit (run s x) x (charged n) y
    unfolding between half pushed ticked due_done
    arm_two h g e =
        let u : n.charges ≡ s.charges + 1 = ap (λ (r : Run). r.charges) e in
        record {
          up = omega arith;
          most = omega arith;
          same = ap (λ (r : Run). finish c (limit - r.charges) r) (ap charged e)
              ∙ sym (finish_tick c (run s x) limit on l ∙ ap (finish c (limit - (s.charges + 1))) (first h) ∙ finish_tick c between limit on g);
          stores = ap (finish_stores c (limit - (n.charges + 1)) (charged n)) w ∙ ap (λ (r : Run). finish_stores c (limit - (r.charges + 1)) (charged r) (laid_over x r.machine)) e
              ∙ sym (stores_first h ∙ stores_tick c between limit half on g ∙ ap (finish_stores c (limit - (s.charges + 1 + 1)) (ticked c between)) (laid_twice x between.machine));
        }

    pub arm_both : (v : ℕ) → v ≡ const_at c.consts k.0 → n ≡ both c.stack_room v limit (run s x) → Moved c limit (run s x) x (charged n) y
    unfolding both pushed
    arm_both v i e = cases (ltb (length (take s.stack x.lent.stack)) c.stack_room) refl (ltb (s.charges + 1) limit) refl
      where
        cases : (a : Bool) → ltb (length (take s.stack x.lent.stack)) c.stack_room ≡ a → (b : Bool) → ltb (s.charges + 1) limit ≡ b → Moved c limit (run s x) x (charged n) y
        cases false p b q = arm_full p (e ∙ simp p)
        cases true p false q = arm_stop p (ltb-false _ _ q) (e ∙ simp (p, q))
        cases true p true q = arm_two p (ltb-true _ _ q) (e ∙ simp (p, q, i))

-- what `step` promises, of a record that acted
module _ {c : Call} {limit : ℕ} {s : State} {x : Stores} (may : MayCharge limit s x) {i j : Instr} {r : State} (p : i ≡ instr_at c.code s.pos) (q : i ≡ j) where
  -- and wrote to stores
  pub step_wrote : {y : Stores} → Wrote (acted c j) s x r y → Stepped c limit s x r y
  step_wrote {y} m =
      let w = m.whole ∙ ap (λ (n : Run). laid_over x n.machine) (sym m.made.same) in
      record { within = m.made.within; moved = arm c limit s x may.ready.running may.left (run r y) y i j p q m.made.same w; whole = w }

  -- and wrote to none
  pub step_made : Made (acted c j) s x r x → Stepped c limit s x r x
  step_made m =
      let w = sym (own r x x m.within (unwritten r x)) in
      record { within = m.within; moved = arm c limit s x may.ready.running may.left (run r x) x i j p q m.same w; whole = w }

  -- .. and is lent none
  pub step_acts : Acts (acted c j) s r → Stepped c limit s x r x
  step_acts m = step_made (m x may.ready.within)

-- of a PushConst
pub step_loads : {c : Call} {limit : ℕ} {s : State} {x : Stores} → MayCharge limit s x → {i : Instr} {k : ConstIdx} {r : State} {y : Stores} → i ≡ instr_at c.code s.pos
    → i ≡ Instr.PushConst k → c.stack_room ≡ length x.lent.stack → Loads limit (const_at c.consts k.0) s x r y → Stepped c limit s x r y
step_loads {c} {limit} {s} {x} may {i} {k} {r} {y} p q e m =
    let full = m.same ∙ ap (λ (n : ℕ). both n (const_at c.consts k.0) limit (run s x)) (sym e) in
    let w = m.whole ∙ ap (λ (n : Run). laid_over x n.machine) (sym m.same) in
    record {
      within = m.within;
      moved = arm_both c limit s x may.ready.running may.left k (sym p ∙ q) (run r y) y w (const_at c.consts k.0) refl full;
      whole = w;
    }
