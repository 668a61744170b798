-- How the code's steps follow the definition's run. Definitions only.
use Rattle.std.specs.Prelude.{ℕ, zero, suc, ◌-◌, ◌≤◌, ◌<◌, ◌^◌, ◌≡◌, true, cond, List, map, length, Option}
use Rattle.eval.specs.Stacks.{stored}
use Rattle.eval.specs.Machine.{Lent, Call, cells_of, lent_of}
use Rattle.eval.specs.Run.{Run, goes_on, charged, ticked, run_of}
use Rattle.eval.specs.State.{Stores, run, laid_over, Within, packed, temps_of}
use Rattle.eval.specs.declared.machine.State.{State}
use Rattle.interp.specs.declared.Lent.{Lent as Borrowed}
use Rattle.interp.specs.declared.Task.{Task}

-- what the stores hold that the code is lent
abbrev pub lent_in : Borrowed → Lent
lent_in l = lent_of l.kinds.now l.values.now l.stack.now l.loops.now l.handlers.now

abbrev pub stores_in : Borrowed → List (Option ℕ) → Stores
stores_in l temps = record { lent = lent_in l; temps = temps_of temps }

-- each store is the one that was lent, and has its length
pub record SameLent (l₀ l : Borrowed) : Type 0 where
  pub kinds : l.kinds.ghost_name ≡ l₀.kinds.ghost_name
  pub values : l.values.ghost_name ≡ l₀.values.ghost_name
  pub stack : l.stack.ghost_name ≡ l₀.stack.ghost_name
  pub loops : l.loops.ghost_name ≡ l₀.loops.ghost_name
  pub handlers : l.handlers.ghost_name ≡ l₀.handlers.ghost_name
  pub kind_room : length l.kinds.now ≡ length l₀.kinds.now
  pub value_room : length l.values.now ≡ length l₀.values.now
  pub stack_room : length l.stack.now ≡ length l₀.stack.now
  pub loop_room : length l.loops.now ≡ length l₀.loops.now
  pub handler_room : length l.handlers.now ≡ length l₀.handlers.now

-- what the code is handed and no record changes, in stores of their lengths
abbrev pub call_of : Task → Lent → Call
call_of t lent =
    record {
      code = t.program.code.now;
      consts = t.program.consts.now;
      posts = t.program.posts.now;
      hashes = t.program.hashes.now;
      context = cells_of t.context.kinds.now t.context.values.now;
      this = t.this;
      loop_limit = t.loop_limit;
      stack_room = length lent.stack;
      loop_room = length lent.loops;
      handler_room = length lent.handlers;
    }

-- where a run ends under n more charges; one that has ended stays
unfoldable pub finish : Call → ℕ → Run → Run
finish c n r = cond (goes_on r) (run_of c n r) r

-- the stores after n more charges: with each of them the stacks are laid over what stood
unfoldable pub stores_after : Call → ℕ → Run → Stores → Stores
stores_after c zero r x = x
stores_after c (suc n) r x =
    let t = ticked c r in
    let y = laid_over x t.machine in
    cond (goes_on t) (stores_after c n t y) y

-- as a run leaves them under n more charges; one that has ended writes no more
unfoldable pub finish_stores : Call → ℕ → Run → Stores → Stores
finish_stores c n r x = cond (goes_on r) (stores_after c n r x) x

-- n, which holds the stores y, stands further on in the run of m under a limit, which held x: charges were made, and the
-- run ends in the same and leaves the same
pub record Moved (c : Call) (limit : ℕ) (m : Run) (x : Stores) (n : Run) (y : Stores) : Type 0 where
  pub up : m.charges < n.charges
  pub most : n.charges ≤ limit
  pub same : finish c (limit - n.charges) n ≡ finish c (limit - m.charges) m
  pub stores : finish_stores c (limit - n.charges) n y ≡ finish_stores c (limit - m.charges) m x

-- stores so long that every depth fits a handler's mark
pub record Sized (lent : Lent) : Type 0 where
  pub stack : length lent.stack < 2 ^ 20
  pub loops : length lent.loops < 2 ^ 12

-- a run that goes on
pub record Ready (s : State) (x : Stores) : Type 0 where
  pub within : Within s x
  pub sized : Sized x.lent
  pub running : goes_on (run s x) ≡ true

-- the same, and the charge of its next record may be made
pub record MayCharge (limit : ℕ) (s : State) (x : Stores) : Type 0 where
  pub ready : Ready s x
  pub left : s.charges < limit

-- one record acted, and its charge is still to be counted
pub record Stepped (c : Call) (limit : ℕ) (s : State) (x : Stores) (r : State) (y : Stores) : Type 0 where
  pub within : Within r x
  pub moved : Moved c limit (run s x) x (charged (run r y)) y
  pub whole : y ≡ laid_over x (run r y).machine

-- the run was made to its end
pub record Finished (c : Call) (limit : ℕ) (s : State) (x : Stores) (r : State) (y : Stores) : Type 0 where
  pub within : Within r x
  pub same : run r y ≡ finish c (limit - s.charges) (run s x)
  pub whole : y ≡ finish_stores c (limit - s.charges) (run s x) x

-- the state and the stores that a run leaves: the stacks below the depths, zeros from there on
pub record Leaves (end : Run) (s : State) (x : Stores) : Type 0 where
  pub within : Within s x
  pub state : run s x ≡ end
  pub stack : x.lent.stack ≡ stored (length x.lent.stack) end.machine.stack
  pub loops : x.lent.loops ≡ stored (length x.lent.loops) end.machine.loops
  pub handlers : x.lent.handlers ≡ stored (length x.lent.handlers) (map packed end.machine.handlers)
