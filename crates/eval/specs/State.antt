-- What the code's state and the lent stores stand for. Definitions only.
use Rattle.std.specs.Prelude.{ℕ, ◌+◌, ◌*◌, ◌/◌, ◌%◌, ◌≤◌, ◌<◌, ◌^◌, ◌≡◌, cond, List, map, ltb, length, take, Option, is_some, unwrap_or}
use Rattle.numeric.specs.Numbers.{zero}
use Rattle.eval.specs.Stacks.{push, over, often}
use Rattle.eval.specs.Machine.{Cells, Lent, Temps, Handler, Machine, fetch, stop, stack_is, outcome_number, for_steps, for_full_store}
use Rattle.eval.specs.Acts.{operand, taken, without_top, on_operand, posted, loaded}
use Rattle.eval.specs.Run.{Run, lift, charged, fresh}
use Rattle.eval.specs.declared.machine.State.{State}
use Rattle.eval.specs.declared.machine.Taken.{Taken}
use Rattle.eval.specs.declared.handler.Handler.{Handler as Entry}

-- a handler in its store: the target, then the stack mark in 20 bits, then the loop mark in 12
unfoldable pub packed : Handler → ℕ
packed h = h.target * 2 ^ 32 + h.stack_mark * 2 ^ 12 + h.loop_mark

unfoldable pub unpacked : ℕ → Handler
unpacked w = record { target = w / 2 ^ 32; stack_mark = w / 2 ^ 12 % 2 ^ 20; loop_mark = w % 2 ^ 12 }

-- a handler of the code
abbrev pub handler_of : Entry → Handler
handler_of h = record { target = h.to; stack_mark = h.mark.stack; loop_mark = h.mark.loops }

-- the stores that a run writes to: those that are lent, and the temps
pub record Stores : Type 0 where
  pub lent : Lent
  pub temps : Temps

-- the same stores with one of them another
abbrev pub with_cells : Cells → Stores → Stores
with_cells c x = record { lent = record { cells = c; stack = x.lent.stack; loops = x.lent.loops; handlers = x.lent.handlers }; temps = x.temps }

abbrev pub with_stack : List ℕ → Stores → Stores
with_stack s x = record { lent = record { cells = x.lent.cells; stack = s; loops = x.lent.loops; handlers = x.lent.handlers }; temps = x.temps }

abbrev pub with_loops : List ℕ → Stores → Stores
with_loops l x = record { lent = record { cells = x.lent.cells; stack = x.lent.stack; loops = l; handlers = x.lent.handlers }; temps = x.temps }

abbrev pub with_both : List ℕ → List ℕ → Stores → Stores
with_both s l x = with_stack s (with_loops l x)

abbrev pub with_handlers : List ℕ → Stores → Stores
with_handlers h x = record { lent = record { cells = x.lent.cells; stack = x.lent.stack; loops = x.lent.loops; handlers = h }; temps = x.temps }

abbrev pub with_temps : Temps → Stores → Stores
with_temps t x = record { lent = x.lent; temps = t }

-- what the code's temps are: which of them are given, and +0.0 for the number of one that is not
abbrev pub temps_of : List (Option ℕ) → Temps
temps_of temps = record { given = map is_some temps; numbers = map (λ t. unwrap_or t zero) temps }

-- the run that a state and the stores hold: the stacks are the stores below the depths
abbrev pub run : State → Stores → Run
run s x =
    record {
      machine = record {
        pos = s.pos;
        acc = s.acc;
        due = fetch;
        outcome = outcome_number s.outcome;
        stack = take s.stack x.lent.stack;
        loops = take s.loops x.lent.loops;
        handlers = map unpacked (take s.handlers x.lent.handlers);
        cells = x.lent.cells;
        temps = x.temps;
        notices = s.notices;
        empty_pops = s.empty_pops;
      };
      charges = s.charges;
    }

-- the stores that came, with a machine's stacks laid over them: each of them whole
abbrev pub laid_over : Stores → Machine → Stores
laid_over x m =
    record {
      lent = record {
        cells = m.cells;
        stack = over x.lent.stack m.stack;
        loops = over x.lent.loops m.loops;
        handlers = over x.lent.handlers (map packed m.handlers);
      };
      temps = m.temps;
    }

-- three depths that lie within the stores
pub record Below (stack loops handlers : ℕ) (x : Stores) : Type 0 where
  pub on_stack : stack ≤ length x.lent.stack
  pub on_loops : loops ≤ length x.lent.loops
  pub on_handlers : handlers ≤ length x.lent.handlers

-- those of a state
abbrev pub Within : State → Stores → Type 0
Within s x = Below s.stack s.loops s.handlers x

-- a position that has a next one: no record of a code lies further on
abbrev pub HasNext : State → Type 0
HasNext s = s.pos < 2 ^ 63

-- ---- what a function of the records asks for

-- it takes from the operand stack, or pushes onto it
pub record OnStack (s : State) (stack : List ℕ) : Type 0 where
  pub next : HasNext s
  pub fits : s.stack ≤ length stack

-- it may catch a missing value
pub record OnHandlers (s : State) (handlers : List ℕ) : Type 0 where
  pub next : HasNext s
  pub fits : s.handlers ≤ length handlers

-- it begins a loop, or checks it
pub record OnLoops (s : State) (stack loops : List ℕ) : Type 0 where
  pub next : HasNext s
  pub fits : s.stack ≤ length stack
  pub loops_fit : s.loops ≤ length loops

-- a loop is open, and a count stands on the stack
pub record InLoop (s : State) (stack loops : List ℕ) : Type 0 where
  pub at : OnLoops s stack loops
  pub counts : 0 < s.stack
  pub nested : 0 < s.loops

-- it pushes, and may charge once more
pub record Charging (limit : ℕ) (s : State) (stack : List ℕ) : Type 0 where
  pub at : OnStack s stack
  pub charge : s.charges < limit

-- it pushes a handler, whose marks the depths fit
pub record Marking (s : State) (handlers : List ℕ) : Type 0 where
  pub at : OnHandlers s handlers
  pub fits_stack_mark : s.stack < 2 ^ 20
  pub fits_loop_mark : s.loops < 2 ^ 12

-- ---- what it promises

-- r with the stores y is what f makes of s with the stores x, which are of the same lengths
pub record Made (f : Machine → Machine) (s : State) (x : Stores) (r : State) (y : Stores) : Type 0 where
  pub within : Within r x
  pub same : run r y ≡ lift f (run s x)

-- stores that are read alone: they are put in by g, and the others may hold anything
abbrev pub Reads : (Stores → Stores) → (Machine → Machine) → State → State → Type 0
Reads g f s r = (x : Stores) → Within s (g x) → Made f s (g x) r (g x)

-- no store
abbrev pub Acts : (Machine → Machine) → State → State → Type 0
Acts f s r = Reads (λ x. x) f s r

-- the same of stores that are written to, and each of them named whole: above the depths nothing changed
pub record Wrote (f : Machine → Machine) (s : State) (x : Stores) (r : State) (y : Stores) : Type 0 where
  pub made : Made f s x r y
  pub whole : y ≡ laid_over x (f (run s x).machine)

-- the stores are put in by g as they came, and by h as they are left
abbrev pub Writes : (Stores → Stores) → (Stores → Stores) → (Machine → Machine) → State → State → Type 0
Writes g h f s r = (x : Stores) → Within s (g x) → Wrote f s (g x) r (h x)

-- a notice: the handlers stay
pub record Noticed (f : Machine → Machine) (s r : State) : Type 0 where
  pub stays : r.handlers ≡ s.handlers
  pub acts : Acts f s r

-- an operand that is taken: +0.0 counts for one that was not there
pub record Takes (s : State) (x : Stores) (t : Taken) : Type 0 where
  pub within : Within t.left x
  pub number : unwrap_or t.number zero ≡ (taken (run s x).machine).number
  pub there : is_some t.number ≡ (taken (run s x).machine).there
  pub left : run t.left x ≡ lift without_top (run s x)

-- the same of a lent operand stack; the position stays, and the stack is no deeper
pub record Took (s : State) (stack : List ℕ) (t : Taken) : Type 0 where
  pub stays : t.left.pos ≡ s.pos
  pub lower : t.left.stack ≤ s.stack
  pub takes : (x : Stores) → Within s (with_stack stack x) → Takes s (with_stack stack x) t

-- r is s with an operand taken and a number's post loaded, which Op relates to the operand and the accumulator
pub record Operated (Op : ℕ → ℕ → ℕ → Type 0) (posts : List ℕ) (p : ℕ) (s : State) (x : Stores) (r : State) : Type 0 where
  pub number : ℕ
  pub gives : Op (operand (run s x).machine) s.acc number
  pub made : Made (on_operand (λ popped acc. posted posts p number)) s x r x

-- the same of a lent operand stack
abbrev pub Operates : (ℕ → ℕ → ℕ → Type 0) → List ℕ → List ℕ → ℕ → State → State → Type 0
Operates Op stack posts p s r = (x : Stores) → Within s (with_stack stack x) → Operated Op posts p s (with_stack stack x) r

-- k operands that are taken one after another; the position stays
pub record TookMany (k : ℕ) (s r : State) : Type 0 where
  pub stays : r.pos ≡ s.pos
  pub takes : Acts (often k without_top) s r

-- a run that has not begun
pub record Starts (r : State) (x : Stores) : Type 0 where
  pub within : Within r x
  pub same : run r x ≡ fresh x.lent.cells x.temps

-- both charges of a PushConst, of which the first is still to be counted: where the limit lets the second be made, the
-- constant is loaded
unfoldable pub both : ℕ → ℕ → ℕ → Run → Run
both room v limit r =
    let p = lift (stack_is (push r.machine.acc r.machine.stack)) r in
    cond (ltb (length r.machine.stack) room)
    (cond (ltb (r.charges + 1) limit) (lift (loaded v) (charged p)) (lift (stop for_steps) p))
    (lift (stop for_full_store) r)

-- of a PushConst
pub record Loads (limit v : ℕ) (s : State) (x : Stores) (r : State) (y : Stores) : Type 0 where
  pub within : Within r x
  pub same : run r y ≡ both (length x.lent.stack) v limit (run s x)
  pub whole : y ≡ laid_over x (both (length x.lent.stack) v limit (run s x)).machine
