-- Of the machine alone: codes over which it does the same at each charge. Definitions only; the law is `moves_alike` (src/laws.rt).
use Rattle.std.specs.Prelude.{ℕ, ◌+◌, ◌/◌, ◌≡◌, ◌≤◌, ◌<◌, true, List, length}
use Rattle.endian.specs.Endian.{byte_at}
use Rattle.eval.specs.Machine.{Call}
use Rattle.eval.specs.Run.{Run, history}
use Rattle.convert.specs.Convert.{pointer_enter, is_withdrawn}
use Rattle.convert_laws.specs.Laws.{record_at}

-- what may stand at position i in a record's place: itself, or in that of a HostMath of at most one argument a PointerEnter with post 0 and
-- the next position as target
pub data Stands (i : ℕ) (old new : List ℕ) : Type 0 where
  itself : new ≡ old → Stands i old new
  entered : is_withdrawn old ≡ true → byte_at old 1 ≤ 1 → new ≡ pointer_enter (i + 1) → Stands i old new

-- as many bytes, and such a record for each, whether the converter changes all, some or none of them
pub record Alike (old new : List ℕ) : Type 0 where
  pub long : length new ≡ length old
  pub each : (i : ℕ) → i < length old / 8 → Stands i (record_at i old) (record_at i new)

-- the same call over another code
abbrev pub over : List ℕ → Call → Call
over code c =
    record {
      code = code;
      consts = c.consts;
      posts = c.posts;
      hashes = c.hashes;
      context = c.context;
      this = c.this;
      loop_limit = c.loop_limit;
      stack_room = c.stack_room;
      loop_room = c.loop_room;
      handler_room = c.handler_room;
    }

-- what stands each time a charge falls due, and where the run ends, whatever the call, the limit and the state to begin with
abbrev pub MovesAlike : Type 0
MovesAlike = (c : Call) (code : List ℕ) → Alike c.code code → (n : ℕ) (r : Run) → history (over code c) n r ≡ history c n r
