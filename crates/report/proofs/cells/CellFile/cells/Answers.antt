use Rattle.std.proofs.Common.{ap, length-append, ◌≡◌, ◌+◌, ◌*◌, ◌∷◌, [], ◌++◌, ◌∙◌, length, drop, arith}
use Rattle.std.proofs.lemmas.Grind.{common_steps}
use Rattle.std.specs.Slice.Iter.{chunks_exact_rest}
use Rattle.report.proofs.Chunks.{kinds_more, values_more, rest_more}
use Rattle.report.proofs.cells.CellFile.cells.Goals as goal

pub loop-cell-preserved : goal.loop-cell-preserved
loop-cell-preserved c =
    let l = c.loop-cell in
    let n = length l.yielded in
    let bytes = c.args.self.now.bytes.items in
    let cell = c.in-Some.cell.now in
    let more : length (l.yielded ++ c.in-Some.cell ∷ []) ≡ n + 1 = grind (arith, common_steps) in
    let here : drop (n * 9) bytes ≡ cell ++ chunks_exact_rest c.next.new.self = l.invariant.rest ∙ c.in-Some.ensures.steps.1.0 in
    let nine : length cell ≡ 9 = c.in-Some.ensures.steps.1.1 ∙ l.invariant.nine in
    record {
      nine = c.in-Some.ensures.steps.0 ∙ l.invariant.nine;
      rest = rw more (rest_more bytes cell _ n here nine);
      room = rw more (omega (arith, l.invariant.room, nine, simp length-append at (ap length c.in-Some.ensures.steps.1.0)));
      kinds = c.push.ensures.items ∙ rw (more, kinds_more bytes cell _ n here nine, l.invariant.kinds);
      values = c.push-in-loop-cell.ensures.items ∙ rw (more, values_more bytes cell _ n here nine, l.invariant.values, c.number_at.ensures);
    }
