use Rattle.std.proofs.Common.{arith, of_calls, max, [], ◌∷◌, map, refl, sym, ap, ◌∙◌}
use Rattle.std.specs.List.{fold}
use Rattle.print.specs.Status.{number_of}
use Rattle.print.proofs.lines.highest.Goals as goal

pub loop-i-preserved : goal.loop-i-preserved
loop-i-preserved g c = (
  search of_calls,
  omega arith,
  λ rest last h.
      let all = c.loop-i.invariant.2 (c.turn.result ∷ rest) last (c.turn.new.self, c.turn.ensures, h) in
      (all.0, omega arith, all.2, all.3 ∙ ap (λ n. fold max n (map number_of rest)) (sym c.or_later-status.ensures)),
)

pub returns : goal.returns
returns g c =
    let all = c.loop-i.invariant.2 [] c.loop-i.turn refl in
    (all.0, (omega arith, c.loop-i.turn, all.2), sym all.3)
