use mathlib.Core.Path.{◌≡◌, sym, ◌∙◌}
use borrow.Author.Tests.{lt-ltb}
use lib.ListN.{get_or}
use Rattle.std.specs.Prelude.{Some, None}
use Rattle.eval.specs.State.{temps_of, with_temps}
use Rattle.eval.specs.Acts.{load_temp}
use Rattle.eval.proofs.Steps.{by}
use Rattle.eval.proofs.Temps.{within, given_at, number_at, either}
use Rattle.eval.proofs.ops.load_temp.Goals as goal

pub returns-in-Some : goal.returns-in-Some
unfolding load_temp
returns-in-Some c =
    let t = c.args.t.0 in
    let temps = c.args.temps.now in
    let e : get_or temps t None ≡ Some c.in-Some.number = sym c.get_or.ensures ∙ c.in-Some.is in
    by _ _ _ _ _ c.load.ensures (λ x w. rw (lt-ltb t 8 (within temps c.told-temps t _ e), given_at temps t, number_at temps t, e, ← c.apply.ensures))

pub returns-in-None : goal.returns-in-None
unfolding load_temp
returns-in-None c =
    let t = c.args.t.0 in
    let temps = c.args.temps.now in
    let e : get_or temps t None ≡ None = sym c.get_or.ensures ∙ c.in-None.is in
    λ x w.
    let m = c.missing.ensures (with_temps (temps_of temps) x) w in
    record { within = m.within; same = m.same ∙ rw (given_at temps t, e, either) }
