use native.Mathlib.Omega.{arith}
use borrow.Author.Rules.{rules}
use Rattle.std.specs.Prelude.{None, is_some, unwrap_or}
use Rattle.vm.proofs.Maps.{mapped}
use Rattle.vm.proofs.account.TempsFromArrayOptionU328.from.Goals as goal

pub returns : goal.returns
returns c =
    rw (
      mapped _ _ _ _ _ (λ t. unwrap_or t 0) None (λ p x y q h. search rules) (omega arith) c.map.ensures.items,
      mapped _ _ _ _ _ is_some None (λ p x y q h. search rules) (omega arith) c.map-2.ensures.items,
    )
