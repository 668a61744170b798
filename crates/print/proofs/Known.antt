-- The decimals of docs/SERVICES.md and of the ends of the ranges, as the definition gives them. Assumes nothing.
use mathlib.Core.Path.{◌≡◌, refl}
use mathlib.Core.List.{map}
use Rattle.print.specs.Texts.{decimal, decimal_by}
use Rattle.print.specs.Decimal.{
  scaled,
  units,
  beyond,
  goes_up,
  nearest,
  before,
  trimmed,
  pointed,
  exponent,
  laid,
  finite,
  magnitude_text,
  float,
}
use Rattle.print.specs.Known.{patterns, decimals}

pub known_decimals : map float patterns ≡ decimals
unfolding scaled units beyond goes_up nearest before trimmed pointed exponent laid finite magnitude_text float decimal decimal_by
known_decimals = refl
