-- The terms of a call as C hands them over: numbers alone. Definitions only.
use Rattle.std.specs.Prelude.{ℕ, cond, eqb}
use Rattle.std.specs.Prelude.{Option, Some, None}
use Rattle.vm.specs.declared.Terms.{Terms}
use Rattle.nimbohaza.specs.declared.CTerms.{CTerms}

-- a limit: none where the flag is 0
abbrev pub limit_of : {T : Type 0} → ℕ → T → Option T
limit_of flag n = cond (eqb flag 0) None (Some n)

abbrev pub terms_of : CTerms → Terms
terms_of t =
    record {
      this = t.this_bits;
      step_limit = limit_of t.has_step_limit t.step_limit;
      loop_limit = limit_of t.has_loop_limit t.loop_limit;
      house_limit = limit_of t.has_house_limit t.house_limit;
    }
