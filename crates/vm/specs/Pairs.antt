-- Document 02, Two, set out: run 3 of document 01 under pairs of limits. Definitions only; proofs/TwelveRuns.antt evaluates them.
use Rattle.std.specs.Prelude.{ℕ, ◌-◌, List, [], ◌∷◌}
use Rattle.eval.specs.Machine.{done, for_steps}
use Rattle.vm.specs.Call.{Brought}
use Rattle.vm.specs.Purses.{remaining}
use Rattle.vm.specs.Account.{After, no_account}
use Rattle.vm.specs.Limits.{under}
use Rattle.vm.specs.Runs.{u32, plain, sum, none, answer_with}
use Rattle.std.specs.Prelude.{Option, Some, None}

-- PushConst 2.0, AddLast, End: four charges, two of them PushConst's
abbrev pub run3 : Brought
run3 = plain (u32 0x4000_0000) sum

-- a guest's limit, and the house's
abbrev pub within : Option ℕ → Option ℕ → Brought → Brought
within guest house b = under (record { guest = guest; house = house }) b

-- the same call with a file of no bytes
abbrev pub no_file : Brought
no_file = record { file = []; lent = run3.lent; context = run3.context; terms = run3.terms }

abbrev pub pairs : List Brought
pairs =
    within (Some 10) (Some 4) run3  -- 1. the house limit is the smaller, and just enough
    ∷ within (Some 4) (Some 10) run3  -- 2. the guest's is
    ∷ within (Some 4) (Some 4) run3  -- 3. both are
    ∷ within (Some 10) (Some 3) run3  -- 4. the house limit stops the run before End
    ∷ within (Some 3) (Some 10) run3  -- 5. the guest's does
    ∷ within (Some 5) (Some 1) run3  -- 6. the house limit stops it between PushConst's two charges
    ∷ within (Some 1) (Some 5) run3  -- 7. the guest's does
    ∷ within (Some 5) (Some 0) run3  -- 8. nothing remains of the house limit
    ∷ within (Some 0) (Some 5) run3  -- 9. nothing of the guest's
    ∷ within None (Some 2) run3  -- 10. no limit of the guest's
    ∷ within (Some 2) None run3  -- 11. no house limit
    ∷ within None None run3  -- 12. neither
    ∷ within (Some 3) (Some 5) no_file  -- 13. a call that is sent back
    ∷ []

-- the answers; each charge, also PushConst's second, is taken from both
abbrev pub left : List After
left =
    answer_with (remaining 6 0) done 0x4000_0000 4 0x4000_0000 [] 0  -- 1.
    ∷ answer_with (remaining 0 6) done 0x4000_0000 4 0x4000_0000 [] 0  -- 2.
    ∷ answer_with (remaining 0 0) done 0x4000_0000 4 0x4000_0000 [] 0  -- 3.
    ∷ answer_with (remaining 7 0) for_steps 0 3 0x4000_0000 [] 0  -- 4.
    ∷ answer_with (remaining 0 7) for_steps 0 3 0x4000_0000 [] 0  -- 5.
    ∷ answer_with (remaining 4 0) for_steps 0 1 0 (0 ∷ []) 0  -- 6.
    ∷ answer_with (remaining 0 4) for_steps 0 1 0 (0 ∷ []) 0  -- 7.
    ∷ answer_with (remaining 5 0) for_steps 0 0 0 [] 0  -- 8.
    ∷ answer_with (remaining 0 5) for_steps 0 0 0 [] 0  -- 9.
    ∷ answer_with (remaining (none - 2) 0) for_steps 0 2 0x4000_0000 (0 ∷ []) 0  -- 10.
    ∷ answer_with (remaining 0 (none - 2)) for_steps 0 2 0x4000_0000 (0 ∷ []) 0  -- 11.
    ∷ answer_with (remaining (none - 4) (none - 4)) done 0x4000_0000 4 0x4000_0000 [] 0  -- 12.
    ∷ record { reply = record { refusal = 1; account = no_account (remaining 3 5) }; lent = no_file.lent }  -- 13.
    ∷ []
