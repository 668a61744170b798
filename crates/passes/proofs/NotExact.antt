-- Claims that do not hold, each by one program. Assumes nothing.
use Prim.Native.Nat.{ℕ, ◌+◌, ◌≤◌, ◌<◌}
use native.Mathlib.Omega.{arith}
use mathlib.Core.Path.{◌≡◌, refl, sym, ◌∙◌, ap}
use mathlib.Core.List.{List, [], ◌∷◌, map}
use lib.Ieee.{of_bits, to_bits, nan_bits}
use lib.Ieee.{sub as ieeeSub, le as ieeeLe, lt as ieeeLt, eq as ieeeEq}
use lib.ListN.{length, get_or, drop, length-map, length-drop, get_or-map}
use Rattle.numeric.specs.Numbers.{entered, sub, le}
use Rattle.numeric.specs.Arithmetic.{is_identity, applied}
use Rattle.endian.specs.Endian.{number_at}
use Rattle.program.specs.Instructions.{decoded}
use Rattle.tables.specs.Tables.{const_at, post_at, instr_at}
use Rattle.file.specs.Fields.{named, body as fieldBody, rest, length_fits}
use Rattle.eval.specs.Stacks.{push, pop, top, retop}
use Rattle.eval.specs.Machine.{Call}
use Rattle.eval.specs.Acts.{acted, loop_begin, loop_check, loop_end, again}
use Rattle.eval.specs.Run.{Run, due_done, ticked, history}
use Rattle.std.specs.Prelude.{Some, None}
use Rattle.eval.proofs.Histories.{rest_of}
use Rattle.vm.specs.Call.{Brought, call_of}
use Rattle.passes.specs.Whole.{whole, most}
use Rattle.passes.specs.Passes.{Counting, Counted, Claim, charges, asked, takes, past_by, CountedBy, Holds}
use Rattle.passes.specs.RunFive.{counting}
use Rattle.passes.specs.Claims.{fewer, dearer, one_less, one_more, always_noticed, no_pass, wider}
use Rattle.passes.proofs.Exact.{exact_passes}
use Rattle.passes.proofs.RunFive.{loaded, at-loop}

-- ---- two runs, charge by charge

-- count 3 without a limit, and count 1 under limit 0
abbrev three : Brought
three = counting None (whole 3)

abbrev one : Brought
one = counting (Some 0) (whole 1)

dues_of : Brought → List Run
dues_of b = (history (call_of b) 20 (loaded b)).dues

place : Run → ℕ
place r = r.machine.pos

notices : Run → ℕ
notices r = r.machine.notices.loop_limit

-- where they stand each time a charge falls due; count 1 under limit 0 gives no notice
record Seen : Type 0 where
  passes_three : map place (dues_of three) ≡ 1 ∷ 2 ∷ 3 ∷ 2 ∷ 3 ∷ 2 ∷ 3 ∷ 4 ∷ 5 ∷ []
  passes-one : map place (dues_of one) ≡ 1 ∷ 2 ∷ 3 ∷ 4 ∷ 5 ∷ []
  notices_none : map notices (dues_of one) ≡ 0 ∷ 0 ∷ 0 ∷ 0 ∷ 0 ∷ []

seen : Seen
unfolding dues_of place notices whole history ticked due_done acted loop_begin loop_check loop_end again push pop top retop sub le ieeeSub ieeeLe ieeeLt ieeeEq of_bits to_bits const_at post_at nan_bits entered is_identity applied instr_at decoded number_at named fieldBody rest length_fits
seen = record { passes_three = refl; passes-one = refl; notices_none = refl }

-- ---- what a claim has to find: the run has not ended, and stands past LoopEnd

module _ {n m : ℕ} {t : Run} {dues : List Run} (w : Counted 1 1 n m t dues) (f : Run → ℕ) (known : List ℕ) (is : map f dues ≡ known) where
  within : m < length known
  within = let l = sym (length-map dues f) ∙ ap (λ (x : List ℕ). length x) is in omega (arith, w.there)

  finds : get_or known m (f t) ≡ f t
  finds = sym (ap (λ (x : List ℕ). get_or x m (f t)) is) ∙ get_or-map f dues m t ∙ ap f (w.stands t)

module _ (a : Claim) (h : Holds a) (l : 3 ≤ a.largest) where
  of_three : takes a (call_of three) 1 3 ≤ 20 → CountedBy a (call_of three) 1 1 3 (loaded three) (dues_of three)
  unfolding dues_of
  of_three o = h (call_of three) 1 1 3 20 (loaded three) (at-loop None 3 (omega arith) (omega arith) l) o

  of_one : takes a (call_of one) 1 1 ≤ 20 → CountedBy a (call_of one) 1 1 1 (loaded one) (dues_of one)
  unfolding dues_of
  of_one o = h (call_of one) 1 1 1 20 (loaded one) (at-loop (Some 0) 1 (omega arith) (omega arith) (omega arith)) o

-- ---- one charge fewer, or one more

pub not_fewer : Holds fewer → ⊥
unfolding place
not_fewer h = omega (arith, finds (of_three fewer h (omega arith) (omega arith)) place _ seen.passes_three)

pub not_dearer : Holds dearer → ⊥
not_dearer h = omega (arith, within (of_three dearer h (omega arith) (omega arith)) place _ seen.passes_three)

-- ---- k - 1 passes, or k + 1

pub not_one_less : Holds one_less → ⊥
unfolding place
not_one_less h = omega (arith, finds (of_three one_less h (omega arith) (omega arith)) place _ seen.passes_three)

pub not_one_more : Holds one_more → ⊥
not_one_more h = omega (arith, within (of_three one_more h (omega arith) (omega arith)) place _ seen.passes_three)

-- ---- a notice wherever the limit is below the count

pub not_always_noticed : Holds always_noticed → ⊥
unfolding notices ticked due_done acted instr_at fieldBody named rest number_at decoded
not_always_noticed h = omega (arith, finds (of_one always_noticed h (omega arith) (omega arith)) notices _ seen.notices_none)

-- ---- limit 0 running no pass

pub not_no_pass : Holds no_pass → ⊥
unfolding place
not_no_pass h = omega (arith, finds (of_one no_pass h (omega arith) (omega arith)) place _ seen.passes-one)

-- ---- the range to 16,777,217

abbrev largest : Brought
largest = counting None (whole most)

abbrev c : Call
c = call_of largest

-- with two charges more than 16,777,216 passes take
most_dues : List Run
most_dues = (history c (charges (most + 1) 1) (loaded largest)).dues

at_largest : {n : ℕ} → most ≤ n → Counting n c 1 1 most (loaded largest)
at_largest m = at-loop None most (omega arith) (omega arith) m

exactly : CountedBy asked c 1 1 most (loaded largest) most_dues
unfolding most_dues
exactly = exact_passes c 1 1 most (charges (most + 1) 1) (loaded largest) (at_largest (omega arith)) (omega arith)

-- the record past LoopEnd is End, and no charge falls due after its own
abbrev out : Run
out = past_by asked c 1 1 most (loaded largest)

ends_there : length (history c 2 out).dues ≡ 1
unfolding history ticked due_done acted instr_at decoded number_at named fieldBody rest length_fits
ends_there = refl

last_due : drop (charges most 1) most_dues ≡ (history c 2 (get_or most_dues (charges most 1) out)).dues
unfolding most_dues
last_due = rest_of c (charges most 1) (charges (most + 1) 1) (loaded largest) out exactly.there

counted_out : (l : List Run) (j : ℕ) → j < length l → length (drop j l) ≡ 1 → length l ≡ j + 1
counted_out l j h e = let f = length-drop j l in omega arith

no_more : length most_dues ≡ charges most 1 + 1
no_more =
    counted_out most_dues (charges most 1) exactly.there
    (ap (λ (l : List Run). length l) last_due ∙ ap (λ (r : Run). length (history c 2 r).dues) (exactly.stands out) ∙ ends_there)

-- 16,777,217 has no pattern of its own
largest_pattern : whole most ≡ 0x4B80_0000
unfolding whole to_bits
largest_pattern = refl

next_pattern : whole (most + 1) ≡ 0x4B80_0000
unfolding whole to_bits
next_pattern = refl

of_most : Holds wider → CountedBy wider c 1 1 (most + 1) (loaded largest) most_dues
unfolding most_dues
of_most h =
    let w : Counting most c 1 1 most (loaded largest) = at_largest (omega arith) in
    h c 1 1 (most + 1) (charges (most + 1) 1) (loaded largest)
    (record { loop = w.loop; from = omega arith; to = omega arith; stands = rw (next_pattern ∙ sym largest_pattern) w.stands }) (omega arith)

too_many : (n : ℕ) → charges (most + 1) 1 < n → n ≡ charges most 1 + 1 → ⊥
too_many n h e = omega arith

pub not_wider : Holds wider → ⊥
not_wider h = too_many (length most_dues) (of_most h).there no_more
