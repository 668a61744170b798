-- Post 0 of an accepted file. Assumes nothing.
use Prim.Native.Nat.{◌≤◌}
use native.Mathlib.Omega.{arith}
use lib.Dec.{ltb, eqb}
use lib.ListN.{length}
use borrow.Author.Tests.{ltb-false, eqb-true, not-false}
use Rattle.std.proofs.lemmas.Bool.{and_parts, or_parts}
use Rattle.endian.specs.Endian.{u32_at}
use Rattle.file.specs.Fields.{after, posts}
use Rattle.file.specs.Refusals.{no_identity, contents_refusal, tag_refusal, fields_refusal, refusal_for}
use Rattle.file.proofs.Ascending.{each}
use Rattle.file.proofs.Firsts.{neither, unmet, passes}
use Rattle.file_laws.specs.Laws.{PostZero}

pub post_zero : PostZero
unfolding refusal_for contents_refusal
post_zero w file h =
    let p = each (tag_refusal file) 5 1 2 (neither (fields_refusal file) _ h).0 (omega arith) in
    let q = (passes 3 (after 2 file) p).contents in
    let n = or_parts (ltb (length (posts file)) 8) _ (unmet (no_identity (posts file)) 5 q) in
    let l : 8 ≤ length (posts file) = ltb-false _ _ n.0 in
    let e = and_parts (eqb (u32_at (posts file) 0) 0x3F80_0000) _ (not-false _ n.1) in
    record { there = omega arith; scale = eqb-true _ _ e.0; offset = eqb-true _ _ e.1 }
