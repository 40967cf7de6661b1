use Rattle.std.proofs.Common.{◌≡◌, ℕ, ◌+◌, ◌≤◌, ◌++◌, List, ap, ◌∙◌, length, take, drop, arith, subst}
use Rattle.encoding_definitions.specs.Prefixes.{WritesPrefix}
use Rattle.encoding_definitions.proofs.PrefixesLemmas.{WritesPrefix-length}
use Rattle.encoding_kernels.specs.UnitBytes.{units_of}
use Rattle.encoding_kernels.proofs.ScanLemmas.{WritesPrefix_block}
use Rattle.encoding_kernels.proofs.UnitBytesLemmas.{length-units_of, two_sixteens, two_ascii}
use Rattle.encoding_kernels.proofs.utf16.bytes.pack_64.Goals as goal

fourth_of : (us : List ℕ) (at : ℕ) {lanes : List ℕ} → lanes ≡ take 16 (drop (at + 48) us) → lanes ≡ take 16 (drop (at + 32 + 16) us)
fourth_of us at e =
    let place : at + 48 ≡ at + 32 + 16 = omega arith in
    e ∙ ap (λ k. take 16 (drop k us)) place

pub pack_two-requires-clause-ascii : goal.pack_two-requires-clause-ascii
pack_two-requires-clause-ascii c =
    let us = units_of c.args.big c.args.src.now in
    let both = two_sixteens us _ _ c.args.at c.sixteen_units-first.ensures c.sixteen_units-second.ensures in
    two_ascii us _ c.args.at both (λ k from to. c.requires.ascii k from (omega (arith, to)))

pub pack_two-requires-2-clause-ascii : goal.pack_two-requires-2-clause-ascii
pack_two-requires-2-clause-ascii c =
    let us = units_of c.args.big c.args.src.now in
    let both = two_sixteens us c.sixteen_units-third.result c.sixteen_units-fourth.result (c.args.at + 32) c.sixteen_units-third.ensures
    (fourth_of us c.args.at c.sixteen_units-fourth.ensures) in
    two_ascii us _ (c.args.at + 32) both (λ k from to. c.requires.ascii k (omega (arith, from)) (omega (arith, to)))

pub returns : goal.returns
returns c = λ before w.
    let us = units_of c.args.big c.args.src.now in
    let at = c.args.at in
    let room : at + 64 ≤ length us = omega (arith, c.requires.within, length-units_of c.args.big c.args.src.now) in
    let long = WritesPrefix-length _ _ _ _ w in
    let first = two_sixteens us _ _ at c.sixteen_units-first.ensures c.sixteen_units-second.ensures in
    let second = two_sixteens us c.sixteen_units-third.result c.sixteen_units-fourth.result (at + 32) c.sixteen_units-third.ensures
    (fourth_of us c.args.at c.sixteen_units-fourth.ensures) in
    let old = c.args.dst.now in
    let mid = c.pack_two.new.dst in
    let new = c.pack_two-2.new.dst in
    let one = WritesPrefix_block before old mid us at 32 w (omega (arith, room)) (omega (arith, c.requires.within))
    (subst (λ xs. mid ≡ take at old ++ (xs ++ drop (at + 32) old)) first c.pack_two.ensures) in
    let two = WritesPrefix_block before mid new us (at + 32) 32 one (omega (arith, room))
    (omega (arith, c.requires.within, long, WritesPrefix-length _ _ _ _ one))
    (subst (λ xs. new ≡ take (at + 32) mid ++ (xs ++ drop (at + 32 + 32) mid)) second c.pack_two-2.ensures) in
    let all : at + 32 + 32 ≡ at + 64 = omega arith in
    subst (λ n. WritesPrefix before new n (take n us)) all two
