use Rattle.std.proofs.Common.{◌≡◌, ◌∙◌, ℕ, ◌+◌, ◌/◌, ◌<◌, List, Bool, true, false, ap, arith, subst, length, encode_utf8}
use Rattle.std.specs.Simd.{first_chunks}
use Rattle.encoding_kernels.specs.UnitBytes.{bytes_in, units_of}
use Rattle.encoding_kernels.specs.Utf8Output.{IsCharacterAt, WritesScalars}
use Rattle.encoding_kernels.proofs.UnitBytesLemmas.{length-units_of, units_of-chunks}
use Rattle.encoding_text.proofs.Utf16BytesLemmas.{converted_scalars, is_big, next_scalar}
use Rattle.encoding_text.proofs.utf_16.convert_utf16_bytes_to_utf8_up_to_invalid.Goals as goal

-- the code units of the pairs are those of the bytes
of_pairs : (big : Bool) (src : List ℕ) {pairs : List (List ℕ)} → pairs ≡ first_chunks 2 (length src / 2) src
    → units_of big (bytes_in pairs) ≡ units_of big src
of_pairs big src e = ap (λ ps. units_of big (bytes_in ps)) e ∙ units_of-chunks big src

-- the next character doesn't fit
abbrev Stops : List ℕ → List ℕ → ℕ → ℕ → Type 0
Stops old us read written = (scalar : ℕ) → IsCharacterAt us read scalar → length old < written + length (encode_utf8 scalar)

pub returns-in-LittleEndian-clause-read : goal.returns-in-LittleEndian-clause-read
returns-in-LittleEndian-clause-read c =
    omega (
      arith,
      c.convert_up_to_unpaired-units.ensures.converted.within,
      ap length (of_pairs false c.args.src.now c.as_chunks.ensures.front),
      length-units_of false c.args.src.now,
    )

pub returns-in-LittleEndian-clause-converted : goal.returns-in-LittleEndian-clause-converted
returns-in-LittleEndian-clause-converted c =
    let call = c.convert_up_to_unpaired-units in
    converted_scalars c.args.order false (ap is_big c.in-LittleEndian.is) c.args.src.now (λ k. (c.type_inv.src k).fits)
    (subst (λ us. WritesScalars us c.args.dst.now call.new.dst call.result.0 call.result.1) (of_pairs false c.args.src.now c.as_chunks.ensures.front)
    call.ensures.converted)

pub returns-in-LittleEndian-clause-stops : goal.returns-in-LittleEndian-clause-stops
returns-in-LittleEndian-clause-stops c =
    let call = c.convert_up_to_unpaired-units in
    next_scalar c.args.order false (ap is_big c.in-LittleEndian.is) c.args.src.now c.args.dst.now _ _
    (subst (λ us. Stops c.args.dst.now us call.result.0 call.result.1) (of_pairs false c.args.src.now c.as_chunks.ensures.front) call.ensures.stops)

pub overflow_mul-result : goal.overflow_mul-result
overflow_mul-result c =
    omega (
      arith,
      c.convert_up_to_unpaired-units.ensures.converted.within,
      ap length (of_pairs false c.args.src.now c.as_chunks.ensures.front),
      length-units_of false c.args.src.now,
    )

pub returns-in-BigEndian-clause-read : goal.returns-in-BigEndian-clause-read
returns-in-BigEndian-clause-read c =
    omega (
      arith,
      c.convert_up_to_unpaired-units-in-BigEndian.ensures.converted.within,
      ap length (of_pairs true c.args.src.now c.as_chunks.ensures.front),
      length-units_of true c.args.src.now,
    )

pub returns-in-BigEndian-clause-converted : goal.returns-in-BigEndian-clause-converted
returns-in-BigEndian-clause-converted c =
    let call = c.convert_up_to_unpaired-units-in-BigEndian in
    converted_scalars c.args.order true (ap is_big c.in-BigEndian.is) c.args.src.now (λ k. (c.type_inv.src k).fits)
    (subst (λ us. WritesScalars us c.args.dst.now call.new.dst call.result.0 call.result.1) (of_pairs true c.args.src.now c.as_chunks.ensures.front)
    call.ensures.converted)

pub returns-in-BigEndian-clause-stops : goal.returns-in-BigEndian-clause-stops
returns-in-BigEndian-clause-stops c =
    let call = c.convert_up_to_unpaired-units-in-BigEndian in
    next_scalar c.args.order true (ap is_big c.in-BigEndian.is) c.args.src.now c.args.dst.now _ _
    (subst (λ us. Stops c.args.dst.now us call.result.0 call.result.1) (of_pairs true c.args.src.now c.as_chunks.ensures.front) call.ensures.stops)

pub overflow_mul-result-in-BigEndian : goal.overflow_mul-result-in-BigEndian
overflow_mul-result-in-BigEndian c =
    omega (
      arith,
      c.convert_up_to_unpaired-units-in-BigEndian.ensures.converted.within,
      ap length (of_pairs true c.args.src.now c.as_chunks.ensures.front),
      length-units_of true c.args.src.now,
    )
