use Rattle.std.proofs.Common.{◌+◌, ◌*◌, ◌^◌, ◌%◌, ◌∷◌, [], bit_and, refl}
use Rattle.encoding_kernels.proofs.VectorLemmas.{HasLanes-splat, HasLanes-zip2, HasLanes-cast, HasLanes_same}
use Rattle.encoding_kernels.proofs.CodeUnitLemmas.{triple_lane}
use Rattle.encoding_kernels.proofs.GroupLemmas.{third_bytes}
use Rattle.encoding_kernels.proofs.Utf8ToUtf16Lemmas.{puts_triples}
use Rattle.encoding_kernels.proofs.utf8_to_utf16.text.write_triples.Goals as goal

pub returns : goal.returns
returns c =
    let src = c.args.src.now in
    let leads = HasLanes-cast (third_bytes src (0 ∷ 3 ∷ 6 ∷ 9 ∷ 12 ∷ 15 ∷ 26 ∷ 29 ∷ []) (λ k. 3 * k) c.requires.dst_length.0 refl refl refl) in
    let seconds = HasLanes-cast (third_bytes src (1 ∷ 4 ∷ 7 ∷ 10 ∷ 13 ∷ 24 ∷ 27 ∷ 30 ∷ []) (λ k. 3 * k + 1) c.requires.dst_length.0 refl refl refl) in
    let thirds = HasLanes-cast (third_bytes src (2 ∷ 5 ∷ 8 ∷ 11 ∷ 14 ∷ 25 ∷ 28 ∷ 31 ∷ []) (λ k. 3 * k + 2) c.requires.dst_length.0 refl refl refl) in
    let first = HasLanes-zip2 (λ a b. a * b % 2 ^ 16) leads (HasLanes-splat 8 0x1000) in
    let second = HasLanes-zip2 bit_and seconds (HasLanes-splat 8 63) in
    let third = HasLanes-zip2 bit_and thirds (HasLanes-splat 8 63) in
    let low = HasLanes-zip2 (λ a b. (a + b) % 2 ^ 16) (HasLanes-zip2 (λ a b. a * b % 2 ^ 16) second (HasLanes-splat 8 64)) third in
    puts_triples c.args.count src c.args.dst.now _ c.requires.triples.0 c.requires.text c.requires.dst_length.1 c.requires.triples.1
    (HasLanes_same (HasLanes-zip2 (λ a b. (a + b) % 2 ^ 16) first low) (λ k l. triple_lane _ _ _))
