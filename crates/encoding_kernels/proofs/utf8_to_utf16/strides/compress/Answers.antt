use Rattle.std.proofs.Common.{w8, w16, sym, subst, ap, ◌∙◌, refl}
use Rattle.std.proofs.lemmas.Simd.{SwzOk, below_from_Fits, swz_l}
use Rattle.std.specs.Simd.Lanes.{number_l, digits_l}
use Rattle.encoding_kernels.proofs.CompressLemmas.{places_ok, compressed, row_is}
use Rattle.encoding_kernels.proofs.utf8_to_utf16.strides.compress.Goals as goal

pub swizzle : goal.swizzle
swizzle c = subst (SwzOk w8 16 16 0) (sym (row_is c.args.mask _ _ c.requires refl refl)) (places_ok c.args.mask c.requires)

pub returns : goal.returns
returns c =
    ap (λ js. digits_l 65536 8 (number_l 256 (swz_l w8 16 (digits_l 256 16 (number_l 65536 c.args.lanes)) 0 js))) (row_is c.args.mask _ _ c.requires refl refl)
    ∙ compressed c.args.lanes c.fits-lanes.0 (below_from_Fits w16 c.args.lanes c.fits-lanes.1) c.args.mask c.requires
