use Rattle.std.proofs.Common.{length}
use Rattle.encoding_definitions.proofs.Utf8Lemmas.{writes_two, writes_three, writes_four, two_bytes, three_bytes, four_bytes, room_two, room_three, room_four}
use Rattle.encoding_kernels.proofs.scalar.write_scalar.Goals as goal

pub returns-then-scalar-lt2048 : goal.returns-then-scalar-lt2048
returns-then-scalar-lt2048 c =
    let low = c.if-scalar-lt128.false in
    let bytes = two_bytes c.args.scalar low c.if-scalar-lt2048.true in
    writes_two c.args.dst.now c.args.scalar _ _ low c.if-scalar-lt2048.true
    (room_two c.args.scalar (length c.args.dst.now) low c.requires.dst_length) bytes.0 bytes.1

pub returns-then-scalar-lt65536 : goal.returns-then-scalar-lt65536
returns-then-scalar-lt65536 c =
    let low = c.if-scalar-lt2048.false in
    let bytes = three_bytes c.args.scalar c.if-scalar-lt65536.true in
    writes_three c.args.dst.now c.args.scalar _ _ _ low c.if-scalar-lt65536.true
    (room_three c.args.scalar (length c.args.dst.now) low c.requires.dst_length) bytes.0 bytes.1 bytes.2

pub returns : goal.returns
returns c =
    let low = c.if-scalar-lt65536.false in
    let bytes = four_bytes c.args.scalar c.requires.scalar in
    writes_four c.args.dst.now c.args.scalar _ _ _ _ low
    (room_four c.args.scalar (length c.args.dst.now) low c.requires.dst_length) bytes.0 bytes.1 bytes.2 bytes.3
