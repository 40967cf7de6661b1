use Rattle.std.proofs.Common.{◌≡◌, length, take, ap, ◌∙◌, refl, arith}
use Rattle.std.proofs.lemmas.List.{length-take, take_min}
use Rattle.encoding_text.specs.Decoding.{DecodeStep}
use Rattle.encoding_runs.specs.Runs.{room_of}
use Rattle.encoding_runs.proofs.TurnLemmas.{same_call}
use Rattle.encoding_runs.proofs.run.decoding.make_call.Goals as goal
use Rattle.encoding_kernels.proofs.UpToSurrogateLemmas.{written_within}

pub returns : goal.returns
returns g c =
    let turn = c.args.turn.now in
    let unread = c.args.unread.now in
    let left = c.args.left.now in
    let d = c.decode.ensures.call in
    let room : length (take c.room_of-room.result left) ≡ room_of turn (length left) =
    omega (arith, c.room_of-room.ensures, length-take c.room_of-room.result left) in
    record {
      call = (
        d.0,
        written_within left c.decode.new.dst c.room_of-room.result c.decode.result.2 d.0 d.1,
        same_call (DecodeStep g.U.CodeUnit.encode g.U.CodeUnit.MAX_UNITS) _ _ _ _ _ _ _ _ _ _ _ _ _ d.2 refl
            (ap (λ n. take n unread) c.piece_length-piece.ensures ∙ take_min turn.take unread) room c.is_marked_last.ensures refl,
      );
    }
