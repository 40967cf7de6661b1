use Rattle.encoding_runs.proofs.EncoderRunLemmas.{turn_call, turn_rest}
use Rattle.encoding_runs.proofs.run.encoding.encode_turn.Goals as goal

pub returns-clause-call : goal.returns-clause-call
returns-clause-call c =
    turn_call _ _ _ _ c.args.turn.now _ _ _ _ _ _ _ c.piece_length-piece.ensures c.room_of-room.ensures c.is_marked_last.ensures
    c.encode_from_utf16_raw.ensures.call c.encode_from_utf16_raw.ensures.unchanged_after

pub returns-clause-unchanged_after : goal.returns-clause-unchanged_after
returns-clause-unchanged_after c =
    turn_rest _ _ _ _ c.args.turn.now _ _ _ _ _ _ _ c.piece_length-piece.ensures c.room_of-room.ensures c.is_marked_last.ensures
    c.encode_from_utf16_raw.ensures.call c.encode_from_utf16_raw.ensures.unchanged_after
