use Rattle.std.proofs.Common.{◌++◌, ◌==◌, length, take, string_bytes, subst, sym, ap, ◌∙◌, arith}
use Rattle.std.proofs.lemmas.Bool.{eqb-true}
use Rattle.std.proofs.lemmas.List.{length-take}
use Rattle.encoding_definitions.proofs.PrefixesLemmas.{WritesPrefix-length}
use Rattle.encoding_streams.specs.TextReading.{stream_left}
use Rattle.encoding_streams.proofs.TextReaderLemmas.{IsReadSoFar, all_read, all_text, block_fits, read_more}
use Rattle.encoding_streams.proofs.reader.TextReader.read_text.Goals as goal

pub loop-preserved : goal.loop-preserved
loop-preserved g c =
    let made = c.decode_to_utf8-written in
    let read = c.in_ok-count.ensures in
    let short = length-take c.in_ok-count.count c.read.new.buf in
    let fits = block_fits c.loop.self.decoder (length (take c.in_ok-count.count c.read.new.buf))
    (omega (arith, c.pending-pending.ensures.count, c.pending-pending.ensures.within))
    (omega (arith, short, c.loop.invariant.block, c.read.auto.buf)) in
    record {
      so_far = subst (IsReadSoFar _ _) (sym (c.in_ok-push_str.ensures.bytes ∙ ap (λ xs. string_bytes c.loop.text ++ xs) c.from_utf8_unchecked.ensures))
          (read_more _ _ _ _ _ _ _ _ _ _ made.ensures.call made.ensures.suffices (omega (arith, fits, c.loop.invariant.decoded)) _ _ _ _
          c.loop.invariant.so_far read.bytes.0
          (λ marked. read.bytes.1 (eqb-true _ _ marked) (omega (arith, c.loop.invariant.block, c.read.auto.buf))));
      block = omega (arith, c.loop.invariant.block, c.read.auto.buf);
      decoded = omega (arith, c.loop.invariant.decoded, WritesPrefix-length _ _ _ _ made.ensures.call.replaces.writes);
    }

pub returns-then-last-clause-text : goal.returns-then-last-clause-text
returns-then-last-clause-text g c =
    let made = c.decode_to_utf8-written in
    let read = c.in_ok-count.ensures in
    let short = length-take c.in_ok-count.count c.read.new.buf in
    let fits = block_fits c.loop.self.decoder (length (take c.in_ok-count.count c.read.new.buf))
    (omega (arith, c.pending-pending.ensures.count, c.pending-pending.ensures.within))
    (omega (arith, short, c.loop.invariant.block, c.read.auto.buf)) in
    let end = read.bytes.1 c.if-last.true (omega (arith, c.loop.invariant.block, c.read.auto.buf)) in
    let ended = (all_read _ _ _ _ _ _ _ _ _ _ made.ensures.call made.ensures.suffices (omega (arith, fits, c.loop.invariant.decoded))).1
    (ap (λ n. n == 0) c.if-last.true) in
    let so_far : IsReadSoFar (stream_left g.R.Read.remaining c.args.self.now)
    (stream_left g.R.Read.remaining (record { inner = c.read.new.self; decoder = made.new.self })) (string_bytes c.push_str.new.self) =
    subst (IsReadSoFar _ _) (sym (c.in_ok-push_str.ensures.bytes ∙ ap (λ xs. string_bytes c.loop.text ++ xs) c.from_utf8_unchecked.ensures))
    (read_more _ _ _ _ _ _ _ _ _ _ made.ensures.call made.ensures.suffices (omega (arith, fits, c.loop.invariant.decoded)) _ _ _ _
    c.loop.invariant.so_far read.bytes.0 (λ _. end)) in
    (all_text _ _ _ _ ended.0 ended.1 end so_far).0
