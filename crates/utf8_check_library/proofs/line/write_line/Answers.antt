use Rattle.std.proofs.Common.{◌++◌, List, ℕ, subst}
use Rattle.std.specs.Io.KnownBytes.{Appends}
use Rattle.std.proofs.KnownBytes.{Appends-trans}
use Rattle.std.proofs.lemmas.Result.{on_err_weaker, on_ok_weaker}
use Rattle.utf8_check_library.specs.Checks.{WritesPrefixOf}
use Rattle.utf8_check_library.specs.Lines.{line_end}
use Rattle.utf8_check_library.proofs.LineLemmas.{on_err, prefix_after, prefix_start}
use Rattle.utf8_check_library.proofs.line.write_line.Goals as goal

pub returns-in_err-write_bytes-clause-err : goal.returns-in_err-write_bytes-clause-err
returns-in_err-write_bytes-clause-err g c =
    let old = g.W.Write.contents c.args.writer.now in
    let mid = g.W.Write.contents c.write_bytes.new.writer in
    let rest = line_end c.args.place.line c.args.place.column c.args.offset c.args.bytes.now c.args.kind in
    on_err c.from_residual.result
    (prefix_start c.args.name.now rest old mid (subst (λ xs. WritesPrefixOf xs old mid) c.as_bytes.ensures.value c.in_err-write_bytes.ensures.err))

pub returns-clause-ok : goal.returns-clause-ok
returns-clause-ok g c =
    let old = g.W.Write.contents c.args.writer.now in
    let mid = g.W.Write.contents c.write_bytes.new.writer in
    let new = g.W.Write.contents c.write_bytes-2.new.writer in
    let name : Appends old mid c.args.name.now = subst (Appends old mid) c.as_bytes.ensures.value c.in_ok-write_bytes.ensures.ok in
    on_ok_weaker c.write_bytes-2.result
    (λ more. subst (λ xs. Appends old new (c.args.name.now ++ xs)) c.line_end-length.ensures.text (Appends-trans old mid new c.args.name.now _ name more))
    c.write_bytes-2.ensures.ok

pub returns-clause-err : goal.returns-clause-err
returns-clause-err g c =
    let old = g.W.Write.contents c.args.writer.now in
    let mid = g.W.Write.contents c.write_bytes.new.writer in
    let new = g.W.Write.contents c.write_bytes-2.new.writer in
    let name : Appends old mid c.args.name.now = subst (Appends old mid) c.as_bytes.ensures.value c.in_ok-write_bytes.ensures.ok in
    on_err_weaker c.write_bytes-2.result
    (λ more. subst (λ xs. WritesPrefixOf (c.args.name.now ++ xs) old new) c.line_end-length.ensures.text (prefix_after c.args.name.now _ old mid new name more))
    c.write_bytes-2.ensures.err
