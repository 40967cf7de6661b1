use Rattle.std.proofs.Common.{◌≡◌, ◌+◌, ◌-◌, ◌++◌, length, take, drop, refl, sym, ap, ◌∙◌, arith, length-take-le}
use Rattle.std.proofs.lemmas.List.{drop_at, drop-drop, take-append-drop}
use borrow.Rule.Slice.PartMut.{put_mid}
use Rattle.encoding_definitions.specs.Prefixes.{WritesPrefix}
use Rattle.encoding_definitions.proofs.PrefixesLemmas.{WritesPrefix_after}
use Rattle.encoding_c.proofs.repair.Buffer.append.Goals as goal

pub returns-clause-keeps : goal.returns-clause-keeps
returns-clause-keeps c =
    let at = c.args.self.now.written in
    let room = c.args.self.now.room.now in
    let bytes = c.args.bytes.now in
    let end = at + length bytes in
    let new = put_mid at (length room - at) room c.copy_prefix.new.dst in
    let ends : length (take at room) ≡ at = length-take-le at room (omega arith) in
    let before : WritesPrefix room room at (take at room) = record { count = sym ends; fits = omega arith; placed = sym (take-append-drop at room) } in
    let all = WritesPrefix_after room room at (take at room) _ _ bytes before c.copy_prefix.ensures in
    let same : drop end new ≡ drop end room = ap (drop end) all.placed ∙ drop_at (take at room ++ bytes) (drop end room) end (sym all.count) in
    record {
      memory = refl;
      further = omega arith;
      following = λ n past.
          let split : n ≡ end + (n - end) = omega (arith, past) in
          ap (λ m. drop m new) split ∙ sym (drop-drop (n - end) end new) ∙ ap (drop (n - end)) same ∙ drop-drop (n - end) end room
          ∙ ap (λ m. drop m room) (sym split);
    }
