-- `write_format` meets its contract: a key, then its value.
use mathlib.Core.List.{[], ◌∷◌}
use Rattle.readings.specs.Sound.{bytes_in}
use Rattle.tokens.specs.Tokens.{value}
use Rattle.tokens.proofs.Rooms.{room-first, room-is}
use Rattle.marked.specs.Marked.{mark}
use Rattle.tokens.proofs.Keyed.{wrote-keys, wrote-keys-then, wrote-keys-is}
use Rattle.marked.proofs.Marked.{format-is, one_value}
use Rattle.marked.proofs.write_format.Goals as goal

pub write_key-marked-requires : goal.write_key-marked-requires
write_key-marked-requires c = let start = c in
    let a = start.args in (
      start.requires.0,
      room-first (mark a.update.now a.b.mark ∷ []) (value (bytes_in a.update.now a.b.part) ∷ [])
          (room-is (format-is a.update.now a.b) start.requires.1),
    )

pub returns : goal.returns
returns c = let p4 = c in
    let p11 = c in
    let p17 = c in
    let a = p17.args in
    wrote-keys-is (format-is a.update.now a.b)
    (wrote-keys-then p11.write_key-marked.ensures (wrote-keys (one_value (bytes_in a.update.now a.b.part)) p4.write_value.ensures))
