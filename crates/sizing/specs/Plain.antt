-- Which rows are measured without being written: those of most updates.
use Rattle.std.specs.Prelude.{ℕ, ◌+◌, Bool, ◌&&◌, ◌||◌, ltb, leb}
use Rattle.numbers.specs.Limits.{max_clock}
use Rattle.block.specs.declared.Block.{Block}
use Rattle.block.specs.Kinds.{is_gc, is_deleted, is_binary, is_text}
use Rattle.parts.specs.Brim.{brim}
use Rattle.readings.specs.Sound.{linked}

-- the row, whole, lies within the limits
unfoldable pub in_limits : Block → Bool
in_limits b = leb (b.clock + b.length.0) max_clock && ltb (b.part.place + b.part.bytes.0) brim

-- contents of no more than a length, bytes or a text
unfoldable pub simple : ℕ → Bool
simple k = is_deleted k || is_binary k || is_text k

unfoldable pub plain : Block → Bool
plain b = in_limits b && (is_gc b.kind || (simple b.kind && linked b))
