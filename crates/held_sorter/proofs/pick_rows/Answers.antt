-- `held_sorter::pick_rows` meets its contract: the chains of the slots, and then all looks.
use Rattle.std.proofs.Common.{replicate}
use Rattle.slots.specs.Slots.{slots_from}
use Rattle.chaining.proofs.Near.{chains-are}
use Rattle.held_sorter.proofs.pick_rows.Goals as goal

pub pick_chained-requires : goal.pick_chained-requires
pick_chained-requires c =
    (c.requires.0, c.requires.1, c.requires.2, rw c.chain_slots.ensures (chains-are (slots_from c.args.slots.now 0 c.args.n) c.args.rows.now (replicate 256 0)))
