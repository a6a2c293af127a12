-- `measure_row` meets its contract: a further row that is plain has no more than its own tokens, and any other is measured alone.
use Rattle.std.proofs.Common.{◌≡◌, true, [], sym, subst, ◌∙◌}
use Rattle.block.specs.declared.Block.{Block}
use Rattle.numbers.specs.Number.{pick}
use Rattle.records.specs.Records.{block_tokens}
use Rattle.sizing.specs.Plain.{plain}
use Rattle.tokens.specs.Desk.{Gauged, Sized}
use Rattle.tokens.proofs.Rooms.{room-same}
use Rattle.tokens.proofs.Sized.{sized-none, sized-then, sized-aliased}
use Rattle.encoder.proofs.Alone.{measured-plain, not_plain}
use Rattle.encoder.proofs.measure_row.Goals as goal
use Rattle.encoder.proofs.measure_row.Goals.{Joined-is_further, then-is_further+else-size_block, else-is_further}

pub returns-then-size_block : goal.returns-then-size_block
returns-then-size_block c = let a = c.args in
    measured-plain a.rows.now a.c (sym c.is_further.ensures ∙ c.if-is_further.true)
    (subst (λ (b : Block). plain b ≡ true) c.fetch-b.ensures (sym c.size_block.ensures.0 ∙ c.if-size_block.true))
    (subst (λ (b : Block). Gauged (pick (plain b) (block_tokens a.update.now b) []) a.lanes.now c.size_block.new.lanes) c.fetch-b.ensures c.size_block.ensures.1)

-- of any other nothing is measured before it is written
still : (c : Joined-is_further) → Sized c.args.update.now [] c.args.lanes.now c.if-is_further.lanes
still c = let a = c.args in
    elim c.if-is_further.branch [
      | then-is_further+else-size_block w ↦
          subst (Sized a.update.now [] a.lanes.now) (sym w.lanes-is) (not_plain w.fetch-b.result (sym w.size_block.ensures.0 ∙ w.if-size_block.false) w.size_block.ensures.1)
      | else-is_further w ↦ subst (Sized a.update.now [] a.lanes.now) (sym w.lanes-is) (sized-none c.requires.0.tidy)
    ]

pub measure_alone-requires : goal.measure_alone-requires
measure_alone-requires c =
    (sized-aliased c.requires.0 (still (goal.at.measure_alone-requires c).Joined-is_further), c.requires.1, room-same c.if-is_further.auto.lanes c.requires.2)

pub returns : goal.returns
returns c = sized-then (still (goal.at.returns c).Joined-is_further) c.measure_alone.ensures
