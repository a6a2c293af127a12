-- `numbers::rest` meets its contract: what is left to spell, from here, is what was there to spell at the start.
use Rattle.std.proofs.Common.{◌≡◌, ◌+◌, ◌-◌, ◌*◌, ◌^◌, ◌≤◌, ◌<◌, drop}
use Rattle.numbers.specs.Number.{spelt, low_part}
use Rattle.numbers.proofs.rest.Given as goal

abbrev pub invariant-loop-k : goal.invariant-loop-k
invariant-loop-k l =
    (low_part l.unit l.value (spelt (8 - l.k) (l.at + l.k) (drop (l.at + l.k) l.s)) ≡ low_part l.unit-2 l.value-2 (spelt 8 l.at (drop l.at l.s))) × (l.unit * 2 ^ (7 * (8 - l.k)) ≤ 2 ^ 63) × (l.value < l.unit)
