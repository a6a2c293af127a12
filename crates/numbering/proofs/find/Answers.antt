-- `find` meets its contract: none of the first i keys is it.
use Prim.Native.Nat.{◌-◌}
use native.Mathlib.Omega.{arith}
use mathlib.Core.Path.{◌≡◌, sym, ap, ◌∙◌}
use native.Mathlib.Nat.{zero-add}
use lib.ListN.{get_or}
use Rattle.text.specs.declared.Part.{Part}
use Rattle.readings.specs.Sound.{bytes_in}
use Rattle.tokens.specs.Keys.{same, number_of}
use Rattle.tokens.specs.Desk.{key_count, key_at, known_from, known_in}
use Rattle.numbering.proofs.Words.{found_here, found-later, found_nowhere}
use Rattle.numbering.proofs.find.Goals as goal
use Rattle.numbering.proofs.find.Goals.{After-is_same, Start}

-- whether the key at hand is it
here : (c : After-is_same) → same (bytes_in c.args.update.now c.args.part)
    (bytes_in c.args.update.now (key_at c.args.lanes.now c.loop-i.i)) ≡ c.is_same.result
here c =
    let a = c.args in
    let u = a.update.now in
    ap (λ (p : Part). same (bytes_in u a.part) (bytes_in u p)) (sym c.known.ensures) ∙ sym c.is_same.ensures

pub loop-i-init : goal.loop-i-init
unfolding known_in key_count
loop-i-init c = let a = c.args in
    let w = a.lanes.now in
    let none : get_or w 50 0 - 0 ≡ get_or w 50 0 = omega arith in
    rw none (zero-add (number_of (bytes_in a.update.now a.part) (known_from a.update.now w 0 (get_or w 50 0))))

pub known-requires : goal.known-requires
unfolding key_count
known-requires c = let start = c in (start.requires.0, start.requires.1, omega (arith, start.requires.0.keys))

pub returns-then-is_same : goal.returns-then-is_same
returns-then-is_same c = let a = c.args in
    let u = a.update.now in
    let w = a.lanes.now in
    sym (found_here u w c.loop-i.i (get_or w 50 0) (bytes_in u a.part) (omega arith) (here (goal.at.returns-then-is_same c).After-is_same ∙ c.if-is_same.true)) ∙ c.loop-i.invariant

pub loop-i-preserved : goal.loop-i-preserved
loop-i-preserved c = let a = c.args in
    let u = a.update.now in
    let w = a.lanes.now in
    found-later u w c.loop-i.i (get_or w 50 0) (bytes_in u a.part) (omega arith) (here (goal.at.loop-i-preserved c).After-is_same ∙ c.if-is_same.false) ∙ c.loop-i.invariant

pub returns : goal.returns
returns c = let a = c.args in
    let u = a.update.now in
    let w = a.lanes.now in
    let all : get_or w 50 0 ≡ c.loop-i.i = omega arith in
    all ∙ sym (found_nowhere u w c.loop-i.i (get_or w 50 0) (bytes_in u a.part) (omega arith)) ∙ c.loop-i.invariant
