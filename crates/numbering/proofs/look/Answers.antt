-- `look` meets its contract: a part's alias has its number; where there is none the number is found, and may be noted.
use mathlib.Core.Path.{refl, ap, ◌∙◌}
use native.Mathlib.Omega.{arith}
use Rattle.text.specs.declared.Part.{Part}
use Rattle.readings.specs.Sound.{bytes_in}
use Rattle.tokens.specs.Keys.{number_of}
use Rattle.tokens.specs.Desk.{known_in, alias_count}
use Rattle.numbering.proofs.look.Goals as goal

pub number-requires : goal.number-requires
unfolding alias_count
number-requires c = let start = c in
    (start.requires.0.tidy, start.requires.1, omega (arith, c.if-i-count.true, start.requires.0.few))

pub returns-then-i-count : goal.returns-then-i-count
unfolding alias_count
returns-then-i-count c = let p3 = c in
    let start = c in
    let a = start.args in
    let l = c.if-i-count.true in
    let there = ap (λ (q : Part). number_of (bytes_in a.update.now q) (known_in a.update.now a.lanes.now)) (p3.find-i.ensures l) in
    (c.number.ensures ∙ start.requires.0.right p3.find-i.result l ∙ there, λ i m. refl, start.requires.0)

pub returns : goal.returns
returns c = let p4 = c in
    let start = c in
    let found = p4.find-number.ensures in
    let noted = c.note.ensures in
    (found, noted.below, noted.aliased start.args.update.now start.requires.0 found)
