-- `close_lane` meets its contract, by the ways that an end goes.
use Prim.Native.Nat.{ℕ, ◌+◌, ◌-◌, ◌*◌}
use native.Mathlib.Omega.{arith}
use mathlib.Core.Path.{◌≡◌, sym, ap, ◌∙◌}
use mathlib.Core.Bool.{true}
use borrow.Author.Tests.{leb-true}
use lib.Dec.{leb}
use lib.ListN.{length, get_or}
use Rattle.runs.specs.Runs.{coding}
use Rattle.tokens.proofs.Words.{key-low}
use Rattle.tokens.proofs.Ends.{end-brim, end_none, end_low}
use Rattle.tokens.proofs.Places.{lay-short, lay-whole}
use Rattle.tokens.proofs.lanes.close_lane.Goals as goal
use Rattle.tokens.proofs.lanes.close_lane.Goals.{Else-not-fits}

-- there is room
room : (c : Else-not-fits) → leb (get_or c.args.lanes.now (5 * c.args.k) 0 + c.last_size-size.result) (length c.args.out.now) ≡ true
room c = sym c.fits.ensures ∙ c.if-not-fits.false

pub bounds-lanes-base : goal.bounds-lanes-base
bounds-lanes-base c = omega (arith, c.requires.0.size, c.requires.1)

pub bounds-lanes-base-2 : goal.bounds-lanes-base-2
bounds-lanes-base-2 c = omega (arith, c.requires.0.size, c.requires.1)

pub bounds-lanes-base-3 : goal.bounds-lanes-base-3
bounds-lanes-base-3 c = omega (arith, c.requires.0.size, c.requires.1)

pub bounds-lanes-base-4 : goal.bounds-lanes-base-4
bounds-lanes-base-4 c = omega (arith, c.requires.0.size, c.requires.1)

pub returns-then-at-ge-BRIM : goal.returns-then-at-ge-BRIM
returns-then-at-ge-BRIM c = let a = c.args in
    end-brim a.out.now a.lanes.now a.k c.requires.0 c.requires.1 c.if-at-ge-BRIM.true

pub returns-then-count-eq0 : goal.returns-then-count-eq0
returns-then-count-eq0 c = let a = c.args in
    end_none a.out.now a.lanes.now a.k c.requires.0 c.requires.1 c.requires.2 c.if-count-eq0.true

pub last_size-size-requires : goal.last_size-size-requires
last_size-size-requires c = let a = c.args in rw c.requires.3 at (key-low a.lanes.now a.k c.requires.0 c.requires.1)

pub returns-then-not-fits : goal.returns-then-not-fits
returns-then-not-fits c = let a = c.args in
    let w = a.lanes.now in
    let at = get_or w (5 * a.k) 0 in
    let b = (coding a.column).final (get_or w (5 * a.k + 2) 0) (get_or w (5 * a.k + 3) 0 - 1) in
    let n = c.last_size-size in
    end_low a.out.now w a.k c.requires.0 c.requires.1 c.requires.2 (at + n.result) a.out.now b
    c.if-count-eq0.false (rw c.requires.3) c.if-at-ge-BRIM.false
    (ap (λ (m : ℕ). at + m) n.ensures.0) (lay-short a.out.now at b n.result n.ensures.0 (sym c.fits.ensures ∙ c.if-not-fits.true))

pub put_last-requires : goal.put_last-requires
put_last-requires c = let a = c.args in
    let n = c.last_size-size in (
      omega (arith, n.ensures.0, leb-true (get_or a.lanes.now (5 * a.k) 0 + n.result) (length a.out.now) (room (goal.at.put_last-requires c).Else-not-fits)),
      rw c.requires.3 at (key-low a.lanes.now a.k c.requires.0 c.requires.1),
    )

pub returns : goal.returns
returns c = let a = c.args in
    let w = a.lanes.now in
    let at = get_or w (5 * a.k) 0 in
    let b = (coding a.column).final (get_or w (5 * a.k + 2) 0) (get_or w (5 * a.k + 3) 0 - 1) in
    let n = c.last_size-size in
    end_low a.out.now w a.k c.requires.0 c.requires.1 c.requires.2 (at + n.result) c.put_last.new.out b
    c.if-count-eq0.false (rw c.requires.3) c.if-at-ge-BRIM.false
    (ap (λ (m : ℕ). at + m) n.ensures.0) (c.put_last.ensures.1 ∙ lay-whole a.out.now at b n.result n.ensures.0 (room (goal.at.returns c).Else-not-fits))
