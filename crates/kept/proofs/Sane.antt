-- What `sane` says: both ends lie in the row, and the row within the limits.
use mathlib.Core.Path.{◌≡◌, refl, sym}
use mathlib.Core.Bool.{Bool, true, false, ◌&&◌}
use Prim.Native.Nat.{ℕ, ◌+◌, ◌-◌, ◌≤◌, ◌<◌}
use native.Mathlib.Omega.{arith}
use lib.Dec.{ltb, leb}
use borrow.Author.Tests.{lt-ltb, le-ltb, le-leb, ltb-true, ltb-false, leb-true}
use Rattle.numbers.specs.Limits.{max_clock}
use Rattle.block.specs.declared.Block.{Block}
use Rattle.parts.specs.Brim.{brim}
use Rattle.kept.specs.declared.cursor.Ends.{Ends}
use Rattle.kept.specs.Plan.{units_lie, bytes_lie, sane}

and_both : (x y : Bool) → (x && y) ≡ true → (x ≡ true) × (y ≡ true)
and_both true y h = (refl, h)
and_both false y h = absurd (let z : ◌≡◌ {A = ℕ} 0 1 = cc in omega arith)

pub ltb-moved : (a b k : ℕ) → b ≤ k → ltb a (k - b) ≡ ltb (b + a) k
ltb-moved a b k h = go (ltb a (k - b)) refl
  where
    go : (x : Bool) → ltb a (k - b) ≡ x → x ≡ ltb (b + a) k
    go true e = sym (lt-ltb (b + a) k (omega (arith, ltb-true a (k - b) e)))
    go false e = sym (le-ltb (b + a) k (omega (arith, ltb-false a (k - b) e)))

pub record Within (b : Block) (e : Ends) : Type 0 where
  pub some : e.from.0 ≤ e.to.0
  pub units : e.to.0 ≤ b.length.0
  pub end : b.clock + b.length.0 ≤ max_clock
  pub bytes : e.skip.0 + e.keep.0 ≤ b.part.bytes.0
  pub place : b.part.place + b.part.bytes.0 < brim

module _ (b : Block) (e : Ends) where
  pub sane-within : sane b e ≡ true → Within b e
  unfolding sane units_lie bytes_lie
  sane-within h =
      let from = leb e.from.0 e.to.0 in
      let to = leb e.to.0 b.length.0 in
      let end = leb (b.clock + b.length.0) max_clock in
      let bytes = leb (e.skip.0 + e.keep.0) b.part.bytes.0 in
      let p = and_both (from && to && end) _ h in
      let q = and_both (from && to) end p.0 in
      let r = and_both from to q.0 in
      let t = and_both bytes _ p.1 in
      record {
        some = leb-true e.from.0 e.to.0 r.0;
        units = leb-true e.to.0 b.length.0 r.1;
        end = leb-true (b.clock + b.length.0) max_clock q.1;
        bytes = leb-true (e.skip.0 + e.keep.0) b.part.bytes.0 t.0;
        place = ltb-true (b.part.place + b.part.bytes.0) brim t.1;
      }

  pub within-sane : Within b e → sane b e ≡ true
  unfolding sane units_lie bytes_lie
  within-sane w =
      rw (
        le-leb e.from.0 e.to.0 w.some,
        le-leb e.to.0 b.length.0 w.units,
        le-leb (b.clock + b.length.0) max_clock w.end,
        le-leb (e.skip.0 + e.keep.0) b.part.bytes.0 w.bytes,
      )
      (lt-ltb (b.part.place + b.part.bytes.0) brim w.place)
