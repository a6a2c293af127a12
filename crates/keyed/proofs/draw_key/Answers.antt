-- `keyed::draw_key` meets its contract: its number is known, is refused, or takes the next text.
use Rattle.std.specs.Prelude.{Some}
use Prim.Native.Nat.{ℕ, ◌≤◌}
use mathlib.Core.Path.{◌≡◌, refl, sym, ap, ◌∙◌}
use lib.ListN.{length}
use native.Mathlib.Omega.{arith}
use Rattle.grammar.specs.Course.{got, not}
use Rattle.decoder.specs.Columned.{key_by_number}
use Rattle.cells.specs.Cells.{place_in, key_count, state_in, given}
use Rattle.cells.proofs.States.{beside_none}
use Rattle.fields.specs.Fields.{part_given}
use Rattle.keyed.proofs.Laws.{room-drawn, key-drawn, key-none, key-known, key-over, key-new}
use Rattle.keyed.proofs.draw_key.Goals as goal
use Rattle.keyed.proofs.draw_key.Goals.{After-read_difference}

-- a number was drawn, so there are words for keys
room : (d : After-read_difference) {x : ℕ} → d.read_difference.result ≡ Some x → 580 ≤ length d.read_difference.new.w
room d {x} e = room-drawn d.read_difference.new.w d.read_difference.result x e (d.read_difference.ensures.1 (λ q. omega arith)).3

pub returns-in_err-number : goal.returns-in_err-number
unfolding part_given
returns-in_err-number c = rw c.from_residual.ensures (let b = c in
    let u = b.args.update.now in
    let v = c.read_difference.new.w in
    let k = c.read_difference.ensures.1 (λ q. omega arith) in
    (k.0, beside_none b.args.k b.args.r.now, key-none u v ∙ ap (λ d. key_by_number u (given v d)) (sym c.in_err-number.was) ∙ key-drawn u b.args.w.now v _ k))

pub known_key-requires : goal.known_key-requires
unfolding key_count
known_key-requires c = let d = c in
    ((d.read_difference.ensures.1 (λ q. omega arith)).0, d.requires.1, c.if-number-count.true, room (goal.at.known_key-requires c).After-read_difference c.in_ok-number.was)

pub returns-then-number-count : goal.returns-then-number-count
unfolding part_given key_count
returns-then-number-count c = let b = c in
    let u = b.args.update.now in
    let v = c.read_difference.new.w in
    let k = c.read_difference.ensures.1 (λ q. omega arith) in
    let f = c.known_key.ensures in (
      k.0,
      f.0,
      ap (λ p. got p (state_in v)) f.1
          ∙ key-known u v c.in_ok-number.number c.if-number-count.true
          ∙ ap (λ d. key_by_number u (given v d)) (sym c.in_ok-number.was)
          ∙ key-drawn u b.args.w.now v _ k,
    )

pub refuse-requires : goal.refuse-requires
refuse-requires c = (c.read_difference.ensures.1 (λ q. omega arith)).0

pub returns-then-count-ge-MAX_KEYS : goal.returns-then-count-ge-MAX_KEYS
unfolding part_given key_count place_in
returns-then-count-ge-MAX_KEYS c = let b = c in
    let u = b.args.update.now in
    let v = c.read_difference.new.w in
    let k = c.read_difference.ensures.1 (λ q. omega arith) in
    let f = c.refuse.ensures in (
      f.1,
      beside_none b.args.k b.args.r.now,
      ap not f.3
          ∙ key-over u v c.in_ok-number.number c.if-number-count.false c.if-count-ge-MAX_KEYS.true
          ∙ ap (λ d. key_by_number u (given v d)) (sym c.in_ok-number.was)
          ∙ key-drawn u b.args.w.now v _ k,
    )

pub new_key-requires : goal.new_key-requires
unfolding key_count
new_key-requires c = let d = c in
    ((d.read_difference.ensures.1 (λ q. omega arith)).0, d.requires.1, refl, c.if-count-ge-MAX_KEYS.false, room (goal.at.new_key-requires c).After-read_difference c.in_ok-number.was)

pub returns : goal.returns
unfolding key_count
returns c = let b = c in
    let u = b.args.update.now in
    let v = c.read_difference.new.w in
    let k = c.read_difference.ensures.1 (λ q. omega arith) in
    let f = c.new_key.ensures in (
      f.0,
      f.1,
      f.2
          ∙ key-new u v c.in_ok-number.number c.if-number-count.false c.if-count-ge-MAX_KEYS.false
          ∙ ap (λ d. key_by_number u (given v d)) (sym c.in_ok-number.was)
          ∙ key-drawn u b.args.w.now v _ k,
    )
