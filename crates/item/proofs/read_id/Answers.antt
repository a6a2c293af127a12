-- `item::read_id` meets its contract: client, then clock.
use mathlib.Core.Path.{sym, ap, ◌∙◌}
use native.Mathlib.Omega.{arith}
use Rattle.grammar.specs.Grammar.{client, number, draw, done}
use Rattle.grammar.specs.Grammar.{◌>>=◌}
use Rattle.grammar.specs.Blocks.{an_id}
use Rattle.cells.specs.Cells.{given, place_in, state_in}
use Rattle.cells.proofs.States.{beside_none, beside-put, row-second}
use Rattle.fields.specs.Fields.{clock_at}
use Rattle.item.specs.Row.{id_onto}
use Rattle.item.proofs.Clocks.{clock-fits}
use Rattle.held.proofs.Laws.{number-then, number-stopped}
use Rattle.item.proofs.Laws.{id-done}
use Rattle.item.proofs.read_id.Goals as goal

pub returns-in_err-client : goal.returns-in_err-client
unfolding an_id id_onto
returns-in_err-client c = rw c.from_residual.ensures (let b = c in
    let form = b.args.form in
    let u = b.args.update.now in
    let w = b.args.w.now in
    let r = b.args.r.now in
    let v = c.read_client.new.w in
    let k = c.read_client.ensures in
    (k.0, beside_none b.args.k r, b.requires.4, number-stopped form u w v client _ (ap (given v) (sym c.in_err-client.was) ∙ k.1)))

pub returns-in_err-clock : goal.returns-in_err-clock
unfolding an_id id_onto
returns-in_err-clock c = rw c.from_residual-in_err-clock.ensures (let b = c in
    let form = b.args.form in
    let u = b.args.update.now in
    let w = b.args.w.now in
    let r = b.args.r.now in
    let v = c.read_client.new.w in
    let k = c.read_client.ensures in
    let z = c.read_clock.new.w in
    let l = c.read_clock.ensures in
    let x = c.in_ok-client.client in (
      l.0,
      beside_none b.args.k r,
      b.requires.4,
      number-stopped form u v z (clock_at b.args.c) (λ a. done (record { client = x; clock = a.0 })) (ap (given z) (sym c.in_err-clock.was) ∙ l.1)
          ∙ number-then form u w v client (λ a. draw (number (clock_at b.args.c)) >>= λ y. done (record { client = a.0; clock = y.0 })) x (ap (given v) (sym c.in_ok-client.was) ∙ k.1),
    ))

pub returns : goal.returns
unfolding an_id given
returns c = let b = c in
    let form = b.args.form in
    let u = b.args.update.now in
    let w = b.args.w.now in
    let r = b.args.r.now in
    let v = c.read_client.new.w in
    let k = c.read_client.ensures in
    let z = c.read_clock.new.w in
    let l = c.read_clock.ensures in
    let x = c.in_ok-client.client in
    let y = c.in_ok-clock.clock in
    let n = b.args.k in
    let e = ap (given z) (sym c.in_ok-clock.was) ∙ l.1 in
    let fits = clock-fits form u (state_in v) b.args.c y (place_in z) (state_in z) e in (
      l.0,
      beside-put n x y r b.requires.3,
      rw (row-second n x y r b.requires.3) (omega (arith, fits)),
      id-done form u z n x y r b.requires.3
          ∙ number-then form u v z (clock_at b.args.c) (λ a. done (record { client = x; clock = a.0 })) y e
          ∙ number-then form u w v client (λ a. draw (number (clock_at b.args.c)) >>= λ y. done (record { client = a.0; clock = y.0 })) x (ap (given v) (sym c.in_ok-client.was) ∙ k.1),
    )
