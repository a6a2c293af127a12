-- `bulk::is_plain` meets its contract: where the plain bytes go as far as u, what they take is u bytes.
use Prim.Native.Nat.{ℕ, ◌+◌}
use mathlib.Core.Path.{◌≡◌}
use mathlib.Core.Bool.{Bool, true, false}
use native.Mathlib.Omega.{arith}
use borrow.Author.Tests.{eqb-true}
use Rattle.text.proofs.Plain.{plain-took}
use Rattle.bulk.proofs.is_plain.Goals as goal

-- no answer is both
never : {A : Type 0} → ◌≡◌ {A = Bool} false true → A
never z = absurd (let y : ◌≡◌ {A = ℕ} 0 1 = cc in omega arith)

pub returns : goal.returns
returns c z = let k = c in
    let p = c.plain_to.ensures in
    let e = eqb-true c.plain_to.result (k.args.at + k.args.u) z in
    (omega arith, plain-took 7 k.args.column.now k.args.at k.args.end k.args.u (omega arith) (omega arith) (rw e at p.2))
