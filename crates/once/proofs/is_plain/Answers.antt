-- `once::is_plain` meets its contract: where the plain bytes go as far as u, what they take is u bytes.
use Prim.Native.Nat.{ℕ, ◌+◌}
use mathlib.Core.Path.{◌≡◌, ap, sym, ◌∙◌}
use mathlib.Core.Bool.{Bool, true, false}
use mathlib.Core.List.{List}
use native.Mathlib.Omega.{arith}
use lib.ListN.{length, drop}
use lib.Seq.{take-length}
use borrow.Author.Tests.{eqb-true}
use Rattle.text.specs.Utf8.{take_units}
use Rattle.text.proofs.Plain.{plain-took}
use Rattle.once.proofs.is_plain.Goals as goal

-- no answer is both
never : {A : Type 0} → ◌≡◌ {A = Bool} false true → A
never z = absurd (let y : ◌≡◌ {A = ℕ} 0 1 = cc in omega arith)

pub returns : goal.returns
returns c z = let k = c in
    let s = k.args.text.now in
    let e = eqb-true c.plain_to.result (k.args.at + k.args.u) z in (
      omega arith,
      ap (λ (t : List ℕ). take_units 7 k.args.u (drop k.args.at t)) (sym (take-length s))
          ∙ plain-took 7 s k.args.at (length s) k.args.u (omega arith) (omega arith) (rw e at c.plain_to.ensures.2),
    )
