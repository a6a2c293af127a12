-- `text::first` meets its contract: a return a row of the table.
use Prim.Native.Nat.{ℕ, ◌%◌}
use mathlib.Core.Path.{sym, ap, ◌∙◌}
use native.Mathlib.Omega.{arith}
use Rattle.text.specs.declared.State.TheVariants.{Open}
use Rattle.text.proofs.Laws.{row-ascii, row_low, row-C2, row-E0, row-E1, row-ED, row-EE, row-F0, row-F1, row-F4, row-high}
use Rattle.text.proofs.first.Goals as goal

pub returns-then-b-lt128 : goal.returns-then-b-lt128
returns-then-b-lt128 c = ap (Open 0 128 191) c.wide-v.ensures ∙ sym (row-ascii c.args.b (omega arith))

pub returns-then-b-lt194 : goal.returns-then-b-lt194
returns-then-b-lt194 c = sym (row_low c.args.b (omega arith) (omega arith))

pub returns-then-b-lt224 : goal.returns-then-b-lt224
returns-then-b-lt224 c = let k = c in
    ap (λ (x : ℕ). Open 1 128 191 (x % 32)) k.wide-v.ensures ∙ sym (row-C2 k.args.b (omega arith) (omega arith))

pub returns-then-b-lt225 : goal.returns-then-b-lt225
returns-then-b-lt225 c = let k = c in
    ap (λ (x : ℕ). Open 2 160 191 (x % 16)) k.wide-v.ensures ∙ sym (row-E0 k.args.b (omega arith) (omega arith))

pub returns-then-b-lt237 : goal.returns-then-b-lt237
returns-then-b-lt237 c = let k = c in
    ap (λ (x : ℕ). Open 2 128 191 (x % 16)) k.wide-v.ensures ∙ sym (row-E1 k.args.b (omega arith) (omega arith))

pub returns-then-b-lt238 : goal.returns-then-b-lt238
returns-then-b-lt238 c = let k = c in
    ap (λ (x : ℕ). Open 2 128 159 (x % 16)) k.wide-v.ensures ∙ sym (row-ED k.args.b (omega arith) (omega arith))

pub returns-then-b-lt240 : goal.returns-then-b-lt240
returns-then-b-lt240 c = let k = c in
    ap (λ (x : ℕ). Open 2 128 191 (x % 16)) k.wide-v.ensures ∙ sym (row-EE k.args.b (omega arith) (omega arith))

pub returns-then-b-lt241 : goal.returns-then-b-lt241
returns-then-b-lt241 c = let k = c in
    ap (λ (x : ℕ). Open 3 144 191 (x % 8)) k.wide-v.ensures ∙ sym (row-F0 k.args.b (omega arith) (omega arith))

pub returns-then-b-lt244 : goal.returns-then-b-lt244
returns-then-b-lt244 c = let k = c in
    ap (λ (x : ℕ). Open 3 128 191 (x % 8)) k.wide-v.ensures ∙ sym (row-F1 k.args.b (omega arith) (omega arith))

pub returns-then-b-lt245 : goal.returns-then-b-lt245
returns-then-b-lt245 c = let k = c in
    ap (λ (x : ℕ). Open 3 128 143 (x % 8)) k.wide-v.ensures ∙ sym (row-F4 k.args.b (omega arith) (omega arith))

pub returns : goal.returns
returns c = sym (row-high c.args.b (omega arith))
