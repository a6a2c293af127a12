-- Type numbers: in line any unsigned number, which nine bytes keep within its limit, and from the type column.
use Rattle.std.specs.Prelude.{Option}
use Prim.Native.Nat.{ℕ, zero, suc, ◌+◌, ◌-◌, ◌*◌, ◌^◌, ◌≤◌, ◌<◌}
use mathlib.Core.Path.{◌≡◌, refl, sym, ap, subst, ◌∙◌}
use mathlib.Core.Logic.{◌≢◌}
use mathlib.Core.Bool.{Bool, true, false}
use mathlib.Core.List.{List, [], ◌∷◌}
use native.Mathlib.Omega.{arith}
use lib.Dec.{ltb}
use lib.ListN.{get_or, drop}
use lib.Seq.{get_or-drop}
use borrow.Author.Tests.{le-ltb, ltb-true, ltb-false}
use Rattle.numbers.specs.Limits.{max_unsigned}
use Rattle.numbers.specs.Number.{pick, Spelt, got, short, long, low_part, spelt, answer_at, read_unsigned}
use Rattle.numbers.proofs.Laws.{pow7}
use Rattle.grammar.specs.Grammar as grammar
use Rattle.decoder.specs.Line.{number_at, var_at, bounded, up_to, line, number_by}
use Rattle.decoder.specs.States.{types_moved}
use Rattle.decoder.specs.Columned.{onto, number_in, columned}
use Rattle.decoder.specs.ColumnedInner.{fields}
use Rattle.decoder.proofs.Laws.{fields-columned}
use Rattle.cells.specs.Cells.{at_in, state_in, given, NumberDrawn}
use Rattle.cells.proofs.States.{state-types, number-onto}
use Rattle.fields.proofs.Laws.{in-line}

-- ---- what so many bytes spell

unfoldable Below : ℕ → Spelt → Type 0
Below m (got x e) = x < m
Below m short = Unit {0}
Below m long = Unit {0}

more-below : (m d : ℕ) (r : Spelt) → d < 128 → Below m r → Below (m * 128) (low_part 128 d r)
unfolding Below low_part
more-below m d (got x e) l h = omega arith
more-below m d short l h = tt
more-below m d long l h = tt

some : (k : ℕ) → 1 ≤ 2 ^ (7 * k)
some zero = omega arith
some (suc k) = rw (pow7 k) (omega (arith, some k))

spelt-below : (k i : ℕ) (t : List ℕ) → ((j : ℕ) → get_or t j 0 < 256) → Below (2 ^ (7 * k)) (spelt k i t)
unfolding Below spelt
spelt-below zero i t h = tt
spelt-below (suc k) i [] h = tt
spelt-below (suc k) i (b ∷ t) h = rw (pow7 k) (go (ltb b 128) refl (spelt-below k (i + 1) t (λ j. h (suc j))))
  where
    go : (x : Bool) → ltb b 128 ≡ x → Below (2 ^ (7 * k)) (spelt k (i + 1) t)
        → Below (2 ^ (7 * k) * 128) (pick x (got b (i + 1)) (low_part 128 (b - 128) (spelt k (i + 1) t)))
    go true l m = omega (arith, ltb-true b 128 l, some k)
    go false l m = more-below (2 ^ (7 * k)) (b - 128) (spelt k (i + 1) t) (omega (arith, h 0, ltb-false b 128 l)) m

-- ---- in line

module _ (u : List ℕ) (bytes : (j : ℕ) → get_or u j 0 < 256) where
  var-all : (at : ℕ) → up_to max_unsigned u at ≡ var_at u at
  unfolding up_to var_at read_unsigned Below bounded number_at answer_at
  var-all at = go (spelt 9 at (drop at u)) (spelt-below 9 at (drop at u) (λ j. subst (λ (b : ℕ). b < 256) (sym (get_or-drop at u j 0)) (bytes (at + j))))
    where
      go : (r : Spelt) → Below (2 ^ 63) r → bounded max_unsigned (number_at at (answer_at u at r)) ≡ number_at at (answer_at u at r)
      go (got x e) l = rw (le-ltb max_unsigned x (omega arith)) refl
      go short l = refl
      go long l = refl

  pub type-line : (form : ℕ) (w : List ℕ) → form ≡ 1 → onto (state_in w) (up_to max_unsigned u (at_in w)) ≡ fields form u (grammar.number grammar.type_number) (state_in w)
  unfolding line number_by
  type-line form w h = ap (onto (state_in w)) (var-all (at_in w)) ∙ in-line form u w h (grammar.number grammar.type_number)

-- ---- from the column

pub type-drawn : (form : ℕ) (u w v : List ℕ) (r : Option ℕ) → form ≢ 1 → NumberDrawn u 7 w v r → given v r ≡ fields form u (grammar.number grammar.type_number) (state_in w)
unfolding columned number_in state_in
type-drawn form u w v r other d =
    number-onto u w v 7 r (λ c. types_moved c (state_in w)) (state-types w v d.1) d
    ∙ sym (fields-columned form u other (grammar.number grammar.type_number) (state_in w))
