-- What is well-formed, and what so many units take, is what `text` says: both go from byte to byte, here with nothing where it is broken there.
use Prim.Native.Nat.{ℕ, zero, suc, ◌+◌, ◌-◌, ◌*◌, ◌%◌}
use mathlib.Core.Path.{◌≡◌, refl, ap, ◌∙◌}
use mathlib.Core.Bool.{Bool, true, false, ◌||◌}
use mathlib.Core.List.{List, [], ◌∷◌}
use mathlib.Core.Option.{Option, none}
use native.Mathlib.Omega.{arith}
use lib.Dec.{ltb, eqb, eqb-suc-zero}
use Rattle.text.specs.declared.State.{State}
use Rattle.text.specs.declared.State.TheVariants.{Open, Broken}
use Rattle.text.specs.declared.Taken.{Taken}
use Rattle.text.specs.declared.Taken.TheVariants.{Took, Refused}
use Rattle.text.specs.Utf8 as old
use Rattle.text.specs.Utf8.{pick}
use Rattle.meaning.specs.Reads.{when◌then◌else◌}
use Rattle.meaning.specs.Text.{Inside, inside, lead, go_on, is_whole, fits, well_formed, gains, taking, take_units}

-- where reading is inside a character, as it is said here
unfoldable inside_of : State → Option Inside
inside_of (Open more low high v) = inside more low high v
inside_of Broken = none

-- a choice between states is one between what they are here
chosen : (x : Bool) (a b : State) {c d : Option Inside} → inside_of a ≡ c → inside_of b ≡ d → inside_of (pick x a b) ≡ (when x then c else d)
unfolding when◌then◌else◌
chosen true a b e f = e
chosen false a b e f = f

lead-same : (b : ℕ) → inside_of (old.lead b) ≡ lead b
unfolding inside_of old.lead lead
lead-same b =
    chosen (ltb b 128) _ _ refl (chosen (ltb b 194) _ _ refl (chosen (ltb b 224) _ _ refl (chosen (ltb b 225) _ _ refl
    (chosen (ltb b 237) _ _ refl (chosen (ltb b 238) _ _ refl (chosen (ltb b 240) _ _ refl (chosen (ltb b 241) _ _ refl
    (chosen (ltb b 244) _ _ refl (chosen (ltb b 245) _ _ refl refl)))))))))

next-same : (st : State) (b : ℕ) → inside_of (old.next st b) ≡ go_on (inside_of st) b
unfolding inside_of old.next go_on when◌then◌else◌
next-same (Open zero low high v) b = lead-same b
next-same (Open (suc n) low high v) b = go (ltb b low) (ltb high b)
  where
    less : suc n - 1 ≡ n
    less = omega arith

    go : (x y : Bool) → inside_of (pick x Broken (pick y Broken (Open n 128 191 (v * 64 + b % 64))))
        ≡ (when eqb (suc n) 0 then lead b else when x || y then none else inside (suc n - 1) 128 191 (v * 64 + b % 64))
    go true y = rw (eqb-suc-zero n) refl
    go false true = rw (eqb-suc-zero n) refl
    go false false = rw (eqb-suc-zero n, less) refl
next-same Broken b = refl

whole_same : (st : State) → old.settled st ≡ is_whole (inside_of st)
unfolding inside_of old.settled is_whole
whole_same (Open zero low high v) = refl
whole_same (Open (suc n) low high v) = rw (eqb-suc-zero n) refl
whole_same Broken = refl

fits-same : (st : State) (t : List ℕ) → old.settled (old.after st t) ≡ fits (inside_of st) t
unfolding old.after fits
fits-same st [] = whole_same st
fits-same st (b ∷ t) = fits-same (old.next st b) t ∙ ap (λ (c : Option Inside). fits c t) (next-same st b)

pub well-formed-same : (t : List ℕ) → old.well_formed t ≡ well_formed t
unfolding old.well_formed well_formed inside_of
well-formed-same t = fits-same old.start t

-- ---- units

gains-same : (st : State) → old.gain st ≡ gains (inside_of st)
unfolding inside_of old.gain old.width gains when◌then◌else◌
gains-same (Open zero low high v) = go (ltb v 65536)
  where
    go : (x : Bool) → ◌≡◌ {A = ℕ} (pick x 1 2) (when x then 1 else 2)
    go true = refl
    go false = refl
gains-same (Open (suc n) low high v) = rw (eqb-suc-zero n) refl
gains-same Broken = refl

taking-same : (pair : ℕ) (st : State) (w k : ℕ) (t : List ℕ) → old.take_from pair st w k t ≡ taking pair (inside_of st) w k t
unfolding old.take_from taking when◌then◌else◌
taking-same pair st w k [] = go (eqb w 0)
  where
    go : (x : Bool) → pick x (old.took k) (Refused 7) ≡ (when x then Took (record { 0 = k }) else Refused 7)
    go true = refl
    go false = refl
taking-same pair st w k (b ∷ t) =
    go (eqb w 0) (ltb w (old.gain (old.next st b))) (taking-same pair (old.next st b) (w - old.gain (old.next st b)) (k + 1) t) ∙ told
  where
    d : Option Inside
    d = go_on (inside_of st) b

    go : {x' y' : Taken} (x y : Bool) → x' ≡ y'
        → pick x (old.took k) (pick y (Refused pair) x') ≡ (when x then Took (record { 0 = k }) else when y then Refused pair else y')
    go true y e = refl
    go false true e = refl
    go false false e = e

    step : inside_of (old.next st b) ≡ d
    step = next-same st b

    gained : old.gain (old.next st b) ≡ gains d
    gained = gains-same (old.next st b) ∙ ap gains step

    rest : ℕ → Option Inside → Taken
    rest g c = when eqb w 0 then Took (record { 0 = k }) else when ltb w g then Refused pair else taking pair c (w - g) (k + 1) t

    told : rest (old.gain (old.next st b)) (inside_of (old.next st b)) ≡ rest (gains d) d
    told = ap (λ (g : ℕ). rest g (inside_of (old.next st b))) gained ∙ ap (λ (c : Option Inside). rest (gains d) c) step

pub take-units-same : (pair n : ℕ) (t : List ℕ) → old.take_units pair n t ≡ take_units pair n t
unfolding old.take_units take_units inside_of
take-units-same pair n t = taking-same pair old.start n 0 t
