-- The later part of a text is a text and has the other units.
use Prim.Native.Nat.{ℕ, ◌+◌, ◌≤◌}
use mathlib.Core.Path.{◌≡◌, refl, ap, ◌∙◌}
use mathlib.Core.Bool.{true, false}
use mathlib.Core.List.{List}
use native.Mathlib.Omega.{arith}
use lib.ListN.{length, take, drop, length-drop}
use lib.Seq.{slice, length-slice}
use Rattle.numbers.specs.Number.{pick}
use Rattle.text.specs.declared.Part.{Part}
use Rattle.text.specs.declared.Taken.{Taken}
use Rattle.text.specs.declared.Taken.TheVariants as units
use Rattle.text.specs.Utf8.{well_formed, units_of, take_units}
use Rattle.text.proofs.Cutting.{cut}
use Rattle.text.proofs.Slices.{slice-rest, slice_front}
use Rattle.readings.specs.Sound.{bytes_in}
use Rattle.readings.specs.SoundInner.{Lies}
use Rattle.kept.specs.Cut.{bytes_for, broken, cut_part, torn_text}

pub clash : {A : Type 0} → true ≡ false → A
clash e = absurd (let z : ◌≡◌ {A = ℕ} 0 1 = cc in omega arith)

-- a part of u that is a text of n units
pub record IsText (u : List ℕ) (q : Part) (n : ℕ) : Type 0 where
  pub lies : Lies u q
  pub formed : well_formed (bytes_in u q) ≡ true
  pub units : units_of (bytes_in u q) ≡ n

-- n units of a text from a unit on
module _ (u : List ℕ) (p : Part) (from n : ℕ) (inside : Lies u p) where
  abbrev all : List ℕ
  all = bytes_in u p

  abbrev part_from : ℕ → ℕ → Part
  part_from k j = record { place = p.place + k; bytes = record { 0 = j } }

  cut-part : (k j : ℕ) → take_units 9 from all ≡ units.Took (record { 0 = k }) → take_units 9 n (drop k all) ≡ units.Took (record { 0 = j })
      → cut_part u p from n ≡ part_from k j
  unfolding cut_part bytes_for
  cut-part k j f g = rw (f, g)

  taken-text : (k j : ℕ) → take_units 9 from all ≡ units.Took (record { 0 = k }) → take_units 9 n (drop k all) ≡ units.Took (record { 0 = j })
      → IsText u (part_from k j) n
  unfolding bytes_in
  taken-text k j f g =
      let a = cut 9 from k all f in
      let c = cut 9 n j (drop k all) g in
      let to : ℕ = p.place + p.bytes.0 in
      let size : length all ≡ p.bytes.0 = length-slice p.place to u inside ∙ omega arith in
      let fits : p.place + k + j ≤ to = omega (arith, a.within, c.within, length-drop k all) in
      let is : take j (drop k all) ≡ slice (p.place + k) (p.place + k + j) u =
      ap (take j) (slice-rest u p.place to k) ∙ slice_front u (p.place + k) to j fits inside in
      record { lies = omega arith; formed = rw is at c.front; units = rw is at c.units }

  pub later-text : torn_text u p from n ≡ false → IsText u (cut_part u p from n) n
  unfolding torn_text broken bytes_for
  later-text e = front (take_units 9 from all) refl e
    where
      back : (k : ℕ) → take_units 9 from all ≡ units.Took (record { 0 = k }) → (r : Taken) → take_units 9 n (drop k all) ≡ r → broken r ≡ false
          → IsText u (cut_part u p from n) n
      back k f (units.Refused why) g e = clash e
      back k f (units.Took b) g e = rw (cut-part k b.0 f g) (taken-text k b.0 f g)

      front : (r : Taken) → take_units 9 from all ≡ r → pick (broken r) true (broken (take_units 9 n (drop (bytes_for r) all))) ≡ false
          → IsText u (cut_part u p from n) n
      front (units.Refused why) f e = clash e
      front (units.Took b) f e = back b.0 f (take_units 9 n (drop b.0 all)) refl e
