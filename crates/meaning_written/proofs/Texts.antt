-- That the column of texts and its refusals are those that the text writer writes and gives.
use Prim.Native.Nat.{ℕ}
use mathlib.Core.Path.{◌≡◌, refl}
use mathlib.Core.Bool.{Bool, true, false, not}
use mathlib.Core.List.{List, [], ◌∷◌}
use lib.Dec.{eqb}
use lib.ListN.{drop}
use Rattle.numbers.specs.Number.{pick}
use Rattle.text.specs.declared.Taken.{Taken}
use Rattle.text.specs.declared.Taken.TheVariants.{Took, Refused}
use Rattle.text.specs.Utf8.{well_formed, take_units}
use Rattle.string.specs.String as old
use Rattle.meaning.specs.Reads.{when◌then◌else◌}
use Rattle.meaning.specs.Columns.{numbers}
use Rattle.meaning_written.specs.Columns.{why}
use Rattle.meaning_written.specs.Texts.{text_column, takes_all, why_texts}
use Rattle.meaning_written.proofs.Columns.{numbers-same, numbers-why}

pub texts-same : (t us : List ℕ) → old.text_column t us ≡ text_column t us
unfolding old.text_column old.text_head text_column
texts-same t us = rw (numbers-same us)

takes_same : (t us : List ℕ) → old.takes_all t us ≡ takes_all t us
unfolding old.takes_all takes_all old.takes_more
takes_same t [] = refl
takes_same t (u ∷ us) = go (take_units 7 u t) (λ k. takes_same (drop k t) us)
  where
    go : (r : Taken) → ((k : ℕ) → old.takes_all (drop k t) us ≡ takes_all (drop k t) us)
        → old.takes_more r (λ k. old.takes_all (drop k t) us) ≡ elim r [ Took b ↦ takes_all (drop b.0 t) us | Refused why ↦ false ]
    go (Took b) on = on b.0
    go (Refused why) on = refl

by_number : (a b c : Bool) → ◌≡◌ {A = ℕ} (pick a (pick b (pick c 0 7) 3) 6) (when not a then 6 else when not b then 3 else when not c then 7 else 0)
unfolding when◌then◌else◌
by_number true true true = refl
by_number true true false = refl
by_number true false c = refl
by_number false b c = refl

pub why-texts-same : (t us : List ℕ) → old.why_texts t us ≡ why_texts t us
unfolding old.why_texts why_texts
why-texts-same t us = rw (numbers-why us, takes_same t us) (by_number (well_formed t) (eqb (why numbers us) 0) (takes_all t us))
