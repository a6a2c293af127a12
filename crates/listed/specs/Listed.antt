-- The listing of a form byte with the update after it.
use Rattle.std.specs.Prelude.{ℕ, ◌≡◌, Bool, true, false, List, [], ◌∷◌, length, ltb, eqb}
use Rattle.numbers.specs.declared.Written.{Written}
use Rattle.numbers.specs.Number.{pick, nowhere}
use Rattle.numbers.specs.Output.{written, put}
use Rattle.updates.specs.Promises.{Reading, reading}
use Rattle.listing_text.specs.Listing.{listing, empty_line, refused_line}

-- the bytes of an input, the form byte among them
abbrev pub max_input : ℕ
max_input = 65536

-- the bytes that hold any listing
abbrev pub max_text : ℕ
max_text = 100957

-- the rows lent for blocks and for ranges
abbrev pub block_rows : ℕ
block_rows = 512

abbrev pub range_rows : ℕ
range_rows = 1024

-- the empty update of each form
abbrev pub empty_v1 : List ℕ
empty_v1 = 0 ∷ 0 ∷ []

abbrev pub empty_v2 : List ℕ
empty_v2 = 0 ∷ 0 ∷ 0 ∷ 0 ∷ 0 ∷ 0 ∷ 1 ∷ 0 ∷ 0 ∷ 0 ∷ 0 ∷ 0 ∷ 0 ∷ []

unfoldable pub same : List ℕ → List ℕ → Bool
same [] [] = true
same [] (y ∷ ys) = false
same (x ∷ xs) [] = false
same (x ∷ xs) (y ∷ ys) = pick (eqb x y) (same xs ys) false

unfoldable pub is_empty : ℕ → List ℕ → Bool
is_empty form u = pick (eqb form 1) (same u empty_v1) (pick (eqb form 2) (same u empty_v2) false)

-- ---- the text: the first of these that applies

unfoldable pub lines_of : ℕ → Reading → List ℕ
lines_of form r = pick (eqb r.refusal.number 0) (listing form r.blocks r.ranges) (refused_line r.refusal)

unfoldable pub listed_reading : ℕ → List ℕ → List ℕ
listed_reading form u = lines_of form (reading form u block_rows range_rows)

unfoldable pub listed_update : ℕ → List ℕ → List ℕ
listed_update form u = pick (is_empty form u) empty_line (listed_reading form u)

unfoldable pub listed_parts : List ℕ → List ℕ
listed_parts [] = refused_line (nowhere 1)
listed_parts (form ∷ u) = listed_update form u

unfoldable pub listed : List ℕ → List ℕ
listed input = pick (ltb max_input (length input)) (refused_line (nowhere 3)) (listed_parts input)

-- ---- what `list` answers into what is lent, and what x is then lent back

abbrev pub Lists : List ℕ → List ℕ → Written → List ℕ → Type 0
Lists input lent r x = (r ≡ written 0 (length lent) (listed input)) × (x ≡ put 0 (length lent) (listed input))
