-- No listing is longer than `MAX_TEXT`: where so many bytes are lent, `list` is always done.
use Prim.Native.Nat.{ℕ, zero, suc, ◌≤◌}
use mathlib.Core.Path.{◌≡◌, refl, ap, ◌∙◌}
use mathlib.Core.Bool.{Bool, true, false}
use mathlib.Core.List.{List, [], ◌∷◌}
use native.Mathlib.Omega.{arith}
use lib.Dec.{eqb, ltb}
use lib.ListN.{length, length-append}
use Rattle.numbers.specs.declared.Refusal.{Refusal}
use Rattle.numbers.specs.declared.Written.{Written}
use Rattle.numbers.specs.Number.{pick, none, nowhere}
use Rattle.numbers.specs.Output.{written}
use Rattle.numbers.proofs.Output.{verdict-done}
use Rattle.grammar.specs.Course.{Course, thing, over, stopped, fit, things, ending}
use Rattle.decoder.specs.Update.{blocks_of}
use Rattle.ranges.specs.Ranges.{normal}
use Rattle.ranges.proofs.Theory.{normal-length}
use Rattle.decoder.specs.Update.{delete_set}
use Rattle.updates.specs.Promises.{Reading, refused, with_ranges, with_blocks, early, reading}
use Rattle.listing_text.specs.Listing.{empty_line, refused_line}
use Rattle.listing_text.specs.Words.{word_refused, word_at}
use Rattle.listing_text.proofs.Laws.{named-short, listing-short}
use Rattle.listed.specs.Listed.{max_input, max_text, block_rows, range_rows, is_empty, lines_of, listed_reading, listed_update, listed_parts, listed, Lists}

-- n rows take no more than n things
fit-short : {A : Type 0} (n : ℕ) (c : Course A) → length (things (fit n c)) ≤ n
unfolding fit things
fit-short zero (thing a p c) = omega arith
fit-short (suc n) (thing a p c) = omega (arith, fit-short n c)
fit-short zero (over x s) = omega arith
fit-short (suc n) (over x s) = omega arith
fit-short zero (stopped why) = omega arith
fit-short (suc n) (stopped why) = omega arith

-- what holds of each way that a course can end
ends-in : {A X : Type 0} (P : X → Type 0) (c : Course A) (done : ℕ → X) (not : Refusal → X) → ((s : ℕ) → P (done s)) → ((why : Refusal) → P (not why)) → P (ending c done not)
unfolding ending
ends-in P (thing a p c) done not h k = ends-in P c done not h k
ends-in P (over x s) done not h k = h s
ends-in P (stopped why) done not h k = k why

-- either way
picks : {X : Type 0} (P : X → Type 0) (t : Bool) (a b : X) → P a → P b → P (pick t a b)
picks P true a b h k = h
picks P false a b h k = k

abbrev Within : ℕ → ℕ → Reading → Type 0
Within n m r = (length r.blocks ≤ n) × (length r.ranges ≤ m)

none_within : (n m : ℕ) (why : Refusal) → Within n m (refused why)
none_within n m why = (omega arith, omega arith)

reading-within : (form : ℕ) (u : List ℕ) (n m : ℕ) → Within n m (reading form u n m)
unfolding reading with_blocks with_ranges
reading-within form u n m =
    let c = fit n (blocks_of form u) in
    picks (Within n m) (eqb (early form u) 0) (with_blocks form u m c) (refused (nowhere (early form u)))
    (ends-in (Within n m) c (λ s. with_ranges (things c) (fit m (delete_set form u s))) (λ why. refused why)
    (λ s. let d = fit m (delete_set form u s) in ends-in (Within n m) d (λ e. record { refusal = none; blocks = things c; ranges = normal (things d) }) (λ why. refused why)
    (λ e. (fit-short n (blocks_of form u), omega (arith, normal-length (things d), fit-short m (delete_set form u s))))
    (none_within n m))
    (none_within n m))
    (none_within n m (nowhere (early form u)))

-- ---- each text

abbrev Short : List ℕ → Type 0
Short t = length t ≤ max_text

refused-short : (why : Refusal) → Short (refused_line why)
unfolding refused_line
refused-short why = simp length-append (omega (arith, named-short word_refused why.number 32, named-short word_at why.place 10))

empty-short : Short empty_line
unfolding empty_line
empty-short = omega arith

reading-short : (form : ℕ) (u : List ℕ) → Short (listed_reading form u)
unfolding listed_reading lines_of
reading-short form u =
    let r = reading form u block_rows range_rows in
    let w = reading-within form u block_rows range_rows in
    picks Short (eqb r.refusal.number 0) _ (refused_line r.refusal) (omega (arith, listing-short form r.blocks r.ranges, w.0, w.1)) (refused-short r.refusal)

update-short : (form : ℕ) (u : List ℕ) → Short (listed_update form u)
unfolding listed_update
update-short form u = picks Short (is_empty form u) empty_line (listed_reading form u) empty-short (reading-short form u)

parts-short : (input : List ℕ) → Short (listed_parts input)
unfolding listed_parts
parts-short [] = refused-short (nowhere 1)
parts-short (form ∷ u) = update-short form u

pub listed-short : (input : List ℕ) → length (listed input) ≤ max_text
unfolding listed
listed-short input = picks Short (ltb max_input (length input)) (refused_line (nowhere 3)) (listed_parts input) (refused-short (nowhere 3)) (parts-short input)

pub always-done : (input lent : List ℕ) (r : Written) (x : List ℕ) → max_text ≤ length lent → Lists input lent r x → r.number ≡ 0
unfolding written
always-done input lent r x h p = ap (λ (w : Written). w.number) p.0 ∙ verdict-done 0 (length lent) (listed input) refl (omega (arith, listed-short input))
