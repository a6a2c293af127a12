-- That the promises of `write_summary` and `read_summary` are the long-standing ones.
use Prim.Native.Nat.{ℕ, zero, suc, ◌-◌, ◌/◌, ◌^◌}
use native.Mathlib.Omega.{arith}
use mathlib.Core.Path.{◌≡◌, refl, sym, ap, ◌∙◌}
use mathlib.Core.Bool.{Bool, true, false, ◌&&◌, not}
use mathlib.Core.List.{List, [], ◌∷◌, ◌++◌, append-nil, append_assoc}
use lib.Dec.{ltb, leb, eqb}
use lib.ListN.{length}
use borrow.Author.Tests.{ltb-true, ltb-false, le-leb, lt-leb, eqb-true, eqb-false, lt-ltb}
use Rattle.numbers.specs.declared.Refusal.{Refusal}
use Rattle.numbers.specs.Number.{pick, nowhere}
use Rattle.numbers.specs.Output.{padded}
use Rattle.block.specs.declared.Block.{Block}
use Rattle.ranges.specs.Ranges.{Range}
use Rattle.bits.specs.Bits.{in_bits, of_bytes, packed}
use Rattle.summary.specs.Rows.{Row}
use Rattle.summary.specs.Summary as old
use Rattle.summary.specs.Summary.{RowsFound, read, field, one, legal, filled, rows_bits, summary_bits, rows_after, after_version, read_of}
use Rattle.summary.specs.Words.{words_in, words_of}
use Rattle.gathered.specs.RowsOf.{rows_of}
use Rattle.summaries.specs.declared.Summarized.{Summarized}
use Rattle.summaries.specs.declared.SummaryRows.{SummaryRows}
use Rattle.summaries.specs.Promises as summaries
use Rattle.summaries.specs.Promises.{Made, summarized, made_bytes, rows_answer}
use Rattle.meaning.specs.Reads.{when◌then◌else◌, Reads, Got, got, refused, on}
use Rattle.meaning.specs.Reads.{comes_to}
use Rattle.meaning_calls.specs.Reading.{all_of}
use Rattle.meaning_calls.specs.SummaryInner.{fitting}
use Rattle.meaning_calls.specs.SummaryInner as inner
use Rattle.meaning_calls.proofs.Summary.{summary-same}
use Rattle.meaning_written.specs.Diff.{each}
use Rattle.meaning_summaries.specs.Promises.{row_bits, summary_of, WriteSummary, bit_number, must, a_row, some_rows, in_order, rows_in, ReadSummary}

-- what goes through a list is said with `each`
each_same : {A B : Type 0} (f : A → List B) (g : List A → List B) → g [] ≡ [] → ((x : A) (xs : List A) → g (x ∷ xs) ≡ f x ++ g xs)
    → (xs : List A) → g xs ≡ each f xs
unfolding each
each_same f g p q [] = p
each_same f g p q (x ∷ xs) = q x xs ∙ ap (λ l. f x ++ l) (each_same f g p q xs)

-- two equations, of an answer and of what is lent, whose right sides are the same
sides : {A B : Type 0} (r : A) (x : B) {a b : A} {c d : B} → a ≡ b → c ≡ d → ((r ≡ a) × (x ≡ c)) ≡ ((r ≡ b) × (x ≡ d))
sides r x p q = λ i. (r ≡ p i) × (x ≡ q i)

-- ---- written

summary-bytes : (rs : List Row) → old.summary_of one rs ≡ summary_of rs
unfolding old.summary_of summary_bits rows_bits old.row_bits summary_of row_bits
summary-bytes rs = ap (λ b. packed (in_bits 4 1 ++ (in_bits 7 (length rs) ++ b))) (each_same row_bits rows_bits refl (λ r rs. refl) rs)

-- the summary of what is read, 10 where n bytes do not take it
abbrev made : {S : Type 0} → ℕ → Got S (List Block × List Range) → Got S (List ℕ)
made n g = on g (λ y s. let b = summary_of (rows_of y.0) in when ltb n (length b) then refused 10 0 else got b s)

-- whatever is made of a summary, or of a refusal
module _ {X : Type 0} (h : Made → X) where
  made-same : {S : Type 0} (n : ℕ) (g : Got S (List Block × List Range))
      → h (comes_to (λ x s. fitting n (old.summary_of one (rows_of x.0))) summaries.refused g)
      ≡ comes_to (λ b _. h (summaries.bytes b)) (λ why. h (summaries.refused why)) (made n g)
  unfolding comes_to on fitting when◌then◌else◌
  made-same n (refused k p) = refl
  made-same {S} n (got y s) = rw (summary-bytes (rows_of y.0)) (go (summary_of (rows_of y.0)) (ltb n (length (summary_of (rows_of y.0)))))
    where
      go : (b : List ℕ) (x : Bool) → h (when x then summaries.refused (nowhere 10) else summaries.bytes b)
          ≡ comes_to {S = S} (λ b _. h (summaries.bytes b)) (λ why. h (summaries.refused why)) (when x then refused 10 0 else got b s)
      go b true = refl
      go b false = refl

  written_same : (form : ℕ) (u : List ℕ) (n : ℕ) → h (summaries.summary_in form u n)
      ≡ comes_to (λ b _. h (summaries.bytes b)) (λ why. h (summaries.refused why)) (made n (all_of form u))
  unfolding inner.summary_in
  written_same form u n = ap h (summary-same form u n) ∙ made-same n (all_of form u)

pub write-summary-same : (form : ℕ) (u out : List ℕ) (r : Summarized) (out₁ : List ℕ)
    → summaries.WriteSummary form u out r out₁ ≡ WriteSummary form u out r out₁
unfolding summarized made_bytes
write-summary-same form u out r out₁ =
    sides r out₁ (written_same summarized form u (length out)) (ap (padded (length out)) (written_same made_bytes form u (length out)))

-- ---- read

turned : {A : Type 0} (x : Bool) (a b : A) → pick x a b ≡ pick (not x) b a
turned true a b = refl
turned false a b = refl

over-same : (m n : ℕ) → not (ltb m n) ≡ leb n m
over-same m n = go (ltb m n) refl
  where
    go : (x : Bool) → ltb m n ≡ x → not x ≡ leb n m
    go true e = sym (lt-leb n m (ltb-true m n e))
    go false e = sym (le-leb n m (ltb-false m n e))

room-same : (n : ℕ) → not (eqb n 0) ≡ ltb 0 n
room-same n = go (eqb n 0) refl
  where
    go : (x : Bool) → eqb n 0 ≡ x → not x ≡ ltb 0 n
    go true e = rw (eqb-true n 0 e)
    go false e = sym (lt-ltb 0 n (omega (arith, eqb-false n 0 e)))

order_same : (above : ℕ) (rs : List Row) → old.in_order above rs ≡ in_order above rs
unfolding old.in_order in_order
order_same above [] = refl
order_same above (r ∷ rs) = rw (order_same r.client rs)

-- last of all, the rows are judged, and what is left
abbrev judged : List Row → List Bool → RowsFound
judged rs left = pick (legal rs && filled left) (read rs) (old.refused 17)

-- whatever is made of rows, or of a refusal, which blames no byte
module _ {X : Type 0} (h : RowsFound → X) (r : Refusal → X) (blames : (n : ℕ) → h (old.refused n) ≡ r (nowhere n)) where
  abbrev told : {A : Type 0} → (A → List Bool → X) → Got (List Bool) A → X
  told next g = comes_to next r g

  told-on : {A B : Type 0} (first : A → List Bool → X) (next : B → List Bool → X) (g : Got (List Bool) A) (k : A → Reads (List Bool) B)
      → ((a : A) (s : List Bool) → first a s ≡ told next (k a s)) → told first g ≡ told next (on g k)
  unfolding comes_to on
  told-on first next (got a s) k p = p a s
  told-on first next (refused n e) k p = refl

  number-on : {B : Type 0} (k : ℕ) (bits : List Bool) (first : ℕ → List Bool → RowsFound) (next : B → List Bool → X) (f : ℕ → Reads (List Bool) B)
      → ((n : ℕ) (s : List Bool) → h (first n s) ≡ told next (f n s)) → h (field k bits first) ≡ told next (on (bit_number k bits) f)
  unfolding field bit_number when◌then◌else◌ on comes_to
  number-on k bits first next f p = go (ltb (length bits) k) refl
    where
      go : (x : Bool) → ltb (length bits) k ≡ x → h (field k bits first) ≡ told next (on (bit_number k bits) f)
      go true e = rw e (blames 1)
      go false e = rw e (p _ _)

  must-on : {B : Type 0} (holds : Bool) (n : ℕ) (bits : List Bool) (first : RowsFound) (next : B → List Bool → X) (f : Unit → Reads (List Bool) B)
      → h first ≡ told next (f tt bits) → h (pick holds first (old.refused n)) ≡ told next (on (must holds n bits) f)
  unfolding must when◌then◌else◌ on comes_to
  must-on true n bits first next f p = p
  must-on false n bits first next f p = blames n

  row_same : (bits : List Bool) (next : Row → List Bool → RowsFound) → h (old.a_row bits next) ≡ told (λ a s. h (next a s)) (a_row bits)
  unfolding old.a_row a_row comes_to
  row_same bits next =
      number-on 53 bits _ _ _ λ c s. number-on 31 s _ _ _ λ f s. number-on 31 s _ _ _ λ e s. number-on 16 s _ _ _ λ n s. refl

  -- the rows seen before, and those that are read
  rows_same : (n room : ℕ) (seen : List Row) (bits : List Bool)
      → h (rows_after n room seen bits) ≡ told (λ rs left. h (judged (seen ++ rs) left)) (some_rows n room bits)
  unfolding rows_after some_rows comes_to
  rows_same zero room seen bits = rw (append-nil seen)
  rows_same (suc n) room seen bits =
      row_same bits _ ∙ told-on _ _ (a_row bits) _ λ a s.
      rw (turned (eqb room 0) (old.refused 8) (rows_after n (room - 1) (seen ++ (a ∷ [])) s), room-same room)
      (must-on (ltb 0 room) 8 s _ _ _ (rows_same n (room - 1) (seen ++ (a ∷ [])) s ∙ told-on _ _ (some_rows n (room - 1) s) _ λ rs left.
      ap (λ l. h (judged l left)) (append_assoc seen (a ∷ []) rs)))

  read_same : (f : List Row → X) → ((rs : List Row) → h (read rs) ≡ f rs)
      → (room : ℕ) (s : List ℕ) → h (read_of room s) ≡ told (λ rs _. f rs) (rows_in room (each (in_bits 8) s))
  unfolding read_of after_version legal filled rows_in of_bytes on comes_to
  read_same f reads room s =
      rw (each_same (in_bits 8) of_bytes refl (λ b s. refl) s)
      (number-on 4 (each (in_bits 8) s) _ _ _ λ v s. must-on (eqb v 1) 16 s _ _ _ (number-on 7 s _ _ _ λ n s.
      rw (turned (ltb 64 n) (old.refused 3) (rows_after n room [] s), over-same 64 n)
      (must-on (leb n 64) 3 s _ _ _ (rows_same n room [] s ∙ told-on _ _ (some_rows n room s) _ λ rs left.
      rw (order_same (2 ^ 53) rs) (must-on _ 17 left (read rs) _ _ (reads rs))))))

words_same : (rs : List Row) → words_in rs ≡ each (λ (r : Row). r.client ∷ r.first ∷ r.end ∷ r.blocks ∷ []) rs
unfolding words_in
words_same = each_same _ words_in refl (λ r rs. refl)

pub read-summary-same : (s rows : List ℕ) (r : SummaryRows) (rows₁ : List ℕ)
    → summaries.ReadSummary s rows r rows₁ ≡ ReadSummary s rows r rows₁
unfolding rows_answer words_of
read-summary-same s rows r rows₁ =
    let room = length rows / 4 in
    sides r rows₁ (read_same rows_answer _ (λ n. refl) _ (λ rs. refl) room s)
    (ap (padded (length rows)) (read_same words_of _ (λ n. refl) _ words_same room s))
