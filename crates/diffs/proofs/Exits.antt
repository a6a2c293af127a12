-- The ways out of `encode_diff`, with no machine: what is given and left at each keeps the promise.
use Prim.Native.Nat.{ℕ, ◌/◌, ◌≤◌}
use mathlib.Core.Path.{◌≡◌, refl, sym, ap, ◌∙◌}
use mathlib.Core.Bool.{Bool, true, false}
use mathlib.Core.Logic.{inl, inr}
use mathlib.Core.List.{List, []}
use native.Mathlib.Omega.{arith}
use lib.Dec.{eqb, leb}
use lib.ListN.{length}
use borrow.Author.Tests.{eqb-true, eqb-false, eq-eqb, ne_eqb, leb-true}
use Rattle.numbers.specs.declared.Refusal.{Refusal}
use Rattle.numbers.specs.declared.Written.{Written}
use Rattle.numbers.specs.Number.{pick, none, nowhere}
use Rattle.numbers.specs.Output.{padded, verdict, written, put}
use Rattle.numbers.specs.OutputInner.{refusal, done}
use Rattle.numbers.proofs.Output.{refused-answer, refused-bytes, done-answer, done-bytes}
use Rattle.block.specs.declared.Block.{Block}
use Rattle.grammar.specs.Course.{things}
use Rattle.ranges.specs.TableInner.{rows_from}
use Rattle.vector.specs.Vector.{Entry, vector_of}
use Rattle.passes.proofs.Wholes.{IsForm}
use Rattle.kept.proofs.Vectors.{why_vector, by_number}
use Rattle.updates.specs.declared.Update.{Update}
use Rattle.updates.specs.Promises.{Reading, refused, answer, known, reading, table_of, range_words}
use Rattle.updates.proofs.Read.{Good, reading-good, short, rows-length, words-length, rows_back, words_back, length-padded}
use Rattle.writing.specs.Diff.{diff_why, diff_bytes}
use Rattle.writing.specs.Writing.{kept_answer, kept_out, read_answer, read_out}
use Rattle.writing.proofs.Meaning.{answer-is, out-is}
use Rattle.writing.proofs.SmallLegal.{legal-diff}
use Rattle.writing.proofs.SmallSize.{few-diff}
use Rattle.diffs.specs.declared.Diff.{Diff}
use Rattle.diffs.specs.Promises.{Diffed, refused_with, why_not, diffed, against, after_reading, diff_of, answered, Diffs}
use Rattle.diffs.proofs.Read.{reading-few}

form_of : (to : ℕ) → known to ≡ true → IsForm to
unfolding known
form_of to k = go (eqb to 1) (eqb to 2) refl refl k
  where
    go : (x y : Bool) → eqb to 1 ≡ x → eqb to 2 ≡ y → pick x true y ≡ true → IsForm to
    go true y a b k = inl (eqb-true to 1 a)
    go false true a b k = inr (eqb-true to 2 b)
    go false false a b k = absurd (let z : ◌≡◌ {A = ℕ} 0 1 = cc in omega arith)

-- ---- a writer's answer and what it puts, by its verdict

module _ (why room : ℕ) (b : List ℕ) where
  abbrev told : ℕ
  told = verdict why room b

  written-by : written why room b ≡ pick (eqb told 0) (done (length b)) (refusal told)
  written-by = go (eqb told 0) refl
    where
      go : (x : Bool) → eqb told 0 ≡ x → written why room b ≡ pick x (done (length b)) (refusal told)
      go true e = sym (done-answer why room b (eqb-true told 0 e))
      go false e = sym (refused-answer why room b told refl (eqb-false told 0 e))

  put-by : put why room b ≡ padded room (pick (eqb told 0) b [])
  put-by = go (eqb told 0) refl
    where
      go : (x : Bool) → eqb told 0 ≡ x → put why room b ≡ padded room (pick x b [])
      go true e = sym (done-bytes why room b (eqb-true told 0 e))
      go false e = sym (refused-bytes why room b told refl (eqb-false told 0 e))

  done-fits : told ≡ 0 → length b ≤ room
  unfolding verdict
  done-fits e = go (eqb why 0) (leb (length b) room) refl refl e
    where
      go : (x y : Bool) → eqb why 0 ≡ x → leb (length b) room ≡ y → pick x (pick y 0 10) why ≡ 0 → length b ≤ room
      go true true a l e = leb-true (length b) room l
      go true false a l e = absurd (omega (arith, e))
      go false y a l e = absurd (eqb-false why 0 a e)

module _ (form : ℕ) (u v : List ℕ) (to : ℕ) (rows₀ : List Block) (ranges₀ out₀ : List ℕ) where
  abbrev M : ℕ
  M = length rows₀

  abbrev N : ℕ
  N = length ranges₀

  abbrev room : ℕ
  room = length out₀

  abbrev R : Reading
  R = reading form u M (N / 3)

  abbrev W : Written
  W = read_answer u (vector_of v) form to (table_of M R) (length R.blocks) (rows_from (range_words N R) 0 (length R.ranges)) room

  abbrev O : List ℕ
  O = read_out u (vector_of v) form to (table_of M R) (length R.blocks) (rows_from (range_words N R) 0 (length R.ranges)) out₀

  abbrev d : Diffed
  d = diff_of form u v to M (N / 3) room

  abbrev Right : Diff → List Block → List ℕ → List ℕ → Type 0
  Right r rows ranges out = Diffs form u v to rows₀ ranges₀ out₀ r rows ranges out

  -- what is written of what was read, in the words of the reading
  module _ {x : Update} {rows : List Block} {ranges : List ℕ} (e : x ≡ answer R) (f : rows ≡ table_of M R) (g : ranges ≡ range_words N R) where
    pub answer-same : {w : Written} → w ≡ read_answer u (vector_of v) form to rows x.blocks (rows_from ranges 0 x.ranges) room → w ≡ W
    unfolding answer
    answer-same h = h ∙ rw (e, f, g) refl

    pub out-same : {o : List ℕ} → o ≡ read_out u (vector_of v) form to rows x.blocks (rows_from ranges 0 x.ranges) out₀ → o ≡ O
    unfolding answer
    out-same h = h ∙ rw (e, f, g) refl

  -- a refusal leaves nothing
  by-refusal : (why : Refusal) (m k l : ℕ) → d ≡ refused_with why → m ≡ M → k ≡ N → l ≡ room
      → Right (answered (refused_with why)) (table_of m (refused why)) (range_words k (refused why)) (padded l [])
  by-refusal why m k l e p q r = (
    ap answered (sym e),
    ap (λ (x : ℕ). table_of x (refused why)) p ∙ ap (λ (x : Diffed). table_of M x.reading) (sym e),
    ap (λ (x : ℕ). range_words x (refused why)) q ∙ ap (λ (x : Diffed). range_words N x.reading) (sym e),
    ap (λ (x : ℕ). padded x []) r ∙ ap (λ (x : Diffed). padded room x.bytes) (sym e),
  )

  pub exit-unknown : known to ≡ false
      → Right (answered (refused_with (nowhere 12))) (table_of M (refused (nowhere 12))) (range_words N (refused (nowhere 12))) (padded room [])
  unfolding diff_of
  exit-unknown k =
      by-refusal (nowhere 12) M N room
      (ap (λ (x : Bool). pick x (after_reading u (vector_of v) form to room R) (refused_with (nowhere 12))) k) refl refl refl

  read_first : known to ≡ true → d ≡ after_reading u (vector_of v) form to room R
  unfolding diff_of
  read_first k = ap (λ (x : Bool). pick x (after_reading u (vector_of v) form to room R) (refused_with (nowhere 12))) k

  pub exit-unread : known to ≡ true → (R.refusal.number ≡ 0 → ⊥)
      → Right (answered (refused_with R.refusal)) (table_of (length (table_of M R)) (refused R.refusal))
      (range_words (length (range_words N R)) (refused R.refusal)) (padded room [])
  unfolding after_reading
  exit-unread k z =
      by-refusal R.refusal (length (table_of M R)) (length (range_words N R)) room
      (read_first k ∙ ap (λ (x : Bool). pick x (against u (vector_of v) form to room R) (refused_with R.refusal)) (ne_eqb R.refusal.number 0 z))
      (rows-length form u M N) (words-length form u M N) refl

  -- ---- the update was read

  module _ (k : known to ≡ true) (z : R.refusal.number ≡ 0) where
    abbrev es : List Entry
    es = things (vector_of v)

    abbrev why : ℕ
    why = diff_why form to u es R.blocks R.ranges

    abbrev bytes : List ℕ
    bytes = diff_bytes to u es R.blocks R.ranges

    abbrev good : Good u M (N / 3) R
    good = reading-good form u M (N / 3)

    fits : length R.blocks ≤ length (table_of M R)
    fits = omega (arith, good.fits, rows-length form u M N)

    kept-answer : kept_answer u es form to (table_of M R) (length R.blocks) R.ranges room ≡ written why room bytes
    kept-answer =
        answer-is u es R.blocks (table_of M R) R.ranges form to (form_of to k) (rows_back form u M N) fits good.ordered good.sound good.count
        good.clients (short form u M (N / 3) z)
        (λ _. legal-diff to u es R.blocks R.ranges (short form u M (N / 3) z) good.sound good.ordered)
        (λ _. few-diff to u es R.blocks R.ranges (short form u M (N / 3) z) good.count good.clients (reading-few form u M (N / 3))) room

    kept_out_lem : kept_out u es form to (table_of M R) (length R.blocks) R.ranges out₀ ≡ put why room bytes
    kept_out_lem =
        out-is u es R.blocks (table_of M R) R.ranges form to (form_of to k) (rows_back form u M N) fits good.ordered good.sound good.count
        good.clients (short form u M (N / 3) z)
        (λ _. legal-diff to u es R.blocks R.ranges (short form u M (N / 3) z) good.sound good.ordered)
        (λ _. few-diff to u es R.blocks R.ranges (short form u M (N / 3) z) good.count good.clients (reading-few form u M (N / 3))) out₀

    -- the vector's refusal, then the diffOf's
    abbrev w : ℕ
    w = why_vector v

    abbrev last : ℕ
    last = verdict why room bytes

    abbrev all : ℕ
    all = pick (eqb w 0) last w

    answer_at : W ≡ pick (eqb all 0) (done (length bytes)) (refusal all)
    unfolding read_answer
    answer_at = rw (words_back form u M N, kept-answer) (by_number v (written why room bytes) refusal ∙ go (eqb w 0) refl)
      where
        go : (x : Bool) → eqb w 0 ≡ x
            → pick x (written why room bytes) (refusal w) ≡ pick (eqb (pick x last w) 0) (done (length bytes)) (refusal (pick x last w))
        go true e = written-by why room bytes
        go false e = rw e refl

    out_at : O ≡ padded room (pick (eqb all 0) bytes [])
    unfolding read_out
    out_at = rw (words_back form u M N, kept_out_lem) (by_number v (put why room bytes) (λ n. padded room []) ∙ go (eqb w 0) refl)
      where
        go : (x : Bool) → eqb w 0 ≡ x → pick x (put why room bytes) (padded room []) ≡ padded room (pick (eqb (pick x last w) 0) bytes [])
        go true e = put-by why room bytes
        go false e = rw e refl

    abbrev whole : Diffed
    whole = record { refusal = none; bytes = bytes; reading = R }

    -- what is refused of a diff blames no byte
    abbrev refused_by : ℕ → Diffed
    refused_by n = refused_with (nowhere n)

    diff-at : d ≡ pick (eqb all 0) whole (refused_by all)
    unfolding after_reading against diffed why_not
    diff-at =
        read_first k ∙ ap (λ (x : Bool). pick x (against u (vector_of v) form to room R) (refused_with R.refusal)) (eq-eqb R.refusal.number 0 z)
        ∙ by_number v (pick (eqb last 0) whole (refused_by last)) refused_by ∙ go (eqb w 0) refl
      where
        go : (x : Bool) → eqb w 0 ≡ x
            → pick x (pick (eqb last 0) whole (refused_by last)) (refused_by w) ≡ pick (eqb (pick x last w) 0) whole (refused_by (pick x last w))
        go true e = refl
        go false e = rw e refl

    number_at : W.number ≡ all
    number_at = ap (λ (x : Written). x.number) answer_at ∙ go (eqb all 0) refl
      where
        go : (x : Bool) → eqb all 0 ≡ x → (pick x (done (length bytes)) (refusal all)).number ≡ all
        go true e = sym (eqb-true all 0 e)
        go false e = refl

    bytes_fit : all ≡ 0 → length bytes ≤ room
    bytes_fit = go (eqb w 0) refl
      where
        go : (x : Bool) → eqb w 0 ≡ x → pick x last w ≡ 0 → length bytes ≤ room
        go true e h = done-fits why room bytes h
        go false e h = absurd (eqb-false w 0 e h)

    pub out-size : length O ≡ room
    out-size = ap length out_at ∙ length-padded room (pick (eqb all 0) bytes []) (go (eqb all 0) refl)
      where
        go : (x : Bool) → eqb all 0 ≡ x → length (pick x bytes []) ≤ room
        go true e = bytes_fit (eqb-true all 0 e)
        go false e = omega arith

    pub exit-refused : (W.number ≡ 0 → ⊥)
        → Right (answered (refused_by W.number)) (table_of (length (table_of M R)) (refused (nowhere W.number)))
        (range_words (length (range_words N R)) (refused (nowhere W.number))) (padded (length O) [])
    exit-refused h =
        by-refusal (nowhere W.number) (length (table_of M R)) (length (range_words N R)) (length O) (diff-at ∙ named)
        (rows-length form u M N) (words-length form u M N) out-size
      where
        some : all ≡ 0 → ⊥
        some e = h (number_at ∙ e)

        named : pick (eqb all 0) whole (refused_by all) ≡ refused_by W.number
        named = ap (λ (x : Bool). pick x whole (refused_by all)) (ne_eqb all 0 some) ∙ ap refused_by (sym number_at)

    pub exit-done : W.number ≡ 0
        → Right (record { refusal = none; bytes = W.bytes; blocks = length R.blocks; ranges = length R.ranges }) (table_of M R) (range_words N R) O
    unfolding answered
    exit-done h = (
      ap (λ (x : ℕ). record { refusal = none; bytes = x; blocks = length R.blocks; ranges = length R.ranges }) size
          ∙ ap answered (sym done-is),
      ap (λ (x : Diffed). table_of M x.reading) (sym done-is),
      ap (λ (x : Diffed). range_words N x.reading) (sym done-is),
      out_at ∙ ap (λ (x : Bool). padded room (pick x bytes [])) zero_is ∙ ap (λ (x : Diffed). padded room x.bytes) (sym done-is),
    )
      where
        zero_is : eqb all 0 ≡ true
        zero_is = eq-eqb all 0 (sym number_at ∙ h)

        done-is : d ≡ whole
        done-is = diff-at ∙ ap (λ (x : Bool). pick x whole (refused_by all)) zero_is

        size : W.bytes ≡ length bytes
        size = ap (λ (x : Written). x.bytes) (answer_at ∙ ap (λ (x : Bool). pick x (done (length bytes)) (refusal all)) zero_is)
