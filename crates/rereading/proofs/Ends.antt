-- What a diff has where the other side has everything, and where it has nothing.
use Prim.Native.Nat.{ℕ, ◌≤◌}
use mathlib.Core.Path.{◌≡◌, refl, ap, ◌∙◌}
use mathlib.Core.Logic.{◌≢◌}
use mathlib.Core.Bool.{Bool, true, false}
use mathlib.Core.List.{List, [], ◌∷◌}
use native.Mathlib.Omega.{arith}
use lib.Dec.{eqb}
use lib.ListN.{length}
use borrow.Author.Tests.{le-leb}
use Rattle.numbers.specs.Number.{pick, nowhere, none, spelt, low_part, answer_at, read_unsigned}
use Rattle.numbers.specs.Output.{verdict}
use Rattle.runs.specs.Runs.{spellable}
use Rattle.grammar.specs.Grammar as grammar
use Rattle.grammar.specs.Course.{on_drawn, run, things}
use Rattle.decoder.specs.Line.{number_at, var_at, bounded, up_to, number_by, line}
use Rattle.vector.specs.Vector.{Entry, entries, a_vector, vector_of}
use Rattle.ranges.specs.Ranges.{Range}
use Rattle.updates.specs.Promises.{known, reading}
use Rattle.readings.specs.Sound.{All}
use Rattle.readings.specs.Groups.{groups}
use Rattle.tokens.specs.Tokens.{Token, var, lefts, rights, rest, whole, taken, taken_all}
use Rattle.tokens.specs.Keys.{crowded, many_keys}
use Rattle.tokens.specs.Bytes.{bytes_of, near_in, near}
use Rattle.kept.specs.Kept.{Section, falling, client_of, sections_of}
use Rattle.kept.specs.KeptInner.{whole_each}
use Rattle.kept.specs.Cut.{any_torn, any_format}
use Rattle.kept.proofs.SectionsRemote.{nothing-kept, against-nothing}
use Rattle.records.specs.Records.{sections_tokens, delete_tokens, update_tokens}
use Rattle.records.proofs.Deletes.{deletes-plain, deletes-taken}
use Rattle.writing.specs.Diff.{diff_tokens, diff_bytes, diff_why, turned_format}
use Rattle.diffs.specs.Promises.{refused_with, why_not, diffed, against, after_reading, diff_of, empty_vector}
use Rattle.rereading.specs.Vectors.{Reads, entries_in, HasAll}
use Rattle.rereading.proofs.Elsewhere.{vector-read}
use Rattle.rereading.proofs.Done.{done}

-- numbers without columns need no differences
numbers-near : (form : ℕ) (rs : List Range) → near form (var 0 ∷ delete_tokens form rs) ≡ true
unfolding near near_in taken_all taken spellable
numbers-near form rs = rw (free lefts (λ e. omega (arith, e)) (λ e. omega (arith, e)), free rights (λ e. omega (arith, e)) (λ e. omega (arith, e))) (go (eqb form 1))
  where
    free : (k : ℕ) → k ≢ whole → k ≢ rest → taken_all k (delete_tokens form rs) ≡ []
    free k n m = deletes-taken k n m form rs

    go : (x : Bool) → pick x true true ≡ true
    go true = refl
    go false = refl

-- and they have no keys
abbrev Keyless : Token → Type 0
Keyless t = (ts : List Token) → crowded [] (t ∷ ts) ≡ crowded [] ts

none-crowded : (ts : List Token) → All Keyless ts → crowded [] ts ≡ false
unfolding crowded
none-crowded [] h = refl
none-crowded (t ∷ ts) h = h.0 ts ∙ none-crowded ts h.1

var-keyless : (n : ℕ) → Keyless (var n)
unfolding crowded
var-keyless n ts = refl

numbers-keyless : (form : ℕ) (rs : List Range) → many_keys form (var 0 ∷ delete_tokens form rs) ≡ false
unfolding many_keys
numbers-keyless form rs =
    rw (none-crowded (var 0 ∷ delete_tokens form rs) (var-keyless 0, deletes-plain Keyless var-keyless form rs)) (go (eqb form 1))
  where
    go : (x : Bool) → pick x false false ≡ false
    go true = refl
    go false = refl

-- nothing kept, no format kept
none-turned : (form to : ℕ) → turned_format form to [] ≡ false
unfolding turned_format any_format
none-turned form to = go (eqb form to)
  where
    go : (x : Bool) → pick x false false ≡ false
    go true = refl
    go false = refl

module _ (form : ℕ) (u : List ℕ) (to m n room : ℕ) where
  -- a diff that is made is the bytes of the sections kept, and of the whole delete set
  pub sections-written : (v : List ℕ) (ss : List Section) → sections_of (entries_in v) (reading form u m n).blocks ≡ ss
      → (diff_of form u v to m n room).refusal.number ≡ 0
      → (diff_of form u v to m n room).bytes ≡ bytes_of to (update_tokens to u ss (reading form u m n).ranges)
  unfolding diff_bytes diff_tokens
  sections-written v ss e z =
      (done form u v to m n room z).bytes ∙ ap (λ (ss : List Section). bytes_of to (update_tokens to u ss (reading form u m n).ranges)) e

  -- ---- everything: no sections, and the whole delete set

  pub no-sections : (v : List ℕ) → HasAll v (reading form u m n).blocks
      → diff_tokens to u (entries_in v) (reading form u m n).blocks (reading form u m n).ranges ≡ var 0 ∷ delete_tokens to (reading form u m n).ranges
  unfolding diff_tokens update_tokens sections_tokens
  no-sections v h = rw (nothing-kept (entries_in v) (reading form u m n).blocks h)

  pub has_all : (v : List ℕ) → HasAll v (reading form u m n).blocks → (diff_of form u v to m n room).refusal.number ≡ 0
      → (diff_of form u v to m n room).bytes ≡ bytes_of to (var 0 ∷ delete_tokens to (reading form u m n).ranges)
  unfolding update_tokens sections_tokens
  has_all v h z = sections-written v [] (nothing-kept (entries_in v) (reading form u m n).blocks h) z

  -- and it is refused only for want of room
  abbrev bytes : List ℕ
  bytes = bytes_of to (var 0 ∷ delete_tokens to (reading form u m n).ranges)

  has-why : (v : List ℕ) → HasAll v (reading form u m n).blocks → length bytes ≤ room → why_not u (entries_in v) form to room (reading form u m n) ≡ 0
  unfolding why_not diff_why diff_bytes diff_tokens any_torn update_tokens sections_tokens verdict
  has-why v h fits =
      rw (
        nothing-kept (entries_in v) (reading form u m n).blocks h,
        numbers-keyless to (reading form u m n).ranges,
        none-turned form to,
        numbers-near to (reading form u m n).ranges,
        le-leb (length bytes) room fits,
      )

  has_kept : (v : List ℕ) → HasAll v (reading form u m n).blocks → length bytes ≤ room
      → diffed u (entries_in v) form to room (reading form u m n) ≡ record { refusal = none; bytes = bytes; reading = reading form u m n }
  unfolding diffed diff_bytes diff_tokens update_tokens sections_tokens
  has_kept v h fits = rw (has-why v h fits, nothing-kept (entries_in v) (reading form u m n).blocks h)

  pub has-all-made : (v : List ℕ) → known to ≡ true → (reading form u m n).refusal.number ≡ 0 → Reads v
      → HasAll v (reading form u m n).blocks
      → length (bytes_of to (var 0 ∷ delete_tokens to (reading form u m n).ranges)) ≤ room
      → diff_of form u v to m n room
      ≡ record { refusal = none; bytes = bytes_of to (var 0 ∷ delete_tokens to (reading form u m n).ranges); reading = reading form u m n }
  unfolding diff_of after_reading
  has-all-made v e z reads h fits =
      ap (λ (x : Bool). pick x (after_reading u (vector_of v) form to room (reading form u m n)) (refused_with (nowhere 12))) e
      ∙ ap (λ (k : ℕ). pick (eqb k 0) (against u (vector_of v) form to room (reading form u m n)) (refused_with (reading form u m n).refusal)) z
      ∙ vector-read u form to room (reading form u m n) v reads
      ∙ has_kept v h fits

  -- ---- nothing: every block, but for a client's leading Skips and leading blocks that end at 0

  no-entries : entries_in empty_vector ≡ []
  unfolding vector_of a_vector entries grammar.◌>>=◌ run on_drawn line number_by up_to var_at number_at bounded things read_unsigned answer_at spelt low_part
  no-entries = refl

  pub against-empty : (diff_of form u empty_vector to m n room).refusal.number ≡ 0
      → (diff_of form u empty_vector to m n room).bytes
      ≡ bytes_of to (update_tokens to u (falling (whole_each (groups client_of (reading form u m n).blocks))) (reading form u m n).ranges)
  against-empty z =
      sections-written empty_vector _
      (ap (λ (es : List Entry). sections_of es (reading form u m n).blocks) no-entries ∙ against-nothing (reading form u m n).blocks) z
