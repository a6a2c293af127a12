-- What the public calls that write updates promise: the bytes of a diff and the reading that it was made of, or a refusal.
use Rattle.std.specs.Prelude.{ℕ, ◌/◌, ◌≡◌, List, [], ◌∷◌, eqb, length}
use Rattle.numbers.specs.declared.Refusal.{Refusal}
use Rattle.numbers.specs.Number.{pick, none, nowhere}
use Rattle.numbers.specs.Output.{verdict, padded}
use Rattle.block.specs.declared.Block.{Block}
use Rattle.grammar.specs.Course.{Course, things, ending}
use Rattle.vector.specs.Vector.{Entry, vector_of}
use Rattle.updates.specs.Promises.{Reading, refused, known, reading, table_of, range_words}
use Rattle.writing.specs.Diff.{diff_why, diff_bytes}
use Rattle.diffs.specs.declared.Diff.{Diff}

pub record Diffed : Type 0 where
  pub refusal : Refusal
  pub bytes : List ℕ
  pub reading : Reading

abbrev pub refused_with : Refusal → Diffed
refused_with why = record { refusal = why; bytes = []; reading = refused why }

-- ---- the diff of an update of one form, against a vector, in another, with so many rows and bytes lent

-- 3, 9, 19, 13, then 10: what is written blames no byte
unfoldable pub why_not : List ℕ → List Entry → ℕ → ℕ → ℕ → Reading → ℕ
why_not u v form to room r = verdict (diff_why form to u v r.blocks r.ranges) room (diff_bytes to u v r.blocks r.ranges)

unfoldable pub diffed : List ℕ → List Entry → ℕ → ℕ → ℕ → Reading → Diffed
diffed u v form to room r =
    pick (eqb (why_not u v form to room r) 0) (record { refusal = none; bytes = diff_bytes to u v r.blocks r.ranges; reading = r })
    (refused_with (nowhere (why_not u v form to room r)))

-- the vector is read after the update, and its refusal blames no byte
unfoldable pub against : List ℕ → Course Entry → ℕ → ℕ → ℕ → Reading → Diffed
against u c form to room r = ending c (λ s. diffed u (things c) form to room r) (λ why. refused_with (nowhere why.number))

unfoldable pub after_reading : List ℕ → Course Entry → ℕ → ℕ → ℕ → Reading → Diffed
after_reading u c form to room r = pick (eqb r.refusal.number 0) (against u c form to room r) (refused_with r.refusal)

unfoldable pub diff_of : ℕ → List ℕ → List ℕ → ℕ → ℕ → ℕ → ℕ → Diffed
diff_of form u v to block_rows range_rows room =
    pick (known to) (after_reading u (vector_of v) form to room (reading form u block_rows range_rows)) (refused_with (nowhere 12))

-- ---- what `encode_diff` gives, and what it leaves in all that is lent

unfoldable pub answered : Diffed → Diff
answered d = record { refusal = d.refusal; bytes = length d.bytes; blocks = length d.reading.blocks; ranges = length d.reading.ranges }

-- what d leaves: the answer r, with these rows, words and bytes at entry and at exit
abbrev pub Leaves : Diffed → List Block → List ℕ → List ℕ → Diff → List Block → List ℕ → List ℕ → Type 0
Leaves d rows ranges out r rows₁ ranges₁ out₁ =
    (r ≡ answered d) × (rows₁ ≡ table_of (length rows) d.reading) × (ranges₁ ≡ range_words (length ranges) d.reading)
    × (out₁ ≡ padded (length out) d.bytes)

abbrev pub Diffs : ℕ → List ℕ → List ℕ → ℕ → List Block → List ℕ → List ℕ → Diff → List Block → List ℕ → List ℕ → Type 0
Diffs form u v to rows ranges out = Leaves (diff_of form u v to (length rows) (length ranges / 3) (length out)) rows ranges out

-- a vector that names no client
abbrev pub empty_vector : List ℕ
empty_vector = 0 ∷ []
