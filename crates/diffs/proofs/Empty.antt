-- Zeros are a vector that names no client: what follows the number of entries is not read.
use Prim.Native.Nat.{ℕ, ◌/◌}
use mathlib.Core.Path.{◌≡◌, refl, ap}
use mathlib.Core.List.{List}
use lib.ListN.{length, replicate}
use Rattle.numbers.specs.Number.{spelt, answer_at, read_unsigned}
use Rattle.numbers.specs.Output.{padded}
use Rattle.block.specs.declared.Block.{Block}
use Rattle.grammar.specs.Grammar as grammar
use Rattle.grammar.specs.Course.{on_drawn, run}
use Rattle.decoder.specs.Line.{number_at, var_at, bounded, up_to, number_by, line}
use Rattle.vector.specs.Vector.{entries, a_vector, vector_of}
use Rattle.updates.specs.Promises.{table_of, range_words}
use Rattle.diffs.specs.Promises.{Diffed, diff_of, answered, Diffs, empty_vector}

zeros-none : vector_of (replicate 16 0) ≡ vector_of empty_vector
unfolding vector_of a_vector entries grammar.◌>>=◌ run on_drawn line number_by up_to var_at number_at bounded read_unsigned answer_at spelt
zeros-none = refl

pub zeros-empty : (form : ℕ) (u : List ℕ) (to m n room : ℕ) → diff_of form u (replicate 16 0) to m n room ≡ diff_of form u empty_vector to m n room
unfolding diff_of
zeros-empty form u to m n room = rw zeros-none

-- so a diff against zeros is what `encode_update` promises
pub against-zeros : (form : ℕ) (u : List ℕ) (to : ℕ) (rows : List Block) (ranges out : List ℕ)
    → let d = diff_of form u (replicate 16 0) to (length rows) (length ranges / 3) (length out) in
    Diffs form u empty_vector to rows ranges out (answered d) (table_of (length rows) d.reading) (range_words (length ranges) d.reading) (padded (length out) d.bytes)
against-zeros form u to rows ranges out =
    let z = zeros-empty form u to (length rows) (length ranges / 3) (length out) in
    (ap answered z, ap (λ (d : Diffed). table_of (length rows) d.reading) z, ap (λ (d : Diffed). range_words (length ranges) d.reading) z, ap (λ (d : Diffed). padded (length out) d.bytes) z)
