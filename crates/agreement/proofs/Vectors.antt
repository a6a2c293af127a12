-- A state vector: bytes after a vector that reads change nothing of it, and what is refused has a number from 1 to 8.
use Prim.Native.Nat.{ℕ, zero, suc}
use mathlib.Core.Path.{◌≡◌}
use mathlib.Core.List.{List, [], ◌∷◌, ◌++◌}
use native.Mathlib.Omega.{arith}
use Rattle.grammar.specs.Grammar.{◌>>=◌}
use Rattle.grammar.specs.Whole.{Ends}
use Rattle.grammar.specs.Numbered.{Owns}
use Rattle.vector.specs.Vector.{Entry, entry, holds, entries, a_vector, vector_of}
use Rattle.pieces.proofs.Forgets.{chosen}
use Rattle.places.proofs.AppendedRuns.{line_stays}
use Rattle.agreement.specs.Numbered.{Low, Stops}
use Rattle.agreement.proofs.Courses.{same-to-end}
use Rattle.agreement.proofs.Lines.{line-numbered}

pub unread-vector : (v w : List ℕ) (at : ℕ) → Ends (vector_of v) at → vector_of (v ++ w) ≡ vector_of v
unfolding vector_of
unread-vector v w at e = same-to-end (vector_of v) (vector_of (v ++ w)) at (line_stays 1 v w a_vector 0) e

low4 : Low 4
low4 = (omega arith, omega arith)

entries-own : (n : ℕ) (seen : List Entry) → Owns Low (entries n seen)
unfolding entries Owns ◌>>=◌
entries-own zero seen = tt
entries-own (suc n) seen = λ c. chosen (Owns Low) (holds c.0 seen) low4 (λ k. entries-own n (seen ++ (entry c.0 k.0 ∷ [])))

vector-owns : Owns Low a_vector
unfolding a_vector Owns ◌>>=◌
vector-owns = λ n. entries-own n.0 []

pub vector-numbered : (v : List ℕ) → Stops (vector_of v)
unfolding vector_of
vector-numbered v = line-numbered 1 v a_vector vector-owns 0
