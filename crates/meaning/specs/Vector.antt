-- A state vector: how many entries, then a client and its clock each; a client twice is 4, before its clock is read.
use Rattle.std.specs.Prelude.{ℕ, zero, suc, Bool, false, ◌||◌, List, [], ◌∷◌, eqb}
use Rattle.vector.specs.Vector.{Entry, entry}
use Rattle.meaning.specs.Reads.{when◌then◌else◌, Reads, Got, ◌>>=◌, done, refuse, here}
use Rattle.meaning.specs.Line.{up_to}

unfoldable pub entries : List ℕ → ℕ → (ℕ → Bool) → Reads ℕ (List Entry)
entries v zero seen = done []
entries v (suc n) seen = do
  at ← here
  c ← up_to v 9007199254740991
  k ← when seen c then refuse 4 at else up_to v 2147483647
  more ← entries v n (λ d. eqb c d || seen d)
  done (entry c k ∷ more)

unfoldable pub vector : List ℕ → Got ℕ (List Entry)
vector v = (up_to v 64 >>= λ n. entries v n (λ _. false)) 0
