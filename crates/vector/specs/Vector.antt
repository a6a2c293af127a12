-- A state vector: how many entries, then a client and its clock each, all of it in line. What comes after them is not read.
use Rattle.std.specs.Prelude.{ℕ, zero, suc, ◌*◌, List, [], ◌∷◌, ◌++◌, map, Bool, ltb, length}
use Rattle.numbers.specs.Number.{pick, none, nowhere}
use Rattle.numbers.specs.Words.{among}
use Rattle.numbers.specs.Limits.{max_clock, max_clients}
use Rattle.numbers.specs.Output.{padded}
use Rattle.grammar.specs.Grammar.{client, up_to, number, Grammar, emit, stop, done, draw}
use Rattle.grammar.specs.Grammar.{◌>>=◌}
use Rattle.grammar.specs.Course.{Course, run, things, ending}
use Rattle.decoder.specs.Line.{line}
use Rattle.vector.specs.declared.Vector.{Vector}

pub record Entry : Type 0 where
  pub client : ℕ
  pub clock : ℕ

abbrev pub entry : ℕ → ℕ → Entry
entry c k = record { client = c; clock = k }

abbrev pub clients_in : List Entry → List ℕ
clients_in es = map (λ (e : Entry). e.client) es

-- whether a client has an entry
unfoldable pub holds : ℕ → List Entry → Bool
holds c es = among c (clients_in es)

-- n entries more, after those seen: a client twice is refused with 4 before its clock is read
unfoldable pub entries : ℕ → List Entry → Grammar Entry (Unit {0})
entries zero seen = done tt
entries (suc n) seen = do
  (c, at) ← draw (number client)
  pick (holds c seen) (stop 4 at) (do
    (k, _) ← draw (number (up_to max_clock))
    emit (entry c k) at (entries n (seen ++ (entry c k ∷ []))))

unfoldable pub a_vector : Grammar Entry (Unit {0})
a_vector = draw (number (up_to max_clients)) >>= λ (n, _). entries n []

unfoldable pub vector_of : List ℕ → Course Entry
vector_of v = run (line 1 v) a_vector 0

-- ---- two words an entry, into so many

unfoldable pub words_in : List Entry → List ℕ
words_in [] = []
words_in (e ∷ es) = e.client ∷ (e.clock ∷ words_in es)

-- a vector's refusal blames no byte
abbrev pub refused_vector : ℕ → Vector
refused_vector n = record { refusal = nowhere n; count = 0 }

unfoldable pub vector_answer : ℕ → Course Entry → Vector
vector_answer room c =
    let n = length (things c) in
    ending c (λ s. pick (ltb room (2 * n)) (refused_vector 10) (record { refusal = none; count = n })) (λ why. refused_vector why.number)

unfoldable pub vector_words : ℕ → Course Entry → List ℕ
vector_words room c = padded room (ending c (λ s. pick (ltb room (2 * length (things c))) [] (words_in (things c))) (λ why. []))
