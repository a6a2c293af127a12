-- A state vector: the short reading of it and the grammar as data give the same entries.
use Prim.Native.Nat.{ℕ, zero, suc}
use mathlib.Core.Path.{◌≡◌, refl, sym, ap, ◌∙◌}
use mathlib.Core.Bool.{Bool, true, false, ◌||◌}
use mathlib.Core.List.{List, [], ◌∷◌, ◌++◌}
use lib.Dec.{eqb}
use Rattle.numbers.specs.Number.{pick}
use Rattle.numbers.specs.Words.{among}
use Rattle.numbers.specs.Limits.{max_value, max_clock, max_clients}
use Rattle.grammar.specs.Grammar as grammar
use Rattle.grammar.specs.Grammar.{Number, number, Grammar, draw, ◌>>=◌}
use Rattle.grammar.specs.Course as course
use Rattle.grammar.specs.Course.{Drawn, run, on_drawn}
use Rattle.decoder.specs.Line.{number_by, line}
use Rattle.vector.specs.Vector as old
use Rattle.vector.specs.Vector.{Entry, entry, holds, vector_of}
use Rattle.meaning.specs.Reads.{when◌then◌else◌, Reads, Got, on, done, refuse}
use Rattle.meaning.specs.Line.{up_to}
use Rattle.meaning.specs.Fields.{located}
use Rattle.meaning.specs.Vector.{entries, vector}
use Rattle.meaning.specs.Alike.{drawn_as, collect}
use Rattle.meaning.proofs.Line.{on-on, up_to-is}

-- an entry more was seen
holds_more : (c k d : ℕ) (es : List Entry) → (eqb c d || holds d es) ≡ holds d (es ++ (entry c k ∷ []))
unfolding holds among
holds_more c k d [] = go (eqb c d)
  where
    go : (x : Bool) → (x || false) ≡ pick x true false
    go true = refl
    go false = refl
holds_more c k d (e ∷ es) = go (eqb e.client d) (eqb c d) ∙ ap (λ (x : Bool). pick (eqb e.client d) true x) (holds_more c k d es)
  where
    go : (x y : Bool) → (y || pick x true (holds d es)) ≡ pick x true (y || holds d es)
    go true true = refl
    go true false = refl
    go false y = refl

module _ (v : List ℕ) where
  -- read from a place on, m gives what g keeps
  abbrev Alike : ℕ → Reads ℕ (List Entry) → Grammar Entry (Unit {0}) → Type 0
  Alike at m g = m at ≡ collect (λ e. e) (run (line 1 v) g at)

  -- a number, and then what goes by it and by its place
  number-then : (n : Number) (m : Reads ℕ ℕ) (g : ℕ × ℕ → Grammar Entry (Unit {0})) (rest : ℕ → ℕ → Reads ℕ (List Entry)) (at : ℕ)
      → located m at ≡ drawn_as (λ a. a) (λ e. e) (line 1 v (number n) at) → ((x p e : ℕ) → Alike e (rest x p) (g (x, p)))
      → Alike at (λ e. on (m e) (λ x. rest x e)) (draw (number n) >>= g)
  unfolding run ◌>>=◌ on drawn_as on_drawn collect
  number-then n m g rest at field same =
      sym (on-on (m at) (λ x. done (x, at)) (λ a. rest a.0 a.1)) ∙ ap (λ (d : Got ℕ (ℕ × ℕ)). on d (λ a. rest a.0 a.1)) field
      ∙ go (line 1 v (number n) at)
    where
      go : (d : Drawn ℕ (ℕ × ℕ))
          → on (drawn_as (λ a. a) (λ e. e) d) (λ a. rest a.0 a.1) ≡ collect (λ e. e) (on_drawn d (λ a e. run (line 1 v) (g a) e))
      go (course.got a e) = same a.0 a.1 e
      go (course.not why) = refl

  -- n entries more, whatever was seen
  abbrev EntriesAlike : ℕ → Type 0
  EntriesAlike n = (seen : ℕ → Bool) (es : List Entry) → ((d : ℕ) → seen d ≡ holds d es) → (at : ℕ) → Alike at (entries v n seen) (old.entries n es)

  -- an entry whose client is read, twice or not, and those behind it
  module _ (n : ℕ) (seen : ℕ → Bool) (es : List Entry) (c p : ℕ) where
    abbrev behind : ℕ → Reads ℕ (List Entry)
    behind k at = on (entries v n (λ d. eqb c d || seen d) at) (λ more. done (entry c k ∷ more))

    abbrev behind_in : ℕ × ℕ → Grammar Entry (Unit {0})
    behind_in k = grammar.emit (entry c k.0) p (old.entries n (es ++ (entry c k.0 ∷ [])))

    abbrev clocked : Bool → Reads ℕ (List Entry)
    clocked twice at = on ((when twice then refuse 4 p else up_to v max_clock) at) behind

    abbrev clocked_in : Bool → Grammar Entry (Unit {0})
    clocked_in twice = pick twice (grammar.stop 4 p) (draw (number (grammar.up_to max_clock)) >>= behind_in)

    clocked-alike : EntriesAlike n → ((d : ℕ) → seen d ≡ holds d es) → (twice : Bool) (at : ℕ) → Alike at (clocked twice) (clocked_in twice)
    unfolding on run collect when◌then◌else◌ line number_by
    clocked-alike more e true at = refl
    clocked-alike more e false at =
        number-then (grammar.up_to max_clock) (up_to v max_clock) behind_in (λ k _. behind k) at (up_to-is v max_clock at)
        (λ k _ at. ap (λ (g : Got ℕ (List Entry)). on g (λ es. done (entry c k ∷ es)))
        (more _ (es ++ (entry c k ∷ [])) (λ d. ap (λ (x : Bool). eqb c d || x) (e d) ∙ holds_more c k d es) at))

  entries-alike : (n : ℕ) → EntriesAlike n
  unfolding entries old.entries run collect on line number_by
  entries-alike zero seen es e at = refl
  entries-alike (suc n) seen es e at =
      number-then grammar.client (up_to v max_value) _ (λ c p. clocked n seen es c p (seen c)) at (up_to-is v max_value at)
      (λ c p at. ap (λ (b : Bool). clocked n seen es c p b at) (e c) ∙ clocked-alike n seen es c p (entries-alike n) e (holds c es) at)

pub vector-same : (v : List ℕ) → vector v ≡ collect (λ e. e) (vector_of v)
unfolding vector vector_of old.a_vector holds among line number_by
vector-same v =
    number-then v (grammar.up_to max_clients) (up_to v max_clients) (λ a. old.entries a.0 []) (λ n _. entries v n (λ _. false)) 0
    (up_to-is v max_clients 0) (λ n _ e. entries-alike v n (λ _. false) [] (λ d. refl) e)
