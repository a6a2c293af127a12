-- Sections read again: their clients differ, so none is refused, and their pieces are no more than may be announced.
use Prim.Native.Nat.{ℕ, suc, ◌+◌, ◌-◌, ◌≤◌}
use mathlib.Core.Path.{◌≡◌, refl, sym, ap, ◌∙◌}
use mathlib.Core.Logic.{◌⊎◌, inl, inr, ◌≢◌}
use mathlib.Core.Bool.{Bool, true, false}
use mathlib.Core.List.{List, [], ◌∷◌, ◌++◌, map}
use native.Mathlib.Omega.{arith}
use lib.Dec.{eqb}
use lib.ListN.{length}
use borrow.Author.Tests.{ne_eqb}
use Rattle.numbers.specs.Number.{pick}
use Rattle.numbers.specs.Limits.{max_clock}
use Rattle.numbers.specs.Words.{among}
use Rattle.grammar.specs.Grammar as grammar
use Rattle.grammar.specs.Grammar.{◌>>=◌}
use Rattle.grammar.specs.Course.{Reader, over, run}
use Rattle.grammar.specs.Blocks.{blocks, sections}
use Rattle.grammar.proofs.Runs.{run_bind}
use Rattle.readings.specs.Sound.{All}
use Rattle.readings.specs.Groups.{Distinct}
use Rattle.draws.specs.Draws.{lane_field, Draws, Lined}
use Rattle.draws.proofs.Splits.{split}
use Rattle.kept.specs.Kept.{Piece, Section}
use Rattle.kept.specs.KeptInner.{Whole, Inside, piece_count}
use Rattle.records.specs.Records.{pieces_tokens, section_start, section_tokens, sections_tokens}
use Rattle.written.specs.Written.{pieces_read, sections_read, Goes, AlikeIn}
use Rattle.written.specs.Kept.{KeptPiece, KeptSection, client_in}
use Rattle.written.proofs.Courses.{draw-on, within_on, goes-from, goes_then}
use Rattle.written.proofs.Pieces.{runs, pieces-read}

-- ---- clients not seen

abbrev pub New : List ℕ → List ℕ → Type 0
New seen cs = All (λ (c : ℕ). among c seen ≡ false) cs

among_none : (c client : ℕ) (seen : List ℕ) → among c seen ≡ false → c ≢ client → among c (seen ++ (client ∷ [])) ≡ false
unfolding among
among_none c client [] h n = rw (ne_eqb client c (λ e. n (sym e)))
among_none c client (x ∷ seen) h n = go (eqb x c) h (λ e. among_none c client seen e n)
  where
    go : (t : Bool) → pick t true (among c seen) ≡ false → (among c seen ≡ false → among c (seen ++ (client ∷ [])) ≡ false)
        → pick t true (among c (seen ++ (client ∷ []))) ≡ false
    go true e on = e
    go false e on = on e

still-new : (client : ℕ) (seen cs : List ℕ) → New seen cs → All (λ (c : ℕ). c ≢ client) cs → New (seen ++ (client ∷ [])) cs
still-new client seen [] h n = tt
still-new client seen (c ∷ cs) h n = (among_none c client seen h.0 n.0, still-new client seen cs h.1 n.1)

pub all_new : (cs : List ℕ) → New [] cs
unfolding among
all_new [] = tt
all_new (c ∷ cs) = (refl, all_new cs)

-- ---- a section

-- its first clock is a clock
pub start_fits : (form : ℕ) (u : List ℕ) (ps : List Piece) → All (KeptPiece form u) ps → section_start ps ≤ max_clock
unfolding section_start
start_fits form u [] k = omega arith
start_fits form u (p ∷ ps) k = go k.0.ends
  where
    go : Whole p ⊎ Inside p → p.row.clock + p.from ≤ max_clock
    go (inl w) = omega (arith, k.0.sound.end, w.from)
    go (inr i) = omega (arith, k.0.sound.end, i.some, i.most)

module _ {S : Type 0} {form : ℕ} {r : Reader S} {place : S → ℕ} {d : List ℕ} (lined : Lined form d r place) (u : List ℕ) where
  -- up to its first block
  record Head (n : ℕ) (seen : List ℕ) (room : ℕ) (x : Section) (s m : S) : Type 0 where
    from : S
    is : run r (sections (suc n) seen room) s
        ≡ run r (blocks (length x.pieces) x.client (section_start x.pieces) >>= λ _. sections n (seen ++ (x.client ∷ [])) (room - length x.pieces)) from
    drawn : Draws r d from (pieces_tokens u x.pieces) m

  head_read : (n : ℕ) (seen : List ℕ) (room : ℕ) (x : Section) (s m : S) → KeptSection form u x → length x.pieces ≤ room → among x.client seen ≡ false
      → Draws r d s (section_tokens u x) m → Head n seen room x s m
  unfolding section_tokens sections lane_field Draws
  head_read n seen room x s m k l new h =
      let a = h.3 in
      let b = a.3 in
      let count = within_on r lined room (length x.pieces) h.0 s h.1 h.2 l in
      let clock = within_on r lined max_clock (section_start x.pieces) b.0 a.1 b.1 b.2 (start_fits form u x.pieces k.each) in
      record {
        from = b.1;
        is = draw-on r (grammar.number (grammar.up_to room)) (length x.pieces, h.0) s h.1 _ count
            ∙ draw-on r (grammar.number grammar.client) (x.client, a.0) h.1 a.1 _ a.2
            ∙ rw new (draw-on r (grammar.number (grammar.up_to max_clock)) (section_start x.pieces, b.0) a.1 b.1 _ clock);
        drawn = b.3;
      }

  ended : (seen : List ℕ) (room : ℕ) (s m : S) → Draws r d s [] m → Goes (AlikeIn d u) [] (run r (sections 0 seen room) s) (over tt m)
  unfolding sections run Draws Goes
  ended seen room s m h = ap (over tt) h

  pub sections-read : (ss : List Section) (seen : List ℕ) (room : ℕ) (s m : S) → All (KeptSection form u) ss → Distinct (map client_in ss)
      → New seen (map client_in ss) → piece_count ss ≤ room → Draws r d s (sections_tokens u ss) m
      → Goes (AlikeIn d u) (sections_read u ss) (run r (sections (length ss) seen room) s) (over tt m)
  unfolding sections_tokens sections_read piece_count Distinct
  sections-read [] seen room s m k e new l h = ended seen room s m h
  sections-read (x ∷ ss) seen room s m k e new l h =
      let two = split r d (section_tokens u x) (sections_tokens u ss) s m h in
      let n : ℕ = length x.pieces in
      let t = two.between in
      let head = head_read (length ss) seen room x s t k.0 (omega arith) new.0 two.first in
      let on = sections (length ss) (seen ++ (x.client ∷ [])) (room - n) in
      let here = pieces-read lined u x.client x.pieces (section_start x.pieces) head.from t k.0.each k.0.client
      (runs x.pieces k.0.joined) head.drawn in
      let later = still-new x.client seen (map client_in ss) new.1 e.0 in
      let there = sections-read ss (seen ++ (x.client ∷ [])) (room - n) t m k.1 e.1 later (omega arith) two.then in
      goes-from (AlikeIn d u) _ _ _ _ (head.is ∙ run_bind r _ _ head.from)
      (goes_then (AlikeIn d u) (pieces_read u x.pieces) (sections_read u ss) _ (over tt m) t (λ _ y. run r on y) here there)
