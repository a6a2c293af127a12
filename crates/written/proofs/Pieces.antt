-- The pieces of a section read again, each starting where the one before ended.
use Prim.Native.Nat.{ℕ, suc, ◌+◌}
use mathlib.Core.Path.{◌≡◌, refl, sym, ap, ◌∙◌}
use mathlib.Core.Bool.{Bool, true, false}
use mathlib.Core.List.{List, [], ◌∷◌}
use native.Mathlib.Omega.{arith}
use lib.Dec.{ltb, eqb}
use lib.ListN.{length}
use borrow.Author.Tests.{le-ltb, eqb-true}
use Rattle.numbers.specs.Number.{pick}
use Rattle.numbers.specs.Limits.{max_clock}
use Rattle.text.specs.declared.Units.{Units}
use Rattle.block.specs.declared.Block.{Block}
use Rattle.block.specs.Kinds.{is_item}
use Rattle.grammar.specs.Course.{Reader, thing, over, run}
use Rattle.grammar.specs.Blocks.{block, dropped, unless_dropped, blocks}
use Rattle.readings.specs.Sound.{linked, All}
use Rattle.readings.specs.SoundInner.{Sound}
use Rattle.readings.proofs.Columns.{chosen}
use Rattle.draws.specs.Draws.{Draws, Lined}
use Rattle.draws.proofs.Splits.{split}
use Rattle.kept.specs.Kept.{Piece}
use Rattle.kept.specs.Cut.{cut_row}
use Rattle.records.specs.Records.{block_tokens, pieces_tokens, section_start}
use Rattle.written.specs.Written.{reread, Writable, pieces_read, Goes, AlikeIn}
use Rattle.written.specs.Kept.{KeptPiece, Meets, Joined}
use Rattle.written.proofs.Courses.{then-on}
use Rattle.written.proofs.Blocks.{block_read}
use Rattle.written.proofs.Cuts.{cut_out}

-- ---- reread, a block keeps its place, its length and its kind

record Stays (b c : Block) : Type 0 where
  clock : c.clock ≡ b.clock
  length : c.length ≡ b.length
  kind : c.kind ≡ b.kind

reread-stays : (b : Block) → Stays b (reread b)
unfolding reread
reread-stays b =
    chosen (Stays b) (linked b) (λ _. record { clock = refl; length = refl; kind = refl }) (λ _. record { clock = refl; length = refl; kind = refl })

-- ---- an item of some length, and any GC and Skip, is not dropped

not-dropped : (u : List ℕ) (b : Block) → Sound u b → (c : Block) → c.length ≡ b.length → c.kind ≡ b.kind → dropped c ≡ false
unfolding dropped
not-dropped u b sound c e f = go (eqb c.length.0 0) refl
  where
    small : c.length.0 ≡ 0 → (x : Bool) → is_item c.kind ≡ x → is_item c.kind ≡ false
    small z false l = l
    small z true l = absurd (omega (arith, sound.stored.some (sym (ap is_item f) ∙ l), ap (λ (n : Units). n.0) e))

    go : (x : Bool) → eqb c.length.0 0 ≡ x → pick x (is_item c.kind) false ≡ false
    go true z = small (eqb-true c.length.0 0 z) (is_item c.kind) refl
    go false z = refl

-- ---- pieces from a clock on

unfoldable pub Runs : ℕ → List Piece → Type 0
Runs clock [] = Unit {0}
Runs clock (p ∷ ps) = (p.row.clock + p.from ≡ clock) × Runs (p.row.clock + p.to) ps

later-runs : (p : Piece) (ps : List Piece) → Joined (p ∷ ps) → Runs (p.row.clock + p.to) ps
unfolding Joined Meets Runs
later-runs p [] h = tt
later-runs p (q ∷ ps) h = (h.0, later-runs q ps h.1)

pub runs : (ps : List Piece) → Joined ps → Runs (section_start ps) ps
unfolding Runs section_start
runs [] h = tt
runs (p ∷ ps) h = (refl, later-runs p ps h)

module _ {S : Type 0} {form : ℕ} {r : Reader S} {place : S → ℕ} {d : List ℕ} (lined : Lined form d r place) (u : List ℕ) (client : ℕ) where
  -- one block more
  step : (c : Block) (clock : ℕ) (s t : S) → Writable form u c → c.client ≡ client → c.clock ≡ clock → (k : ℕ) → Draws r d s (block_tokens u c) t
      → (b : Block) × (p : ℕ) × (run r (blocks (suc k) client clock) s ≡ thing b p (run r (blocks k client (clock + c.length.0)) t)) × AlikeIn d u b (reread c)
  unfolding blocks unless_dropped run
  step c clock s t w e f k h =
      let x = block_read lined u c s t w h in
      let stays = reread-stays c in
      let size : x.block.length.0 ≡ c.length.0 = ap (λ (n : Units). n.0) (ap (λ (b : Block). b.length) x.alike.same ∙ stays.length) in
      let is : run {E = Block} r (block client clock) s ≡ over (x.block, x.place) t = rw (← e, ← f) x.is in
      let end : ℕ = clock + x.block.length.0 in
      let fits : ltb max_clock end ≡ false = le-ltb max_clock end (omega (arith, w.0.end, stays.clock, f, ap (λ (n : Units). n.0) stays.length)) in (
        x.block,
        x.place,
        then-on r (block client clock) (x.block, x.place) s t _ is
            ∙ rw (fits, not-dropped u (reread c) w.0 x.block (ap (λ (b : Block). b.length) x.alike.same) (ap (λ (b : Block). b.kind) x.alike.same), size),
        x.alike,
      )

  none_left : (clock : ℕ) (s m : S) → s ≡ m → run r (blocks 0 client clock) s ≡ over tt m
  unfolding blocks run
  none_left clock s m e = ap (over tt) e

  pub pieces-read : (ps : List Piece) (clock : ℕ) (s m : S) → All (KeptPiece form u) ps → All (λ (p : Piece). p.row.client ≡ client) ps → Runs clock ps
      → Draws r d s (pieces_tokens u ps) m → Goes (AlikeIn d u) (pieces_read u ps) (run r (blocks (length ps) client clock) s) (over tt m)
  unfolding Runs pieces_tokens Draws pieces_read Goes
  pieces-read [] clock s m k c x h = none_left clock s m h
  pieces-read (p ∷ ps) clock s m k c x h =
      let two = split r d (block_tokens u (cut_row u p)) (pieces_tokens u ps) s m h in
      let out = cut_out form u p k.0 in
      let one = step (cut_row u p) clock s two.between out.writable (out.client ∙ c.0) (out.clock ∙ x.0) (length ps) two.first in
      let end : clock + (cut_row u p).length.0 ≡ p.row.clock + p.to = ap (λ (n : ℕ). n + (cut_row u p).length.0) (sym x.0) ∙ out.end in
      let more = pieces-read ps (p.row.clock + p.to) two.between m k.1 c.1 x.1 two.then in (
        one.0,
        one.1,
        run r (blocks (length ps) client (p.row.clock + p.to)) two.between,
        one.2 ∙ ap (λ (n : ℕ). thing one.0 one.1 (run r (blocks (length ps) client n) two.between)) end,
        one.3,
        more,
      )
