-- The facts that the proofs come to: what is left to be sought at each turn, and each way out.
use Prim.Native.Nat.{ℕ, ◌≤◌, ◌<◌}
use mathlib.Core.Path.{◌≡◌, refl, sym, ◌∙◌}
use mathlib.Core.Bool.{Bool, true, false}
use mathlib.Core.List.{List}
use native.Mathlib.Omega.{arith}
use lib.Dec.{ltb}
use lib.ListN.{length, get_or}
use borrow.Author.Tests.{ltb-false}
use Rattle.numbers.specs.Number.{pick}
use Rattle.numbers.specs.Limits.{max_clock}
use Rattle.block.specs.declared.Block.{Block}
use Rattle.block.specs.Row.{no_block}
use Rattle.slots.specs.Slots.{Slot}
use Rattle.picker.specs.declared.stages.Dependency.{Dependency}
use Rattle.picker.specs.Waits.{no_dependency}
use Rattle.picker.specs.Stages.{stage_at}
use Rattle.placing.specs.declared.Span.{Span}
use Rattle.placing.specs.Halving.{span, middle, narrowed, clipped, found}
use Rattle.placing.specs.Placing.{past_row, sought, number_at, held_by, span_of, on_number, is_asked, placed_dep, numbered_block, row_by}
use Rattle.placing.proofs.Halved.{found-done, turn-found, turn_below, middle-below}

clip-below : (s : Span) (n : ℕ) → (clipped s n).hi ≤ n
unfolding clipped
clip-below s n = go (ltb n s.hi) refl
  where
    go : (x : Bool) → ltb n s.hi ≡ x → (pick x (span s.lo n) s).hi ≤ n
    go true e = omega arith
    go false e = ltb-false n s.hi e

module _ (rows : List Block) (s : Span) (k : ℕ) where
  abbrev past : ℕ → Bool
  past i = past_row (get_or rows i no_block) k

  -- what is left of the rows
  pub record Seeking (t : Span) : Type 0 where
    pub same : found past t.lo t.hi ≡ sought rows s k
    pub below : t.hi ≤ length rows

  pub opens : Seeking (clipped s (length rows))
  unfolding sought
  opens = record { same = refl; below = clip-below s (length rows) }

  module _ (t : Span) (g : Seeking t) where
    pub inside : t.lo < t.hi → middle t.lo t.hi < length rows
    inside h = omega (arith, middle-below t h, g.below)

    pub turns : t.lo < t.hi → Seeking (narrowed t (middle t.lo t.hi) (past (middle t.lo t.hi)))
    turns h = record {
      same = turn-found past t h (past (middle t.lo t.hi)) refl ∙ g.same;
      below = omega (arith, turn_below t h (past (middle t.lo t.hi)), g.below);
    }

    pub ended : t.hi ≤ t.lo → t.lo ≡ sought rows s k
    ended h = sym (found-done past t.lo t.hi h) ∙ g.same

  pub number-there : ltb (sought rows s k) (length rows) ≡ true → number_at s (sought rows s k) (get_or rows (sought rows s k) no_block) k ≡ held_by rows s k
  unfolding held_by
  number-there e = rw e refl

  pub number-none : ltb (sought rows s k) (length rows) ≡ false → max_clock ≡ held_by rows s k
  unfolding held_by
  number-none e = rw e refl

module _ (w : List ℕ) (h : ℕ) (ss : List Slot) (rows : List Block) where
  pub place-asked : (a : Dependency) → is_asked w h a ≡ true → on_number a.id.client (held_by rows (span_of ss a.id.client) a.id.clock) ≡ placed_dep w h ss rows a
  unfolding placed_dep
  place-asked a e = rw e refl

  pub place_none : (a : Dependency) → is_asked w h a ≡ false → no_dependency ≡ placed_dep w h ss rows a
  unfolding placed_dep
  place_none a e = rw e refl

  pub row-by : (i : ℕ) (b : Block) → numbered_block ss i b (placed_dep w h ss rows (stage_at 28 b 0)) (placed_dep w h ss rows (stage_at 28 b 1))
      (placed_dep w h ss rows (stage_at 28 b 2)) ≡ row_by w h ss rows i b
  unfolding row_by
  row-by i b = refl

-- the span that a turn's calls leave
pub turned : (rows : List Block) (k : ℕ) (t : Span) (m : ℕ) (b : Block) (u : Span)
    → m ≡ middle t.lo t.hi → b ≡ get_or rows m no_block → u ≡ narrowed t m (past_row b k)
    → u ≡ narrowed t (middle t.lo t.hi) (past_row (get_or rows (middle t.lo t.hi) no_block) k)
turned rows k t m b u p q r = r ∙ rw (q, p) refl
