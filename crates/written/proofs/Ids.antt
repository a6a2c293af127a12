-- Ids read again: what the tokens of a left and a right id say, reading finds.
use Prim.Native.Nat.{ℕ, ◌%◌}
use mathlib.Core.Path.{◌≡◌, refl, ap, ◌∙◌}
use mathlib.Core.Bool.{Bool, true, false}
use mathlib.Core.List.{List, [], ◌∷◌}
use lib.Dec.{ltb}
use Rattle.numbers.specs.Number.{pick}
use Rattle.block.specs.declared.Id.{Id}
use Rattle.block.specs.declared.Block.{Block}
use Rattle.block.specs.Row.{no_id}
use Rattle.block.specs.Rows.{ids_are, plain}
use Rattle.grammar.specs.Grammar as grammar
use Rattle.grammar.specs.Grammar.{Number, Grammar}
use Rattle.grammar.specs.Grammar.{◌>>=◌}
use Rattle.grammar.specs.Course.{got, Reader, over, on_drawn, run}
use Rattle.grammar.specs.Blocks as blocks
use Rattle.grammar.specs.Blocks.{an_id}
use Rattle.tokens.specs.Tokens.{client, left, right}
use Rattle.draws.specs.Draws.{lane_field, Draws}
use Rattle.written.proofs.Infos.{not}
use Rattle.written.proofs.Courses.{then-on}

-- a block that has its place, and perhaps ids beside it
abbrev pub beside : ℕ → ℕ → Bool → Id → Bool → Id → Block
beside c k l i r j = ids_are l i r j (plain c k 0 0)

module _ {S : Type 0} (r : Reader S) where
  -- reading x from s finds b, up to t
  abbrev pub Finds : Grammar Block Block → S → Block → S → Type 0
  Finds x s b t = run r x s ≡ over b t

  pub id-read : (clock : Number) (i : Id) (p q : ℕ) (s m t : S) → r (grammar.number grammar.client) s ≡ got (i.client, p) m
      → r (grammar.number clock) m ≡ got (i.clock, q) t → run {E = Block} r (an_id clock) s ≡ over i t
  unfolding an_id run ◌>>=◌ on_drawn
  id-read clock i p q s m t e f = rw (e, f)

  module _ (d : List ℕ) (c k info : ℕ) where
    pub left-read : (there : Bool) (i : Id) → (there ≡ false → i ≡ no_id) → ltb info 128 ≡ not there → (s m : S)
        → Draws r d s (pick there (client i.client ∷ (left i.clock ∷ [])) []) m → Finds (blocks.left info (plain c k 0 0)) s (beside c k there i false no_id) m
    unfolding blocks.left Draws lane_field run
    left-read true i absent e s m h =
        let a = h.3 in
        rw e (then-on r _ i s a.1 _ (id-read grammar.left_clock i h.0 a.0 s h.1 a.1 h.2 a.2) ∙ ap (over (beside c k true i false no_id)) a.3)
    left-read false i absent e s m h = rw (e, absent refl) (ap (over (plain c k 0 0)) h)

    pub right-read : (l : Bool) (i : Id) (there : Bool) (j : Id) → (there ≡ false → j ≡ no_id) → ltb (info % 128) 64 ≡ not there → (s m : S)
        → Draws r d s (pick there (client j.client ∷ (right j.clock ∷ [])) []) m
        → Finds (blocks.right info (beside c k l i false no_id)) s (beside c k l i there j) m
    unfolding blocks.right Draws lane_field run
    right-read l i true j absent e s m h =
        let a = h.3 in
        rw e (then-on r _ j s a.1 _ (id-read grammar.right_clock j h.0 a.0 s h.1 a.1 h.2 a.2) ∙ ap (over (beside c k l i true j)) a.3)
    right-read l i false j absent e s m h = rw (e, absent refl) (ap (over (beside c k l i false no_id)) h)
