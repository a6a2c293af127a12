-- The draws of a form 1 update tile its bytes, from the first to the end of its delete set; in form 2 those of the delete set tile theirs.
use Prim.Native.Nat.{ℕ, ◌≤◌}
use native.Mathlib.Omega.{arith}
use mathlib.Core.Path.{refl}
use mathlib.Core.List.{List}
use lib.ListN.{length}
use Rattle.grammar.specs.Grammar.{Answer, Grammar, ask, emit, stop, done}
use Rattle.grammar.specs.Course.{Drawn, got, not, on_drawn, run}
use Rattle.grammar.specs.Blocks.{all_blocks}
use Rattle.grammar.specs.Deletes.{all_ranges}
use Rattle.decoder.specs.Line.{line}
use Rattle.decoder.specs.Update.{blocks_of, delete_set}
use Rattle.explainer.specs.Watch.{on_seen, watch}
use Rattle.tiled.specs.Tiles.{Tiles, Ends}
use Rattle.tiled.proofs.Goes.{Goes, goes}

module _ (form : ℕ) (u : List ℕ) where
  pub tiles : {E A : Type 0} (x : Grammar E A) (s t : ℕ) → s ≤ length u → Ends (run (line form u) x s) t → Tiles s (watch (line form u) x s) t × (t ≤ length u)
  unfolding run watch on_drawn on_seen Goes Tiles Ends
  tiles {E} {A} (ask f k) s t w e = go (line form u f s) (goes form u f s w) e (λ a y. tiles (k a) y t)
    where
      go : (d : Drawn ℕ (Answer f)) → Goes form u f s d → Ends (on_drawn d (λ a y. run (line form u) (k a) y)) t
          → ((a : Answer f) (y : ℕ) → y ≤ length u → Ends (run (line form u) (k a) y) t
          → Tiles {E = E} y (watch (line form u) (k a) y) t × (t ≤ length u))
          → Tiles {E = E} s (on_seen f s d (λ a y. watch (line form u) (k a) y)) t × (t ≤ length u)
      go (got a y) g h more = let r = more a y g.1 h in ((refl, g.0, g.2, r.0), r.1)
      go (not why) g h more = absurd h
  tiles (emit e p x) s t w h = tiles x s t w h
  tiles (stop n p) s t w h = absurd h
  tiles (done a) s t w h = (h, omega (arith, w, h))

-- an update of form 1: its blocks from its first byte on, its delete set from there to the end
pub form-1-tiled : (u : List ℕ) (at end : ℕ) → Ends (blocks_of 1 u) at → Ends (delete_set 1 u at) end
    → Tiles 0 (watch (line 1 u) all_blocks 0) at × Tiles at (watch (line 1 u) all_ranges at) end × (end ≤ length u)
unfolding blocks_of delete_set
form-1-tiled u at end b d =
    let x = tiles 1 u all_blocks 0 at (omega arith) b in
    let y = tiles 1 u all_ranges at end x.1 d in
    (x.0, y.0, y.1)

-- the delete set of either form
pub delete-set-tiled : (form : ℕ) (u : List ℕ) (at end : ℕ) → at ≤ length u → Ends (delete_set form u at) end → Tiles at (watch (line form u) all_ranges at) end
unfolding delete_set
delete-set-tiled form u at end w d = (tiles form u all_ranges at end w d).0
