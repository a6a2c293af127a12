-- What a grammar reads of an id, from words w to words v.
use Rattle.std.specs.Prelude.{Some, None}
use Prim.Native.Nat.{ℕ, ◌+◌, ◌<◌}
use mathlib.Core.Path.{◌≡◌, refl, sym}
use mathlib.Core.List.{List}
use lib.ListN.{length, set}
use Rattle.block.specs.declared.Id.{Id}
use Rattle.block.specs.declared.Block.{Block}
use Rattle.grammar.specs.Grammar.{Grammar, done}
use Rattle.grammar.specs.Grammar.{◌>>=◌}
use Rattle.grammar.specs.Course.{stopped, run}
use Rattle.decoder.specs.ColumnedInner.{fields}
use Rattle.cells.specs.Cells.{state_in, why_in}
use Rattle.cells.proofs.States.{row_first, row-second}
use Rattle.held.proofs.Laws.{bind-over, bind_stopped}
use Rattle.item.specs.Row.{id_in, id_onto, Reads}

module _ (form : ℕ) (u : List ℕ) where
  module _ {A : Type 0} (w v : List ℕ) where
    -- an id in words k and k + 1 of the row q
    pub id-then : (k : ℕ) (q : List ℕ) (x : Grammar Block Id) (g : Id → Grammar Block A)
        → id_onto k v q (Some tt) ≡ Reads form u w x → Reads form u v (g (id_in q k)) ≡ Reads form u w (x >>= g)
    unfolding id_onto
    id-then k q x g e = sym (bind-over (fields form u) x g (state_in w) (id_in q k) (state_in v) (sym e))

    pub id-stopped : (k : ℕ) (q : List ℕ) (x : Grammar Block Id) (g : Id → Grammar Block A)
        → id_onto k v q None ≡ Reads form u w x → stopped (why_in v) ≡ Reads form u w (x >>= g)
    unfolding id_onto
    id-stopped k q x g e = sym (bind_stopped (fields form u) x g (state_in w) (why_in v) (sym e))

  -- an id put in words n and n + 1
  pub id-done : (v : List ℕ) (n x y : ℕ) (r : List ℕ) → n + 1 < length r
      → id_onto n v (set (set r n x) (n + 1) y) (Some tt) ≡ Reads form u v (done (record { client = x; clock = y }))
  unfolding id_onto id_in run
  id-done v n x y r l = rw (row_first n x y r l, row-second n x y r l) refl
