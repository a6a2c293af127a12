-- What a diff has of a client's blocks, as a sorter sees them: the leading ones that fall are gone, the first of the others may have been cut.
use Rattle.std.specs.Prelude.{ℕ, ◌+◌, ◌≤◌, ◌≡◌, ◌⊎◌, Bool, List, [], ◌∷◌, T}
use Rattle.block.specs.declared.Id.{Id}
use Rattle.block.specs.declared.Block.{Block}
use Rattle.kept.specs.Kept.{keep_from}
use Rattle.kept.specs.KeptInner.{rows_of}
use Rattle.sorting.specs.Rules.{deps, others, unmet, free}

-- e is what is left of the block b of client c, against the remote clock k: it is of the same kind and ends where b ends; it starts where b starts,
-- or at or below k; and whatever ids are met, e waits for no other client if b waits for none
pub record Rest (c k : ℕ) (b e : Block) : Type 0 where
  pub kind : e.kind ≡ b.kind
  pub end : e.clock + e.length.0 ≡ b.clock + b.length.0
  pub start : (e.clock ≡ b.clock) ⊎ (e.clock ≤ k)
  pub waits : (met : Id → Bool) → T (free (unmet met (others c (deps b)))) → T (free (unmet met (others c (deps e))))

-- one by one
unfoldable pub Rests : ℕ → ℕ → List Block → List Block → Type 0
Rests c k [] [] = Unit {0}
Rests c k [] (e ∷ es) = ⊥
Rests c k (b ∷ bs) [] = ⊥
Rests c k (b ∷ bs) (e ∷ es) = Rest c k b e × Rests c k bs es

-- es is what is left of the blocks bs of client c: of those that a diff keeps, which are all but the leading ones that fall
abbrev pub Remains : ℕ → ℕ → List Block → List Block → Type 0
Remains c k bs es = Rests c k (rows_of (keep_from k bs)) es
