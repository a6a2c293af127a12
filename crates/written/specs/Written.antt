-- What a reader finds in records that were written: the same records. Their names, keys, marks and stored parts lie elsewhere and have the same
-- bytes; a key beside a left or a right id is gone, for nothing of it was spelled.
use Rattle.std.specs.Prelude.{ℕ, ◌≡◌, List, [], ◌∷◌, ◌++◌}
use Rattle.numbers.specs.Number.{pick}
use Rattle.block.specs.declared.Block.{Block}
use Rattle.block.specs.Row.{no_part}
use Rattle.block.specs.Rows.{name_is, key_is, with_mark, with_part}
use Rattle.block.specs.RowsInner.{without_key}
use Rattle.ranges.specs.Ranges.{Range}
use Rattle.grammar.specs.Course.{CourseTo, thing, over}
use Rattle.decoder.specs.Update.{blocks_of, delete_set}
use Rattle.leftover.specs.Leftover.{columns_left}
use Rattle.leftover.specs.LeftoverInner.{Spent}
use Rattle.readings.specs.Sound.{bytes_in, linked}
use Rattle.readings.specs.SoundInner.{Sound, Valued}
use Rattle.kept.specs.Kept.{Piece, Section}
use Rattle.kept.specs.Cut.{cut_row}

-- ---- the same record

-- a record without where its parts lie
abbrev pub unplaced : Block → Block
unplaced b = name_is b.has_name no_part (key_is b.has_key no_part (with_mark no_part (with_part no_part b)))

-- b, whose parts lie in d, and c, whose parts lie in u, differ at most in where these lie
pub record Alike (d : List ℕ) (b : Block) (u : List ℕ) (c : Block) : Type 0 where
  pub same : unplaced b ≡ unplaced c
  pub name : bytes_in d b.name ≡ bytes_in u c.name
  pub key : bytes_in d b.key ≡ bytes_in u c.key
  pub part : bytes_in d b.part ≡ bytes_in u c.part
  pub mark : bytes_in d b.mark ≡ bytes_in u c.mark

-- one by one
unfoldable pub AllAlike : List ℕ → List Block → List ℕ → List Block → Type 0
AllAlike d [] u [] = Unit {0}
AllAlike d [] u (c ∷ cs) = ⊥
AllAlike d (b ∷ bs) u [] = ⊥
AllAlike d (b ∷ bs) u (c ∷ cs) = Alike d b u c × AllAlike d bs u cs

-- ---- a record as it is read again

abbrev pub keyless : Block → Block
keyless b = without_key b

unfoldable pub reread : Block → Block
reread b = pick (linked b) (keyless b) b

-- it can be written in a form if it is sound without the key that is not spelled, and a format has its value as the form has it
abbrev pub Writable : ℕ → List ℕ → Block → Type 0
Writable form u b = Sound u (reread b) × Valued form u b

-- the records of pieces and of sections, one after the other, as they are read again
unfoldable pub pieces_read : List ℕ → List Piece → List Block
pieces_read u [] = []
pieces_read u (p ∷ ps) = reread (cut_row u p) ∷ pieces_read u ps

unfoldable pub sections_read : List ℕ → List Section → List Block
sections_read u [] = []
sections_read u (s ∷ ss) = pieces_read u s.pieces ++ sections_read u ss

-- ---- a reading

-- the run c gives something for each of these, each as R says, and goes on with `rest`
unfoldable pub Goes : {S A B : Type 0} → (A → B → Type 0) → List B → CourseTo S A (Unit {0}) → CourseTo S A (Unit {0}) → Type 0
Goes R [] c rest = c ≡ rest
Goes {S} {A} R (b ∷ bs) c rest = (a : A) × (p : ℕ) × (on : CourseTo S A (Unit {0})) × (c ≡ thing a p on) × R a b × Goes R bs on rest

abbrev pub AlikeIn : List ℕ → List ℕ → Block → Block → Type 0
AlikeIn d u b c = Alike d b u c

-- the update d of a form is read: its blocks are the records of the sections, up to a place from where its delete set is the ranges, up to the place
-- t; and no byte of its columns is left
pub record WrittenReads (form : ℕ) (d u : List ℕ) (ss : List Section) (rs : List Range) (t : ℕ) : Type 0 where
  pub between : ℕ
  pub blocks : Goes (AlikeIn d u) (sections_read u ss) (blocks_of form d) (over tt between)
  pub ranges : Goes (λ (a b : Range). a ≡ b) rs (delete_set form d between) (over tt t)
  pub spent : Spent (columns_left form d)
