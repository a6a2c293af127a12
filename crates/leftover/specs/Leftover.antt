-- Which bytes of an update stay unread: what lies behind the place of reading in each column, texts that no text takes, and what follows the delete
-- set. A run is read as a whole with its first value, so what it could still give is no byte that stays.
use Rattle.std.specs.Prelude.{ℕ, List, [], ◌∷◌, ltb, eqb, length}
use Rattle.numbers.specs.Number.{pick}
use Rattle.grammar.specs.Course.{ending}
use Rattle.decoder.specs.States.{State}
use Rattle.decoder.specs.Update.{in_columns, blocks_of, delete_set}

-- the bytes from a place up to another
pub record Stretch : Type 0 where
  pub from : ℕ
  pub to : ℕ

abbrev pub stretch : ℕ → ℕ → Stretch
stretch from to = record { from = from; to = to }

-- ---- what reading leaves

-- of the nine columns at a state; the text column has its texts, and behind them their unit lengths
unfoldable pub columns_at : State → List Stretch
columns_at s =
    stretch s.key.place.at s.key.to
    ∷ stretch s.client.place.at s.client.to
    ∷ stretch s.left.place.at s.left.to
    ∷ stretch s.right.place.at s.right.to
    ∷ stretch s.info.place.at s.info.to
    ∷ stretch s.text.place.at s.text.place.end
    ∷ stretch s.text.place.units.at s.text.to
    ∷ stretch s.parent.place.at s.parent.to
    ∷ stretch s.types.place.at s.types.to
    ∷ stretch s.len.place.at s.len.to
    ∷ []

-- of the columns of an update, after its blocks; form 1 has none
unfoldable pub columns_left : ℕ → List ℕ → List Stretch
columns_left form u = pick (eqb form 1) [] (ending (in_columns u) columns_at (λ why. []))

-- where its delete set ends
unfoldable pub set_end : ℕ → List ℕ → ℕ
set_end form u = ending (blocks_of form u) (λ at. ending (delete_set form u at) (λ end. end) (λ why. length u)) (λ why. length u)

-- all that stays unread of an update that is read to its end
unfoldable pub unread_of : ℕ → List ℕ → List Stretch
unread_of form u = stretch (set_end form u) (length u) ∷ columns_left form u

-- ---- the lowest byte

-- a stretch's first byte, if it has any and that is lower
unfoldable pub lower : ℕ → Stretch → ℕ
lower n x = pick (ltb x.from x.to) (pick (ltb x.from n) x.from n) n

-- the lowest byte of stretches, or n where none is lower
unfoldable pub lowest : ℕ → List Stretch → ℕ
lowest n [] = n
lowest n (x ∷ xs) = lowest (lower n x) xs

-- the lowest byte of an update that stays unread; its end, where all are read
unfoldable pub lowest_left : ℕ → List ℕ → ℕ
lowest_left form u = lowest (length u) (unread_of form u)
