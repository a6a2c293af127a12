-- What a client with blocks left waits for: the first id that is not met, in three words.
use Rattle.std.specs.Prelude.{ℕ, suc, Bool, false, List, [], ◌∷◌, ◌++◌, ltb, eqb, length, get_or}
use Rattle.numbers.specs.Number.{pick}
use Rattle.block.specs.declared.Id.{Id}
use Rattle.block.specs.declared.Block.{Block}
use Rattle.block.specs.Row.{no_block}
use Rattle.slots.specs.Slots.{Slot}
use Rattle.picker.specs.declared.fronts.Front.{Front}
use Rattle.picker.specs.Fronts.{front_at}
use Rattle.picker.specs.Stages.{stage_at}
use Rattle.picker.specs.Picker.{holds}

-- a front with a block left, in one of so many rows
unfoldable pub is_left : Front → ℕ → Bool
is_left f n = pick (eqb f.left 0) false (ltb f.next n)

-- the first stage of a that is not met, b being a by number
unfoldable pub first_unmet : List Slot → List ℕ → Block → Block → Id
first_unmet ss reach a b =
    pick (holds ss reach (stage_at 28 b 0)) (stage_at 28 a 0).id (pick (holds ss reach (stage_at 28 b 1)) (stage_at 28 a 1).id (stage_at 28 a 2).id)

-- its client, and the id
unfoldable pub waiting_words : Slot → Id → List ℕ
waiting_words s d = s.client ∷ (d.client ∷ (d.clock ∷ []))

-- ---- rows, and the same by number

unfoldable pub waiting_of : List Slot → List ℕ → List Block → List Block → Slot → Front → List ℕ
waiting_of ss reach rows numbered s f =
    pick (is_left f (length rows)) (waiting_words s (first_unmet ss reach (get_or rows f.next no_block) (get_or numbered f.next no_block))) []

-- of these slots, the first of which is slot i
unfoldable pub waiting_from : List Slot → List ℕ → List ℕ → List Block → List Block → ℕ → List Slot → List ℕ
waiting_from all reach fronts rows numbered i [] = []
waiting_from all reach fronts rows numbered i (s ∷ ss) =
    waiting_of all reach rows numbered s (front_at fronts i) ++ waiting_from all reach fronts rows numbered (suc i) ss
