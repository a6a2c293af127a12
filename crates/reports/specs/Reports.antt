-- The reports of a sorter, read off its slots, fronts and reaches: words for each slot, highest client first.
use Rattle.std.specs.Prelude.{ℕ, suc, ◌-◌, List, [], ◌∷◌, ◌++◌, ltb, eqb, length, get_or, take, replicate}
use Rattle.numbers.specs.Number.{pick}
use Rattle.slots.specs.Slots.{Slot}
use Rattle.picker.specs.declared.fronts.Front.{Front}
use Rattle.picker.specs.Fronts.{never, front_at}

-- ---- slot i

-- how many blocks of a client that has any were taken
unfoldable pub count_of : Slot → Front → List ℕ
count_of s f = pick (ltb 0 s.count) (s.client ∷ ((s.count - f.left) ∷ [])) []

unfoldable pub reach_of : Slot → List ℕ → ℕ → List ℕ
reach_of s reach i = s.client ∷ (get_or reach i 0 ∷ [])

-- a client that has blocks left: the client that the front waits for, and its reach
unfoldable pub pending_of : Slot → Front → List ℕ → List ℕ
pending_of s f reach = pick (ltb 0 f.left) (s.client ∷ (f.missing ∷ (pick (eqb f.need never) 0 (get_or reach f.slot 0) ∷ []))) []

-- ---- these slots, the first of which is slot i

unfoldable pub counts_from : ℕ → List Slot → List ℕ → List ℕ
counts_from i [] w = []
counts_from i (s ∷ ss) w = count_of s (front_at w i) ++ counts_from (suc i) ss w

unfoldable pub reaches_from : ℕ → List Slot → List ℕ → List ℕ
reaches_from i [] reach = []
reaches_from i (s ∷ ss) reach = reach_of s reach i ++ reaches_from (suc i) ss reach

unfoldable pub pending_from : ℕ → List Slot → List ℕ → List ℕ → List ℕ
pending_from i [] w reach = []
pending_from i (s ∷ ss) w reach = pending_of s (front_at w i) reach ++ pending_from (suc i) ss w reach

-- ---- words lent

-- as many of these words as n words lent have room for, and zeros after them
unfoldable pub fitted : ℕ → List ℕ → List ℕ
fitted n ws = take n ws ++ replicate (n - length ws) 0
