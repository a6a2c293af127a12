-- A front: what a sorter keeps of a client whose blocks are not all taken. Six words a front, in the order of the slots.
use Rattle.std.specs.Prelude.{ℕ, zero, suc, ◌+◌, ◌*◌, ◌/◌, Bool, false, List, [], ◌∷◌, ltb, leb, eqb, length, get_or, set}
use Rattle.numbers.specs.Number.{pick}
use Rattle.vector.specs.Vector.{Entry}
use Rattle.kept.specs.Kept.{remote}
use Rattle.slots.specs.Slots.{Slot}
use Rattle.picker.specs.declared.fronts.Front.{Front}

-- no reach comes to this
abbrev pub never : ℕ
never = 18446744073709551615

-- a client without blocks
abbrev pub no_front : Front
no_front = record { next = 0; left = 0; slot = 0; need = never; stage = 0; missing = 0 }

-- row i is next, of so many; it has not been looked at
unfoldable pub fresh : ℕ → ℕ → Front
fresh i k = pick (eqb k 0) no_front (record { next = i; left = k; slot = 0; need = 0; stage = 0; missing = 0 })

-- ---- fronts in words

unfoldable pub front_at : List ℕ → ℕ → Front
front_at w i =
    pick (ltb i (length w / 6))
    (record {
      next = get_or w (6 * i) 0;
      left = get_or w (6 * i + 1) 0;
      slot = get_or w (6 * i + 2) 0;
      need = get_or w (6 * i + 3) 0;
      stage = get_or w (6 * i + 4) 0;
      missing = get_or w (6 * i + 5) 0;
    })
    no_front

unfoldable pub put_front : List ℕ → ℕ → Front → List ℕ
put_front w i f =
    pick (ltb i (length w / 6))
    (set (set (set (set (set (set w (6 * i) f.next) (6 * i + 1) f.left) (6 * i + 2) f.slot) (6 * i + 3) f.need) (6 * i + 4) f.stage)
    (6 * i + 5) f.missing)
    w

-- the fronts of these slots, the first of which is slot i
unfoldable pub opened_from : ℕ → List Slot → List ℕ → List ℕ
opened_from i [] w = w
opened_from i (s ∷ ss) w = opened_from (suc i) ss (put_front w i (fresh s.first s.count))

-- their reaches, as the entries of a vector have them
unfoldable pub filled_from : ℕ → List Slot → List Entry → List ℕ → List ℕ
filled_from i [] v w = w
filled_from i (s ∷ ss) v w = filled_from (suc i) ss v (set w i (remote v s.client))

-- ---- which front is looked at

-- a front may be looked at when the reach that it waits for has come to what it needs
unfoldable pub is_due : List ℕ → List ℕ → ℕ → Bool
is_due w reach i = pick (ltb i (length w / 6)) (leb (front_at w i).need (get_or reach (front_at w i).slot 0)) false

-- the first of k slots from slot i on whose front may be, else the slot after them
unfoldable pub due_from : List ℕ → List ℕ → ℕ → ℕ → ℕ
due_from w reach i zero = i
due_from w reach i (suc k) = pick (is_due w reach i) i (due_from w reach (suc i) k)
