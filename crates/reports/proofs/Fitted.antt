-- As many words as fit: all of them and zeros where there is room, never more or fewer than the words lent; and how a report comes to them.
use Prim.Native.Nat.{ℕ, suc, ◌-◌, ◌≤◌}
use mathlib.Core.Path.{◌≡◌, refl, ap, ◌∙◌}
use mathlib.Core.List.{List, [], ◌∷◌, ◌++◌, append-nil}
use native.Mathlib.Omega.{arith}
use lib.ListN.{length, take, set, replicate, length-append, length-replicate, length-take}
use lib.Seq.{sets, length-sets, take_all, take-nil}
use Rattle.numbers.specs.Output.{padded}
use Rattle.reports.specs.Reports.{fitted}

pub fitted-padded : (n : ℕ) (ws : List ℕ) → length ws ≤ n → fitted n ws ≡ padded n ws
unfolding fitted padded
fitted-padded n ws h = rw (take_all n ws h)

pub fitted-length : (n : ℕ) (ws : List ℕ) → length (fitted n ws) ≡ n
unfolding fitted
fitted-length n ws =
    length-append (take n ws) (replicate (n - length ws) 0)
    ∙ omega (arith, length-take n ws, length-replicate {A = ℕ} (n - length ws) 0)

-- ---- words stored from the first word lent on

sets-none : (i : ℕ) (ws : List ℕ) → sets [] i ws ≡ []
sets-none i [] = refl
sets-none i (w ∷ ws) = sets-none (suc i) ws

sets_behind : (y : ℕ) (e : List ℕ) (i : ℕ) (ws : List ℕ) → sets (y ∷ e) (suc i) ws ≡ y ∷ sets e i ws
sets_behind y e i [] = refl
sets_behind y e i (w ∷ ws) = sets_behind y (set e i w) (suc i) ws

stored-front : (e ws : List ℕ) → take (length ws) (sets e 0 ws) ≡ take (length e) ws
stored-front [] ws = ap (take (length ws)) (sets-none 0 ws) ∙ take-nil (length ws)
stored-front (y ∷ e) [] = refl
stored-front (y ∷ e) (w ∷ ws) = ap (take (suc (length ws))) (sets_behind w e 0 ws) ∙ ap (λ (l : List ℕ). w ∷ l) (stored-front e ws)

-- zeros after them
pub stored-fitted : (e ws : List ℕ) → take (length ws) (sets e 0 ws) ++ replicate (length (sets e 0 ws) - length ws) 0 ≡ fitted (length e) ws
unfolding fitted
stored-fitted e ws = rw (stored-front e ws, length-sets e 0 ws)

-- there is no word to clear
pub cleared-none : (e : List ℕ) (n : ℕ) → length e ≤ n → e ≡ take n e ++ replicate (length e - n) 0
cleared-none e n h =
    let z : length e - n ≡ 0 = omega arith in
    rw (take_all n e h, z, append-nil)
