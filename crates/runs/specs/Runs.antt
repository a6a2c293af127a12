-- What a column writer writes: the longest runs of equal keys, each spelled once, and the refusals by number.
use Rattle.std.specs.Prelude.{ℕ, ◌+◌, ◌-◌, List, [], ◌∷◌, ◌++◌, Bool, true, false, ltb, leb, eqb}
use Rattle.numbers.specs.Number.{pick}
use Rattle.numbers.specs.Limits.{max_value, max_clock, max_count}
use Rattle.runs.specs.declared.ColumnKind.{ColumnKind}
use Rattle.runs.specs.declared.ColumnKind.TheVariants.{Number, Difference, Byte}
use Rattle.runs.specs.Number as number
use Rattle.runs.specs.Difference as difference
use Rattle.runs.specs.Byte as byte

-- a column's rule: the key of a value after another; how a key that stands n + 1 times is spelled, also as the last run;
-- the largest value; whether a run's count can be stored, also the last one's; whether a key can be spelled
pub record Coding : Type 0 where
  pub key_of : ℕ → ℕ → ℕ
  pub spell : ℕ → ℕ → List ℕ
  pub final : ℕ → ℕ → List ℕ
  pub most : ℕ
  pub fits : ℕ → Bool
  pub last_fits : ℕ → Bool
  pub near : ℕ → Bool

-- ---- the bytes

-- of a key k that stood n + 1 times so far, the last time for the value p, and of the values that follow
unfoldable pub runs_on : Coding → ℕ → ℕ → ℕ → List ℕ → List ℕ
runs_on c p k n [] = c.final k n
runs_on c p k n (v ∷ vs) = pick (eqb (c.key_of p v) k) (runs_on c v k (n + 1) vs) (c.spell k n ++ runs_on c v (c.key_of p v) 0 vs)

-- where no run is under way, after the value p
unfoldable pub runs_after : Coding → ℕ → List ℕ → List ℕ
runs_after c p [] = []
runs_after c p (v ∷ vs) = runs_on c v (c.key_of p v) 0 vs

unfoldable pub column : Coding → List ℕ → List ℕ
column c vs = runs_after c 0 vs

-- ---- the refusals

-- every value is within the column's limit
unfoldable pub within : ℕ → List ℕ → Bool
within m [] = true
within m (v ∷ vs) = pick (leb v m) (within m vs) false

-- every run's count can be stored
unfoldable pub over_fits : Coding → ℕ → ℕ → ℕ → List ℕ → Bool
over_fits c p k n [] = c.last_fits n
over_fits c p k n (v ∷ vs) =
    pick (eqb (c.key_of p v) k) (over_fits c v k (n + 1) vs) (pick (c.fits n) (over_fits c v (c.key_of p v) 0 vs) false)

unfoldable pub storable : Coding → ℕ → List ℕ → Bool
storable c p [] = true
storable c p (v ∷ vs) = over_fits c v (c.key_of p v) 0 vs

-- every key can be spelled
unfoldable pub spellable : Coding → ℕ → List ℕ → Bool
spellable c p [] = true
spellable c p (v ∷ vs) = pick (c.near (c.key_of p v)) (spellable c v vs) false

-- by number and not by position: 3, then 13
unfoldable pub why : Coding → List ℕ → ℕ
why c vs = pick (within c.most vs) (pick (storable c 0 vs) (pick (spellable c 0 vs) 0 13) 3) 3

-- ---- the three columns of numbers

abbrev pub itself : ℕ → ℕ → ℕ
itself p v = v

abbrev pub always : ℕ → Bool
always n = true

-- a run of one has no count; n + 1 times are stored as n - 1
unfoldable pub fits_less_two : ℕ → Bool
fits_less_two n = leb n (max_count + 1)

-- n + 1 times are stored as n
unfoldable pub fits_less_one : ℕ → Bool
fits_less_one n = leb n max_count

-- differences from -2^30 to 2^30-1
unfoldable pub near_key : ℕ → Bool
near_key k = pick (leb 1073741824 k) (ltb k 3221225472) false

abbrev pub only_byte : ℕ → ℕ → List ℕ
only_byte k n = k ∷ []

unfoldable pub coding : ColumnKind → Coding
coding Number =
    let run = number.run_bytes in
    record { key_of = itself; spell = run; final = run; most = max_value; fits = fits_less_two; last_fits = fits_less_two; near = always }
coding Difference =
    let run = difference.run_bytes in
    record { key_of = difference.key_between; spell = run; final = run; most = max_clock; fits = fits_less_two; last_fits = fits_less_two; near = near_key }
coding Byte = record { key_of = itself; spell = byte.run_bytes; final = only_byte; most = 255; fits = fits_less_one; last_fits = always; near = always }

-- the bytes of values, and their refusal
abbrev pub column_of : ColumnKind → List ℕ → List ℕ
column_of col vs = column (coding col) vs

abbrev pub why_of : ColumnKind → List ℕ → ℕ
why_of col vs = why (coding col) vs
