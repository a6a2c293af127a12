-- How columns are written: equal neighbours are one run, as long as it can be, and a run is spelled once.
use Rattle.std.specs.Prelude.{ℕ, ◌+◌, ◌-◌, ◌*◌, Bool, true, false, ◌&&◌, List, [], ◌∷◌, ◌++◌, ltb, leb, eqb, length}
use Rattle.numbers.specs.Number.{unsigned, signed}
use Rattle.meaning.specs.Reads.{when◌then◌else◌}
use Rattle.meaning.specs.Columns.{Coding, numbers, differences, octets, no_rise}

-- a run: a value, and how often it stands; one more in front of these
unfoldable pub onto : ℕ → List (ℕ × ℕ) → List (ℕ × ℕ)
onto v [] = (v, 1) ∷ []
onto v (r ∷ rs) = when eqb v r.0 then (v, r.1 + 1) ∷ rs else (v, 1) ∷ r ∷ rs

unfoldable pub runs : List ℕ → List (ℕ × ℕ)
runs [] = []
runs (v ∷ vs) = onto v (runs vs)

-- each from the one before, as d + 2^31
unfoldable pub rises : ℕ → List ℕ → List ℕ
rises p [] = []
rises p (v ∷ vs) = (v + no_rise - p) ∷ rises v vs

unfoldable pub runs_of : Coding → List ℕ → List (ℕ × ℕ)
runs_of numbers vs = runs vs
runs_of differences vs = runs (rises 0 vs)
runs_of octets vs = runs vs

-- ---- the bytes

-- a number, with minus and a count less two where it stands more than once; twice a difference, odd and such a count where it applies more than once;
-- a byte, and a count less one, but none where it is the last
unfoldable pub spelled : Coding → ℕ → ℕ → Bool → List ℕ
spelled numbers v n last = when eqb n 1 then signed false v else signed true v ++ unsigned (n - 2)
spelled differences d n last =
    let odd : ℕ = when eqb n 1 then 0 else 1 in
    signed (ltb d no_rise) (when ltb d no_rise then 2 * (no_rise - d) - odd else 2 * (d - no_rise) + odd) ++ (when eqb n 1 then [] else unsigned (n - 2))
spelled octets b n last = b ∷ (when last then [] else unsigned (n - 1))

unfoldable pub spelled_all : Coding → List (ℕ × ℕ) → List ℕ
spelled_all kind [] = []
spelled_all kind (r ∷ rs) = spelled kind r.0 r.1 (eqb (length rs) 0) ++ spelled_all kind rs

unfoldable pub column : Coding → List ℕ → List ℕ
column kind vs = spelled_all kind (runs_of kind vs)

-- ---- the refusals, by number and not by position: 3 for a value over its limit, or a count that cannot be stored; 13 for a difference outside
-- -2^30 to 2^30-1

unfoldable pub every : {A : Type 0} → (A → Bool) → List A → Bool
every test [] = true
every test (x ∷ xs) = test x && every test xs

unfoldable pub most : Coding → ℕ
most numbers = 9007199254740991
most differences = 2147483647
most octets = 255

-- the last run of bytes has no count
unfoldable pub storable : Coding → List (ℕ × ℕ) → Bool
storable kind [] = true
storable octets (r ∷ []) = true
storable octets (r ∷ (q ∷ rs)) = leb r.1 2147483646 && storable octets (q ∷ rs)
storable numbers (r ∷ rs) = leb r.1 2147483647 && storable numbers rs
storable differences (r ∷ rs) = leb r.1 2147483647 && storable differences rs

unfoldable pub near : Coding → ℕ → Bool
near numbers d = true
near differences d = leb 1073741824 d && ltb d 3221225472
near octets d = true

unfoldable pub why : Coding → List ℕ → ℕ
why kind vs =
    when every (λ v. leb v (most kind)) vs && storable kind (runs_of kind vs)
    then (when every (λ (r : ℕ × ℕ). near kind r.0) (runs_of kind vs) then 0 else 13) else 3
