-- Lists of runs as such, apart from any writer: which values they say, how they are spelled, and what it is that no list says the same in fewer runs.
use Rattle.std.specs.Prelude.{ℕ, ◌+◌, ◌-◌, ◌≤◌, ◌≡◌, true, List, [], ◌∷◌, ◌++◌, length, replicate}
use Rattle.runs.specs.declared.ColumnKind.{ColumnKind}
use Rattle.runs.specs.declared.ColumnKind.TheVariants.{Number, Difference, Byte}
use Rattle.runs.specs.Difference.{zero_key}
use Rattle.runs.specs.Runs.{Coding, coding, column, within}

-- a key, and how often it stands
pub record Run : Type 0 where
  pub key : ℕ
  pub times : ℕ

-- the keys one by one
unfoldable pub expanded : List Run → List ℕ
expanded [] = []
expanded (r ∷ rs) = replicate r.times r.key ++ expanded rs

-- ---- which values runs say

-- which value stands for a key, after which value: p, the key, the value
abbrev pub Rule : Type 1
Rule = ℕ → ℕ → ℕ → Type 0

-- these keys stand for these values, one for one, the first after p
unfoldable pub Stand : Rule → ℕ → List ℕ → List ℕ → Type 0
Stand leads p [] [] = Unit {0}
Stand leads p [] (v ∷ vs) = ⊥
Stand leads p (k ∷ ks) [] = ⊥
Stand leads p (k ∷ ks) (v ∷ vs) = leads p k v × Stand leads v ks vs

-- each run stands at least once
unfoldable pub AtLeastOnce : List Run → Type 0
AtLeastOnce [] = Unit {0}
AtLeastOnce (r ∷ rs) = (1 ≤ r.times) × AtLeastOnce rs

-- a column's first value comes after 0
abbrev pub Says : Rule → List Run → List ℕ → Type 0
Says leads rs vs = AtLeastOnce rs × Stand leads 0 (expanded rs) vs

-- the three columns: a value is its key; in the difference column the value before and the difference, whose key is 2^31 more
unfoldable pub leads_in : ColumnKind → Rule
leads_in Number p k v = v ≡ k
leads_in Difference p k v = v + zero_key ≡ p + k
leads_in Byte p k v = v ≡ k

-- any coding
abbrev pub leads_by : Coding → Rule
leads_by c p k v = c.key_of p v ≡ k

-- ---- how runs are spelled: one after the other, the last as a last one

unfoldable pub spelled : Coding → List Run → List ℕ
spelled c [] = []
spelled c (r ∷ []) = c.final r.key (r.times - 1)
spelled c (r ∷ s ∷ rs) = c.spell r.key (r.times - 1) ++ spelled c (s ∷ rs)

-- ---- the longest runs

-- neighbours have different keys
unfoldable pub Apart : List Run → Type 0
Apart [] = Unit {0}
Apart (r ∷ []) = Unit {0}
Apart (r ∷ s ∷ rs) = (r.key ≡ s.key → ⊥) × Apart (s ∷ rs)

-- what a writer writes of the values is the spelling of runs that say them; neighbours differ, no runs that say the same are fewer, and no others
-- whose neighbours differ say the same
pub record Longest (leads : Rule) (c : Coding) (vs : List ℕ) : Type 0 where
  pub runs : List Run
  pub written : column c vs ≡ spelled c runs
  pub says : Says leads runs vs
  pub apart : Apart runs
  pub fewest : (others : List Run) → Says leads others vs → length runs ≤ length others
  pub only : (others : List Run) → Says leads others vs → Apart others → others ≡ runs

-- of every coding; of each column, where its values are within their limit, as all that is written is
abbrev pub OfCodings : Type 0
OfCodings = (c : Coding) (vs : List ℕ) → Longest (leads_by c) c vs

abbrev pub OfColumns : Type 0
OfColumns = (col : ColumnKind) (vs : List ℕ) → within (coding col).most vs ≡ true → Longest (leads_in col) (coding col) vs
