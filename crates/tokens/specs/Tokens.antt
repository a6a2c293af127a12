-- The tokens of an update: what reading draws, one after the other, once for both forms. And its lanes: what the columns of form 2, and form 1 as a
-- whole, take of the tokens.
use Rattle.std.specs.Prelude.{ℕ, Bool, true, List, [], ◌∷◌, ◌++◌, eqb, length}
use Rattle.numbers.specs.Number.{pick, unsigned}
use Rattle.runs.specs.declared.ColumnKind.{ColumnKind}
use Rattle.runs.specs.declared.ColumnKind.TheVariants.{Number, Difference, Byte}
use Rattle.runs.specs.Runs.{column_of}

-- ---- the lanes: of form 2, in the order in which they stand, and of form 1

abbrev pub keys : ℕ
keys = 0

abbrev pub clients : ℕ
clients = 1

abbrev pub lefts : ℕ
lefts = 2

abbrev pub rights : ℕ
rights = 3

abbrev pub infos : ℕ
infos = 4

abbrev pub texts : ℕ
texts = 5

abbrev pub units : ℕ
units = 6

abbrev pub parents : ℕ
parents = 7

abbrev pub types : ℕ
types = 8

abbrev pub lens : ℕ
lens = 9

abbrev pub rest : ℕ
rest = 10

abbrev pub whole : ℕ
whole = 11

-- ---- tokens

pub data Token : Type 0 where
  field : ℕ → ℕ → Token  -- a number with a column, that lane's
  text : List ℕ → ℕ → Token  -- a text's bytes, and how many units they have
  var : ℕ → Token  -- a number that has no column
  buf : List ℕ → Token  -- bytes that have no column
  key : List ℕ → ℕ → Token  -- a key's bytes, and how many units they have
  value : List ℕ → Token  -- a mark's value
  values : List ℕ → Token  -- plain values, as they stand

abbrev pub client : ℕ → Token
client v = field clients v

-- the clock of a left id, or of a parent id
abbrev pub left : ℕ → Token
left v = field lefts v

abbrev pub right : ℕ → Token
right v = field rights v

abbrev pub info : ℕ → Token
info v = field infos v

abbrev pub parent_info : ℕ → Token
parent_info v = field parents v

abbrev pub len : ℕ → Token
len v = field lens v

-- bytes led by their length
abbrev pub led : List ℕ → List ℕ
led b = unsigned (length b) ++ b

-- a number in line; an info is a byte
unfoldable pub inlined : ℕ → ℕ → List ℕ
inlined k v = pick (eqb k infos) (v ∷ []) (unsigned v)

-- ---- what a lane takes of a token

-- bytes that stand as they are, or values of its column. Form 2 has keys by number (`numbered` in Keys), so no lane of it takes one; a mark's value
-- is a text in form 1, and a plain value in form 2
unfoldable pub taken : ℕ → Token → List ℕ
taken k (field j v) = pick (eqb k whole) (inlined j v) (pick (eqb k j) (v ∷ []) [])
taken k (text b n) = pick (eqb k whole) (led b) (pick (eqb k texts) b (pick (eqb k units) (n ∷ []) []))
taken k (var v) = pick (eqb k whole) (unsigned v) (pick (eqb k rest) (unsigned v) [])
taken k (buf b) = pick (eqb k whole) (led b) (pick (eqb k rest) (led b) [])
taken k (key b n) = pick (eqb k whole) (led b) []
taken k (value b) = pick (eqb k whole) (led b) (pick (eqb k rest) b [])
taken k (values b) = pick (eqb k whole) b (pick (eqb k rest) b [])

unfoldable pub taken_all : ℕ → List Token → List ℕ
taken_all k [] = []
taken_all k (t ∷ ts) = taken k t ++ taken_all k ts

unfoldable pub in_line : ℕ → Bool
in_line k = pick (eqb k texts) true (pick (eqb k rest) true (eqb k whole))

unfoldable pub column_in : ℕ → ColumnKind
column_in k =
    pick (eqb k keys) Difference (pick (eqb k lefts) Difference (pick (eqb k rights) Difference
    (pick (eqb k infos) Byte (pick (eqb k parents) Byte Number))))

-- a lane's bytes
unfoldable pub lane : ℕ → List Token → List ℕ
lane k ts = pick (in_line k) (taken_all k ts) (column_of (column_in k) (taken_all k ts))
