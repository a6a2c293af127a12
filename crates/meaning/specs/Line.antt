-- What stands in line, from lib0's format: numbers, bytes, texts and any-values of the bytes s, read from a place on.
use Rattle.std.specs.Prelude.{ℕ, zero, suc, ◌+◌, ◌-◌, ◌*◌, ◌/◌, ◌%◌, Bool, List, [], ◌∷◌, ltb, leb, eqb, length, get_or}
use Rattle.std.proofs.Math.Seq.{slice}
use Rattle.text.specs.declared.Part.{Part}
use Rattle.text.specs.Utf8.{well_formed}
use Rattle.meaning.specs.Reads.{when◌then◌else◌, Reads, got, refused, ◌>>=◌, done, refuse, here}

abbrev pub part : ℕ → ℕ → Part
part at n = record { place = at; bytes = record { 0 = n } }

-- so many times
unfoldable pub times : ℕ → Reads ℕ (Unit {0}) → Reads ℕ (Unit {0})
times zero m = done tt
times (suc k) m = m >>= λ _. times k m

-- the UTF-16 units of UTF-8: one for each byte that does not continue a character, one more for each byte from F0 up
unfoldable pub units : List ℕ → ℕ
units [] = 0
units (b ∷ t) = (when ltb b 128 then 1 else when ltb b 192 then 0 else when ltb b 240 then 1 else 2) + units t

module _ (s : List ℕ) where
  -- the bytes end early: 1, where they end
  unfoldable pub byte : Reads ℕ ℕ
  byte at = when leb (length s) at then refused 1 (length s) else got (get_or s at 0) (at + 1)

  unfoldable pub skip : ℕ → Reads ℕ (Unit {0})
  skip n at = when ltb (length s - at) n then refused 1 (length s) else got tt (at + n)

  -- seven bits a byte, the lowest first, 128 on all but the last, at most k bytes more: else 2, at the number's first byte
  unfoldable pub bits : ℕ → ℕ → Reads ℕ ℕ
  bits first zero = refuse 2 first
  bits first (suc k) = do
    b ← byte
    when ltb b 128 then done b else (bits first k >>= λ v. done (b - 128 + 128 * v))

  unfoldable pub unsigned : Reads ℕ ℕ
  unsigned = here >>= λ at. bits at 9

  -- the first byte has 64 for minus, and six bits; minus zero keeps its minus
  unfoldable pub signed : Reads ℕ (Bool × ℕ)
  signed = do
    at ← here
    b ← byte
    v ← when ltb b 128 then done (b % 64) else (bits at 8 >>= λ v. done (b % 64 + 64 * v))
    done (eqb (b / 64 % 2) 1, v)

  -- a number that stands for so much more; over its limit it is 3, at its first byte
  unfoldable pub raised : ℕ → ℕ → Reads ℕ ℕ
  raised by most = do
    at ← here
    v ← unsigned
    when ltb most (by + v) then refuse 3 at else done (by + v)

  abbrev pub up_to : ℕ → Reads ℕ ℕ
  up_to most = raised 0 most

  -- a length, and so many bytes
  unfoldable pub stored : Reads ℕ Part
  stored = do
    n ← unsigned
    at ← here
    _ ← skip n
    done (part at n)

  abbrev pub bytes_of : Part → List ℕ
  bytes_of p = slice p.place (p.place + p.bytes.0) s

  -- and they are UTF-8: else 6, at the first of them
  unfoldable pub word : Reads ℕ Part
  word = stored >>= λ p. when well_formed (bytes_of p) then done p else refuse 6 p.place

  -- ---- any-values

  -- what follows a tag, of an object or an array what is given; an unknown tag is 5, where `blame` says
  unfoldable pub tagged : ℕ → Reads ℕ (Unit {0}) → Reads ℕ (Unit {0}) → ℕ → Reads ℕ (Unit {0})
  tagged blame object array tag =
      when eqb tag 127 then done tt else  -- undefined
      when eqb tag 126 then done tt else  -- null
      when eqb tag 125 then (signed >>= λ _. done tt) else  -- integer
      when eqb tag 124 then skip 4 else  -- float32
      when eqb tag 123 then skip 8 else  -- float64
      when eqb tag 122 then skip 8 else  -- bigint
      when eqb tag 121 then done tt else  -- false
      when eqb tag 120 then done tt else  -- true
      when eqb tag 119 then (word >>= λ _. done tt) else  -- string
      when eqb tag 118 then object else
      when eqb tag 117 then array else
      when eqb tag 116 then (stored >>= λ _. done tt) else refuse 5 blame  -- byte array

  -- in which n levels of objects and arrays may be opened: one more is 3, at its tag
  unfoldable pub any : ℕ → ℕ → Reads ℕ (Unit {0})
  any blame zero = do
    at ← here
    tag ← byte
    tagged blame (refuse 3 at) (refuse 3 at) tag
  any blame (suc n) = do
    tag ← byte
    tagged blame (unsigned >>= λ k. times k (word >>= λ _. any blame n)) (unsigned >>= λ k. times k (any blame n)) tag

  -- so many values, each at most 16 levels deep: their bytes
  unfoldable pub values : ℕ → ℕ → Reads ℕ Part
  values blame k = do
    at ← here
    _ ← times k (any blame 16)
    end ← here
    done (part at (end - at))
