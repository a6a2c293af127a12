-- The columns of form 2, from lib0's run-length encoders. A column of numbers: a signed number; minus, minus zero too, says that a count follows,
-- and that the number stands two more times than it says. Of differences: a signed e, and e/2 rounded down is the difference from the value before,
-- which is 0 at first; where e is odd, a count follows, less two. Of bytes: a byte, and a count, less one; without a count the last byte stands
-- without end.
use Rattle.std.specs.Prelude.{ℕ, ◌+◌, ◌-◌, ◌/◌, ◌%◌, Bool, true, ◌||◌, List, ltb, leb, eqb, length, take}
use Rattle.std.proofs.Math.Option.{Option, some, none}
use Rattle.meaning.specs.Reads.{when◌then◌else◌, Got, got, refused, Reads, on, ◌>>=◌, done, refuse, here}
use Rattle.meaning.specs.Line.{byte, signed, up_to}

pub data Coding : Type 0 where
  numbers : Coding
  differences : Coding
  octets : Coding

-- its next byte and its end; the first byte of the run under way, the value before, the run's value, and how often it still stands: none is without
-- end
pub record Lane : Type 0 where
  pub kind : Coding
  pub at : ℕ
  pub to : ℕ
  pub from : ℕ
  pub last : ℕ
  pub run : ℕ
  pub left : Option ℕ

abbrev pub lane : Coding → ℕ → ℕ → ℕ → ℕ → ℕ → Option ℕ → Lane
lane kind at to from last run left = record { kind = kind; at = at; to = to; from = from; last = last; run = run; left = left }

unfoldable pub goes_on : Option ℕ → Bool
goes_on none = true
goes_on (some n) = ltb 0 n

unfoldable pub fewer : Option ℕ → Option ℕ
fewer none = none
fewer (some n) = some (n - 1)

-- 0 where it stands without end
abbrev pub often : Option ℕ → ℕ
often o = elim o [ none ↦ 0 | some n ↦ n ]

-- a difference d is d + 2^31 here, so that it is a natural number
abbrev pub no_rise : ℕ
no_rise = 2147483648

-- from a place to its end, nothing drawn from it yet
unfoldable pub fresh : Coding → ℕ → ℕ → Lane
fresh numbers at to = lane numbers at to at 0 0 (some 0)
fresh differences at to = lane differences at to at 0 no_rise (some 0)
fresh octets at to = lane octets at to at 0 0 (some 0)

-- a count, and so many more
unfoldable pub count : List ℕ → ℕ → Reads ℕ ℕ
count s more = up_to s 2147483645 >>= λ c. done (c + more)

-- the run that begins at a place: its value, and how often it stands
unfoldable pub run_of : Coding → List ℕ → Reads ℕ (ℕ × Option ℕ)
run_of numbers s = do
  (minus, x) ← signed s
  n ← when minus then count s 2 else done 1
  done (x, some n)
run_of differences s = do
  at ← here
  (minus, x) ← signed s
  n ← when ltb 2147483647 (when minus then x - 1 else x) then refuse 3 at else when eqb (x % 2) 0 then done 1 else count s 2
  done (when minus then no_rise - (x + 1) / 2 else no_rise + x / 2, some n)
run_of octets s = do
  b ← byte s
  at ← here
  when leb (length s) at then done (b, none) else (count s 1 >>= λ n. done (b, some n))

-- a value of the run under way
abbrev pub gives : ℕ → Lane → Got Lane ℕ
gives v c = got v (lane c.kind c.at c.to c.from v c.run (fewer c.left))

-- over its limit it is 3, at the run's first byte
unfoldable pub next_in : Coding → Lane → Got Lane ℕ
next_in numbers c = when ltb 9007199254740991 c.run then refused 3 c.from else gives c.run c
next_in differences c =
    let v = c.last + c.run in
    when ltb v no_rise || ltb 2147483647 (v - no_rise) then refused 3 c.from else gives (v - no_rise) c
next_in octets c = gives c.run c

-- from the run under way, or else from the next one
unfoldable pub draw : List ℕ → Reads Lane ℕ
draw u c =
    when goes_on c.left then next_in c.kind c
    else (on (run_of c.kind (take c.to u) c.at) λ (x, n) at. next_in c.kind (lane c.kind at c.to c.at c.last x n))
