-- Any-values in line, from lib0's format: what a tag byte says, and where so many values end that begin at a place; or the first refusal, with
-- the place that it blames. Nothing is drawn but what stands here, in this order. An unknown tag is blamed at a place that is given, `blame`.
use Rattle.std.specs.Prelude.{ℕ, zero, suc, ◌+◌, ◌-◌, List, Bool, true, false, ltb, leb, eqb, length, get_or}
use Rattle.std.proofs.Math.Seq.{slice}
use Rattle.numbers.specs.declared.Read.{Read}
use Rattle.numbers.specs.declared.Read.TheVariants as read
use Rattle.numbers.specs.declared.Signed.{Signed}
use Rattle.numbers.specs.declared.Signed.TheVariants as signed
use Rattle.numbers.specs.Number.{pick, read_unsigned, read_signed}
use Rattle.text.specs.Utf8.{well_formed}
use Rattle.anys.specs.declared.Skipped.{Skipped}
use Rattle.anys.specs.declared.Skipped.TheVariants.{At, Refused}
use Rattle.anys.specs.declared.Head.{Head}
use Rattle.anys.specs.declared.Head.TheVariants.{Alone, Holds}

abbrev pub refused : ℕ → ℕ → Skipped
refused number place = Refused (record { number = number; place = place })

-- what comes after it
unfoldable pub then_at : Skipped → (ℕ → Skipped) → Skipped
then_at (At e) f = f e
then_at (Refused why) f = Refused why

unfoldable pub on_count : Read → (ℕ → ℕ → Skipped) → Skipped
on_count (read.Number n e) f = f n e
on_count (read.Refused why) f = Refused why

unfoldable pub on_signed : Signed → Skipped
on_signed (signed.Value minus x e) = At e
on_signed (signed.Wrong why) = Refused why

-- a signed number; so many bytes; a length and so many bytes; and they are UTF-8, or 6 at the first of them
unfoldable pub signed_at : List ℕ → ℕ → Skipped
signed_at u at = on_signed (read_signed u at)

unfoldable pub skip_bytes : List ℕ → ℕ → ℕ → Skipped
skip_bytes u n at = pick (ltb (length u - at) n) (refused 1 (length u)) (At (at + n))

unfoldable pub skip_led : List ℕ → ℕ → Skipped
skip_led u at = on_count (read_unsigned u at) (skip_bytes u)

unfoldable pub text_from : List ℕ → ℕ → ℕ → Skipped
text_from u n at = then_at (skip_bytes u n at) (λ end. pick (well_formed (slice at end u)) (At end) (refused 6 at))

unfoldable pub text_at : List ℕ → ℕ → Skipped
text_at u at = on_count (read_unsigned u at) (text_from u)

-- a value by its tag, with e after it: it stands alone, or holds others, with keys (an object) or without (an array)
unfoldable pub tagged : List ℕ → ℕ → ℕ → ℕ → Head
tagged u blame tag e =
    pick (eqb tag 127) (Alone (At e))  -- undefined
    (pick (eqb tag 126) (Alone (At e))  -- null
    (pick (eqb tag 125) (Alone (signed_at u e))  -- integer
    (pick (eqb tag 124) (Alone (skip_bytes u 4 e))  -- float32
    (pick (eqb tag 123) (Alone (skip_bytes u 8 e))  -- float64
    (pick (eqb tag 122) (Alone (skip_bytes u 8 e))  -- bigint
    (pick (eqb tag 121) (Alone (At e))  -- false
    (pick (eqb tag 120) (Alone (At e))  -- true
    (pick (eqb tag 119) (Alone (text_at u e))  -- string
    (pick (eqb tag 118) (Holds true)  -- object
    (pick (eqb tag 117) (Holds false)  -- array
    (pick (eqb tag 116) (Alone (skip_led u e))  -- byte array
    (Alone (refused 5 blame)))))))))))))

unfoldable pub head_at : List ℕ → ℕ → ℕ → Head
head_at u blame at = pick (leb (length u) at) (Alone (refused 1 (length u))) (tagged u blame (get_or u at 0) (at + 1))

unfoldable pub on_head : Head → (Bool → Skipped) → Skipped
on_head (Alone s) f = s
on_head (Holds keyed) f = f keyed

-- k of them, one after another
unfoldable pub each : ℕ → (ℕ → Skipped) → ℕ → Skipped
each zero one at = At at
each (suc k) one at = then_at (one at) (each k one)

-- an member: in an object a key, and then its value
unfoldable pub member : Bool → List ℕ → (ℕ → Skipped) → ℕ → Skipped
member true u value at = then_at (text_at u at) value
member false u value at = value at

-- one value, in which n levels of objects and arrays may be opened: where none may it is refused with 3 at its tag, before its count
unfoldable pub any : ℕ → List ℕ → ℕ → ℕ → Skipped
any zero u blame at = on_head (head_at u blame at) (λ keyed. refused 3 at)
any (suc n) u blame at =
    on_head (head_at u blame at) (λ keyed. on_count (read_unsigned u (at + 1)) (λ k e. each k (member keyed u (any n u blame)) e))

-- so many objects and arrays may be open at once
abbrev pub deepest : ℕ
deepest = 16

-- k values from a place on
unfoldable pub anys : List ℕ → ℕ → ℕ → ℕ → Skipped
anys u blame k at = each k (any deepest u blame) at
