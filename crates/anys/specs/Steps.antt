-- Any-values an member at a time: its key, and its value up to where others may stand in it; and what is left of the levels that are open.
use Rattle.std.specs.Prelude.{ℕ, zero, suc, ◌+◌, ◌-◌, List, Bool, true, false, get_or}
use Rattle.numbers.specs.declared.Refusal.{Refusal}
use Rattle.numbers.specs.declared.Read.{Read}
use Rattle.numbers.specs.declared.Read.TheVariants as read
use Rattle.numbers.specs.Number.{pick, none, read_unsigned}
use Rattle.anys.specs.declared.Skipped.{Skipped}
use Rattle.anys.specs.declared.Skipped.TheVariants.{At, Refused}
use Rattle.anys.specs.declared.Head.{Head}
use Rattle.anys.specs.declared.Head.TheVariants.{Alone, Holds}
use Rattle.anys.specs.declared.Next.{Next}
use Rattle.anys.specs.declared.Next.TheVariants as next
use Rattle.anys.specs.Any.{then_at, text_at, head_at, each, member, any, deepest}

abbrev pub why_skipped : Skipped → Refusal
why_skipped (At e) = none
why_skipped (Refused why) = why

unfoldable pub key_at : List ℕ → Bool → ℕ → Skipped
key_at u true at = text_at u at
key_at u false at = At at

unfoldable pub opening : Bool → Read → Next
opening keyed (read.Number n e) = next.Opens keyed n e
opening keyed (read.Refused why) = next.Refused why

-- an object or array whose tag is at this place; `room`: one more may be open
unfoldable pub open_at : List ℕ → ℕ → Bool → Bool → Next
open_at u at room keyed = pick room (opening keyed (read_unsigned u (at + 1))) (next.Refused (record { number = 3; place = at }))

unfoldable pub passing : Skipped → Next
passing (At e) = next.Past e
passing (Refused why) = next.Refused why

unfoldable pub value_in : Head → (Bool → Next) → Next
value_in (Alone s) f = passing s
value_in (Holds keyed) f = f keyed

unfoldable pub behind : Skipped → (ℕ → Next) → Next
behind (At e) f = f e
behind (Refused why) f = next.Refused why

unfoldable pub entry_at : List ℕ → ℕ → Bool → Bool → ℕ → Next
entry_at u blame room keyed at = behind (key_at u keyed at) (λ from. value_in (head_at u blame from) (open_at u from room))

-- what an member comes to, with what the level says that it opens
unfoldable pub through : Next → (Bool → ℕ → ℕ → Skipped) → Skipped
through (next.Past e) f = At e
through (next.Opens keyed n e) f = f keyed n e
through (next.Refused why) f = Refused why

-- what is left of d levels, the innermost first: level 0 is the list itself, and around the entries of level i are i objects and arrays
unfoldable pub rest : ℕ → List ℕ → List Bool → List ℕ → ℕ → ℕ → Skipped
rest zero left keyed u blame at = At at
rest (suc d) left keyed u blame at =
    then_at (each (get_or left d 0) (member (get_or keyed d false) u (any (deepest - d) u blame)) at) (rest d left keyed u blame)
