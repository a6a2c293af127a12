-- A reader draws tokens: each is what reading gives next, from a state up to a last one. And which tokens can be written and read again.
use Rattle.std.specs.Prelude.{ℕ, ◌≤◌, ◌<◌, ◌^◌, ◌≡◌, Bool, true, false, List, [], ◌∷◌, eqb, length}
use Rattle.numbers.specs.Number.{pick}
use Rattle.numbers.specs.Limits.{max_clock, max_value}
use Rattle.text.specs.declared.Part.{Part}
use Rattle.text.specs.Utf8.{well_formed, units_of}
use Rattle.block.specs.declared.Block.{Block}
use Rattle.anys.specs.declared.Skipped.TheVariants.{At}
use Rattle.anys.specs.Any.{anys}
use Rattle.grammar.specs.Grammar as grammar
use Rattle.grammar.specs.Grammar.{Number}
use Rattle.grammar.specs.Course.{got, Reader, CourseTo, thing, over, Course, run, ending}
use Rattle.grammar.specs.Blocks.{all_blocks}
use Rattle.decoder.specs.Line.{bounded, line}
use Rattle.decoder.specs.Update.{blocks_of}
use Rattle.leftover.specs.Leftover.{Stretch, columns_left}
use Rattle.leftover.specs.LeftoverInner.{Spent}
use Rattle.readings.specs.Sound.{bytes_in}
use Rattle.tokens.specs.Tokens.{Token, field, text, var, buf, key, value, values, clients, lefts, rights, infos, parents, types, lens}

-- the field that a lane's numbers are
unfoldable pub lane_field : ℕ → Number
lane_field k =
    pick (eqb k clients) grammar.client
    (pick (eqb k lefts) grammar.left_clock
    (pick (eqb k rights) grammar.right_clock
    (pick (eqb k infos) grammar.info
    (pick (eqb k parents) grammar.parent_info (pick (eqb k types) grammar.type_number grammar.len)))))

-- n plain values are all of these bytes
abbrev pub AreAll : ℕ → List ℕ → Type 0
AreAll n b = anys b 0 n 0 ≡ At (length b)

module _ {S : Type 0} (r : Reader S) (u : List ℕ) where
  unfoldable pub Draws : S → List Token → S → Type 0
  Draws s [] t = s ≡ t
  Draws s (field k v ∷ ts) t = (p : ℕ) × (m : S) × (r (grammar.number (lane_field k)) s ≡ got (v, p) m) × Draws m ts t
  Draws s (text b n ∷ ts) t = (p : Part) × (m : S) × (r grammar.text s ≡ got (p, record { 0 = n }) m) × (bytes_in u p ≡ b) × Draws m ts t
  Draws s (var v ∷ ts) t = (p : ℕ) × (m : S) × (r (grammar.number grammar.any) s ≡ got (v, p) m) × Draws m ts t
  Draws s (buf b ∷ ts) t = (p : Part) × (m : S) × (r grammar.bytes s ≡ got p m) × (bytes_in u p ≡ b) × Draws m ts t
  Draws s (key b n ∷ ts) t = (p : Part) × (m : S) × (r grammar.key s ≡ got p m) × (bytes_in u p ≡ b) × Draws m ts t
  Draws s (value b ∷ ts) t = (p : Part) × (m : S) × ((blame : ℕ) → r (grammar.value blame) s ≡ got p m) × (bytes_in u p ≡ b) × Draws m ts t
  Draws s (values b ∷ ts) t =
      (p : Part) × (m : S) × ((blame n : ℕ) → AreAll n b → r (grammar.values blame n) s ≡ got p m) × (bytes_in u p ≡ b) × Draws m ts t

-- ---- which tokens

-- a number that its lane takes and that reading allows
unfoldable pub most : ℕ → ℕ
most k = pick (eqb k clients) max_value (pick (eqb k infos) 255 (pick (eqb k parents) 255 (pick (eqb k types) max_value max_clock)))

-- a lane with a column of numbers
unfoldable pub is_field : ℕ → Bool
is_field k =
    pick (eqb k clients) true
    (pick (eqb k lefts) true
    (pick (eqb k rights) true (pick (eqb k infos) true (pick (eqb k parents) true (pick (eqb k types) true (eqb k lens))))))

abbrev pub LegalText : List ℕ → ℕ → Type 0
LegalText b n = (well_formed b ≡ true) × (units_of b ≡ n) × (n ≤ max_value)

-- a mark's value is a text in form 1, one plain value in form 2
unfoldable pub LegalValue : ℕ → List ℕ → Type 0
LegalValue form b = ((eqb form 1 ≡ true) → (well_formed b ≡ true) × (length b < 2 ^ 63)) × ((eqb form 1 ≡ false) → AreAll 1 b)

-- a token that can be written in a form and read again
unfoldable pub Legal : ℕ → Token → Type 0
Legal form (field k v) = (is_field k ≡ true) × (v ≤ most k)
Legal form (text b n) = LegalText b n
Legal form (var v) = v < 2 ^ 63
Legal form (buf b) = length b < 2 ^ 63
Legal form (key b n) = LegalText b n
Legal form (value b) = LegalValue form b
Legal form (values b) = (n : ℕ) × AreAll n b

unfoldable pub AllLegal : ℕ → List Token → Type 0
AllLegal form [] = Unit {0}
AllLegal form (t ∷ ts) = Legal form t × AllLegal form ts

-- ---- bytes that are read

-- numbers without a column stand in line, where a state's place is; a limit is tested where a number stands
pub record Lined {S : Type 0} (form : ℕ) (u : List ℕ) (r : Reader S) (place : S → ℕ) : Type 0 where
  pub bounds : (n : ℕ) (s : S) → r (grammar.number (grammar.up_to n)) s ≡ bounded n (r (grammar.number grammar.any) s)
  pub any : (v p : ℕ) (s m : S) → r (grammar.number grammar.any) s ≡ got (v, p) m
      → line form u (grammar.number grammar.any) (place s) ≡ got (v, p) (place m)

-- the bytes u of a form have a reader, and a state that their blocks are read from; from there it draws the tokens, and no byte is left
pub record DrawnAgain (form : ℕ) (u : List ℕ) (ts : List Token) : Type 1 where
  pub State : Type 0
  pub reader : Reader State
  pub place : State → ℕ
  pub lined : Lined form u reader place
  pub first : State
  pub last : State
  pub drawn : Draws reader u first ts last
  -- a reading that leaves, of its last state, the place
  pub leave : CourseTo State Block (Unit {0}) → Course Block
  pub leaves : (b : Block) (p : ℕ) (c : CourseTo State Block (Unit {0})) → leave (thing b p c) ≡ thing b p (leave c)
  pub leaves-over : (s : State) → leave (over tt s) ≡ over tt (place s)
  pub blocks : blocks_of form u ≡ leave (run reader all_blocks first)
  -- what is left of the columns at a state, which a number without a column does not change; at the last nothing is, and it is the end
  pub left : State → List Stretch
  pub stays : (v p : ℕ) (s m : State) → reader (grammar.number grammar.any) s ≡ got (v, p) m → left m ≡ left s
  pub columns : columns_left form u ≡ ending (run reader all_blocks first) left (λ why. [])
  pub spent : Spent (left last)
  pub whole : place last ≡ length u
