-- What is read, as data: which fields are drawn, one after another, and what becomes of them. No bytes and no state are in it; who reads a grammar
-- brings a reader of fields over states of its own.
use Rattle.std.specs.Prelude.{ℕ}
use Rattle.text.specs.declared.Part.{Part}
use Rattle.text.specs.declared.Units.{Units}

-- the fields that are numbers; a delete range's clock is the increase since the end before it, where a form has it so
pub data Number : Type 0 where
  byte : Number
  up_to : ℕ → Number
  any : Number
  client : Number
  left_clock : Number
  right_clock : Number
  info : Number
  parent_info : Number
  len : Number
  delete_clock : ℕ → Number
  delete_len : Number
  type_number : Number

-- a key is a mark's or a node's name, which a form may have once for all that bear it; a mark's value, and so many plain values, say where a value of
-- an unknown kind is blamed
pub data Field : Type 0 where
  number : Number → Field
  text : Field
  bytes : Field
  key : Field
  value : ℕ → Field
  values : ℕ → ℕ → Field

-- a number, and the place that it is blamed at; a text, and its units; so many bytes; the bytes of a key and of values
abbrev pub Answer : Field → Type 0
Answer (number n) = ℕ × ℕ
Answer text = Part × Units
Answer bytes = Part
Answer key = Part
Answer (value blame) = Part
Answer (values blame n) = Part

-- draw a field and go on with its answer; keep a thing, with the place that is blamed if there is no row for it; refuse, by number and place; be done
pub data Grammar (E A : Type 0) : Type 0 where
  ask : (f : Field) → (Answer f → Grammar E A) → Grammar E A
  emit : E → ℕ → Grammar E A → Grammar E A
  stop : ℕ → ℕ → Grammar E A
  done : A → Grammar E A

abbrev pub draw : {E : Type 0} (f : Field) → Grammar E (Answer f)
draw f = ask f done

-- one grammar, then another
infixl 10 ◌>>=◌
unfoldable pub ◌>>=◌ : {E A B : Type 0} → Grammar E A → (A → Grammar E B) → Grammar E B
◌>>=◌ (ask f k) g = ask f (λ a. k a >>= g)
◌>>=◌ (emit e p x) g = emit e p (x >>= g)
◌>>=◌ (stop n p) g = stop n p
◌>>=◌ (done a) g = g a
