-- The fields of an update's blocks. Form 1 has them all in line; form 2 has nine columns, and in line what has no column.
use Rattle.std.specs.Prelude.{ℕ, ◌+◌, List, [], ◌∷◌, ◌++◌, ltb, eqb, length, get_or, take, set}
use Rattle.std.proofs.Math.Seq.{slice}
use Rattle.text.specs.declared.Part.{Part}
use Rattle.text.specs.declared.Taken.{Taken}
use Rattle.text.specs.declared.Taken.TheVariants.{Took, Refused}
use Rattle.text.specs.Utf8.{take_units}
use Rattle.meaning.specs.Reads.{when◌then◌else◌, Got, got, refused, Reads, on, ◌>>=◌, done, refuse, here}
use Rattle.meaning.specs.Line as line
use Rattle.meaning.specs.Line.{part, units, byte, unsigned, up_to, stored, bytes_of, word}
use Rattle.meaning.specs.Columns.{numbers, Lane, fresh, draw}

-- each is read for something: the number before all else says for what, as `explain` tells it. With a number comes the byte that it is blamed at, its
-- own first byte or its run's; with a text its UTF-16 units; a value of an unknown kind is blamed where it is said
pub record Fields (S : Type 0) : Type 0 where
  pub number : ℕ → ℕ → Reads S (ℕ × ℕ)  -- in line, up to so much
  pub client : ℕ → Reads S (ℕ × ℕ)
  pub left_clock : ℕ → Reads S (ℕ × ℕ)
  pub right_clock : ℕ → Reads S (ℕ × ℕ)
  pub info : ℕ → Reads S (ℕ × ℕ)
  pub parent_info : ℕ → Reads S (ℕ × ℕ)
  pub type_number : ℕ → Reads S (ℕ × ℕ)
  pub len : ℕ → Reads S (ℕ × ℕ)
  pub text : ℕ → Reads S (Part × ℕ)
  pub bytes : ℕ → Reads S Part
  pub key : ℕ → Reads S Part
  pub value : ℕ → ℕ → Reads S Part
  pub values : ℕ → ℕ → ℕ → Reads S Part
  pub kept : Reads S (Unit {0})  -- what was read last is kept

-- where reading stands: the next byte in line, the columns, where the next text begins, where all texts end, and the keys that were read
pub record Standing : Type 0 where
  pub at : ℕ
  pub columns : List Lane
  pub text : ℕ
  pub texts : ℕ
  pub keys : List Part

abbrev pub stand : ℕ → List Lane → ℕ → ℕ → List Part → Standing
stand at columns text texts keys = record { at = at; columns = columns; text = text; texts = texts; keys = keys }

abbrev pub in_line : {A : Type 0} → Reads ℕ A → Reads Standing A
in_line m s = on (m s.at) (λ a at. got a (stand at s.columns s.text s.texts s.keys))

abbrev pub located : Reads ℕ ℕ → Reads ℕ (ℕ × ℕ)
located m = here >>= λ at. m >>= λ v. done (v, at)

abbrev pub lane_of : ℕ → Standing → Lane
lane_of k s = get_or s.columns k (fresh numbers 0 0)

-- the next text and its units
unfoldable pub text_taken : ℕ → Standing → Taken → Got Standing (Part × ℕ)
text_taken n s (Took b) = got (part s.text b.0, n) (stand s.at s.columns (s.text + b.0) s.texts s.keys)
text_taken n s (Refused why) = refused why s.text

module _ (form : ℕ) (u : List ℕ) where
  -- the next value of column k
  unfoldable pub drawn : ℕ → Reads Standing (ℕ × ℕ)
  drawn k s = on (draw u (lane_of k s)) (λ v c. got (v, c.from) (stand s.at (set s.columns k c) s.text s.texts s.keys))

  -- in line, or in column k
  unfoldable pub field_in : ℕ → Reads ℕ ℕ → Reads Standing (ℕ × ℕ)
  field_in k m = when eqb form 1 then in_line (located m) else drawn k

  -- form 2 has the units in column 5, and the characters of all texts in a row; past these, or inside a pair, it is 7
  unfoldable pub text : Reads Standing (Part × ℕ)
  text =
      when eqb form 1 then in_line (word u >>= λ p. done (p, units (bytes_of u p)))
      else (drawn 5 >>= λ (n, _) s. text_taken n s (take_units 7 n (slice s.text s.texts (take (lane_of 5 s).to u))))

  -- form 2 has a key once for all that bear it: by its number, in column 0, one that was read; any other takes the next text, and there may be 256
  unfoldable pub key : Reads Standing Part
  key =
      when eqb form 1 then in_line (word u)
      else (drawn 0 >>= λ (n, at) s.
      when ltb n (length s.keys) then got (get_or s.keys n (part 0 0)) s
      else when ltb (length s.keys) 256 then (on (text s) λ (p, _) t. got p (stand t.at t.columns t.text t.texts (t.keys ++ (p ∷ []))))
      else refused 3 at)

  -- a mark's value is JSON text that is not looked into, in form 2 an any-value
  unfoldable pub fields : Fields Standing
  fields = record {
    number = λ role most. in_line (located (up_to u most));
    client = λ role. field_in 1 (up_to u 9007199254740991);
    left_clock = λ role. field_in 2 (up_to u 2147483647);
    right_clock = λ role. field_in 3 (up_to u 2147483647);
    info = λ role. field_in 4 (byte u);
    parent_info = λ role. field_in 6 (up_to u 2147483647);
    type_number = λ role. field_in 7 (unsigned u);
    len = λ role. field_in 8 (unsigned u) >>= λ (n, at). when ltb 2147483647 n then refuse 3 at else done (n, at);
    text = λ role. text;
    bytes = λ role. in_line (stored u);
    key = λ role. key;
    value = λ role blame. when eqb form 1 then in_line (word u) else in_line (line.values u blame 1);
    values = λ role blame n. in_line (line.values u blame n);
    kept = done tt;
  }
