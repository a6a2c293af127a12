-- That the fields of either form are read as the decoder's readers read them.
use Prim.Native.Nat.{ℕ}
use mathlib.Core.Path.{◌≡◌, refl, ◌∙◌}
use mathlib.Core.Bool.{Bool, true, false}
use mathlib.Core.List.{List, [], ◌∷◌, ◌++◌}
use lib.Dec.{ltb, eqb}
use lib.ListN.{length, get_or, take, set}
use lib.Seq.{slice}
use Rattle.numbers.specs.Limits.{max_value, max_clock}
use Rattle.text.specs.declared.Part.{Part}
use Rattle.text.specs.declared.Units.{Units}
use Rattle.text.specs.declared.Taken.{Taken}
use Rattle.text.specs.declared.Taken.TheVariants.{Took, Refused}
use Rattle.text.specs.Utf8.{take_units}
use Rattle.block.specs.Row.{no_part}
use Rattle.columns.specs.declared.number.Place as number-place
use Rattle.columns.specs.declared.number.Answer as number-answer
use Rattle.columns.specs.declared.number.Answer.TheVariants as number
use Rattle.columns.specs.declared.difference.Answer as difference-answer
use Rattle.columns.specs.declared.difference.Answer.TheVariants as difference
use Rattle.columns.specs.declared.byte.Answer as byte-answer
use Rattle.columns.specs.declared.byte.Answer.TheVariants as byte
use Rattle.columns.specs.Number.{next_number}
use Rattle.columns.specs.Difference.{next_difference}
use Rattle.columns.specs.Byte.{next_byte}
use Rattle.string.specs.String.{text_ending, units_taken, units_drawn, next_text}
use Rattle.grammar.specs.Course as course
use Rattle.grammar.specs.Course.{Drawn}
use Rattle.decoder.specs.Line as decoder
use Rattle.decoder.specs.Line.{bounded}
use Rattle.decoder.specs.States.{Numbers, Differences, Octets, State}
use Rattle.decoder.specs.States.{moved_to, key_moved, client_moved, left_moved, right_moved, info_moved, text_moved, parent_moved, types_moved, len_moved}
use Rattle.decoder.specs.Columned.{number_drawn, from_numbers, difference_drawn, from_differences, byte_drawn, from_bytes, text_drawn}
use Rattle.decoder.specs.Columned.{onto, number_in, text_in, joining, key_by_number, key_in, columned}
use Rattle.meaning.specs.Reads.{when◌then◌else◌, Got, got, refused, Reads, on, done, refuse}
use Rattle.meaning.specs.Columns.{Lane, draw}
use Rattle.meaning.specs.Line.{unsigned, up_to, word}
use Rattle.meaning.specs.Fields.{Standing, stand, in_line, located, lane_of, text_taken, drawn, field_in, text, key, fields}
use Rattle.meaning.specs.Alike.{drawn_as, numbers_as, differences_as, octets_as, number_next, difference_next, byte_next, at_place, at_state, Alike}
use Rattle.meaning.proofs.Line.{up_to-is, unsigned-located, byte-located, stored_is, word-is, text-is, values-is}
use Rattle.meaning.proofs.Columns.{numbers-is, differences-is, octets-is, number-last}

-- ---- what both forms share

-- what stands in line moves the place alone
line-stands : {S A X : Type 0} (f : X → A) (view : ℕ → S) {g : Got ℕ A} (d : Drawn ℕ X) → g ≡ drawn_as f (λ e. e) d
    → on g (λ a at. got a (view at)) ≡ drawn_as f view d
unfolding on drawn_as
line-stands {X} f view d e = rw e (go d)
  where
    go : (d : Drawn ℕ X) → on (drawn_as f (λ e. e) d) (λ a at. got a (view at)) ≡ drawn_as f view d
    go (course.got x e) = refl
    go (course.not why) = refl

-- a length over its limit
abbrev limited : {S : Type 0} → ℕ × ℕ → Reads S (ℕ × ℕ)
limited (n, at) = when ltb max_clock n then refuse 3 at else done (n, at)

limited-is : {S T : Type 0} (view : T → S) (d : Drawn T (ℕ × ℕ)) → on (drawn_as (λ a. a) view d) limited ≡ drawn_as (λ a. a) view (bounded max_clock d)
unfolding on drawn_as bounded when◌then◌else◌
limited-is view (course.got a t) = go (ltb max_clock a.0) refl
  where
    go : (b : Bool) → ltb max_clock a.0 ≡ b → limited a (view t) ≡ drawn_as (λ a. a) view (bounded max_clock (course.got a t))
    go true e = rw e
    go false e = rw e
limited-is view (course.not why) = refl

-- ---- form 1

module _ (u : List ℕ) where
  up-to : (most t : ℕ) → in_line (located (up_to u most)) (at_place t) ≡ drawn_as (λ a. a) at_place (decoder.up_to most u t)
  up-to most t = line-stands (λ a. a) at_place (decoder.up_to most u t) (up_to-is u most t)

  any-number : (t : ℕ) → in_line (located (unsigned u)) (at_place t) ≡ drawn_as (λ a. a) at_place (decoder.var_at u t)
  any-number t = line-stands (λ a. a) at_place (decoder.var_at u t) (unsigned-located u t)

  a_word : (t : ℕ) → in_line (word u) (at_place t) ≡ drawn_as (λ p. p) at_place (decoder.word_of (decoder.checked u (decoder.bytes_at u t)))
  a_word t = line-stands (λ p. p) at_place (decoder.word_of (decoder.checked u (decoder.bytes_at u t))) (word-is u t)

  pub alike-1 : Alike at_place (fields 1 u) (decoder.line 1 u)
  unfolding fields field_in text key when◌then◌else◌ decoder.line decoder.number_by decoder.up_to
  alike-1 = record {
    number = λ role most t. up-to most t;
    client = λ role t. up-to max_value t;
    left_clock = λ role t. up-to max_clock t;
    right_clock = λ role t. up-to max_clock t;
    info = λ role t. line-stands (λ a. a) at_place (decoder.byte_at u t) (byte-located u t);
    parent_info = λ role t. up-to max_clock t;
    type_number = λ role t. any-number t;
    len = λ role t. rw (any-number t) (limited-is at_place (decoder.var_at u t));
    text = λ role t. line-stands (λ a. (a.0, a.1.0)) at_place (decoder.checked u (decoder.bytes_at u t)) (text-is u t);
    bytes = λ role t. line-stands (λ p. p) at_place (decoder.bytes_at u t) (stored_is u t);
    key = λ role t. a_word t;
    value = λ role blame t. a_word t;
    values = λ role blame n t. line-stands (λ p. p) at_place (decoder.values_at u blame n t) (values-is u blame n t);
    kept = λ t. refl;
  }

-- ---- form 2

module _ (form : ℕ) (u : List ℕ) (two : eqb form 1 ≡ false) where
  -- what stands in line
  rest-stands : {A : Type 0} (s : State) {g : Got ℕ A} (d : Drawn ℕ A) → g ≡ drawn_as (λ a. a) (λ e. e) d
      → on g (λ a at. got a (at_state (moved_to s at))) ≡ drawn_as (λ a. a) at_state (onto s d)
  unfolding drawn_as onto
  rest-stands {A} s d e = line-stands (λ a. a) (λ at. at_state (moved_to s at)) d e ∙ go d
    where
      go : (d : Drawn ℕ A) → drawn_as (λ a. a) (λ at. at_state (moved_to s at)) d ≡ drawn_as (λ a. a) at_state (onto s d)
      go (course.got x e) = refl
      go (course.not why) = refl

  -- a column's next value, and the stand with the column after it
  abbrev putting : (Lane → Standing) → ℕ → Lane → Got Standing (ℕ × ℕ)
  putting g v c = got (v, c.from) (g c)

  from-numbers : (c : Numbers) (put : Numbers → State) (g : Lane → Standing) → ((d : Numbers) → g (numbers_as d) ≡ at_state (put d))
      → on (draw u (numbers_as c)) (putting g) ≡ drawn_as (λ a. a) at_state (from_numbers u c put)
  unfolding on number_next number_drawn drawn_as
  from-numbers c put g same = rw (numbers-is u c) (go (next_number (take c.to u) c.place))
    where
      go : (a : number-answer.Answer) → on (number_next c.to a) (putting g) ≡ drawn_as (λ a. a) at_state (number_drawn put c.to a)
      go (number.Next v p) = rw (same (record { place = p; to = c.to }))
      go (number.Bad why) = refl

  from-differences : (c : Differences) (put : Differences → State) (g : Lane → Standing) → ((d : Differences) → g (differences_as d) ≡ at_state (put d))
      → on (draw u (differences_as c)) (putting g) ≡ drawn_as (λ a. a) at_state (from_differences u c put)
  unfolding on difference_next difference_drawn drawn_as
  from-differences c put g same = rw (differences-is u c) (go (next_difference (take c.to u) c.place))
    where
      go : (a : difference-answer.Answer) → on (difference_next c.to a) (putting g) ≡ drawn_as (λ a. a) at_state (difference_drawn put c.to a)
      go (difference.Next v p) = rw (same (record { place = p; to = c.to }))
      go (difference.Bad why) = refl

  from_bytes_lem : (c : Octets) (put : Octets → State) (g : Lane → Standing) → ((d : Octets) → g (octets_as d) ≡ at_state (put d))
      → on (draw u (octets_as c)) (putting g) ≡ drawn_as (λ a. a) at_state (from_bytes u c put)
  unfolding on byte_next byte_drawn drawn_as
  from_bytes_lem c put g same = rw (octets-is u c) (go (next_byte (take c.to u) c.place))
    where
      go : (a : byte-answer.Answer) → on (byte_next c.to a) (putting g) ≡ drawn_as (λ a. a) at_state (byte_drawn put c.to a)
      go (byte.Next v p) = rw (same (record { place = p; to = c.to }))
      go (byte.Bad why) = refl

  -- the stand with column k put
  abbrev with_column : ℕ → State → Lane → Standing
  with_column k s c = let t = at_state s in stand t.at (set t.columns k c) t.text t.texts t.keys

  -- a text: its units from column 5, then its characters
  text-drawn : (s : State) → text form u (at_state s) ≡ drawn_as (λ a. (a.0, a.1.0)) at_state (text_in u s)
  unfolding text drawn when◌then◌else◌ on number_next text_taken drawn_as text_drawn next_text units_drawn units_taken text_ending
  text-drawn s = rw (two, numbers-is u units) (go (next_number t units.place) refl)
    where
      units : Numbers
      units = record { place = s.text.place.units; to = s.text.to }

      t : List ℕ
      t = take s.text.to u

      taken : (n : ℕ) (c : number-place.Place) → c.last ≡ n → (r : Taken) → text_taken n (with_column 5 s (numbers_as (record { place = c; to = s.text.to }))) r
          ≡ drawn_as (λ a. (a.0, a.1.0)) at_state (text_drawn (λ c. text_moved c s) s.text.to (text_ending s.text.place.at s.text.place.end c r))
      taken n c e (Took b) = rw e
      taken n c e (Refused why) = refl

      characters : ℕ × ℕ → Reads Standing (Part × ℕ)
      characters (n, _) x = text_taken n x (take_units 7 n (slice x.text x.texts (take (lane_of 5 x).to u)))

      go : (a : number-answer.Answer) → next_number t units.place ≡ a → on (on (number_next s.text.to a) (putting (with_column 5 s))) characters
          ≡ drawn_as (λ a. (a.0, a.1.0)) at_state (text_drawn (λ c. text_moved c s) s.text.to (units_drawn t s.text.place.at s.text.place.end a))
      go (number.Next n c) e = taken n c (number-last t units.place c n e) (take_units 7 n (slice s.text.place.at s.text.place.end t))
      go (number.Bad why) e = refl

  -- a text that is a key from now on
  abbrev joins : Part × ℕ → Reads Standing Part
  joins (p, _) t = got p (stand t.at t.columns t.text t.texts (t.keys ++ (p ∷ [])))

  joined : (d : Drawn State (Part × Units)) → on (drawn_as (λ a. (a.0, a.1.0)) at_state d) joins ≡ drawn_as (λ p. p) at_state (joining d)
  unfolding on drawn_as joining
  joined (course.got a s) = refl
  joined (course.not why) = refl

  -- a key: its number from column 0, then one of the keys read or the next text
  key-drawn : (s : State) → key form u (at_state s) ≡ drawn_as (λ p. p) at_state (key_in u s)
  unfolding key drawn when◌then◌else◌ key_in on drawn_as key_by_number
  key-drawn s = rw (two, from-differences s.key (λ c. key_moved c s) (with_column 0 s) (λ d. refl)) (go (from_differences u s.key (λ c. key_moved c s)))
    where
      by_number : ℕ × ℕ → Reads Standing Part
      by_number (n, at) x =
          when ltb n (length x.keys) then got (get_or x.keys n no_part) x
          else when ltb (length x.keys) 256 then on (text form u x) joins else refused 3 at

      chosen : (a : ℕ × ℕ) (t : State) (old : Bool) → ltb a.0 (length t.keys) ≡ old → (room : Bool) → ltb (length t.keys) 256 ≡ room
          → by_number a (at_state t) ≡ drawn_as (λ p. p) at_state (key_by_number u (course.got a t))
      chosen a t true e room f = rw e
      chosen a t false e true f = rw (e, f, text-drawn t) (joined (text_in u t))
      chosen a t false e false f = rw (e, f)

      go : (d : Drawn State (ℕ × ℕ)) → on (drawn_as (λ a. a) at_state d) by_number ≡ drawn_as (λ p. p) at_state (key_by_number u d)
      go (course.got a t) = chosen a t (ltb a.0 (length t.keys)) refl (ltb (length t.keys) 256) refl
      go (course.not why) = refl

  pub alike-2 : Alike at_state (fields form u) (columned u)
  unfolding fields field_in drawn when◌then◌else◌ decoder.line decoder.number_by columned number_in
  alike-2 = record {
    number = λ role most s. rest-stands s (decoder.up_to most u s.at) (up_to-is u most s.at);
    client = λ role s. rw two (from-numbers s.client (λ c. client_moved c s) (with_column 1 s) (λ d. refl));
    left_clock = λ role s. rw two (from-differences s.left (λ c. left_moved c s) (with_column 2 s) (λ d. refl));
    right_clock = λ role s. rw two (from-differences s.right (λ c. right_moved c s) (with_column 3 s) (λ d. refl));
    info = λ role s. rw two (from_bytes_lem s.info (λ c. info_moved c s) (with_column 4 s) (λ d. refl));
    parent_info = λ role s. rw two (from_bytes_lem s.parent (λ c. parent_moved c s) (with_column 6 s) (λ d. refl));
    type_number = λ role s. rw two (from-numbers s.types (λ c. types_moved c s) (with_column 7 s) (λ d. refl));
    len = λ role s.
        rw (two, from-numbers s.len (λ c. len_moved c s) (with_column 8 s) (λ d. refl))
        (limited-is at_state (from_numbers u s.len (λ c. len_moved c s)));
    text = λ role s. text-drawn s;
    bytes = λ role s. rest-stands s (decoder.bytes_at u s.at) (stored_is u s.at);
    key = λ role s. key-drawn s;
    value = λ role blame s. rw two (rest-stands s (decoder.values_at u blame 1 s.at) (values-is u blame 1 s.at));
    values = λ role blame n s. rest-stands s (decoder.values_at u blame n s.at) (values-is u blame n s.at);
    kept = λ s. refl;
  }
