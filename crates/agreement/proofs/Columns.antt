-- Form 2: what is refused has a number from 1 to 8.
use Prim.Native.Nat.{ℕ}
use mathlib.Core.List.{List}
use lib.Dec.{ltb}
use lib.ListN.{length, take}
use Rattle.numbers.specs.Limits.{max_clock}
use Rattle.text.specs.declared.Part.{Part}
use Rattle.text.specs.declared.Units.{Units}
use Rattle.columns.specs.declared.number.Answer as number-answer
use Rattle.columns.specs.declared.number.Answer.TheVariants as number
use Rattle.columns.specs.declared.difference.Answer as difference-answer
use Rattle.columns.specs.declared.difference.Answer.TheVariants as difference
use Rattle.columns.specs.declared.byte.Answer as byte-answer
use Rattle.columns.specs.declared.byte.Answer.TheVariants as byte
use Rattle.string.specs.declared.Answer as string-answer
use Rattle.string.specs.declared.Answer.TheVariants as string
use Rattle.string.specs.declared.Opened as string-opened
use Rattle.string.specs.declared.Opened.TheVariants as strings-opened
use Rattle.columns.specs.Number.{next_number}
use Rattle.columns.specs.Difference.{next_difference}
use Rattle.columns.specs.Byte.{next_byte}
use Rattle.string.specs.String.{open_text, next_text}
use Rattle.grammar.specs.Grammar as grammar
use Rattle.grammar.specs.Grammar.{Number, Field}
use Rattle.grammar.specs.Course.{Drawn, got, not}
use Rattle.grammar.specs.Numbered.{Refuses}
use Rattle.decoder.specs.Line.{line}
use Rattle.decoder.specs.States.{max_keys, Numbers, Differences, Octets, State, text_moved}
use Rattle.decoder.specs.Columned.{number_drawn, from_numbers, difference_drawn, from_differences, byte_drawn, from_bytes, text_drawn, onto, number_in, text_in, joining, key_by_number, key_in, columned}
use Rattle.decoder.specs.Opening.{with_opened, text_opened}
use Rattle.pieces.proofs.Forgets.{chosen}
use Rattle.agreement.proofs.NumberedColumns.{low3, NumberedNumber, number-numbered, NumberedDifference, difference-numbered, NumberedByte, byte-numbered, NumberedTexts, texts-numbered, NumberedString, string-numbered}
use Rattle.agreement.proofs.Lines.{Right, bounded-right, line-right}

module _ (u : List ℕ) where
  -- ---- a column's next value

  numbers-right : (c : Numbers) (put : Numbers → State) → Right (from_numbers u c put)
  unfolding number_drawn Refuses
  numbers-right c put = go (next_number (take c.to u) c.place) (number-numbered (take c.to u) c.place)
    where
      go : (r : number-answer.Answer) → NumberedNumber r → Right (number_drawn put c.to r)
      go (number.Next v p) l = tt
      go (number.Bad why) l = l

  differences-right : (c : Differences) (put : Differences → State) → Right (from_differences u c put)
  unfolding difference_drawn Refuses
  differences-right c put = go (next_difference (take c.to u) c.place) (difference-numbered (take c.to u) c.place)
    where
      go : (r : difference-answer.Answer) → NumberedDifference r → Right (difference_drawn put c.to r)
      go (difference.Next v p) l = tt
      go (difference.Bad why) l = l

  bytes-right : (c : Octets) (put : Octets → State) → Right (from_bytes u c put)
  unfolding byte_drawn Refuses
  bytes-right c put = go (next_byte (take c.to u) c.place) (byte-numbered (take c.to u) c.place)
    where
      go : (r : byte-answer.Answer) → NumberedByte r → Right (byte_drawn put c.to r)
      go (byte.Next v p) l = tt
      go (byte.Bad why) l = l

  module _ (s : State) where
    text-right : Right (text_in u s)
    unfolding text_drawn Refuses
    text-right = go (next_text (take s.text.to u) s.text.place) (string-numbered (take s.text.to u) s.text.place)
      where
        go : (r : string-answer.Answer) → NumberedString r → Right (text_drawn (λ c. text_moved c s) s.text.to r)
        go (string.Next v p) l = tt
        go (string.Bad why) l = l

    -- ---- the fields

    in-line : (f : Field) → Right (onto s (line 2 u f s.at))
    unfolding onto Refuses
    in-line f = go (line 2 u f s.at) (line-right 2 u s.at f)
      where
        go : {X : Type 0} (d : Drawn ℕ X) → Right d → Right (onto s d)
        go (got x e) l = tt
        go (not why) l = l

    number-right : (k : Number) → Right (number_in u k s)
    unfolding number_in
    number-right grammar.client = numbers-right s.client _
    number-right grammar.left_clock = differences-right s.left _
    number-right grammar.right_clock = differences-right s.right _
    number-right grammar.info = bytes-right s.info _
    number-right grammar.parent_info = bytes-right s.parent _
    number-right grammar.len = bounded-right max_clock _ (numbers-right s.len _)
    number-right grammar.byte = in-line (grammar.number grammar.byte)
    number-right (grammar.up_to most) = in-line (grammar.number (grammar.up_to most))
    number-right grammar.any = in-line (grammar.number grammar.any)
    number-right (grammar.delete_clock end) = in-line (grammar.number (grammar.delete_clock end))
    number-right grammar.delete_len = in-line (grammar.number grammar.delete_len)
    number-right grammar.type_number = numbers-right s.types _

  -- ---- keys

  joining-right : (d : Drawn State (Part × Units)) → Right d → Right (joining d)
  unfolding joining Refuses
  joining-right (got a s) h = tt
  joining-right (not why) h = h

  -- one key too many is 3
  numbered-right : (d : Drawn State (ℕ × ℕ)) → Right d → Right (key_by_number u d)
  unfolding key_by_number Refuses
  numbered-right (got a s) h =
      chosen Right (ltb a.0 (length s.keys)) tt
      (chosen Right (ltb (length s.keys) max_keys) (joining-right (text_in u s) (text-right s)) low3)
  numbered-right (not why) h = h

  module _ (s : State) where
    key_right : Right (key_in u s)
    unfolding key_in
    key_right = numbered-right _ (differences-right s.key _)

    pub columned-right : (f : Field) → Right (columned u f s)
    unfolding columned
    columned-right (grammar.number k) = number-right s k
    columned-right grammar.text = text-right s
    columned-right grammar.bytes = in-line s grammar.bytes
    columned-right grammar.key = key_right
    columned-right (grammar.value blame) = in-line s (grammar.value blame)
    columned-right (grammar.values blame n) = in-line s (grammar.values blame n)

    -- and the text opened
    pub opened-right : Right (text_opened u s)
    unfolding text_opened with_opened Refuses
    opened-right =
        go (open_text (take s.text.to u) s.text.place.units.at) (texts-numbered (take s.text.to u) s.text.place.units.at)
      where
        go : (r : string-opened.Opened) → NumberedTexts r → Right (with_opened s r)
        go (strings-opened.At c) l = tt
        go (strings-opened.Not why) l = l
