-- The reader of form 2 blames the update, from any state whose columns have a byte of it for each run under way, and whose texts lie before their unit
-- lengths: where a text is refused, a unit length was drawn behind it.
use Prim.Native.Nat.{ℕ, ◌≤◌}
use mathlib.Core.Path.{◌≡◌, refl}
use mathlib.Core.Logic.{inl}
use mathlib.Core.List.{List}
use native.Mathlib.Omega.{arith}
use lib.Dec.{ltb}
use lib.ListN.{length, take, length-take, length-drop}
use lib.Seq.{slice}
use Rattle.numbers.specs.Limits.{max_clock}
use Rattle.text.specs.declared.Part.{Part}
use Rattle.text.specs.declared.Units.{Units}
use Rattle.text.specs.declared.Taken.{Taken}
use Rattle.text.specs.declared.Taken.TheVariants as units
use Rattle.text.specs.Utf8.{take_units}
use Rattle.text.proofs.Cutting.{cut}
use Rattle.columns.specs.declared.number.Place as number-place
use Rattle.string.specs.declared.Place as string-place
use Rattle.string.specs.String as strings
use Rattle.grammar.specs.Grammar as grammar
use Rattle.grammar.specs.Grammar.{Number, Field}
use Rattle.grammar.specs.Course.{Drawn, got, not}
use Rattle.decoder.specs.Line.{line}
use Rattle.decoder.specs.States.{max_keys, Numbers, Differences, Octets, Texts, State}
use Rattle.decoder.specs.Columned.{number_drawn, from_numbers, difference_drawn, from_differences, byte_drawn, from_bytes, text_drawn, from_texts, onto, number_in, text_in, joining, key_by_number, key_in, columned}
use Rattle.pieces.proofs.Forgets.{chosen}
use Rattle.places.specs.Places.{Blames}
use Rattle.places.proofs.BlamedGrammars.{Any, Byte, AtByte, Fair, Gives}
use Rattle.places.proofs.BlamedLine.{bounded-gives, line_gives}
use Rattle.places.proofs.BlamedColumns.{Runs, NumberHolds, DifferenceHolds, ByteHolds, number-next, difference-next, byte_next}

module _ (u : List ℕ) where
  -- the unit lengths stand behind the texts
  abbrev pub TextHolds : string-place.Place → Type 0
  TextHolds c = (c.at ≤ c.end) × NumberHolds u c.end c.units

  -- key, client, left, right, info, text, parent info, type, length
  abbrev pub Stands : State → Type 0
  Stands s =
      DifferenceHolds u 0 s.key.place
      × NumberHolds u 0 s.client.place
      × DifferenceHolds u 0 s.left.place
      × DifferenceHolds u 0 s.right.place
      × ByteHolds u 0 s.info.place
      × TextHolds s.text.place
      × ByteHolds u 0 s.parent.place
      × NumberHolds u 0 s.types.place
      × NumberHolds u 0 s.len.place

  pub front : (n : ℕ) → length (take n u) ≤ length u
  front n = omega (arith, length-take n u)

  -- ---- a column's next value, and the column put into a state

  module _ {S : Type 0} (Inv : S → Type 0) where
    numbers-give : (c : Numbers) (put : Numbers → S) → NumberHolds u 0 c.place → ((d : Numbers) → NumberHolds u 0 d.place → Inv (put d))
        → Gives u (Byte u) Inv (from_numbers u c put)
    unfolding number_drawn Gives
    numbers-give c put h keep =
        number-next u (take c.to u) (front c.to) 0 (λ r. Gives u (Byte u) Inv (number_drawn put c.to r)) (λ _ b. b)
        (λ _ _ k. (k.2, keep _ (k.0, λ _. k))) c.place h

    differences-give : (c : Differences) (put : Differences → S) → DifferenceHolds u 0 c.place
        → ((d : Differences) → DifferenceHolds u 0 d.place → Inv (put d)) → Gives u (Byte u) Inv (from_differences u c put)
    unfolding difference_drawn Gives
    differences-give c put h keep =
        difference-next u (take c.to u) (front c.to) 0 (λ r. Gives u (Byte u) Inv (difference_drawn put c.to r)) (λ _ b. b)
        (λ _ _ k. (k.2, keep _ (k.0, λ _. k))) c.place h

    bytes-give : (c : Octets) (put : Octets → S) → ByteHolds u 0 c.place → ((d : Octets) → ByteHolds u 0 d.place → Inv (put d))
        → Gives u (Byte u) Inv (from_bytes u c put)
    unfolding byte_drawn Gives
    bytes-give c put h keep =
        byte_next u (take c.to u) (front c.to) 0 (λ r. Gives u (Byte u) Inv (byte_drawn put c.to r)) (λ _ b. b)
        (λ _ _ k. (k.2, keep _ (k.0, λ _. k))) c.place h

    texts-give : (c : Texts) (put : Texts → S) → TextHolds c.place → ((d : Texts) → TextHolds d.place → Inv (put d))
        → Gives u Any Inv (from_texts u c put)
    unfolding text_drawn Gives Blames strings.next_text strings.units_drawn strings.units_taken strings.text_ending
    texts-give c put h keep =
        number-next u s (front c.to) end (λ r. Gives u Any Inv (text_drawn put c.to (strings.units_drawn s at end r))) (λ _ b. b)
        (λ n rest k. took n rest k (take_units 7 n (slice at end s)) refl) c.place.units h.1
      where
        at : ℕ
        at = c.place.at

        end : ℕ
        end = c.place.end

        s : List ℕ
        s = take c.to u

        took : (n : ℕ) (rest : number-place.Place) → Runs u end rest.at rest.from → (r : Taken) → take_units 7 n (slice at end s) ≡ r
            → Gives u Any Inv (text_drawn put c.to (strings.text_ending at end rest r))
        took n rest k (units.Took b) e =
            let within = (cut 7 n b.0 (slice at end s) e).within in
            (tt, keep _ (omega (arith, h.0, within, length-drop at (take end s), length-take end s), (k.0, λ _. k)))
        took n rest k (units.Refused why) e = inl (omega (arith, h.0, k.1, k.2))

  -- ---- the fields

  module _ (s : State) (h : Stands s) where
    onto-gives : {X : Type 0} (P : X → Type 0) (d : Drawn ℕ X) → Gives u P Any d → Gives u P Stands (onto s d)
    unfolding onto Gives
    onto-gives P (got a e) k = (k.0, h)
    onto-gives P (not why) k = k

    in-line : (f : Field) → Fair u f → Gives u (AtByte u f) Stands (onto s (line 2 u f s.at))
    in-line f b = onto-gives (AtByte u f) (line 2 u f s.at) (line_gives u s.at 2 f b)

    number-gives : (n : Number) → Gives u (AtByte u (grammar.number n)) Stands (number_in u n s)
    unfolding number_in AtByte
    number-gives grammar.client = numbers-give Stands s.client _ h.1 (λ c k. (h.0, k, h.2, h.3, h.4, h.5, h.6, h.7, h.8))
    number-gives grammar.left_clock = differences-give Stands s.left _ h.2 (λ c k. (h.0, h.1, k, h.3, h.4, h.5, h.6, h.7, h.8))
    number-gives grammar.right_clock = differences-give Stands s.right _ h.3 (λ c k. (h.0, h.1, h.2, k, h.4, h.5, h.6, h.7, h.8))
    number-gives grammar.info = bytes-give Stands s.info _ h.4 (λ c k. (h.0, h.1, h.2, h.3, k, h.5, h.6, h.7, h.8))
    number-gives grammar.parent_info = bytes-give Stands s.parent _ h.6 (λ c k. (h.0, h.1, h.2, h.3, h.4, h.5, k, h.7, h.8))
    number-gives grammar.len =
        bounded-gives u Stands max_clock _ (numbers-give Stands s.len _ h.8 (λ c k. (h.0, h.1, h.2, h.3, h.4, h.5, h.6, h.7, k)))
    number-gives grammar.byte = in-line (grammar.number grammar.byte) tt
    number-gives (grammar.up_to most) = in-line (grammar.number (grammar.up_to most)) tt
    number-gives grammar.any = in-line (grammar.number grammar.any) tt
    number-gives (grammar.delete_clock end) = in-line (grammar.number (grammar.delete_clock end)) tt
    number-gives grammar.delete_len = in-line (grammar.number grammar.delete_len) tt
    number-gives grammar.type_number = numbers-give Stands s.types _ h.7 (λ c k. (h.0, h.1, h.2, h.3, h.4, h.5, h.6, k, h.8))

    text-gives : Gives u Any Stands (text_in u s)
    text-gives = texts-give Stands s.text _ h.5 (λ c k. (h.0, h.1, h.2, h.3, h.4, k, h.6, h.7, h.8))

  -- ---- keys: what was read before is no matter

  joining-gives : (d : Drawn State (Part × Units)) → Gives u Any Stands d → Gives u Any Stands (joining d)
  unfolding joining Gives
  joining-gives (got a s) h = h
  joining-gives (not why) h = h

  -- one key too many is blamed where its number was drawn
  numbered-gives : (d : Drawn State (ℕ × ℕ)) → Gives u (Byte u) Stands d → Gives u Any Stands (key_by_number u d)
  unfolding key_by_number Gives Blames
  numbered-gives (got a s) h =
      chosen (Gives u Any Stands) (ltb a.0 (length s.keys)) (tt, h.1)
      (chosen (Gives u Any Stands) (ltb (length s.keys) max_keys) (joining-gives (text_in u s) (text-gives s h.1)) (inl h.0))
  numbered-gives (not why) h = h

  key-gives : (s : State) → Stands s → Gives u Any Stands (key_in u s)
  unfolding key_in
  key-gives s h = numbered-gives _ (differences-give Stands s.key _ h.0 (λ c k. (k, h.1, h.2, h.3, h.4, h.5, h.6, h.7, h.8)))

  pub columned-gives : (f : Field) (s : State) → Fair u f → Stands s → Gives u (AtByte u f) Stands (columned u f s)
  unfolding columned AtByte
  columned-gives (grammar.number n) s b h = number-gives s h n
  columned-gives grammar.text s b h = text-gives s h
  columned-gives grammar.bytes s b h = in-line s h grammar.bytes tt
  columned-gives grammar.key s b h = key-gives s h
  columned-gives (grammar.value blame) s b h = in-line s h (grammar.value blame) b
  columned-gives (grammar.values blame n) s b h = in-line s h (grammar.values blame n) b
