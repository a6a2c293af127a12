-- Form 2: that the run under way in a column of differences was accepted, at every state that reading comes to; and the lines of a draw from a column.
use Prim.Native.Nat.{ℕ, ◌-◌}
use mathlib.Core.Path.{◌≡◌, refl}
use mathlib.Core.Bool.{Bool, true, false}
use mathlib.Core.List.{List}
use mathlib.Core.Option.{some, none}
use lib.Dec.{ltb}
use lib.ListN.{length, get_or, take}
use Rattle.numbers.specs.Number.{pick}
use Rattle.text.specs.declared.Part.{Part}
use Rattle.text.specs.declared.Units.{Units}
use Rattle.block.specs.Row.{no_part}
use Rattle.columns.specs.declared.number.Place as number-place
use Rattle.columns.specs.declared.number.Answer as number-answer
use Rattle.columns.specs.declared.number.Answer.TheVariants as number
use Rattle.columns.specs.declared.difference.Place as difference-place
use Rattle.columns.specs.declared.difference.Answer as difference-answer
use Rattle.columns.specs.declared.difference.Answer.TheVariants as difference
use Rattle.columns.specs.declared.byte.Place as byte-place
use Rattle.columns.specs.declared.byte.Answer as byte-answer
use Rattle.columns.specs.declared.byte.Answer.TheVariants as byte
use Rattle.string.specs.declared.Place as string-place
use Rattle.string.specs.declared.Answer as string-answer
use Rattle.string.specs.declared.Answer.TheVariants as string
use Rattle.columns.specs.Number.{next_number}
use Rattle.columns.specs.Difference.{next_difference}
use Rattle.columns.specs.Byte.{next_byte}
use Rattle.string.specs.String.{next_text}
use Rattle.grammar.specs.Grammar as grammar
use Rattle.grammar.specs.Grammar.{Number, Field, Answer}
use Rattle.grammar.specs.Course.{got, not}
use Rattle.decoder.specs.Line.{line}
use Rattle.decoder.specs.States.{max_keys, Numbers, Differences, Octets, Texts, State}
use Rattle.decoder.specs.States.{key_moved, client_moved, left_moved, right_moved, info_moved, text_moved, parent_moved, types_moved, len_moved}
use Rattle.decoder.specs.Columned.{number_drawn, from_numbers, difference_drawn, from_differences, byte_drawn, from_bytes, text_drawn, from_texts}
use Rattle.decoder.specs.Columned.{number_in, text_in, joining, key_by_number, key_in, columned}
use Rattle.origins.specs.declared.Line.{Line}
use Rattle.origins.specs.declared.Rise.{Rise}
use Rattle.origins.specs.declared.Stand.{Stand}
use Rattle.origins.specs.Origins as old
use Rattle.origin_facts.specs.Facts.{On}
use Rattle.origin_facts.proofs.Draws.{on-onto, on-bounded}
use Rattle.meaning.specs.Reads.{when◌then◌else◌}
use Rattle.meaning.specs.Columns.{differences, Lane}
use Rattle.meaning.specs.Alike.{numbers_as, differences_as, octets_as}
use Rattle.meaning_explain.specs.Explain as explain
use Rattle.meaning_explain.specs.Explain.{still, run_length, rise_of}
use Rattle.meaning_explain.proofs.Times.{Agree, Fair, After, next-agrees, number-times, byte-times}

-- ---- what is known of a state, and of a draw

pub record Fairly (u : List ℕ) (key left right : Differences) : Type 0 where
  pub key-fair : Fair (take key.to u) key.place
  pub left-fair : Fair (take left.to u) left.place
  pub right-fair : Fair (take right.to u) right.place

abbrev pub Good : List ℕ → State → Type 0
Good u s = Fairly u s.key s.left s.right

-- the run that a difference was drawn from is read as its bytes say
abbrev pub Read : List ℕ → Differences → Type 0
Read u c = Agree (take c.to u) c.place.from

unfoldable pub KnownNumber : List ℕ → Number → State → Type 0
KnownNumber u grammar.left_clock t = Read u t.left
KnownNumber u grammar.right_clock t = Read u t.right
KnownNumber u grammar.client t = Unit {0}
KnownNumber u grammar.info t = Unit {0}
KnownNumber u grammar.parent_info t = Unit {0}
KnownNumber u grammar.len t = Unit {0}
KnownNumber u grammar.type_number t = Unit {0}
KnownNumber u grammar.byte t = Unit {0}
KnownNumber u (grammar.up_to most) t = Unit {0}
KnownNumber u grammar.any t = Unit {0}
KnownNumber u (grammar.delete_clock end) t = Unit {0}
KnownNumber u grammar.delete_len t = Unit {0}

unfoldable pub Known : List ℕ → (x : Field) → Answer x → State → Type 0
Known u (grammar.number n) a t = KnownNumber u n t
Known u grammar.text a t = a.1.0 ≡ t.text.place.units.last
Known u grammar.key a t = Read u t.key
Known u grammar.bytes a t = Unit {0}
Known u (grammar.value blame) a t = Unit {0}
Known u (grammar.values blame n) a t = Unit {0}

module _ (u : List ℕ) where
  -- ---- a draw from a column

  on-numbers : {S : Type 0} (P : ℕ × ℕ → S → Type 0) (put : Numbers → S) (c : Numbers)
      → ((v : ℕ) (d : number-place.Place) → P (v, d.from) (put (record { place = d; to = c.to }))) → On P (from_numbers u c put)
  unfolding On number_drawn
  on-numbers P put c h = go (next_number (take c.to u) c.place)
    where
      go : (a : number-answer.Answer) → On P (number_drawn put c.to a)
      go (number.Next v d) = h v d
      go (number.Bad why) = tt

  on-octets : {S : Type 0} (P : ℕ × ℕ → S → Type 0) (put : Octets → S) (c : Octets)
      → ((v : ℕ) (d : byte-place.Place) → P (v, d.from) (put (record { place = d; to = c.to }))) → On P (from_bytes u c put)
  unfolding On byte_drawn
  on-octets P put c h = go (next_byte (take c.to u) c.place)
    where
      go : (a : byte-answer.Answer) → On P (byte_drawn put c.to a)
      go (byte.Next v d) = h v d
      go (byte.Bad why) = tt

  on_texts : {S : Type 0} (P : Part × Units → S → Type 0) (put : Texts → S) (c : Texts)
      → ((p : Part) (d : string-place.Place) → P (p, record { 0 = d.units.last }) (put (record { place = d; to = c.to }))) → On P (from_texts u c put)
  unfolding On text_drawn
  on_texts P put c h = go (next_text (take c.to u) c.place)
    where
      go : (a : string-answer.Answer) → On P (text_drawn put c.to a)
      go (string.Next p d) = h p d
      go (string.Bad why) = tt

  on-differences : {S : Type 0} (P : ℕ × ℕ → S → Type 0) (put : Differences → S) (c : Differences) → Fair (take c.to u) c.place
      → ((v : ℕ) (d : difference-place.Place) → Agree (take c.to u) d.from → P (v, d.from) (put (record { place = d; to = c.to })))
      → On P (from_differences u c put)
  unfolding On difference_drawn After
  on-differences P put c fair h = go (next_difference (take c.to u) c.place) (next-agrees (take c.to u) c.place fair)
    where
      go : (a : difference-answer.Answer) → After (take c.to u) a → On P (difference_drawn put c.to a)
      go (difference.Next v d) q = h v d q
      go (difference.Bad why) q = tt

  -- ---- every draw

  module _ (s : State) (good : Good u s) where
    abbrev Stays : (x : Field) → Answer x → State → Type 0
    Stays x a t = Good u t × Known u x a t

    number-stays : (n : Number) → On (Stays (grammar.number n)) (number_in u n s)
    unfolding number_in Known KnownNumber
    number-stays grammar.client = on-numbers (Stays (grammar.number grammar.client)) (λ c. client_moved c s) s.client (λ v d. (good, tt))
    number-stays grammar.left_clock =
        on-differences (Stays (grammar.number grammar.left_clock)) (λ c. left_moved c s) s.left good.left-fair
        (λ v d q. (record { key-fair = good.key-fair; left-fair = λ _. q; right-fair = good.right-fair }, q))
    number-stays grammar.right_clock =
        on-differences (Stays (grammar.number grammar.right_clock)) (λ c. right_moved c s) s.right good.right-fair
        (λ v d q. (record { key-fair = good.key-fair; left-fair = good.left-fair; right-fair = λ _. q }, q))
    number-stays grammar.info = on-octets (Stays (grammar.number grammar.info)) (λ c. info_moved c s) s.info (λ v d. (good, tt))
    number-stays grammar.parent_info = on-octets (Stays (grammar.number grammar.parent_info)) (λ c. parent_moved c s) s.parent (λ v d. (good, tt))
    number-stays grammar.type_number = on-numbers (Stays (grammar.number grammar.type_number)) (λ c. types_moved c s) s.types (λ v d. (good, tt))
    number-stays grammar.len =
        on-bounded (Stays (grammar.number grammar.len)) 2147483647 (from_numbers u s.len (λ c. len_moved c s))
        (on-numbers (Stays (grammar.number grammar.len)) (λ c. len_moved c s) s.len (λ v d. (good, tt)))
    number-stays grammar.byte =
        on-onto (Stays (grammar.number grammar.byte)) s (line 2 u (grammar.number grammar.byte) s.at) (λ a e. (good, tt))
    number-stays (grammar.up_to most) =
        on-onto (Stays (grammar.number (grammar.up_to most))) s (line 2 u (grammar.number (grammar.up_to most)) s.at) (λ a e. (good, tt))
    number-stays grammar.any = on-onto (Stays (grammar.number grammar.any)) s (line 2 u (grammar.number grammar.any) s.at) (λ a e. (good, tt))
    number-stays (grammar.delete_clock end) =
        on-onto (Stays (grammar.number (grammar.delete_clock end))) s (line 2 u (grammar.number (grammar.delete_clock end)) s.at) (λ a e. (good, tt))
    number-stays grammar.delete_len =
        on-onto (Stays (grammar.number grammar.delete_len)) s (line 2 u (grammar.number grammar.delete_len) s.at) (λ a e. (good, tt))

    key-stays : On (Stays grammar.key) (key_in u s)
    unfolding key_in difference_drawn key_by_number On After joining text_drawn Known
    key-stays = go (next_difference (take s.key.to u) s.key.place) (next-agrees (take s.key.to u) s.key.place good.key-fair)
      where
        joined : (t : State) → Good u t × Read u t.key → (a : string-answer.Answer)
            → On (Stays grammar.key) (joining (text_drawn (λ c. text_moved c t) t.text.to a))
        joined t h (string.Next p c) = h
        joined t h (string.Bad why) = tt

        by_number : (v : ℕ) (t : State) (place : ℕ) → Good u t × Read u t.key → (b o : Bool)
            → On (Stays grammar.key) (pick b (got (get_or t.keys v no_part) t) (pick o (joining (text_in u t)) (not (record { number = 3; place = place }))))
        by_number v t place h true o = h
        by_number v t place h false true = joined t h (next_text (take t.text.to u) t.text.place)
        by_number v t place h false false = tt

        go : (a : difference-answer.Answer) → After (take s.key.to u) a
            → On (Stays grammar.key) (key_by_number u (difference_drawn (λ c. key_moved c s) s.key.to a))
        go (difference.Next v d) q =
            by_number v (key_moved (record { place = d; to = s.key.to }) s) d.from
            (record { key-fair = λ _. q; left-fair = good.left-fair; right-fair = good.right-fair }, q)
            (ltb v (length s.keys)) (ltb (length s.keys) max_keys)
        go (difference.Bad why) q = tt

    pub stays : (x : Field) → On (Stays x) (columned u x s)
    unfolding columned Known
    stays (grammar.number n) = number-stays n
    stays grammar.text = on_texts (Stays grammar.text) (λ c. text_moved c s) s.text (λ p d. (good, refl))
    stays grammar.bytes = on-onto (Stays grammar.bytes) s (line 2 u grammar.bytes s.at) (λ a e. (good, tt))
    stays grammar.key = key-stays
    stays (grammar.value blame) = on-onto (Stays (grammar.value blame)) s (line 2 u (grammar.value blame) s.at) (λ a e. (good, tt))
    stays (grammar.values blame n) = on-onto (Stays (grammar.values blame n)) s (line 2 u (grammar.values blame n) s.at) (λ a e. (good, tt))

  -- ---- the line of a draw from a column

  module _ (form role v : ℕ) (p : Part) where
    abbrev from_column : Lane → Rise → Line
    from_column c rise =
        elim c.left [
          | none ↦ explain.line role v c.from (c.at - c.from) 2 0 0 rise p
          | some left ↦ explain.line role v c.from (c.at - c.from) 1 (run_length form u c - left) (run_length form u c) rise p
        ]

    abbrev standing : Stand → Rise → Line
    standing stand rise = record { field = role; value = v; stand = stand; rise = rise; part = p }

    pub numbers-line : (c : Numbers) → from_column (numbers_as c) still ≡ standing (old.number_stand u c) old.no_rise
    unfolding run_length old.number_stand old.in_run
    numbers-line c = rw (number-times (take c.to u) c.place.from)

    pub octets-line : (c : Octets) → from_column (octets_as c) still ≡ standing (old.byte_stand u c) old.no_rise
    unfolding run_length old.byte_stand old.in_run old.endless
    octets-line c = go c.place.endless refl
      where
        go : (b : Bool) → c.place.endless ≡ b → from_column (octets_as c) still ≡ standing (old.byte_stand u c) old.no_rise
        go true e = rw e
        go false e = rw (e, byte-times (take c.to u) c.place.from)

    rising-is : (base run : ℕ) → rise_of form u differences base run ≡ old.rising base run
    unfolding rise_of old.rising when◌then◌else◌
    rising-is base run = go (ltb run 2147483648) refl
      where
        go : (b : Bool) → ltb run 2147483648 ≡ b → rise_of form u differences base run ≡ old.rising base run
        go true e = rw e
        go false e = rw e

    pub differences-line : (base : ℕ) (c : Differences) → Read u c
        → from_column (differences_as c) (rise_of form u differences base c.place.key) ≡ standing (old.difference_stand u c) (old.rising base c.place.key)
    unfolding run_length old.difference_stand old.in_run
    differences-line base c read = rw (read, rising-is base c.place.key)
