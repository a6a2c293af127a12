-- A clock is its base plus or minus its difference, and so is a key's number: the base is the value before, the difference is what was read.
use Prim.Native.Nat.{ℕ, ◌+◌, ◌-◌, ◌%◌}
use mathlib.Core.Path.{◌≡◌, refl}
use mathlib.Core.Logic.{inl, inr}
use mathlib.Core.List.{List, [], ◌∷◌}
use mathlib.Core.Bool.{Bool, true, false}
use native.Mathlib.Omega.{arith}
use lib.Dec.{ltb, eqb}
use lib.ListN.{length, get_or, take}
use borrow.Author.Tests.{ltb-true, ltb-false}
use Rattle.numbers.specs.declared.Read.{Read}
use Rattle.numbers.specs.declared.Read.TheVariants as read
use Rattle.numbers.specs.declared.Signed.{Signed}
use Rattle.numbers.specs.declared.Signed.TheVariants as signed
use Rattle.numbers.specs.Number.{pick, read_unsigned, read_signed}
use Rattle.numbers.specs.Limits.{max_clock, max_count}
use Rattle.text.specs.declared.Part.{Part}
use Rattle.runs.specs.Difference.{zero_key}
use Rattle.columns.specs.declared.difference.Place.{Place}
use Rattle.columns.specs.declared.difference.Answer.{Answer}
use Rattle.columns.specs.declared.difference.Answer.TheVariants.{Next, Bad}
use Rattle.columns.specs.Difference.{place_at, refuse, drawn, outside, key_read, counted, begun, next_difference}
use Rattle.string.specs.declared.Answer as string-answer
use Rattle.string.specs.declared.Answer.TheVariants as string
use Rattle.string.specs.String.{next_text}
use Rattle.block.specs.Row.{no_part}
use Rattle.grammar.specs.Grammar as grammar
use Rattle.grammar.specs.Grammar.{Number, Field}
use Rattle.grammar.specs.Course.{got, not}
use Rattle.decoder.specs.States.{max_keys, Differences, State, key_moved, left_moved, right_moved, text_moved}
use Rattle.decoder.specs.Columned.{difference_drawn, from_differences, text_drawn, text_in, joining, key_by_number, key_in, number_in, columned}
use Rattle.roles.specs.Roles.{key_text}
use Rattle.origins.specs.Origins.{rising, base_of, rise_of, stored_line, text_line, key_line, key_lines, number_line, lines_in}
use Rattle.origin_facts.specs.Facts.{All, On, Sums, Plain, AddsAs, AddsFirst, Adds}
use Rattle.origin_facts.proofs.Draws.{on-got, on-any}

-- ---- a value onto the value before

unfoldable Steps : ℕ → Answer → Type 0
Steps last (Next v d) = (v + zero_key ≡ last + d.key) × (d.last ≡ v)
Steps last (Bad why) = Unit {0}

drawn-steps : (c : Place) → Steps c.last (drawn c)
unfolding Steps drawn
drawn-steps c = go (ltb (c.last + c.key) zero_key) refl (ltb max_clock (c.last + c.key - zero_key))
  where
    go : (b : Bool) → ltb (c.last + c.key) zero_key ≡ b → (o : Bool)
        → Steps c.last (pick b (refuse 3 c.from) (pick o (refuse 3 c.from) (Next (c.last + c.key - zero_key) (place_at c.at c.from (c.last + c.key - zero_key) c.key (c.count - 1)))))
    go true q o = tt
    go false q true = tt
    go false q false = (omega (arith, ltb-false (c.last + c.key) zero_key q), refl)

counted-steps : (from last key e : ℕ) (r : Read) → Steps last (counted from last key e r)
unfolding Steps counted
counted-steps from last key e (read.Refused why) = tt
counted-steps from last key e (read.Number n f) = go (ltb max_count n)
  where
    go : (b : Bool) → Steps last (pick b (refuse 3 e) (drawn (place_at f from last key (n + 2))))
    go true = tt
    go false = drawn-steps (place_at f from last key (n + 2))

begun-steps : (s : List ℕ) (at last : ℕ) (x : Signed) → Steps last (begun s at last x)
unfolding Steps begun
begun-steps s at last (signed.Wrong why) = tt
begun-steps s at last (signed.Value m x e) = go (outside m x) (eqb (x % 2) 0)
  where
    go : (b o : Bool) → Steps last (pick b (refuse 3 at) (pick o (drawn (place_at e at last (key_read m x) 1)) (counted at last (key_read m x) e (read_unsigned s e))))
    go true o = tt
    go false true = drawn-steps (place_at e at last (key_read m x) 1)
    go false false = counted-steps at last (key_read m x) e (read_unsigned s e)

next-steps : (s : List ℕ) (c : Place) → Steps c.last (next_difference s c)
unfolding next_difference
next-steps s c = go (ltb 0 c.count)
  where
    go : (b : Bool) → Steps c.last (pick b (drawn c) (begun s c.at c.last (read_signed s c.at)))
    go true = drawn-steps c
    go false = begun-steps s c.at c.last (read_signed s c.at)

-- ---- as a line has it

sums : (v last key : ℕ) → v + zero_key ≡ last + key → Sums v (rising last key)
unfolding rising
sums v last key h = go (ltb key zero_key) refl
  where
    go : (b : Bool) → ltb key zero_key ≡ b → Sums v (pick b (record { base = last; sign = 2; size = zero_key - key }) (record { base = last; sign = 1; size = key - zero_key }))
    go true q = inr (refl, omega (arith, ltb-true key zero_key q))
    go false q = inl (refl, omega (arith, ltb-false key zero_key q))

on-difference : {S : Type 0} (P : ℕ × ℕ → S → Type 0) (put : Differences → S) (u : List ℕ) (c : Differences)
    → ((v : ℕ) (d : Place) → Sums v (rising c.place.last d.key) → d.last ≡ v → P (v, d.from) (put (record { place = d; to = c.to }))) → On P (from_differences u c put)
unfolding On difference_drawn Steps
on-difference P put u c h = go (next_difference (take c.to u) c.place) (next-steps (take c.to u) c.place)
  where
    go : (a : Answer) → Steps c.place.last a → On P (difference_drawn put c.to a)
    go (Next v d) q = h v d (sums v c.place.last d.key q.0) q.1
    go (Bad why) q = tt

-- ---- every line of every draw

module _ (u : List ℕ) (code : ℕ) (s : State) where
  abbrev Fine : (f : Field) → grammar.Answer f → State → Type 0
  Fine f a t = Adds f (lines_in u code f a s t)

  number-adds : (n : Number) → On (Fine (grammar.number n)) (number_in u n s)
  unfolding lines_in number_line rise_of base_of number_in Adds AddsAs
  number-adds grammar.left_clock = on-difference (Fine (grammar.number grammar.left_clock)) (λ c. left_moved c s) u s.left (λ v d h e. (h, tt))
  number-adds grammar.right_clock = on-difference (Fine (grammar.number grammar.right_clock)) (λ c. right_moved c s) u s.right (λ v d h e. (h, tt))
  number-adds grammar.client = on-any (Fine (grammar.number grammar.client)) (number_in u grammar.client s) (λ a t. (refl, tt))
  number-adds grammar.info = on-any (Fine (grammar.number grammar.info)) (number_in u grammar.info s) (λ a t. (refl, tt))
  number-adds grammar.parent_info = on-any (Fine (grammar.number grammar.parent_info)) (number_in u grammar.parent_info s) (λ a t. (refl, tt))
  number-adds grammar.len = on-any (Fine (grammar.number grammar.len)) (number_in u grammar.len s) (λ a t. (refl, tt))
  number-adds grammar.byte = on-any (Fine (grammar.number grammar.byte)) (number_in u grammar.byte s) (λ a t. (refl, tt))
  number-adds (grammar.up_to most) = on-any (Fine (grammar.number (grammar.up_to most))) (number_in u (grammar.up_to most) s) (λ a t. (refl, tt))
  number-adds grammar.any = on-any (Fine (grammar.number grammar.any)) (number_in u grammar.any s) (λ a t. (refl, tt))
  number-adds (grammar.delete_clock end) = on-any (Fine (grammar.number (grammar.delete_clock end))) (number_in u (grammar.delete_clock end) s) (λ a t. (refl, tt))
  number-adds grammar.delete_len = on-any (Fine (grammar.number grammar.delete_len)) (number_in u grammar.delete_len s) (λ a t. (refl, tt))
  number-adds grammar.type_number = on-any (Fine (grammar.number grammar.type_number)) (number_in u grammar.type_number s) (λ a t. (refl, tt))

  -- the lines of a key whose number was drawn from a place to the place d
  key-lines : (p : Part) (t : State) (v : ℕ) (d : Place) → t.key.place ≡ d → Sums v (rising s.key.place.last d.key) → d.last ≡ v
      → AddsFirst (key_lines u code p s.key.place.last (length s.keys) t)
  unfolding AddsFirst key_lines key_line text_line
  key-lines p t v d e h q = (rw (e, q) h, go (ltb (length s.keys) (length t.keys)))
    where
      go : (b : Bool) → All Plain (pick b (text_line u key_text p t ∷ []) [])
      go true = (refl, tt)
      go false = tt

  key-adds : On (Fine grammar.key) (key_in u s)
  unfolding key_in difference_drawn key_by_number On Steps lines_in joining text_drawn Adds
  key-adds = go (next_difference (take s.key.to u) s.key.place) (next-steps (take s.key.to u) s.key.place)
    where
      joined : (t : State) → ((p : Part) (r : State) → r.key ≡ t.key → Fine grammar.key p r) → (a : string-answer.Answer)
          → On (Fine grammar.key) (joining (text_drawn (λ c. text_moved c t) t.text.to a))
      joined t h (string.Next p c) = h p _ refl
      joined t h (string.Bad why) = tt

      told : (v : ℕ) (t : State) (place : ℕ) → ((p : Part) (r : State) → r.key ≡ t.key → Fine grammar.key p r) → (b o : Bool)
          → On (Fine grammar.key) (pick b (got (get_or t.keys v no_part) t) (pick o (joining (text_in u t)) (not (record { number = 3; place = place }))))
      told v t place h true o = h _ t refl
      told v t place h false true = joined t h (next_text (take t.text.to u) t.text.place)
      told v t place h false false = tt

      go : (a : Answer) → Steps s.key.place.last a → On (Fine grammar.key) (key_by_number u (difference_drawn (λ c. key_moved c s) s.key.to a))
      go (Next v d) q =
          told v (key_moved (record { place = d; to = s.key.to }) s) d.from
          (λ p r e. key-lines p r v d (rw e refl) (sums v s.key.place.last d.key q.0) q.1) (ltb v (length s.keys)) (ltb (length s.keys) max_keys)
      go (Bad why) q = tt

  every-adds : (f : Field) → On (Fine f) (columned u f s)
  unfolding columned lines_in text_line stored_line Adds
  every-adds (grammar.number n) = number-adds n
  every-adds grammar.text = on-any (Fine grammar.text) (columned u grammar.text s) (λ a t. (refl, tt))
  every-adds grammar.bytes = on-any (Fine grammar.bytes) (columned u grammar.bytes s) (λ a t. (refl, tt))
  every-adds grammar.key = key-adds
  every-adds (grammar.value blame) = on-any (Fine (grammar.value blame)) (columned u (grammar.value blame) s) (λ a t. (refl, tt))
  every-adds (grammar.values blame n) = on-any (Fine (grammar.values blame n)) (columned u (grammar.values blame n) s) (λ a t. (refl, tt))

  pub base-and-difference : (f : Field) (a : grammar.Answer f) (t : State) → columned u f s ≡ got a t → Adds f (lines_in u code f a s t)
  base-and-difference f a t e = on-got (Fine f) (columned u f s) a t (every-adds f) e
