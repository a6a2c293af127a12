-- Form 2: each column lies within the update, so bytes behind the update leave all that is drawn from it as it is.
use Prim.Native.Nat.{ℕ, zero, suc, ◌≤◌}
use mathlib.Core.Path.{refl, sym, ap, subst}
use mathlib.Core.List.{List, [], ◌∷◌, ◌++◌}
use native.Mathlib.Omega.{arith}
use lib.Dec.{ltb}
use lib.ListN.{length, take, get_or}
use lib.Seq.{take-append-le}
use borrow.Author.Tests.{ne_eqb}
use Rattle.numbers.specs.Limits.{max_clock}
use Rattle.text.specs.declared.Part.{Part}
use Rattle.text.specs.declared.Units.{Units}
use Rattle.block.specs.Row.{no_part}
use Rattle.columns.specs.declared.number.Place as number-place
use Rattle.columns.specs.declared.number.Answer as number-answer
use Rattle.columns.specs.declared.number.Answer.TheVariants as number
use Rattle.columns.specs.declared.difference.Place as difference-place
use Rattle.columns.specs.declared.difference.Answer as difference-answer
use Rattle.columns.specs.declared.difference.Answer.TheVariants as difference
use Rattle.columns.specs.declared.byte.Place as byte-place
use Rattle.columns.specs.declared.byte.Answer as byte-answer
use Rattle.columns.specs.declared.byte.Answer.TheVariants as byte
use Rattle.string.specs.declared.Answer as string-answer
use Rattle.string.specs.declared.Answer.TheVariants as string
use Rattle.string.specs.declared.Opened as string-opened
use Rattle.string.specs.declared.Opened.TheVariants as strings-opened
use Rattle.columns.specs.Number.{next_number}
use Rattle.columns.specs.Difference.{next_difference}
use Rattle.columns.specs.Byte.{next_byte}
use Rattle.string.specs.String.{open_text, next_text}
use Rattle.grammar.specs.Grammar as grammar
use Rattle.grammar.specs.Grammar.{Number, Field}
use Rattle.grammar.specs.Grammar.{◌>>=◌}
use Rattle.grammar.specs.Course.{Drawn, got, not, CourseTo, thing, over, stopped, on_drawn, run}
use Rattle.grammar.specs.Blocks.{all_blocks}
use Rattle.grammar.proofs.Runs.{both}
use Rattle.grammar.proofs.Fragments.{Firm}
use Rattle.decoder.specs.Line.{bounded, byte_at, bytes_at, line, number_by}
use Rattle.decoder.specs.States.{max_keys, Numbers, Differences, Octets, State, text_moved}
use Rattle.decoder.specs.Columned.{number_drawn, from_numbers, difference_drawn, from_differences, byte_drawn, from_bytes, text_drawn, onto, number_in, text_in, joining, key_by_number, key_in, columned}
use Rattle.decoder.specs.Opening.{cut, heads, end_of, standing, with_opened, text_opened, on_heads, opened_of}
use Rattle.decoder.specs.Update.{rest_places, in_columns}
use Rattle.pieces.proofs.Firm.{FirmPart, byte-firm, bytes-firm, line-firm}
use Rattle.places.specs.Appended.{Stays}
use Rattle.places.proofs.AppendedRuns.{Keeps, drawn-stays, run-stays}

-- ends of columns, at most n
record AtMost (n k c l r i t p y e : ℕ) : Type 0 where
  key : k ≤ n
  client : c ≤ n
  left : l ≤ n
  right : r ≤ n
  info : i ≤ n
  text : t ≤ n
  parent : p ≤ n
  types : y ≤ n
  len : e ≤ n

-- the columns end within n bytes; a draw changes no column's end
abbrev Within : ℕ → State → Type 0
Within n s =
    AtMost n s.key.to s.client.to s.left.to s.right.to s.info.to s.text.to s.parent.to s.types.to s.len.to

-- of a state its place
placed-stays : {E A : Type 0} (x y : CourseTo State E A) → Stays x y → Stays (rest_places x) (rest_places y)
unfolding rest_places Stays
placed-stays (thing e p c) y h = (rest_places h.0, ap rest_places h.1, placed-stays c h.0 h.2)
placed-stays (over a s) y h = ap rest_places h
placed-stays (stopped why) y h = λ q. ap rest_places (h q)

module _ (u w : List ℕ) where
  abbrev I : State → Type 0
  I = Within (length u)

  -- ---- a column's next value

  module _ (c : Numbers) (put : Numbers → State) (l : c.to ≤ length u) (h : (p : number-place.Place) → I (put (record { place = p; to = c.to }))) where
    numbers_keep : Keeps I (from_numbers u c put) (from_numbers (u ++ w) c put)
    unfolding number_drawn
    numbers_keep = rw (take-append-le c.to u w l) (go (next_number (take c.to u) c.place))
      where
        go : (r : number-answer.Answer) → Keeps I (number_drawn put c.to r) (number_drawn put c.to r)
        go (number.Next v p) = (refl, h p)
        go (number.Bad why) = λ q. refl

  module _ (c : Differences) (put : Differences → State) (l : c.to ≤ length u) (h : (p : difference-place.Place) → I (put (record { place = p; to = c.to }))) where
    differences-keep : Keeps I (from_differences u c put) (from_differences (u ++ w) c put)
    unfolding difference_drawn
    differences-keep = rw (take-append-le c.to u w l) (go (next_difference (take c.to u) c.place))
      where
        go : (r : difference-answer.Answer) → Keeps I (difference_drawn put c.to r) (difference_drawn put c.to r)
        go (difference.Next v p) = (refl, h p)
        go (difference.Bad why) = λ q. refl

  module _ (c : Octets) (put : Octets → State) (l : c.to ≤ length u) (h : (p : byte-place.Place) → I (put (record { place = p; to = c.to }))) where
    bytes-keep : Keeps I (from_bytes u c put) (from_bytes (u ++ w) c put)
    unfolding byte_drawn
    bytes-keep = rw (take-append-le c.to u w l) (go (next_byte (take c.to u) c.place))
      where
        go : (r : byte-answer.Answer) → Keeps I (byte_drawn put c.to r) (byte_drawn put c.to r)
        go (byte.Next v p) = (refl, h p)
        go (byte.Bad why) = λ q. refl

  bounded-keeps : (most : ℕ) (x y : Drawn State (ℕ × ℕ)) → Keeps I x y → Keeps I (bounded most x) (bounded most y)
  unfolding bounded
  bounded-keeps most (got a t) y h =
      subst (λ (z : Drawn State (ℕ × ℕ)). Keeps I (bounded most (got a t)) (bounded most z)) (sym h.0)
      (both (Keeps I) (ltb most a.0) (λ q. refl) (refl, h.1))
  bounded-keeps most (not why) y h = λ q. ap (bounded most) (h q)

  module _ (s : State) (h : I s) where
    text-keeps : Keeps I (text_in u s) (text_in (u ++ w) s)
    unfolding text_drawn
    text-keeps = rw (take-append-le s.text.to u w h.text) (go (next_text (take s.text.to u) s.text.place))
      where
        go : (r : string-answer.Answer) → Keeps I (text_drawn (λ c. text_moved c s) s.text.to r) (text_drawn (λ c. text_moved c s) s.text.to r)
        go (string.Next v p) = (refl, h)
        go (string.Bad why) = λ q. refl

    opened-keeps : Keeps I (text_opened u s) (text_opened (u ++ w) s)
    unfolding text_opened with_opened
    opened-keeps = rw (take-append-le s.text.to u w h.text) (go (open_text (take s.text.to u) s.text.place.units.at))
      where
        go : (r : string-opened.Opened) → Keeps I (with_opened s r) (with_opened s r)
        go (strings-opened.At c) = (refl, h)
        go (strings-opened.Not why) = λ q. refl

    -- ---- the fields

    in-line : (f : Field) → Keeps I (onto s (line 2 u f s.at)) (onto s (line 2 (u ++ w) f s.at))
    unfolding onto
    in-line f = go (line 2 u f s.at) (line 2 (u ++ w) f s.at) (line-firm u w s.at 2 f)
      where
        go : {X : Type 0} (x y : Drawn ℕ X) → Firm x y → Keeps I (onto s x) (onto s y)
        go (got x e) y q = (ap (onto s) q, h)
        go (not why) y q = λ z. ap (onto s) (q (ne_eqb why.number 1 z))

    number-keeps : (k : Number) → Keeps I (number_in u k s) (number_in (u ++ w) k s)
    unfolding number_in
    number-keeps grammar.client = numbers_keep s.client _ h.client (λ p. h)
    number-keeps grammar.left_clock = differences-keep s.left _ h.left (λ p. h)
    number-keeps grammar.right_clock = differences-keep s.right _ h.right (λ p. h)
    number-keeps grammar.info = bytes-keep s.info _ h.info (λ p. h)
    number-keeps grammar.parent_info = bytes-keep s.parent _ h.parent (λ p. h)
    number-keeps grammar.len = bounded-keeps max_clock _ _ (numbers_keep s.len _ h.len (λ p. h))
    number-keeps grammar.byte = in-line (grammar.number grammar.byte)
    number-keeps (grammar.up_to most) = in-line (grammar.number (grammar.up_to most))
    number-keeps grammar.any = in-line (grammar.number grammar.any)
    number-keeps (grammar.delete_clock end) = in-line (grammar.number (grammar.delete_clock end))
    number-keeps grammar.delete_len = in-line (grammar.number grammar.delete_len)
    number-keeps grammar.type_number = numbers_keep s.types _ h.types (λ p. h)

  -- ---- keys

  joining-keeps : (x y : Drawn State (Part × Units)) → Keeps I x y → Keeps I (joining x) (joining y)
  unfolding joining
  joining-keeps (got a t) y h = (ap joining h.0, h.1)
  joining-keeps (not why) y h = λ q. ap joining (h q)

  numbered-keeps : (x y : Drawn State (ℕ × ℕ)) → Keeps I x y → Keeps I (key_by_number u x) (key_by_number (u ++ w) y)
  unfolding key_by_number
  numbered-keeps (got a t) y h =
      subst (λ (z : Drawn State (ℕ × ℕ)). Keeps I (key_by_number u (got a t)) (key_by_number (u ++ w) z)) (sym h.0)
      (both (Keeps I) (ltb a.0 (length t.keys)) (refl, h.1)
      (both (Keeps I) (ltb (length t.keys) max_keys) (joining-keeps (text_in u t) (text_in (u ++ w) t) (text-keeps t h.1)) (λ q. refl)))
  numbered-keeps (not why) y h = λ q. ap (key_by_number (u ++ w)) (h q)

  key-keeps : (s : State) → I s → Keeps I (key_in u s) (key_in (u ++ w) s)
  unfolding key_in
  key-keeps s h = numbered-keeps _ _ (differences-keep s.key _ h.key (λ p. h))

  columned-keeps : (f : Field) (s : State) → I s → Keeps I (columned u f s) (columned (u ++ w) f s)
  unfolding columned
  columned-keeps (grammar.number k) s h = number-keeps s h k
  columned-keeps grammar.text s h = text-keeps s h
  columned-keeps grammar.bytes s h = in-line s h grammar.bytes
  columned-keeps grammar.key s h = key-keeps s h
  columned-keeps (grammar.value blame) s h = in-line s h (grammar.value blame)
  columned-keeps (grammar.values blame n) s h = in-line s h (grammar.values blame n)

  -- ---- opening: what was cut lies within the bytes

  abbrev Inside : List Part → Type 0
  Inside ps = (k : ℕ) → end_of (get_or ps k no_part) ≤ length u

  inside-more : (ps : List Part) (p : Part) → Inside ps → end_of p ≤ length u → Inside (ps ++ (p ∷ []))
  inside-more [] p h l zero = l
  inside-more [] p h l (suc k) = omega arith
  inside-more (q ∷ ps) p h l zero = h 0
  inside-more (q ∷ ps) p h l (suc k) = inside-more ps p (λ j. h (suc j)) l k

  abbrev opened : List ℕ → ℕ → List Part → ℕ → Drawn State (Unit {0})
  opened v n ps at = on_heads v (run (line 2 v) (cut n ps) at)

  cut_keeps : (n : ℕ) (ps : List Part) (at : ℕ) → Inside ps → Keeps I (opened u n ps at) (opened (u ++ w) n ps at)
  unfolding on_heads run cut ◌>>=◌ on_drawn line
  cut_keeps zero ps at h =
      opened-keeps (standing ps at) (record { key = h 0; client = h 1; left = h 2; right = h 3; info = h 4; text = h 5; parent = h 6; types = h 7; len = h 8 })
  cut_keeps (suc n) ps at h =
      go (bytes_at u at) (bytes_at (u ++ w) at) (bytes-firm u w at) (λ p e l. cut_keeps n (ps ++ (p ∷ [])) e (inside-more ps p h l))
    where
      rest : List ℕ → Drawn ℕ Part → Drawn State (Unit {0})
      rest v x = on_heads v (on_drawn x (λ p e. run (line 2 v) (cut n (ps ++ (p ∷ []))) e))

      go : (x y : Drawn ℕ Part) → FirmPart u x y → ((p : Part) (e : ℕ) → end_of p ≤ length u → Keeps I (rest u (got p e)) (rest (u ++ w) (got p e)))
          → Keeps I (rest u x) (rest (u ++ w) y)
      go (got p e) y q more = subst (λ (z : Drawn ℕ Part). Keeps I (rest u (got p e)) (rest (u ++ w) z)) (sym q.0) (more p e q.1)
      go (not why) y q more = λ z. ap (rest (u ++ w)) (q (ne_eqb why.number 1 z))

  opening-keeps : Keeps I (opened_of u) (opened_of (u ++ w))
  unfolding opened_of on_heads run heads ◌>>=◌ on_drawn line number_by
  opening-keeps = go (byte_at u 0) (byte_at (u ++ w) 0) (byte-firm u w 0)
    where
      rest : List ℕ → Drawn ℕ (ℕ × ℕ) → Drawn State (Unit {0})
      rest v x = on_heads v (on_drawn x (λ a e. run (line 2 v) (cut 9 []) e))

      go : (x y : Drawn ℕ (ℕ × ℕ)) → Firm x y → Keeps I (rest u x) (rest (u ++ w) y)
      go (got a e) y q = subst (λ (z : Drawn ℕ (ℕ × ℕ)). Keeps I (rest u (got a e)) (rest (u ++ w) z)) (sym q) (cut_keeps 9 [] e (λ k. omega arith))
      go (not why) y q = λ z. ap (rest (u ++ w)) (q (ne_eqb why.number 1 z))

  -- ---- the blocks

  -- with the state that they end in
  pub states-stay : Stays (in_columns u) (in_columns (u ++ w))
  unfolding in_columns
  states-stay = drawn-stays I _ _ _ _ opening-keeps (λ x. run-stays I (columned u) (columned (u ++ w)) columned-keeps all_blocks)

  pub columns-stay : Stays (rest_places (in_columns u)) (rest_places (in_columns (u ++ w)))
  columns-stay = placed-stays _ _ states-stay
