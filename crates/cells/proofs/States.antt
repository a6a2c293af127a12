-- What words that changed are for a state: one column moved, the place in line moved, keys came or went, or nothing. And an answer of one column as one of the
-- whole state.
use Rattle.std.specs.Prelude.{Option, Some, None}
use Prim.Native.Nat.{ℕ, ◌+◌, ◌*◌, ◌≤◌, ◌<◌}
use mathlib.Core.Path.{◌≡◌, refl, sym, ap, ◌∙◌}
use mathlib.Core.Logic.{◌≢◌}
use mathlib.Core.List.{List, [], ◌∷◌, ◌++◌}
use mathlib.Core.Bool.{false}
use native.Mathlib.Omega.{arith}
use lib.Dec.{eqb}
use lib.ListN.{length, get_or, set, take, length-set}
use lib.Seq.{get_or-set_other, get_or-set_same, set-get_or}
use borrow.Author.Tests.{eqb-false}
use Rattle.columns.specs.declared.number.Answer as number-answer
use Rattle.columns.specs.declared.number.Answer.TheVariants as number
use Rattle.columns.specs.declared.difference.Answer as difference-answer
use Rattle.columns.specs.declared.difference.Answer.TheVariants as difference
use Rattle.columns.specs.declared.byte.Answer as byte-answer
use Rattle.columns.specs.declared.byte.Answer.TheVariants as byte
use Rattle.string.specs.declared.Answer as string-answer
use Rattle.string.specs.declared.Answer.TheVariants as string
use Rattle.grammar.specs.Course as course
use Rattle.decoder.specs.States.{max_keys, Numbers, Differences, Octets, Texts, State, moved_to, key_moved, client_moved, left_moved, right_moved, info_moved, text_moved, parent_moved, types_moved, len_moved, with_keys}
use Rattle.columns.specs.Number.{next_number}
use Rattle.columns.specs.Difference.{next_difference}
use Rattle.columns.specs.Byte.{next_byte}
use Rattle.decoder.specs.Columned.{number_drawn, difference_drawn, byte_drawn, text_drawn, from_numbers, from_differences, from_bytes}
use Rattle.cells.specs.Cells.{cell, numbers_in, differences_in, bytes_in, texts_in, at_in, place_in, key_count, keys_in, state_in, Short, Small, Elsewhere, Beside, given, numbers_given, differences_given, bytes_given, NumberDrawn, DifferenceDrawn, ByteDrawn}
use Rattle.cells.proofs.Words.{room-same}
use Rattle.cells.proofs.Keys.{keys-same, keys_none, joined, joined-below, joined-size, joined-count, keys-joined}

-- ---- columns that are as before

module _ (w v : List ℕ) (j : ℕ) (same : (i : ℕ) → i < 7 → cell v j i ≡ cell w j i) where
  same_numbers : numbers_in v j ≡ numbers_in w j
  unfolding numbers_in
  same_numbers = rw (same 0 (omega arith), same 1 (omega arith), same 2 (omega arith), same 3 (omega arith), same 4 (omega arith)) refl

  same-differences : differences_in v j ≡ differences_in w j
  unfolding differences_in
  same-differences = rw (same 0 (omega arith), same 1 (omega arith), same 2 (omega arith), same 3 (omega arith), same 4 (omega arith), same 5 (omega arith)) refl

  same_bytes : bytes_in v j ≡ bytes_in w j
  unfolding bytes_in
  same_bytes = rw (same 0 (omega arith), same 1 (omega arith), same 2 (omega arith), same 3 (omega arith), same 4 (omega arith), same 5 (omega arith)) refl

  same-texts : texts_in v j ≡ texts_in w j
  unfolding texts_in numbers_in
  same-texts = rw (same 0 (omega arith), same 1 (omega arith), same 2 (omega arith), same 3 (omega arith), same 4 (omega arith), same 5 (omega arith), same 6 (omega arith)) refl

-- the nine of them, if no column but k changed
module _ (w v : List ℕ) (k : ℕ) (same : (j i : ℕ) → j ≤ 8 → j ≢ k → i < 7 → cell v j i ≡ cell w j i) where
  still : (j : ℕ) → j ≤ 8 → eqb j k ≡ false → (i : ℕ) → i < 7 → cell v j i ≡ cell w j i
  still j few h i l = same j i few (eqb-false j k h) l

  key-same : eqb 0 k ≡ false → differences_in v 0 ≡ differences_in w 0
  key-same h = same-differences w v 0 (still 0 (omega arith) h)

  client-same : eqb 1 k ≡ false → numbers_in v 1 ≡ numbers_in w 1
  client-same h = same_numbers w v 1 (still 1 (omega arith) h)

  left-same : eqb 2 k ≡ false → differences_in v 2 ≡ differences_in w 2
  left-same h = same-differences w v 2 (still 2 (omega arith) h)

  right-same : eqb 3 k ≡ false → differences_in v 3 ≡ differences_in w 3
  right-same h = same-differences w v 3 (still 3 (omega arith) h)

  info-same : eqb 4 k ≡ false → bytes_in v 4 ≡ bytes_in w 4
  info-same h = same_bytes w v 4 (still 4 (omega arith) h)

  text_same : eqb 5 k ≡ false → texts_in v 5 ≡ texts_in w 5
  text_same h = same-texts w v 5 (still 5 (omega arith) h)

  parent-same : eqb 6 k ≡ false → bytes_in v 6 ≡ bytes_in w 6
  parent-same h = same_bytes w v 6 (still 6 (omega arith) h)

  types_same : eqb 7 k ≡ false → numbers_in v 7 ≡ numbers_in w 7
  types_same h = same_numbers w v 7 (still 7 (omega arith) h)

  len-same : eqb 8 k ≡ false → numbers_in v 8 ≡ numbers_in w 8
  len-same h = same_numbers w v 8 (still 8 (omega arith) h)

module _ (w v : List ℕ) where
  pub state-key : Elsewhere 0 w v → state_in v ≡ key_moved (differences_in v 0) (state_in w)
  unfolding state_in
  state-key e = rw (e.at, client-same w v 0 e.same refl, left-same w v 0 e.same refl, right-same w v 0 e.same refl, info-same w v 0 e.same refl, text_same w v 0 e.same refl, parent-same w v 0 e.same refl, types_same w v 0 e.same refl, len-same w v 0 e.same refl, keys-same w v e.keys) refl

  pub state-client : Elsewhere 1 w v → state_in v ≡ client_moved (numbers_in v 1) (state_in w)
  unfolding state_in
  state-client e = rw (e.at, key-same w v 1 e.same refl, left-same w v 1 e.same refl, right-same w v 1 e.same refl, info-same w v 1 e.same refl, text_same w v 1 e.same refl, parent-same w v 1 e.same refl, types_same w v 1 e.same refl, len-same w v 1 e.same refl, keys-same w v e.keys) refl

  pub state-left : Elsewhere 2 w v → state_in v ≡ left_moved (differences_in v 2) (state_in w)
  unfolding state_in
  state-left e = rw (e.at, key-same w v 2 e.same refl, client-same w v 2 e.same refl, right-same w v 2 e.same refl, info-same w v 2 e.same refl, text_same w v 2 e.same refl, parent-same w v 2 e.same refl, types_same w v 2 e.same refl, len-same w v 2 e.same refl, keys-same w v e.keys) refl

  pub state-right : Elsewhere 3 w v → state_in v ≡ right_moved (differences_in v 3) (state_in w)
  unfolding state_in
  state-right e = rw (e.at, key-same w v 3 e.same refl, client-same w v 3 e.same refl, left-same w v 3 e.same refl, info-same w v 3 e.same refl, text_same w v 3 e.same refl, parent-same w v 3 e.same refl, types_same w v 3 e.same refl, len-same w v 3 e.same refl, keys-same w v e.keys) refl

  pub state-info : Elsewhere 4 w v → state_in v ≡ info_moved (bytes_in v 4) (state_in w)
  unfolding state_in
  state-info e = rw (e.at, key-same w v 4 e.same refl, client-same w v 4 e.same refl, left-same w v 4 e.same refl, right-same w v 4 e.same refl, text_same w v 4 e.same refl, parent-same w v 4 e.same refl, types_same w v 4 e.same refl, len-same w v 4 e.same refl, keys-same w v e.keys) refl

  pub state-text : Elsewhere 5 w v → state_in v ≡ text_moved (texts_in v 5) (state_in w)
  unfolding state_in
  state-text e = rw (e.at, key-same w v 5 e.same refl, client-same w v 5 e.same refl, left-same w v 5 e.same refl, right-same w v 5 e.same refl, info-same w v 5 e.same refl, parent-same w v 5 e.same refl, types_same w v 5 e.same refl, len-same w v 5 e.same refl, keys-same w v e.keys) refl

  pub state-parent : Elsewhere 6 w v → state_in v ≡ parent_moved (bytes_in v 6) (state_in w)
  unfolding state_in
  state-parent e = rw (e.at, key-same w v 6 e.same refl, client-same w v 6 e.same refl, left-same w v 6 e.same refl, right-same w v 6 e.same refl, info-same w v 6 e.same refl, text_same w v 6 e.same refl, types_same w v 6 e.same refl, len-same w v 6 e.same refl, keys-same w v e.keys) refl

  pub state-types : Elsewhere 7 w v → state_in v ≡ types_moved (numbers_in v 7) (state_in w)
  unfolding state_in
  state-types e = rw (e.at, key-same w v 7 e.same refl, client-same w v 7 e.same refl, left-same w v 7 e.same refl, right-same w v 7 e.same refl, info-same w v 7 e.same refl, text_same w v 7 e.same refl, parent-same w v 7 e.same refl, len-same w v 7 e.same refl, keys-same w v e.keys) refl

  pub state-len : Elsewhere 8 w v → state_in v ≡ len_moved (numbers_in v 8) (state_in w)
  unfolding state_in
  state-len e = rw (e.at, key-same w v 8 e.same refl, client-same w v 8 e.same refl, left-same w v 8 e.same refl, right-same w v 8 e.same refl, info-same w v 8 e.same refl, text_same w v 8 e.same refl, parent-same w v 8 e.same refl, types_same w v 8 e.same refl, keys-same w v e.keys) refl

  pub state-same : Elsewhere 9 w v → state_in v ≡ state_in w
  unfolding state_in
  state-same e = rw (e.at, key-same w v 9 e.same refl, client-same w v 9 e.same refl, left-same w v 9 e.same refl, right-same w v 9 e.same refl, info-same w v 9 e.same refl, text_same w v 9 e.same refl, parent-same w v 9 e.same refl, types_same w v 9 e.same refl, len-same w v 9 e.same refl, keys-same w v e.keys) refl

-- ---- the place in line

module _ (w : List ℕ) (s : Small w) (e : ℕ) where
  pub at_moved : at_in (set w 63 e) ≡ e
  unfolding at_in
  at_moved = get_or-set_same w 63 e 0 (omega (arith, s.size))

  cell-moved : (j i : ℕ) → j ≤ 8 → i < 7 → cell (set w 63 e) j i ≡ cell w j i
  unfolding cell
  cell-moved j i few l = get_or-set_other w 63 (7 * j + i) e 0 (λ q. omega arith)

  keys-moved : (i : ℕ) → 67 ≤ i → get_or (set w 63 e) i 0 ≡ get_or w i 0
  keys-moved i l = get_or-set_other w 63 i e 0 (λ q. omega arith)

  pub state-at : state_in (set w 63 e) ≡ moved_to (state_in w) e
  unfolding state_in
  state-at =
      let same : (j i : ℕ) → j ≤ 8 → j ≢ 9 → i < 7 → cell (set w 63 e) j i ≡ cell w j i = λ j i few h l. cell-moved j i few l in
      rw (at_moved, key-same w (set w 63 e) 9 same refl, client-same w (set w 63 e) 9 same refl, left-same w (set w 63 e) 9 same refl, right-same w (set w 63 e) 9 same refl, info-same w (set w 63 e) 9 same refl, text_same w (set w 63 e) 9 same refl, parent-same w (set w 63 e) 9 same refl, types_same w (set w 63 e) 9 same refl, len-same w (set w 63 e) 9 same refl, keys-same w (set w 63 e) keys-moved) refl

  count-moved : key_count (set w 63 e) ≡ key_count w
  unfolding key_count
  count-moved = keys-moved 67 (omega arith)

  pub small_at : Small (set w 63 e)
  small_at = record {
    size = rw (length-set w 63 e) s.size;
    room = room-same w (set w 63 e) (λ i m. cell-moved 0 i (omega arith) m) (length-set w 63 e) s;
    keys = rw count-moved s.keys;
    key = record { last = rw (cell-moved 0 2 (omega arith) (omega arith)) s.key.last; key = rw (cell-moved 0 5 (omega arith) (omega arith)) s.key.key };
    left = record { last = rw (cell-moved 2 2 (omega arith) (omega arith)) s.left.last; key = rw (cell-moved 2 5 (omega arith) (omega arith)) s.left.key };
    right = record { last = rw (cell-moved 3 2 (omega arith) (omega arith)) s.right.last; key = rw (cell-moved 3 5 (omega arith) (omega arith)) s.right.key };
    why = rw (get_or-set_other w 63 65 e 0 (λ q. omega arith)) s.why;
  }

-- the place blamed
module _ (w : List ℕ) (s : Small w) (p : ℕ) where
  pub place-moved : place_in (set w 64 p) ≡ p
  unfolding place_in
  place-moved = get_or-set_same w 64 p 0 (omega (arith, s.size))

-- ---- the keys

-- all words before those of keys are as before
module _ (w v : List ℕ) (below : (i : ℕ) → i < 67 → get_or v i 0 ≡ get_or w i 0) where
  cell_below : (j i : ℕ) → j ≤ 8 → i < 7 → cell v j i ≡ cell w j i
  unfolding cell
  cell_below j i few l = below (7 * j + i) (omega arith)

  at-below : at_in v ≡ at_in w
  unfolding at_in
  at-below = below 63 (omega arith)

  pub state-keys : state_in v ≡ with_keys (keys_in v) (state_in w)
  unfolding state_in
  state-keys =
      let same : (j i : ℕ) → j ≤ 8 → j ≢ 9 → i < 7 → cell v j i ≡ cell w j i = λ j i few h l. cell_below j i few l in
      rw (at-below, key-same w v 9 same refl, client-same w v 9 same refl, left-same w v 9 same refl, right-same w v 9 same refl, info-same w v 9 same refl, text_same w v 9 same refl, parent-same w v 9 same refl, types_same w v 9 same refl, len-same w v 9 same refl) refl

  short-below : (k : ℕ) → k ≤ 8 → Short w k → Short v k
  short-below k few s = record { last = rw (cell_below k 2 few (omega arith)) s.last; key = rw (cell_below k 5 few (omega arith)) s.key }

  pub small-keys : Small w → length v ≡ length w → key_count v ≤ max_keys → Small v
  small-keys s l few = record {
    size = rw l s.size;
    room = room-same w v (λ i m. cell_below 0 i (omega arith) m) l s;
    keys = few;
    key = short-below 0 (omega arith) s.key;
    left = short-below 2 (omega arith) s.left;
    right = short-below 3 (omega arith) s.right;
    why = rw (below 65 (omega arith)) s.why;
  }

-- no key
module _ (w : List ℕ) (s : Small w) where
  unkeyed-below : (i : ℕ) → i < 67 → get_or (set w 67 0) i 0 ≡ get_or w i 0
  unkeyed-below i l = get_or-set_other w 67 i 0 0 (λ q. omega arith)

  unkeyed-count : key_count (set w 67 0) ≡ 0
  unfolding key_count
  unkeyed-count = get_or-set_same w 67 0 0 (omega (arith, s.size))

  pub state-unkeyed : state_in (set w 67 0) ≡ with_keys [] (state_in w)
  state-unkeyed = state-keys w (set w 67 0) unkeyed-below ∙ ap (λ ps. with_keys ps (state_in w)) (keys_none (set w 67 0) unkeyed-count)

  pub small-unkeyed : Small (set w 67 0)
  small-unkeyed = small-keys w (set w 67 0) unkeyed-below s (length-set w 67 0) (rw unkeyed-count (omega arith))

-- a key more
module _ (w : List ℕ) (s : Small w) (wide : 580 ≤ length w) (n : ℕ) (e : n ≡ key_count w) (few : n < max_keys) (place bytes : ℕ) where
  pub state-joined : state_in (joined w s wide n e few place bytes) ≡ with_keys (keys_in w ++ (record { place = place; bytes = record { 0 = bytes } } ∷ [])) (state_in w)
  state-joined =
      state-keys w (joined w s wide n e few place bytes) (joined-below w s wide n e few place bytes)
      ∙ ap (λ ps. with_keys ps (state_in w)) (keys-joined w s wide n e few place bytes)

  pub small-joined : Small (joined w s wide n e few place bytes)
  small-joined =
      small-keys w (joined w s wide n e few place bytes) (joined-below w s wide n e few place bytes) s (joined-size w s wide n e few place bytes)
      (rw (joined-count w s wide n e few place bytes) (omega arith))

-- ---- two words of a row

pub beside_none : (k : ℕ) (r : List ℕ) → Beside k r r
beside_none k r = sym (ap (λ (q : List ℕ). set q (k + 1) (get_or r (k + 1) 0)) (set-get_or r k 0) ∙ set-get_or r (k + 1) 0)

module _ (k a b : ℕ) (r : List ℕ) (l : k + 1 < length r) where
  pub row_first : get_or (set (set r k a) (k + 1) b) k 0 ≡ a
  row_first = get_or-set_other (set r k a) (k + 1) k b 0 (λ q. omega arith) ∙ get_or-set_same r k a 0 (omega arith)

  pub row-second : get_or (set (set r k a) (k + 1) b) (k + 1) 0 ≡ b
  row-second = get_or-set_same (set r k a) (k + 1) b 0 (omega (arith, length-set r k a))

  pub beside-put : Beside k r (set (set r k a) (k + 1) b)
  beside-put = rw (row_first, row-second) refl

-- ---- an answer of one column, as one of the state that it is put into

unfoldable pub mapped : {S T X : Type 0} → (S → T) → course.Drawn S X → course.Drawn T X
mapped f (course.got x s) = course.got x (f s)
mapped f (course.not why) = course.not why

module _ {S : Type 0} (to : ℕ) where
  number-mapped : (f : Numbers → S) (a : number-answer.Answer) → mapped f (number_drawn (λ c. c) to a) ≡ number_drawn f to a
  unfolding mapped number_drawn
  number-mapped f (number.Next v c) = refl
  number-mapped f (number.Bad why) = refl

  difference-mapped : (f : Differences → S) (a : difference-answer.Answer) → mapped f (difference_drawn (λ c. c) to a) ≡ difference_drawn f to a
  unfolding mapped difference_drawn
  difference-mapped f (difference.Next v c) = refl
  difference-mapped f (difference.Bad why) = refl

  byte-mapped : (f : Octets → S) (a : byte-answer.Answer) → mapped f (byte_drawn (λ c. c) to a) ≡ byte_drawn f to a
  unfolding mapped byte_drawn
  byte-mapped f (byte.Next v c) = refl
  byte-mapped f (byte.Bad why) = refl

  pub text-mapped : (f : Texts → S) (a : string-answer.Answer) → mapped f (text_drawn (λ c. c) to a) ≡ text_drawn f to a
  unfolding mapped text_drawn
  text-mapped f (string.Next p c) = refl
  text-mapped f (string.Bad why) = refl

-- what a column gave is what the state gives, where the column is all that changed in it
module _ (u w v : List ℕ) (k : ℕ) (r : Option ℕ) where
  pub number-onto : (f : Numbers → State) → state_in v ≡ f (numbers_in v k) → NumberDrawn u k w v r → given v r ≡ from_numbers u (numbers_in w k) f
  unfolding mapped given numbers_given
  number-onto f e p = go r ∙ ap (mapped f) p.2 ∙ number-mapped (numbers_in w k).to f (next_number (take (numbers_in w k).to u) (numbers_in w k).place)
    where
      go : (r : Option ℕ) → given v r ≡ mapped f (numbers_given v k r)
      go (Some x) = ap (course.got (x, place_in v)) e
      go None = refl

  pub difference-onto : (f : Differences → State) → state_in v ≡ f (differences_in v k) → DifferenceDrawn u k w v r → given v r ≡ from_differences u (differences_in w k) f
  unfolding mapped given differences_given
  difference-onto f e p = go r ∙ ap (mapped f) p.2 ∙ difference-mapped (differences_in w k).to f (next_difference (take (differences_in w k).to u) (differences_in w k).place)
    where
      go : (r : Option ℕ) → given v r ≡ mapped f (differences_given v k r)
      go (Some x) = ap (course.got (x, place_in v)) e
      go None = refl

  pub byte-onto : (f : Octets → State) → state_in v ≡ f (bytes_in v k) → ByteDrawn u k w v r → given v r ≡ from_bytes u (bytes_in w k) f
  unfolding mapped given bytes_given
  byte-onto f e p = go r ∙ ap (mapped f) p.2 ∙ byte-mapped (bytes_in w k).to f (next_byte (take (bytes_in w k).to u) (bytes_in w k).place)
    where
      go : (r : Option ℕ) → given v r ≡ mapped f (bytes_given v k r)
      go (Some x) = ap (course.got (x, place_in v)) e
      go None = refl
