-- A value of a run is one of the run's values, in whatever order fields are drawn once the columns stand at their starts.
use Prim.Native.Nat.{ℕ, ◌+◌, ◌-◌, ◌<◌}
use mathlib.Core.Path.{◌≡◌, refl, ap}
use mathlib.Core.List.{List, [], ◌∷◌, ◌++◌}
use mathlib.Core.Bool.{Bool, true, false}
use native.Mathlib.Omega.{arith}
use lib.Dec.{ltb}
use lib.ListN.{length, get_or, take}
use lib.Seq.{slice}
use borrow.Author.Tests.{le-ltb}
use Rattle.numbers.specs.declared.Refusal.{Refusal}
use Rattle.numbers.specs.declared.Read.{Read}
use Rattle.numbers.specs.declared.Read.TheVariants as read
use Rattle.numbers.specs.Number.{pick, read_unsigned}
use Rattle.numbers.specs.Limits.{max_clock}
use Rattle.text.specs.declared.Part.{Part}
use Rattle.text.specs.declared.Units.{Units}
use Rattle.text.specs.Utf8.{well_formed}
use Rattle.block.specs.Row.{no_part}
use Rattle.columns.specs.declared.number.Place as number-place
use Rattle.columns.specs.declared.number.Answer as number-answer
use Rattle.columns.specs.declared.number.Answer.TheVariants as number
use Rattle.columns.specs.declared.difference.Place as difference-place
use Rattle.columns.specs.declared.difference.Answer as difference-answer
use Rattle.columns.specs.declared.difference.Answer.TheVariants as difference
use Rattle.columns.specs.declared.byte.Place as byte-place
use Rattle.columns.specs.declared.byte.Answer as byte-answer
use Rattle.columns.specs.declared.byte.Answer.TheVariants as byte
use Rattle.columns.specs.Number.{start_at, next_number}
use Rattle.columns.specs.Difference.{next_difference}
use Rattle.columns.specs.Byte.{next_byte}
use Rattle.string.specs.declared.Answer as string-answer
use Rattle.string.specs.declared.Answer.TheVariants as string
use Rattle.string.specs.declared.Opened as string-opened
use Rattle.string.specs.declared.Opened.TheVariants as opened-as
use Rattle.string.specs.String.{place_at, opened, open_text, next_text}
use Rattle.grammar.specs.Grammar as grammar
use Rattle.grammar.specs.Grammar.{Number, Field}
use Rattle.grammar.specs.Course.{Drawn, got, not, CourseTo, thing, over, stopped, run}
use Rattle.decoder.specs.Line.{line}
use Rattle.decoder.specs.States.{max_keys, Numbers, Differences, Octets, Texts, State, moved_to, key_moved, client_moved, left_moved, right_moved, info_moved, text_moved, parent_moved, types_moved, len_moved, with_keys}
use Rattle.decoder.specs.Columned.{number_drawn, from_numbers, difference_drawn, from_differences, byte_drawn, from_bytes, text_drawn, text_in, onto, joining, key_by_number, key_in, number_in, columned}
use Rattle.decoder.specs.Opening.{heads, standing, with_opened, text_opened, on_heads, opened_of}
use Rattle.roles.specs.Roles.{key_text}
use Rattle.origins.specs.declared.Line.{Line}
use Rattle.origins.specs.Origins.{line_stand, in_run, endless, byte_times, number_stand, difference_stand, byte_stand, text_stand, stand_in, stored_line, text_line, key_line, key_lines, number_line, lines_in}
use Rattle.origin_facts.specs.Facts.{All, On, Numbered, NumbersWithin, DifferencesWithin, BytesWithin, TextsWithin, Within}
use Rattle.origin_facts.proofs.Draws.{on-got, on-onto, on-bounded}
use Rattle.origin_facts.proofs.Runs.{LeavesNumber, next-number, LeavesText, next-text, LeavesDifference, next-difference, LeavesByte, next-byte}

-- ---- which value it is

pub numbered-in-line : (from to : ℕ) → Numbered (line_stand from to)
unfolding Numbered line_stand
numbered-in-line from to = λ e. absurd (omega (arith, e))

numbered-in-run : (from to n left : ℕ) → left < n → Numbered (in_run from to n left)
unfolding Numbered in_run
numbered-in-run from to n left h = λ e. (omega arith, omega arith)

numbered-endless : (from to : ℕ) → Numbered (endless from to)
unfolding Numbered endless
numbered-endless from to = λ e. absurd (omega (arith, e))

-- ---- a draw from a column

module _ {S : Type 0} (u : List ℕ) where
  on-number : (P : ℕ × ℕ → S → Type 0) (put : Numbers → S) (c : Numbers) → NumbersWithin u c
      → ((v : ℕ) (d : number-place.Place) → let n : Numbers = record { place = d; to = c.to } in NumbersWithin u n → Numbered (number_stand u n) → P (v, d.from) (put n))
      → On P (from_numbers u c put)
  unfolding On number_drawn LeavesNumber number_stand
  on-number P put c few h = go (next_number (take c.to u) c.place) (next-number (take c.to u) c.place few)
    where
      go : (a : number-answer.Answer) → LeavesNumber (take c.to u) a → On P (number_drawn put c.to a)
      go (number.Next v d) q = h v d (omega arith) (numbered-in-run _ _ _ _ q)
      go (number.Bad why) q = tt

  on-difference : (P : ℕ × ℕ → S → Type 0) (put : Differences → S) (c : Differences) → DifferencesWithin u c
      → ((v : ℕ) (d : difference-place.Place) → let n : Differences = record { place = d; to = c.to } in DifferencesWithin u n → Numbered (difference_stand u n) → P (v, d.from) (put n))
      → On P (from_differences u c put)
  unfolding On difference_drawn LeavesDifference difference_stand
  on-difference P put c few h = go (next_difference (take c.to u) c.place) (next-difference (take c.to u) c.place few)
    where
      go : (a : difference-answer.Answer) → LeavesDifference (take c.to u) a → On P (difference_drawn put c.to a)
      go (difference.Next v d) q = h v d (omega arith) (numbered-in-run _ _ _ _ q)
      go (difference.Bad why) q = tt

  on-byte : (P : ℕ × ℕ → S → Type 0) (put : Octets → S) (c : Octets) → BytesWithin u c
      → ((v : ℕ) (d : byte-place.Place) → let n : Octets = record { place = d; to = c.to } in BytesWithin u n → Numbered (byte_stand u n) → P (v, d.from) (put n))
      → On P (from_bytes u c put)
  unfolding On byte_drawn LeavesByte byte_stand
  on-byte P put c few h = go (next_byte (take c.to u) c.place) (next-byte (take c.to u) c.place few)
    where
      stands : (d : byte-place.Place) → (d.endless ≡ false → d.count < byte_times (take c.to u) d.from) → (b : Bool) → d.endless ≡ b
          → Numbered (pick b (endless d.from d.at) (in_run d.from d.at (byte_times (take c.to u) d.from) d.count))
      stands d q true e = numbered-endless _ _
      stands d q false e = numbered-in-run _ _ _ _ (q e)

      go : (a : byte-answer.Answer) → LeavesByte (take c.to u) a → On P (byte_drawn put c.to a)
      go (byte.Next v d) q = h v d (λ e. let l = q e in omega (arith, l)) (stands d q d.endless refl)
      go (byte.Bad why) q = tt

-- a text, of which something is made
module _ (u : List ℕ) (t : State) (h : Within u t) where
  with-text : (c : Texts) → TextsWithin u c → Within u (text_moved c t)
  with-text c q = record { key = h.key; client = h.client; left = h.left; right = h.right; info = h.info; text = q; parent = h.parent; types = h.types; len = h.len }

  on-text : {X : Type 0} (P : X → State → Type 0) (make : Drawn State (Part × Units) → Drawn State X)
      → ((p : Part) (n : Units) (c : Texts) → TextsWithin u c → Numbered (text_stand u c) → On P (make (got (p, n) (text_moved c t))))
      → ((why : Refusal) → On P (make (not why)))
      → On P (make (text_in u t))
  unfolding text_drawn LeavesText text_stand number_stand
  on-text P make g n = go (next_text (take t.text.to u) t.text.place) (next-text (take t.text.to u) t.text.place h.text)
    where
      go : (a : string-answer.Answer) → LeavesText (take t.text.to u) a → On P (make (text_drawn (λ c. text_moved c t) t.text.to a))
      go (string.Next p c) q = g p _ (record { place = c; to = t.text.to }) (omega arith) (numbered-in-run _ _ _ _ q)
      go (string.Bad why) q = n why

-- ---- every draw

module _ (u : List ℕ) (code : ℕ) (s : State) (h : Within u s) where
  abbrev Fine : (f : Field) → grammar.Answer f → State → Type 0
  Fine f a t = Within u t × All (λ (l : Line). Numbered l.stand) (lines_in u code f a s t)

  moved : (e : ℕ) → Within u (moved_to s e)
  moved e = record { key = h.key; client = h.client; left = h.left; right = h.right; info = h.info; text = h.text; parent = h.parent; types = h.types; len = h.len }

  in-line : (f : Field) (d : Drawn ℕ (grammar.Answer f)) → ((a : grammar.Answer f) (e : ℕ) → All (λ (l : Line). Numbered l.stand) (lines_in u code f a s (moved_to s e))) → On (Fine f) (onto s d)
  in-line f d g = on-onto (Fine f) s d (λ a e. (moved e, g a e))

  number-fine : (n : Number) → On (Fine (grammar.number n)) (number_in u n s)
  unfolding lines_in number_line stand_in number_in
  number-fine grammar.client =
      on-number u (Fine (grammar.number grammar.client)) (λ c. client_moved c s) s.client h.client
      (λ v d q r. (record { key = h.key; client = q; left = h.left; right = h.right; info = h.info; text = h.text; parent = h.parent; types = h.types; len = h.len }, (r, tt)))
  number-fine grammar.left_clock =
      on-difference u (Fine (grammar.number grammar.left_clock)) (λ c. left_moved c s) s.left h.left
      (λ v d q r. (record { key = h.key; client = h.client; left = q; right = h.right; info = h.info; text = h.text; parent = h.parent; types = h.types; len = h.len }, (r, tt)))
  number-fine grammar.right_clock =
      on-difference u (Fine (grammar.number grammar.right_clock)) (λ c. right_moved c s) s.right h.right
      (λ v d q r. (record { key = h.key; client = h.client; left = h.left; right = q; info = h.info; text = h.text; parent = h.parent; types = h.types; len = h.len }, (r, tt)))
  number-fine grammar.info =
      on-byte u (Fine (grammar.number grammar.info)) (λ c. info_moved c s) s.info h.info
      (λ v d q r. (record { key = h.key; client = h.client; left = h.left; right = h.right; info = q; text = h.text; parent = h.parent; types = h.types; len = h.len }, (r, tt)))
  number-fine grammar.parent_info =
      on-byte u (Fine (grammar.number grammar.parent_info)) (λ c. parent_moved c s) s.parent h.parent
      (λ v d q r. (record { key = h.key; client = h.client; left = h.left; right = h.right; info = h.info; text = h.text; parent = q; types = h.types; len = h.len }, (r, tt)))
  number-fine grammar.len =
      on-bounded (Fine (grammar.number grammar.len)) max_clock (from_numbers u s.len (λ c. len_moved c s))
      (on-number u (Fine (grammar.number grammar.len)) (λ c. len_moved c s) s.len h.len
      (λ v d q r. (record { key = h.key; client = h.client; left = h.left; right = h.right; info = h.info; text = h.text; parent = h.parent; types = h.types; len = q }, (r, tt))))
  number-fine grammar.type_number =
      on-number u (Fine (grammar.number grammar.type_number)) (λ c. types_moved c s) s.types h.types
      (λ v d q r. (record { key = h.key; client = h.client; left = h.left; right = h.right; info = h.info; text = h.text; parent = h.parent; types = q; len = h.len }, (r, tt)))
  number-fine grammar.byte = in-line (grammar.number grammar.byte) (line 2 u (grammar.number grammar.byte) s.at) (λ a e. (numbered-in-line s.at e, tt))
  number-fine (grammar.up_to most) =
      in-line (grammar.number (grammar.up_to most)) (line 2 u (grammar.number (grammar.up_to most)) s.at) (λ a e. (numbered-in-line s.at e, tt))
  number-fine grammar.any = in-line (grammar.number grammar.any) (line 2 u (grammar.number grammar.any) s.at) (λ a e. (numbered-in-line s.at e, tt))
  number-fine (grammar.delete_clock end) =
      in-line (grammar.number (grammar.delete_clock end)) (line 2 u (grammar.number (grammar.delete_clock end)) s.at) (λ a e. (numbered-in-line s.at e, tt))
  number-fine grammar.delete_len = in-line (grammar.number grammar.delete_len) (line 2 u (grammar.number grammar.delete_len) s.at) (λ a e. (numbered-in-line s.at e, tt))

  text-fine : On (Fine grammar.text) (text_in u s)
  unfolding On lines_in text_line
  text-fine = on-text u s h (Fine grammar.text) (λ d. d) (λ p n c q r. (with-text u s h c q, (r, tt))) (λ why. tt)

  -- a key's number, and its text where it is a new one
  module _ (p : Part) (t : State) (a : Numbered (difference_stand u t.key)) where
    abbrev Told : Type 0
    Told = All (λ (l : Line). Numbered l.stand) (key_lines u code p s.key.place.last (length s.keys) t)

    known-told : t.keys ≡ s.keys → Told
    unfolding key_lines key_line
    known-told e = (a, rw (ap length e, le-ltb (length s.keys) (length s.keys) (omega arith)) tt)

    new_told : Numbered (text_stand u t.text) → Told
    unfolding key_lines key_line text_line
    new_told b = (a, go (ltb (length s.keys) (length t.keys)))
      where
        go : (x : Bool) → All (λ (l : Line). Numbered l.stand) (pick x (text_line u key_text p t ∷ []) [])
        go true = (b, tt)
        go false = tt

  keys-within : (ks : List Part) (t : State) → Within u t → Within u (with_keys ks t)
  keys-within ks t w = record { key = w.key; client = w.client; left = w.left; right = w.right; info = w.info; text = w.text; parent = w.parent; types = w.types; len = w.len }

  key-fine : On (Fine grammar.key) (key_in u s)
  unfolding key_in difference_drawn key_by_number On LeavesDifference lines_in difference_stand joining
  key-fine = go (next_difference (take s.key.to u) s.key.place) (next-difference (take s.key.to u) s.key.place h.key)
    where
      told : (v : ℕ) (t : State) (place : ℕ) → Within u t → Numbered (difference_stand u t.key) → t.keys ≡ s.keys → (b o : Bool)
          → On (Fine grammar.key) (pick b (got (get_or t.keys v no_part) t) (pick o (joining (text_in u t)) (not (record { number = 3; place = place }))))
      told v t place w a e true o = (w, known-told _ t a e)
      told v t place w a e false true =
          on-text u t w (Fine grammar.key) joining
          (λ p n c q r. (keys-within (t.keys ++ (p ∷ [])) (text_moved c t) (with-text u t w c q), new_told p (with_keys (t.keys ++ (p ∷ [])) (text_moved c t)) a r))
          (λ why. tt)
      told v t place w a e false false = tt

      go : (a : difference-answer.Answer) → LeavesDifference (take s.key.to u) a → On (Fine grammar.key) (key_by_number u (difference_drawn (λ c. key_moved c s) s.key.to a))
      go (difference.Next v d) q =
          told v (key_moved (record { place = d; to = s.key.to }) s) d.from
          (record { key = omega arith; client = h.client; left = h.left; right = h.right; info = h.info; text = h.text; parent = h.parent; types = h.types; len = h.len })
          (numbered-in-run _ _ _ _ q) refl (ltb v (length s.keys)) (ltb (length s.keys) max_keys)
      go (difference.Bad why) q = tt

  every-fine : (f : Field) → On (Fine f) (columned u f s)
  unfolding columned lines_in stored_line
  every-fine (grammar.number n) = number-fine n
  every-fine grammar.text = text-fine
  every-fine grammar.bytes = in-line grammar.bytes (line 2 u grammar.bytes s.at) (λ p e. (numbered-in-line s.at p.place, tt))
  every-fine grammar.key = key-fine
  every-fine (grammar.value blame) = in-line (grammar.value blame) (line 2 u (grammar.value blame) s.at) (λ p e. (numbered-in-line s.at p.place, tt))
  every-fine (grammar.values blame n) = in-line (grammar.values blame n) (line 2 u (grammar.values blame n) s.at) (λ p e. (numbered-in-line s.at p.place, tt))

  pub which-of : (f : Field) (a : grammar.Answer f) (t : State) → columned u f s ≡ got a t → Within u t × All (λ (l : Line). Numbered l.stand) (lines_in u code f a s t)
  which-of f a t e = on-got (Fine f) (columned u f s) a t (every-fine f) e

-- ---- columns at their starts

module _ (u : List ℕ) where
  standing-within : (ps : List Part) (at : ℕ) → Within u (standing ps at)
  standing-within ps at = record {
    key = omega arith;
    client = omega arith;
    left = omega arith;
    right = omega arith;
    info = λ e. omega arith;
    text = omega arith;
    parent = λ e. omega arith;
    types = omega arith;
    len = omega arith;
  }

  unfoldable Starts : string-opened.Opened → Type 0
  Starts (opened-as.At c) = c.units.count ≡ 0
  Starts (opened-as.Not why) = Unit {0}

  text-starts : (s : List ℕ) (at : ℕ) → Starts (open_text s at)
  unfolding Starts open_text opened
  text-starts s at = go (read_unsigned s at)
    where
      go : (r : Read) → Starts (opened s r)
      go (read.Refused why) = tt
      go (read.Number n e) = tested (ltb (length s - e) n) (well_formed (slice e (e + n) s))
        where
          tested : (b o : Bool) → Starts (pick b (opened-as.Not (record { number = 1; place = length s })) (pick o (opened-as.At (place_at e (e + n) (start_at (e + n)))) (opened-as.Not (record { number = 6; place = e }))))
          tested true o = tt
          tested false true = refl
          tested false false = tt

  opened-text : (s : State) → Within u s → (x : string-opened.Opened) → Starts x → On (λ (a : Unit {0}) (t : State). Within u t) (with_opened s x)
  unfolding On with_opened Starts
  opened-text s h (opened-as.At c) q = with-text u s h (record { place = c; to = s.text.to }) (omega (arith, q))
  opened-text s h (opened-as.Not why) q = tt

  heads-within : (r : CourseTo ℕ (Unit {0}) (List Part)) → On (λ (a : Unit {0}) (t : State). Within u t) (on_heads u r)
  unfolding On on_heads text_opened
  heads-within (thing e p c) = heads-within c
  heads-within (over ps at) = let s = standing ps at in opened-text s (standing-within ps at) _ (text-starts (take s.text.to u) s.text.place.units.at)
  heads-within (stopped why) = tt

  pub opened-within : On (λ (a : Unit {0}) (t : State). Within u t) (opened_of u)
  unfolding opened_of
  opened-within = heads-within (run (line 2 u) heads 0)
