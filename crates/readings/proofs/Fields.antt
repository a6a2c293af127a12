-- The answers of either form are good: numbers within their limits, bytes inside the update, texts and keys whole characters, texts of so many units,
-- and values that end where their bytes end.
use Prim.Native.Nat.{ℕ, zero, suc, ◌+◌, ◌-◌, ◌≤◌, ◌<◌}
use mathlib.Core.Path.{◌≡◌, refl, sym, ap, subst, ◌∙◌}
use mathlib.Core.Bool.{Bool, true, false}
use mathlib.Core.List.{List}
use native.Mathlib.Omega.{arith}
use lib.Dec.{ltb, eqb}
use lib.ListN.{length, take}
use lib.Seq.{slice}
use borrow.Author.Tests.{ltb-true, ltb-false}
use Rattle.numbers.specs.declared.Read.{Read}
use Rattle.numbers.specs.declared.Read.TheVariants as read
use Rattle.numbers.specs.Number.{pick, read_unsigned}
use Rattle.numbers.specs.Limits.{max_value, max_clock}
use Rattle.text.specs.declared.Part.{Part}
use Rattle.text.specs.declared.Units.{Units}
use Rattle.text.specs.Utf8.{well_formed}
use Rattle.anys.specs.declared.Skipped.{Skipped}
use Rattle.anys.specs.declared.Skipped.TheVariants.{At, Refused}
use Rattle.anys.specs.Any.{anys}
use Rattle.anys.proofs.Places.{Ends}
use Rattle.anys.proofs.Laws.{anys-none, anys-ends}
use Rattle.anys.proofs.Moves.{anys-blind}
use Rattle.block.specs.Row.{no_part}
use Rattle.columns.specs.declared.number.Answer as number-answer
use Rattle.columns.specs.declared.number.Answer.TheVariants as number
use Rattle.columns.specs.declared.difference.Answer as difference-answer
use Rattle.columns.specs.declared.difference.Answer.TheVariants as difference
use Rattle.columns.specs.declared.byte.Answer as byte-answer
use Rattle.columns.specs.declared.byte.Answer.TheVariants as byte
use Rattle.string.specs.declared.Answer as string-answer
use Rattle.string.specs.declared.Answer.TheVariants as string
use Rattle.string.specs.declared.Opened as string-opened
use Rattle.string.specs.declared.Opened.TheVariants as opened
use Rattle.columns.specs.Number.{next_number}
use Rattle.columns.specs.Difference.{next_difference}
use Rattle.columns.specs.Byte.{next_byte}
use Rattle.string.specs.String.{open_text, next_text}
use Rattle.string.proofs.Texts.{read-ends}
use Rattle.grammar.specs.Grammar as grammar
use Rattle.grammar.specs.Grammar.{Number, Field, Answer}
use Rattle.grammar.specs.Course.{Drawn, got, not, CourseTo, thing, over, stopped, run}
use Rattle.decoder.specs.Line.{bounded, up_to, var_at, number_by, so_many, bytes_at, checked, word_of, spanned, values_at, line}
use Rattle.decoder.specs.States.{max_keys, Numbers, Differences, Octets, State, text_moved}
use Rattle.decoder.specs.Columned.{number_drawn, from_numbers, difference_drawn, from_differences, byte_drawn, from_bytes, text_drawn, onto, number_in, text_in, joining, key_by_number, key_in, columned}
use Rattle.decoder.specs.Opening.{heads, with_opened, text_opened, on_heads, opened_of}
use Rattle.readings.specs.Sound.{bytes_in, All}
use Rattle.readings.specs.SoundInner.{Lies, AreValues}
use Rattle.readings.proofs.Groups.{all-at, all_more}
use Rattle.readings.proofs.Walks.{Gives, Faithful}
use Rattle.readings.proofs.Columns.{clash, chosen, ValueHeld, number-held, Clock, clock-held, Within, Opens, WholeText, TextHeld, text-opens, text-held, whole_of}

-- ---- good answers

unfoldable pub GoodNumber : Number → ℕ → Type 0
GoodNumber (grammar.up_to most) v = v ≤ most
GoodNumber grammar.client v = v ≤ max_value
GoodNumber grammar.left_clock v = v ≤ max_clock
GoodNumber grammar.right_clock v = v ≤ max_clock
GoodNumber grammar.len v = v ≤ max_clock
GoodNumber grammar.byte v = Unit {0}
GoodNumber grammar.any v = Unit {0}
GoodNumber grammar.info v = Unit {0}
GoodNumber grammar.parent_info v = Unit {0}
GoodNumber (grammar.delete_clock end) v = Unit {0}
GoodNumber grammar.delete_len v = Unit {0}
GoodNumber grammar.type_number v = Unit {0}

-- a key
pub record Word (u : List ℕ) (p : Part) : Type 0 where
  pub lies : Lies u p
  pub formed : well_formed (bytes_in u p) ≡ true

-- a mark's value: a text in form 1, one plain value otherwise
pub record MarkValue (u : List ℕ) (one : Bool) (p : Part) : Type 0 where
  pub lies : Lies u p
  pub text : one ≡ true → well_formed (bytes_in u p) ≡ true
  pub value : one ≡ false → AreValues u 1 p

-- `one`: it is form 1; plain values that are none may begin behind the update, and end there
unfoldable pub Good : List ℕ → Bool → (f : Field) → Answer f → Type 0
Good u one (grammar.number n) = λ a. GoodNumber n a.0
Good u one grammar.text = λ a. WholeText u a.0 a.1.0
Good u one grammar.bytes = λ p. Lies u p
Good u one grammar.key = λ p. Word u p
Good u one (grammar.value blame) = λ p. MarkValue u one p
Good u one (grammar.values blame n) = λ p. AreValues u n p

-- plain values, one at least, lie in the update
pub values-lie : (u : List ℕ) (n : ℕ) (p : Part) → 0 < n → AreValues u n p → Lies u p
unfolding Ends
values-lie u n p some h = (subst (Ends u 0 (p.place + n)) h (anys-ends u 0 n p.place some)).1

abbrev Any : {X : Type 0} → X → Type 0
Any x = Unit {0}

abbrev UpTo : ℕ → ℕ × ℕ → Type 0
UpTo most a = a.0 ≤ most

bounded-gives : {S : Type 0} (Inv : S → Type 0) (most : ℕ) (d : Drawn S (ℕ × ℕ)) → Gives Any Inv d → Gives (UpTo most) Inv (bounded most d)
unfolding bounded Gives
bounded-gives Inv most (got a s) h = chosen (Gives (UpTo most) Inv) (ltb most a.0) (λ _. tt) (λ e. (ltb-false most a.0 e, h.1))
bounded-gives Inv most (not why) h = tt

-- ---- in line, in either form, at any place

free : {X : Type 0} (d : Drawn ℕ X) → Gives {S = ℕ} Any Any d
unfolding Gives
free (got a e) = (tt, tt)
free (not why) = tt

module _ (u : List ℕ) where
  up-to-gives : (most at : ℕ) → Gives (UpTo most) Any (up_to most u at)
  unfolding up_to
  up-to-gives most at = bounded-gives Any most (var_at u at) (free (var_at u at))

  bytes-give : (at : ℕ) → Gives (Lies u) Any (bytes_at u at)
  unfolding bytes_at so_many Gives
  bytes-give at = go (read_unsigned u at) refl
    where
      go : (r : Read) → read_unsigned u at ≡ r → Gives (Lies u) Any (so_many u r)
      go (read.Number n e) q =
          chosen (Gives (Lies u) Any) (ltb (length u - e) n) (λ _. tt) (λ l. (omega (arith, ltb-false (length u - e) n l, read-ends u at n e q), tt))
      go (read.Refused why) q = tt

  abbrev AText : Part × Units → Type 0
  AText a = WholeText u a.0 a.1.0

  checked-gives : (d : Drawn ℕ Part) → Gives (Lies u) Any d → Gives AText Any (checked u d)
  unfolding checked Gives
  checked-gives (got p e) h =
      chosen (Gives AText Any) (well_formed (slice p.place (p.place + p.bytes.0) u))
      (λ w. (record { lies = h.0; formed = w; units = refl }, tt)) (λ _. tt)
  checked-gives (not why) h = tt

  text-word : (p : Part) (n : ℕ) → WholeText u p n → Word u p
  unfolding bytes_in
  text-word p n w = record { lies = w.lies; formed = w.formed }

  word-gives : (at : ℕ) → Gives (Word u) Any (word_of (checked u (bytes_at u at)))
  unfolding word_of Gives
  word-gives at = go (checked u (bytes_at u at)) (checked-gives (bytes_at u at) (bytes-give at))
    where
      go : (d : Drawn ℕ (Part × Units)) → Gives AText Any d → Gives (Word u) Any (word_of d)
      go (got a e) h = (text-word a.0 a.1.0 h.0, tt)
      go (not why) h = tt

  -- where values end, none too, is not before where they begin
  values-after : (blame n at e : ℕ) → anys u blame n at ≡ At e → at ≤ e
  unfolding Ends
  values-after blame zero at e q = let same : at ≡ e = (let p = sym (anys-none u blame at) ∙ q in cc) in omega arith
  values-after blame (suc n) at e q = omega (arith, (subst (Ends u blame (at + suc n)) q (anys-ends u blame (suc n) at (omega arith))).0)

  values-give : (blame n at : ℕ) → Gives (AreValues u n) Any (values_at u blame n at)
  unfolding values_at spanned Gives
  values-give blame n at = go (anys u blame n at) refl
    where
      go : (r : Skipped) → anys u blame n at ≡ r → Gives (AreValues u n) Any (spanned at r)
      go (At e) q = let same : e ≡ at + (e - at) = omega (arith, values-after blame n at e q) in (anys-blind u blame 0 n at e q ∙ ap At same, tt)
      go (Refused why) q = tt

  -- a word is the value in form 1, one plain value in form 2
  as-text : (d : Drawn ℕ Part) → Gives (Word u) Any d → Gives (MarkValue u true) Any d
  unfolding Gives
  as-text (got p e) h = (record { lies = h.0.lies; text = λ _. h.0.formed; value = λ q. clash q }, tt)
  as-text (not why) h = tt

  as-value : (d : Drawn ℕ Part) → Gives (AreValues u 1) Any d → Gives (MarkValue u false) Any d
  unfolding Gives
  as-value (got p e) h = (record { lies = values-lie u 1 p (omega arith) h.0; text = λ q. clash (sym q); value = λ _. h.0 }, tt)
  as-value (not why) h = tt

  value-gives : (one : Bool) (blame at : ℕ) → Gives (MarkValue u one) Any (pick one (word_of (checked u (bytes_at u at))) (values_at u blame 1 at))
  value-gives true blame at = as-text (word_of (checked u (bytes_at u at))) (word-gives at)
  value-gives false blame at = as-value (values_at u blame 1 at) (values-give blame 1 at)

  module _ (form : ℕ) where
    number-gives : (n : Number) (at : ℕ) → Gives (Good u (eqb form 1) (grammar.number n)) Any (number_by form u n at)
    unfolding number_by Good GoodNumber
    number-gives (grammar.up_to most) at = up-to-gives most at
    number-gives grammar.client at = up-to-gives max_value at
    number-gives grammar.left_clock at = up-to-gives max_clock at
    number-gives grammar.right_clock at = up-to-gives max_clock at
    number-gives grammar.len at = up-to-gives max_clock at
    number-gives grammar.byte at = free _
    number-gives grammar.any at = free _
    number-gives grammar.info at = free _
    number-gives grammar.parent_info at = free _
    number-gives (grammar.delete_clock end) at = free _
    number-gives grammar.delete_len at = free _
    number-gives grammar.type_number at = free _

    pub line-faithful : Faithful (Good u (eqb form 1)) Any (line form u)
    unfolding line Good
    line-faithful (grammar.number n) at i = number-gives n at
    line-faithful grammar.text at i = checked-gives (bytes_at u at) (bytes-give at)
    line-faithful grammar.bytes at i = bytes-give at
    line-faithful grammar.key at i = word-gives at
    line-faithful (grammar.value blame) at i = value-gives (eqb form 1) blame at
    line-faithful (grammar.values blame n) at i = values-give blame n at

  -- ---- from columns: what is left of the texts lies in their column, and the keys read are words of the update

  abbrev pub Inside : State → Type 0
  Inside s = Within (take s.text.to u) s.text.place × All (Word u) s.keys

  module _ {S : Type 0} (Inv : S → Type 0) where
    numbers-give : (c : Numbers) (put : Numbers → S) → ((d : Numbers) → Inv (put d)) → Gives (UpTo max_value) Inv (from_numbers u c put)
    unfolding number_drawn Gives
    numbers-give c put h = go (next_number (take c.to u) c.place) (number-held (take c.to u) c.place)
      where
        go : (r : number-answer.Answer) → ValueHeld r → Gives (UpTo max_value) Inv (number_drawn put c.to r)
        go (number.Next v d) k = (k.0, h _)
        go (number.Bad why) k = tt

    differences-give : (c : Differences) (put : Differences → S) → ((d : Differences) → Inv (put d)) → Gives (UpTo max_clock) Inv (from_differences u c put)
    unfolding difference_drawn Gives
    differences-give c put h = go (next_difference (take c.to u) c.place) (clock-held (take c.to u) c.place)
      where
        go : (r : difference-answer.Answer) → Clock r → Gives (UpTo max_clock) Inv (difference_drawn put c.to r)
        go (difference.Next v d) k = (k, h _)
        go (difference.Bad why) k = tt

    bytes-drawn : (c : Octets) (put : Octets → S) → ((d : Octets) → Inv (put d)) → Gives Any Inv (from_bytes u c put)
    unfolding byte_drawn Gives
    bytes-drawn c put h = go (next_byte (take c.to u) c.place)
      where
        go : (r : byte-answer.Answer) → Gives Any Inv (byte_drawn put c.to r)
        go (byte.Next v d) = (tt, h _)
        go (byte.Bad why) = tt

  any : {S X : Type 0} (P : X → Type 0) (Inv : S → Type 0) (d : Drawn S X) → Gives P Inv d → Gives Any Inv d
  unfolding Gives
  any P Inv (got a s) h = (tt, h.1)
  any P Inv (not why) h = tt

  module _ (s : State) (h : Inside s) where
    onto-gives : {X : Type 0} (P : X → Type 0) (d : Drawn ℕ X) → Gives P Any d → Gives P Inside (onto s d)
    unfolding onto Gives
    onto-gives P (got a e) k = (k.0, h)
    onto-gives P (not why) k = tt

    in-line : (f : Field) → Gives (Good u false f) Inside (onto s (line 2 u f s.at))
    in-line f = onto-gives (Good u false f) (line 2 u f s.at) (line-faithful 2 f s.at tt)

    number-in-gives : (n : Number) → Gives (Good u false (grammar.number n)) Inside (number_in u n s)
    unfolding number_in Good GoodNumber
    number-in-gives grammar.client = numbers-give Inside s.client _ (λ c. h)
    number-in-gives grammar.left_clock = differences-give Inside s.left _ (λ c. h)
    number-in-gives grammar.right_clock = differences-give Inside s.right _ (λ c. h)
    number-in-gives grammar.info = bytes-drawn Inside s.info _ (λ c. h)
    number-in-gives grammar.parent_info = bytes-drawn Inside s.parent _ (λ c. h)
    number-in-gives grammar.len = bounded-gives Inside max_clock _ (any (UpTo max_value) Inside _ (numbers-give Inside s.len _ (λ c. h)))
    number-in-gives grammar.byte = in-line (grammar.number grammar.byte)
    number-in-gives (grammar.up_to most) = in-line (grammar.number (grammar.up_to most))
    number-in-gives grammar.any = in-line (grammar.number grammar.any)
    number-in-gives (grammar.delete_clock end) = in-line (grammar.number (grammar.delete_clock end))
    number-in-gives grammar.delete_len = in-line (grammar.number grammar.delete_len)
    number-in-gives grammar.type_number = any (UpTo max_value) Inside _ (numbers-give Inside s.types _ (λ c. h))

    text-gives : Gives AText Inside (text_in u s)
    unfolding text_drawn Gives
    text-gives = go (next_text (take s.text.to u) s.text.place) (text-held (take s.text.to u) s.text.place h.0)
      where
        go : (r : string-answer.Answer) → TextHeld (take s.text.to u) r → Gives AText Inside (text_drawn (λ c. text_moved c s) s.text.to r)
        go (string.Next p c) k = (whole_of s.text.to u p c.units.last k.0, (k.1, h.1))
        go (string.Bad why) k = tt

  -- a key is one of those read, or a text that joins them
  joining-gives : (d : Drawn State (Part × Units)) → Gives AText Inside d → Gives (Word u) Inside (joining d)
  unfolding joining Gives
  joining-gives (got a s) h =
      let w = text-word a.0 a.1.0 h.0 in
      (w, (h.1.0, all_more (Word u) s.keys a.0 h.1.1 w))
  joining-gives (not why) h = tt

  numbered-gives : (d : Drawn State (ℕ × ℕ)) → Gives Any Inside d → Gives (Word u) Inside (key_by_number u d)
  unfolding key_by_number Gives
  numbered-gives (got a s) h =
      chosen (Gives (Word u) Inside) (ltb a.0 (length s.keys))
      (λ l. (all-at (Word u) s.keys a.0 no_part h.1.1 (ltb-true a.0 (length s.keys) l), h.1))
      (λ _. chosen (Gives (Word u) Inside) (ltb (length s.keys) max_keys) (λ _. joining-gives (text_in u s) (text-gives s h.1)) (λ _. tt))
  numbered-gives (not why) h = tt

  key-gives : (s : State) → Inside s → Gives (Word u) Inside (key_in u s)
  unfolding key_in
  key-gives s h = numbered-gives _ (any (UpTo max_clock) Inside _ (differences-give Inside s.key _ (λ c. h)))

  pub columned-faithful : Faithful (Good u false) Inside (columned u)
  unfolding columned Good
  columned-faithful (grammar.number n) s h = number-in-gives s h n
  columned-faithful grammar.text s h = text-gives s h
  columned-faithful grammar.bytes s h = in-line s h grammar.bytes
  columned-faithful grammar.key s h = key-gives s h
  columned-faithful (grammar.value blame) s h = in-line s h (grammar.value blame)
  columned-faithful (grammar.values blame n) s h = in-line s h (grammar.values blame n)

  -- ---- opening

  text-opened : (s : State) → All (Word u) s.keys → Gives Any Inside (text_opened u s)
  unfolding text_opened with_opened Gives
  text-opened s w = go (open_text (take s.text.to u) s.text.place.units.at) (text-opens (take s.text.to u) s.text.place.units.at)
    where
      go : (r : string-opened.Opened) → Opens (take s.text.to u) r → Gives Any Inside (with_opened s r)
      go (opened.At c) k = (tt, (k, w))
      go (opened.Not why) k = tt

  pub opened-gives : Gives Any Inside (opened_of u)
  unfolding opened_of on_heads Gives
  opened-gives = go (run (line 2 u) heads 0)
    where
      go : (c : CourseTo ℕ _ _) → Gives Any Inside (on_heads u c)
      go (thing e p c) = go c
      go (over ps at) = text-opened _ tt
      go (stopped why) = tt
