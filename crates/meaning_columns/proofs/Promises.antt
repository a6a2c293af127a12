-- That every promise on numbers, texts and columns is the long-standing one.
use Prim.Native.Nat.{ℕ, zero, suc, ◌*◌, ◌/◌}
use native.Mathlib.Omega.{arith}
use mathlib.Core.Path.{◌≡◌, refl, sym, ap, ◌∙◌}
use mathlib.Core.Bool.{Bool, true, false}
use mathlib.Core.List.{List, [], ◌∷◌}
use lib.Dec.{ltb, eqb}
use lib.ListN.{length, drop}
use denote.Ref.{Bor}
use borrow.Author.Tests.{ne_eqb}
use Rattle.numbers.specs.declared.Refusal.{Refusal}
use Rattle.numbers.specs.declared.Read.TheVariants as read
use Rattle.numbers.specs.declared.Signed.TheVariants as signs
use Rattle.numbers.specs.declared.Written.{Written}
use Rattle.numbers.specs.Number as spelling
use Rattle.numbers.specs.Number.{pick, none, nowhere}
use Rattle.numbers.specs.Output.{padded}
use Rattle.text.specs.declared.Part.{Part}
use Rattle.text.specs.declared.Units.{Units}
use Rattle.text.specs.declared.Taken.{Taken}
use Rattle.text.specs.declared.Taken.TheVariants.{Took, Refused}
use Rattle.text.specs.Utf8.{well_formed, units_in, take_units}
use Rattle.columns.specs.declared.number.Place as number-place
use Rattle.columns.specs.declared.number.Answer.TheVariants as number
use Rattle.columns.specs.Number as old-number
use Rattle.columns.specs.declared.difference.Place as difference-place
use Rattle.columns.specs.declared.difference.Answer.TheVariants as difference
use Rattle.columns.specs.Difference as old-difference
use Rattle.columns.specs.declared.byte.Place as byte-place
use Rattle.columns.specs.declared.byte.Answer.TheVariants as byte
use Rattle.columns.specs.Byte as old-byte
use Rattle.string.specs.declared.Place as string-place
use Rattle.string.specs.declared.Opened.TheVariants as opened
use Rattle.string.specs.declared.Answer.TheVariants as string
use Rattle.string.specs.String as old-string
use Rattle.grammar.specs.Course.{things, ending}
use Rattle.vector.specs.declared.Vector.{Vector}
use Rattle.vector.specs.Vector.{Entry, words_in, vector_of, vector_answer, vector_words}
use Rattle.wairokabi.specs.declared.Unsigned.{Unsigned}
use Rattle.wairokabi.specs.declared.Signed.{Signed}
use Rattle.wairokabi.specs.declared.Counted.{Counted}
use Rattle.wairokabi.specs.declared.Cut.{Cut}
use Rattle.wairokabi.specs.declared.NumberNext.{NumberNext}
use Rattle.wairokabi.specs.declared.DifferenceNext.{DifferenceNext}
use Rattle.wairokabi.specs.declared.ByteNext.{ByteNext}
use Rattle.wairokabi.specs.declared.TextOpened.{TextOpened}
use Rattle.wairokabi.specs.declared.TextNext.{TextNext}
use Rattle.wairokabi.specs.Promises as wairokabi
use Rattle.readers.specs.declared.Kind.{Kind}
use Rattle.readers.specs.declared.Kind.TheVariants as kind
use Rattle.readers.specs.declared.Place.{Place}
use Rattle.readers.specs.declared.Place.TheVariants.{Number, Difference, Byte, Text}
use Rattle.readers.specs.declared.Column.{Column}
use Rattle.readers.specs.declared.Opened.{Opened}
use Rattle.readers.specs.declared.Answer.{Answer}
use Rattle.readers.specs.declared.Start.{Start}
use Rattle.readers.specs.declared.Step.{Step}
use Rattle.readers.specs.Readers as readers
use Rattle.readers.specs.Promises as reader-calls
use Rattle.bulk.specs.declared.NumbersRead.{NumbersRead}
use Rattle.bulk.specs.declared.DifferencesRead.{DifferencesRead}
use Rattle.bulk.specs.declared.BytesRead.{BytesRead}
use Rattle.bulk.specs.declared.TextsRead.{TextsRead}
use Rattle.bulk.specs.Bulk as old-draws
use Rattle.bulk.specs.Bulk.{Draw, drew, stop, told, number_draw, difference_draw, byte_draw, text_draw}
use Rattle.bulk.specs.Promises as bulk
use Rattle.meaning.specs.Reads.{when◌then◌else◌, Got, got, refused, on}
use Rattle.meaning.specs.Answers as answers
use Rattle.meaning.specs.Reads.{comes_to}
use Rattle.meaning.specs.Line.{units, unsigned, signed}
use Rattle.meaning.specs.Vector.{vector}
use Rattle.meaning.specs.Alike.{collect}
use Rattle.meaning.proofs.Line.{units-same}
use Rattle.meaning.proofs.Answers.{unsigned-same, signed_same}
use Rattle.meaning.proofs.Vector.{vector-same}
use Rattle.meaning.proofs.Ending.{ending-answer}
use Rattle.meaning_written.proofs.Texts.{texts-same, why-texts-same}
use Rattle.meaning_written.proofs.Columns.{numbers-same, differences-same, bytes_same, numbers-why, differences-why, bytes-why}
use Rattle.meaning_columns.specs.Places.{next_number, next_difference, next_byte, open_text, next_text}
use Rattle.meaning_columns.specs.Promises.{ReadUnsigned, ReadSigned, Writes, WriteUnsigned, WriteSigned, CountUnits, cut_of, TakeText, CutText}
use Rattle.meaning_columns.specs.Promises.{OpenNumbers, NextNumber, OpenDifferences, NextDifference, OpenBytes, NextByte, OpenText, NextText}
use Rattle.meaning_columns.specs.Promises.{start_of, step_from, step_of, Open, Next, draws, first_why, ReadNumbers, ReadDifferences, ReadBytes, part_words, ReadTexts}
use Rattle.meaning_columns.specs.Promises.{WriteNumbers, WriteDifferences, WriteBytes, WriteTexts, ReadStateVector}
use Rattle.meaning_columns.proofs.Places.{number-got, difference-got, byte-got, open-got, text-got}

-- what is shown of an old answer, which is an answer to what was got here
shown : {S A B X : Type 0} (f : B → X) (read : A → S → B) (refuse : Refusal → B) (g : Got S A) {b : B} → b ≡ comes_to read refuse g
    → f b ≡ comes_to (λ a s. f (read a s)) (λ why. f (refuse why)) g
unfolding comes_to
shown f read refuse g e = ap f e ∙ go g
  where
    go : (g : Got _ _) → f (comes_to read refuse g) ≡ comes_to (λ a s. f (read a s)) (λ why. f (refuse why)) g
    go (got a s) = refl
    go (refused n p) = refl

either : {A : Type 0} (x : Bool) (a b : A) → pick x a b ≡ (when x then a else b)
unfolding when◌then◌else◌
either true a b = refl
either false a b = refl

-- ---- numbers

pub read-unsigned-same : (s : List ℕ) (at : ℕ) (r : Unsigned) → wairokabi.ReadUnsigned s at r ≡ ReadUnsigned s at r
unfolding wairokabi.unsigned_answer answers.read_unsigned
read-unsigned-same s at r = ap (r ≡◌) (shown wairokabi.unsigned_answer read.Number read.Refused (unsigned s at) (unsigned-same s at))

pub read-signed-same : (s : List ℕ) (at : ℕ) (r : Signed) → wairokabi.ReadSigned s at r ≡ ReadSigned s at r
unfolding wairokabi.signed_answer answers.read_signed
read-signed-same s at r = ap (r ≡◌) (shown wairokabi.signed_answer (λ (minus, v). signs.Value minus v) signs.Wrong (signed s at) (signed_same s at))

pub write-unsigned-same : (lent : List ℕ) (v : ℕ) (r : Written) (x : List ℕ) → wairokabi.WriteUnsigned lent v r x ≡ WriteUnsigned lent v r x
unfolding wairokabi.why_over
write-unsigned-same lent v r x = ap (λ (why : ℕ). Writes why (spelling.unsigned v) lent r x) (either (ltb 9223372036854775807 v) 3 0)

pub write-signed-same : (lent : List ℕ) (m : Bool) (v : ℕ) (r : Written) (x : List ℕ) → wairokabi.WriteSigned lent m v r x ≡ WriteSigned lent m v r x
unfolding wairokabi.why_over
write-signed-same lent m v r x = ap (λ (why : ℕ). Writes why (spelling.signed m v) lent r x) (either (ltb 4611686018427387903 v) 3 0)

-- ---- text

pub count-units-same : (t : List ℕ) (r : Counted) → wairokabi.CountUnits t r ≡ CountUnits t r
unfolding wairokabi.count_answer when◌then◌else◌
count-units-same t r = ap (r ≡◌) (go (well_formed t) refl)
  where
    counted : ℕ → Counted
    counted n = record { number = 0; units = record { 0 = n } }

    go : (x : Bool) → well_formed t ≡ x
        → wairokabi.count_answer x (units_in t) ≡ (when x then counted (units t) else record { number = 6; units = record { 0 = 0 } })
    go true h = ap counted (sym (units-same t h))
    go false h = refl

cut-same : (t : Taken) → wairokabi.cut_answer t ≡ cut_of t
unfolding wairokabi.cut_answer cut_of
cut-same (Took b) = refl
cut-same (Refused why) = refl

pub take-text-same : (t : List ℕ) (at : ℕ) (n : Units) (r : Cut) → wairokabi.TakeText t at n r ≡ TakeText t at n r
take-text-same t at n r = ap (r ≡◌) (cut-same (take_units 7 n.0 (drop at t)))

pub cut-text-same : (t : List ℕ) (n : Units) (r : Cut) → wairokabi.CutText t n r ≡ CutText t n r
cut-text-same t n r = ap (r ≡◌) (cut-same _ ∙ ap cut_of (either (well_formed t) (take_units 9 n.0 t) (Refused 6)))

-- ---- columns, read

pub open-numbers-same : (at : ℕ) (r : number-place.Place) → wairokabi.OpenNumbers at r ≡ OpenNumbers at r
open-numbers-same at r = refl

pub next-number-same : (s : List ℕ) (c : number-place.Place) (r : NumberNext) → wairokabi.NextNumber s c r ≡ NextNumber s c r
unfolding wairokabi.number_answer
next-number-same s c r = ap (r ≡◌) (shown (wairokabi.number_answer c) number.Next number.Bad (next_number s c) (number-got s c))

pub open-differences-same : (at : ℕ) (r : difference-place.Place) → wairokabi.OpenDifferences at r ≡ OpenDifferences at r
open-differences-same at r = refl

pub next-difference-same : (s : List ℕ) (c : difference-place.Place) (r : DifferenceNext) → wairokabi.NextDifference s c r ≡ NextDifference s c r
unfolding wairokabi.difference_answer
next-difference-same s c r = ap (r ≡◌) (shown (wairokabi.difference_answer c) difference.Next difference.Bad (next_difference s c) (difference-got s c))

pub open-bytes-same : (at : ℕ) (r : byte-place.Place) → wairokabi.OpenBytes at r ≡ OpenBytes at r
open-bytes-same at r = refl

pub next-byte-same : (s : List ℕ) (c : byte-place.Place) (r : ByteNext) → wairokabi.NextByte s c r ≡ NextByte s c r
unfolding wairokabi.byte_answer
next-byte-same s c r = ap (r ≡◌) (shown (wairokabi.byte_answer c) byte.Next byte.Bad (next_byte s c) (byte-got s c))

pub open-text-same : (s : List ℕ) (at : ℕ) (r : TextOpened) → wairokabi.OpenText s at r ≡ OpenText s at r
unfolding wairokabi.open_answer
open-text-same s at r = ap (r ≡◌) (shown (wairokabi.open_answer s) (λ _. opened.At) opened.Not (open_text s at) (open-got s at))

pub next-text-same : (s : List ℕ) (c : string-place.Place) (r : TextNext) → wairokabi.NextText s c r ≡ NextText s c r
unfolding wairokabi.text_answer
next-text-same s c r = ap (r ≡◌) (shown (wairokabi.text_answer c) string.Next string.Bad (next_text s c) (text-got s c))

-- ---- columns, read by a reader of any kind

pub start-same : (s : List ℕ) (k : Kind) → readers.start_of s k ≡ start_of s k
unfolding readers.start_of readers.text_start start_of
start-same s kind.Number = refl
start-same s kind.Difference = refl
start-same s kind.Byte = refl
start-same s kind.Text = shown (readers.text_start s) (λ _. opened.At) opened.Not (open_text s 0) (open-got s 0)

pub step_same : (s : List ℕ) (p : Place) → readers.step_of s p ≡ step_of s p
unfolding readers.step_of readers.number_step readers.difference_step readers.byte_step readers.text_step step_of step_from
step_same s (Number c) = shown (readers.number_step c) number.Next number.Bad (next_number s c) (number-got s c)
step_same s (Difference c) = shown (readers.difference_step c) difference.Next difference.Bad (next_difference s c) (difference-got s c)
step_same s (Byte c) = shown (readers.byte_step c) byte.Next byte.Bad (next_byte s c) (byte-got s c)
step_same s (Text c) = shown (readers.text_step c) string.Next string.Bad (next_text s c) (text-got s c)

pub open-same : (s : Bor (List ℕ)) (k : Kind) (r : Opened) → reader-calls.Open s k r ≡ Open s k r
unfolding reader-calls.opened
open-same s k r = ap (λ (x : Start). r ≡ record { refusal = x.refusal; column = record { bytes = s; place = x.place } }) (start-same s.now k)

pub next-same : (c : Column) (r : Answer) (d : Column) → reader-calls.Next c r d ≡ Next c r d
unfolding readers.answer_of readers.after
next-same c r d =
    ap (λ (x : Step). (r ≡ x.answer) × (d ≡ record { bytes = c.bytes; place = x.place })) (step_same c.bytes.now c.place)

-- ---- columns, read in bulk

not_none : (n : ℕ) → eqb (suc n) 0 ≡ false
not_none n = ne_eqb (suc n) 0 (λ e. omega (arith, e))

module _ {P A : Type 0} (old : P → Draw A P) (next : P → Got P A) (same : (c : P) → old c ≡ comes_to drew stop (next c)) where
  abbrev values_and_place : old-draws.Bulk A P → List A × P
  values_and_place b = (b.values, b.place)

  draws-same : (k : ℕ) (c : P) → values_and_place (old-draws.draws old k c) ≡ draws next k c
  unfolding old-draws.draws old-draws.and_then draws comes_to
  draws-same zero c = refl
  draws-same (suc k) c = rw (same c) (go (next c) (draws-same k))
    where
      go : (g : Got P A) → ((d : P) → values_and_place (old-draws.draws old k d) ≡ draws next k d)
          → values_and_place (old-draws.and_then c (comes_to drew stop g) (λ d. old-draws.draws old k d))
          ≡ comes_to (λ v d. let (vs, e) = draws next k d in (v ∷ vs, e)) (λ _. ([], c)) g
      go (got v d) more = ap (λ (x : List A × P). (v ∷ x.0, x.1)) (more d)
      go (refused n p) more = refl

  told_same : (k : ℕ) (c : P) → told (old-draws.draws old k c) ≡ first_why next k c
  unfolding told old-draws.draws old-draws.and_then first_why comes_to when◌then◌else◌
  told_same zero c = refl
  told_same (suc k) c = rw (same c, not_none k) (go (next c))
    where
      go : (g : Got P A) → told (old-draws.and_then c (comes_to drew stop g) (λ d. old-draws.draws old k d)) ≡ comes_to (λ _ _. none) (λ why. why) g
      go (got v d) = rw (not_none (length (old-draws.draws old k d).values))
      go (refused n p) = refl

  -- of a promise of its refusal, values and place
  bulk-same : (promise : Refusal → List A → P → Type 0) (k : ℕ) (c : P)
      → promise (told (old-draws.draws old k c)) (old-draws.draws old k c).values (old-draws.draws old k c).place
      ≡ promise (first_why next k c) (draws next k c).0 (draws next k c).1
  bulk-same promise k c i = promise (told_same k c i) (draws-same k c i).0 (draws-same k c i).1

pub read-numbers-same : (s : List ℕ) (c : number-place.Place) (lent : List ℕ) (r : NumbersRead) (x : List ℕ)
    → bulk.ReadNumbers s c lent r x ≡ ReadNumbers s c lent r x
unfolding bulk.numbers_answer number_draw
read-numbers-same s c lent r x =
    bulk-same (λ d. number_draw (old-number.next_number s d)) (next_number s) (λ d. shown number_draw number.Next number.Bad (next_number s d) (number-got s d))
    (λ why vs d. (r ≡ record { refusal = why; count = length vs; place = d }) × (x ≡ padded (length lent) vs)) (length lent) c

pub read-differences-same : (s : List ℕ) (c : difference-place.Place) (lent : List ℕ) (r : DifferencesRead) (x : List ℕ)
    → bulk.ReadDifferences s c lent r x ≡ ReadDifferences s c lent r x
unfolding bulk.differences_answer difference_draw
read-differences-same s c lent r x =
    bulk-same (λ d. difference_draw (old-difference.next_difference s d)) (next_difference s)
    (λ d. shown difference_draw difference.Next difference.Bad (next_difference s d) (difference-got s d))
    (λ why vs d. (r ≡ record { refusal = why; count = length vs; place = d }) × (x ≡ padded (length lent) vs)) (length lent) c

pub read-bytes-same : (s : List ℕ) (c : byte-place.Place) (lent : List ℕ) (r : BytesRead) (x : List ℕ)
    → bulk.ReadBytes s c lent r x ≡ ReadBytes s c lent r x
unfolding bulk.bytes_answer byte_draw
read-bytes-same s c lent r x =
    bulk-same (λ d. byte_draw (old-byte.next_byte s d)) (next_byte s) (λ d. shown byte_draw byte.Next byte.Bad (next_byte s d) (byte-got s d))
    (λ why vs d. (r ≡ record { refusal = why; count = length vs; place = d }) × (x ≡ padded (length lent) vs)) (length lent) c

words_same : (ps : List Part) → old-draws.part_words ps ≡ part_words ps
unfolding old-draws.part_words part_words
words_same [] = refl
words_same (p ∷ ps) = ap (λ (ws : List ℕ). p.place ∷ p.bytes.0 ∷ ws) (words_same ps)

pub read-texts-same : (s : List ℕ) (c : string-place.Place) (lent : List ℕ) (r : TextsRead) (x : List ℕ)
    → bulk.ReadTexts s c lent r x ≡ ReadTexts s c lent r x
unfolding bulk.texts_answer text_draw
read-texts-same s c lent r x =
    rw (words_same _)
    (bulk-same (λ d. text_draw (old-string.next_text s d)) (next_text s) (λ d. shown text_draw string.Next string.Bad (next_text s d) (text-got s d))
    (λ why ps d. (r ≡ record { refusal = why; count = length ps; place = d }) × (x ≡ padded (length lent) (part_words ps))) (length lent / 2) c)

-- ---- columns, written

-- of a promise of a refusal and bytes
writes-same : (lent : List ℕ) (r : Written) (x : List ℕ) {n m : ℕ} {b d : List ℕ} → n ≡ m → b ≡ d → Writes n b lent r x ≡ Writes m d lent r x
writes-same lent r x whys bytes i = Writes (whys i) (bytes i) lent r x

pub write-numbers-same : (lent vs : List ℕ) (r : Written) (x : List ℕ) → wairokabi.WriteNumbers lent vs r x ≡ WriteNumbers lent vs r x
write-numbers-same lent vs r x = writes-same lent r x (numbers-why vs) (numbers-same vs)

pub write-differences-same : (lent vs : List ℕ) (r : Written) (x : List ℕ) → wairokabi.WriteDifferences lent vs r x ≡ WriteDifferences lent vs r x
write-differences-same lent vs r x = writes-same lent r x (differences-why vs) (differences-same vs)

pub write-bytes-same : (lent vs : List ℕ) (r : Written) (x : List ℕ) → wairokabi.WriteBytes lent vs r x ≡ WriteBytes lent vs r x
write-bytes-same lent vs r x = writes-same lent r x (bytes-why vs) (bytes_same vs)

pub write-texts-same : (lent t us : List ℕ) (r : Written) (x : List ℕ) → wairokabi.WriteTexts lent t us r x ≡ WriteTexts lent t us r x
write-texts-same lent t us r x = writes-same lent r x (why-texts-same t us) (texts-same t us)

-- ---- a state vector

-- what does not fit is refused, before it is answered or with it
abbrev fitting : {S A : Type 0} → (A → Bool) → Got S A → Got S A
fitting too_much g = on g (λ a s. when too_much a then refused 10 0 else got a s)

fitting-answer : {S A X : Type 0} (too_much : A → Bool) (go : A → X) (refuse : Refusal → X) (g : Got S A)
    → comes_to (λ a _. pick (too_much a) (refuse (nowhere 10)) (go a)) refuse g ≡ comes_to (λ a _. go a) refuse (fitting too_much g)
unfolding comes_to on when◌then◌else◌
fitting-answer too_much go refuse (refused n p) = refl
fitting-answer too_much go refuse (got a s) = chosen (too_much a)
  where
    chosen : (x : Bool) → pick x (refuse (nowhere 10)) (go a) ≡ comes_to (λ a _. go a) refuse (when x then refused 10 0 else got a s)
    chosen true = refl
    chosen false = refl

vector-answer : {X : Type 0} (v lent : List ℕ) (go : List Entry → X) (refuse : Refusal → X)
    → ending (vector_of v) (λ _. pick (ltb (length lent) (2 * length (things (vector_of v)))) (refuse (nowhere 10)) (go (things (vector_of v)))) refuse
    ≡ comes_to (λ es _. go es) refuse (fitting (λ es. ltb (length lent) (2 * length es)) (vector v))
vector-answer v lent go refuse =
    let too_much : List Entry → Bool = λ es. ltb (length lent) (2 * length es) in
    rw (vector-same v)
    (ending-answer (λ e. e) (vector_of v) (λ es. pick (too_much es) (refuse (nowhere 10)) (go es)) refuse
    ∙ fitting-answer too_much go refuse (collect (λ e. e) (vector_of v)))

pub read-state-vector-same : (v lent : List ℕ) (r : Vector) (x : List ℕ) → wairokabi.ReadStateVector v lent r x ≡ ReadStateVector v lent r x
unfolding vector_answer vector_words
read-state-vector-same v lent r x i =
    (r ≡ vector-answer v lent (λ es. record { refusal = none; count = length es }) (λ why. record { refusal = nowhere why.number; count = 0 }) i)
    × (x ≡ padded (length lent) (vector-answer v lent words_in (λ _. []) i))
