-- What proofs need: a reading of the grammar as data, seen as a reading of these fields. No promise comes to it.
use Rattle.std.specs.Prelude.{ℕ, ◌≡◌, Bool, List, [], ◌∷◌}
use Rattle.std.proofs.Math.Option.{some, none}
use Rattle.numbers.specs.declared.Read.{Read}
use Rattle.numbers.specs.declared.Read.TheVariants as read
use Rattle.numbers.specs.declared.Signed.{Signed}
use Rattle.numbers.specs.declared.Signed.TheVariants as signed
use Rattle.numbers.specs.Number.{pick}
use Rattle.columns.specs.declared.number.Answer as number-answer
use Rattle.columns.specs.declared.number.Answer.TheVariants as number
use Rattle.columns.specs.declared.difference.Answer as difference-answer
use Rattle.columns.specs.declared.difference.Answer.TheVariants as difference
use Rattle.columns.specs.declared.byte.Answer as byte-answer
use Rattle.columns.specs.declared.byte.Answer.TheVariants as byte
use Rattle.anys.specs.declared.Skipped.{Skipped}
use Rattle.anys.specs.declared.Skipped.TheVariants as skipped
use Rattle.grammar.specs.Grammar as grammar
use Rattle.grammar.specs.Course as course
use Rattle.grammar.specs.Course.{Drawn, Reader, CourseTo}
use Rattle.decoder.specs.States.{Numbers, Differences, Octets, State}
use Rattle.meaning.specs.Reads.{Got, got, refused, on}
use Rattle.meaning.specs.Columns.{numbers, differences, octets, Lane, lane}
use Rattle.meaning.specs.Fields.{Fields, Standing, stand}

-- ---- answers

unfoldable pub read_as : Read → Got ℕ ℕ
read_as (read.Number v e) = got v e
read_as (read.Refused why) = refused why.number why.place

unfoldable pub signed_as : Signed → Got ℕ (Bool × ℕ)
signed_as (signed.Value m v e) = got (m, v) e
signed_as (signed.Wrong why) = refused why.number why.place

unfoldable pub skipped_as : Skipped → Got ℕ (Unit {0})
skipped_as (skipped.At e) = got tt e
skipped_as (skipped.Refused why) = refused why.number why.place

unfoldable pub drawn_as : {S T A X : Type 0} → (X → A) → (T → S) → Drawn T X → Got S A
drawn_as f view (course.got x t) = got (f x) (view t)
drawn_as f view (course.not why) = refused why.number why.place

-- the things that a course keeps, up to its end
unfoldable pub collect : {S T E A : Type 0} → (T → S) → CourseTo T E A → Got S (List E)
collect view (course.thing e p c) = on (collect view c) (λ es s. got (e ∷ es) s)
collect view (course.over a t) = got [] (view t)
collect view (course.stopped why) = refused why.number why.place

-- ---- columns and states

abbrev pub numbers_as : Numbers → Lane
numbers_as c = lane numbers c.place.at c.to c.place.from c.place.last c.place.last (some c.place.count)

abbrev pub differences_as : Differences → Lane
differences_as c = lane differences c.place.at c.to c.place.from c.place.last c.place.key (some c.place.count)

abbrev pub octets_as : Octets → Lane
octets_as c =
    lane octets c.place.at c.to c.place.from c.place.last c.place.last
    (pick c.place.endless none (some c.place.count))

unfoldable pub number_next : ℕ → number-answer.Answer → Got Lane ℕ
number_next to (number.Next v c) = got v (numbers_as (record { place = c; to = to }))
number_next to (number.Bad why) = refused why.number why.place

unfoldable pub difference_next : ℕ → difference-answer.Answer → Got Lane ℕ
difference_next to (difference.Next v c) = got v (differences_as (record { place = c; to = to }))
difference_next to (difference.Bad why) = refused why.number why.place

unfoldable pub byte_next : ℕ → byte-answer.Answer → Got Lane ℕ
byte_next to (byte.Next v c) = got v (octets_as (record { place = c; to = to }))
byte_next to (byte.Bad why) = refused why.number why.place

-- in line
abbrev pub at_place : ℕ → Standing
at_place at = stand at [] 0 0 []

abbrev pub at_state : State → Standing
at_state s =
    let units : Numbers = record { place = s.text.place.units; to = s.text.to } in
    stand s.at
    (differences_as s.key ∷ numbers_as s.client ∷ differences_as s.left ∷ differences_as s.right ∷ octets_as s.info
    ∷ numbers_as units ∷ octets_as s.parent ∷ numbers_as s.types ∷ numbers_as s.len ∷ [])
    s.text.place.at s.text.place.end s.keys

-- ---- fields that read what a reader of the grammar reads

pub record Alike {S T : Type 0} (view : T → S) (F : Fields S) (R : Reader T) : Type 0 where
  pub number : (role most : ℕ) (t : T) → F.number role most (view t) ≡ drawn_as (λ a. a) view (R (grammar.number (grammar.up_to most)) t)
  pub client : (role : ℕ) (t : T) → F.client role (view t) ≡ drawn_as (λ a. a) view (R (grammar.number grammar.client) t)
  pub left_clock : (role : ℕ) (t : T) → F.left_clock role (view t) ≡ drawn_as (λ a. a) view (R (grammar.number grammar.left_clock) t)
  pub right_clock : (role : ℕ) (t : T) → F.right_clock role (view t) ≡ drawn_as (λ a. a) view (R (grammar.number grammar.right_clock) t)
  pub info : (role : ℕ) (t : T) → F.info role (view t) ≡ drawn_as (λ a. a) view (R (grammar.number grammar.info) t)
  pub parent_info : (role : ℕ) (t : T) → F.parent_info role (view t) ≡ drawn_as (λ a. a) view (R (grammar.number grammar.parent_info) t)
  pub type_number : (role : ℕ) (t : T) → F.type_number role (view t) ≡ drawn_as (λ a. a) view (R (grammar.number grammar.type_number) t)
  pub len : (role : ℕ) (t : T) → F.len role (view t) ≡ drawn_as (λ a. a) view (R (grammar.number grammar.len) t)
  pub text : (role : ℕ) (t : T) → F.text role (view t) ≡ drawn_as (λ a. (a.0, a.1.0)) view (R grammar.text t)
  pub bytes : (role : ℕ) (t : T) → F.bytes role (view t) ≡ drawn_as (λ p. p) view (R grammar.bytes t)
  pub key : (role : ℕ) (t : T) → F.key role (view t) ≡ drawn_as (λ p. p) view (R grammar.key t)
  pub value : (role blame : ℕ) (t : T) → F.value role blame (view t) ≡ drawn_as (λ p. p) view (R (grammar.value blame) t)
  pub values : (role blame n : ℕ) (t : T) → F.values role blame n (view t) ≡ drawn_as (λ p. p) view (R (grammar.values blame n) t)
  pub kept : (t : T) → F.kept (view t) ≡ got tt (view t)
