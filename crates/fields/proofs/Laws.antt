-- What the words are after a field, for the reader of either form: one that stands in line moves the place alone, one of a column that column.
use Rattle.std.specs.Prelude.{Option, Some, None}
use Prim.Native.Nat.{ℕ, ◌+◌, ◌-◌, ◌≤◌, ◌<◌}
use mathlib.Core.Path.{◌≡◌, refl, sym, ap, subst, ◌∙◌}
use mathlib.Core.Logic.{◌≢◌}
use mathlib.Core.List.{List}
use mathlib.Core.Bool.{Bool, true, false}
use native.Mathlib.Omega.{arith}
use lib.Dec.{eqb, ltb}
use lib.ListN.{length, get_or, set, take}
use lib.Seq.{slice}
use borrow.Author.Tests.{eq-eqb, lt-ltb, le-ltb, le-leb, lt-leb, ltb-false, eqb-true, eqb-false}
use Rattle.numbers.specs.declared.Refusal.{Refusal}
use Rattle.numbers.specs.declared.Read.{Read}
use Rattle.numbers.specs.declared.Read.TheVariants as read
use Rattle.numbers.specs.Number.{pick, read_unsigned}
use Rattle.numbers.specs.Limits.{max_clock}
use Rattle.text.specs.declared.Part.{Part}
use Rattle.text.specs.declared.Units.{Units}
use Rattle.text.specs.declared.Counted.{Counted}
use Rattle.text.specs.Utf8.{well_formed, units_of, counted_in}
use Rattle.string.specs.String.{next_text}
use Rattle.string.proofs.Texts.{read-ends}
use Rattle.grammar.specs.Grammar as grammar
use Rattle.grammar.specs.Grammar.{Field}
use Rattle.grammar.specs.Course as course
use Rattle.decoder.specs.Line.{number_at, var_at, bounded, up_to, byte_at, so_many, bytes_at, checked, line, number_by}
use Rattle.decoder.specs.States.{Texts, State, moved_to, client_moved, left_moved, right_moved, info_moved, text_moved, parent_moved, len_moved}
use Rattle.decoder.specs.Columned.{onto, number_in, columned}
use Rattle.decoder.specs.ColumnedInner.{fields}
use Rattle.decoder.proofs.Laws.{fields-columned}
use Rattle.cells.specs.Cells.{texts_in, at_in, why_in, state_in, Small, part_in, given, NumberDrawn, DifferenceDrawn, ByteDrawn}
use Rattle.cells.proofs.Words.{held, put-place, held-wide, elsewhere-behind}
use Rattle.cells.proofs.States.{state-client, state-left, state-right, state-info, state-text, state-parent, state-len, state-same, state-at, small_at, place-moved, row_first, row-second, mapped, text-mapped, number-onto, difference-onto, byte-onto}
use Rattle.fields.specs.Fields.{clock_at, Narrow, Given, Rising, part_given, text_given, texts_given, TextDrawn}

-- ---- in line

pub in-line : (form : ℕ) (u w : List ℕ) → form ≡ 1 → (f : Field) → onto (state_in w) (line 1 u f (at_in w)) ≡ fields form u f (state_in w)
unfolding fields state_in
in-line form u w h f = rw (eq-eqb form 1 h) refl

clock-line : (u : List ℕ) (at k : ℕ) → up_to max_clock u at ≡ line 1 u (grammar.number (clock_at k)) at
unfolding line number_by clock_at
clock-line u at k = go (eqb k 2)
  where
    go : (b : Bool) → up_to max_clock u at ≡ number_by 1 u (pick b grammar.left_clock grammar.right_clock) at
    go true = refl
    go false = refl

-- a number at p that ends at e
module _ (w : List ℕ) (s : Small w) (e p : ℕ) where
  abbrev pub moved : List ℕ
  moved = set (set w 63 e) 64 p

  pub small-moved : Small moved
  small-moved =
      let v = set w 63 e in
      let h = held 1 v (small_at w s e) in
      held-wide 1 v _ moved (put-place 1 v _ v (omega arith) h p) (omega arith, (λ q. omega arith), (λ q. omega arith), (λ q. omega arith)) (small_at w s e)

  pub given-moved : (x : ℕ) → given moved (Some x) ≡ course.got (x, p) (moved_to (state_in w) e)
  unfolding given
  given-moved x =
      rw (state-same (set w 63 e) moved (elsewhere-behind 9 64 p (set w 63 e) (omega arith) (omega arith)) ∙ state-at w s e, place-moved (set w 63 e) (small_at w s e) p) refl

module _ (v : List ℕ) {r : Option ℕ} {why : Refusal} (e : r ≡ None) (q : why_in v ≡ why) where
  pub given-refused : given v r ≡ course.not why
  unfolding given
  given-refused = rw e (ap course.not q)

  pub text-refused : (k : ℕ) (row : List ℕ) → text_given k v row r ≡ course.not why
  unfolding text_given
  text-refused k row = rw e (ap course.not q)

module _ (u : List ℕ) (s : State) (at most : ℕ) where
  pub var-refused : (why : Refusal) → read_unsigned u at ≡ read.Refused why → course.not why ≡ onto s (up_to most u at)
  unfolding onto up_to var_at number_at bounded
  var-refused why e = rw e refl

  pub var-over : (v e : ℕ) → read_unsigned u at ≡ read.Number v e → most < v → course.not (record { number = 3; place = at }) ≡ onto s (up_to most u at)
  unfolding onto up_to var_at number_at bounded
  var-over v e q l = rw (q, lt-ltb most v l) refl

  pub var-read : (v e : ℕ) → read_unsigned u at ≡ read.Number v e → v ≤ most → course.got (v, at) (moved_to s e) ≡ onto s (up_to most u at)
  unfolding onto up_to var_at number_at bounded
  var-read v e q l = rw (q, le-ltb most v l) refl

module _ (u : List ℕ) (s : State) (at : ℕ) where
  pub byte-none : length u ≤ at → course.not (record { number = 1; place = length u }) ≡ onto s (byte_at u at)
  unfolding onto byte_at
  byte-none l = rw (le-leb (length u) at l) refl

  pub byte-read : at < length u → course.got (get_or u at 0, at) (moved_to s (at + 1)) ≡ onto s (byte_at u at)
  unfolding onto byte_at
  byte-read l = rw (lt-leb (length u) at l) refl

  -- ---- a length and so many bytes

  pub buf-refused : (why : Refusal) → read_unsigned u at ≡ read.Refused why → course.not why ≡ onto s (bytes_at u at)
  unfolding onto bytes_at so_many
  buf-refused why e = rw e refl

  pub buf-short : (n e : ℕ) → read_unsigned u at ≡ read.Number n e → length u - e < n → course.not (record { number = 1; place = length u }) ≡ onto s (bytes_at u at)
  unfolding onto bytes_at so_many
  buf-short n e q l = rw (q, lt-ltb (length u - e) n l) refl

  pub buf-read : (n e : ℕ) → read_unsigned u at ≡ read.Number n e → n ≤ length u - e
      → course.got (record { place = e; bytes = record { 0 = n } }) (moved_to s (e + n)) ≡ onto s (bytes_at u at)
  unfolding onto bytes_at so_many
  buf-read n e q l = rw (q, le-ltb (length u - e) n l) refl

  -- they end within the update
  unfoldable end_of : course.Drawn State Part → ℕ
  end_of (course.got p t) = p.place + p.bytes.0
  end_of (course.not why) = 0

  pub buf-ends : (p : Part) (t : State) → course.got p t ≡ onto s (bytes_at u at) → p.place + p.bytes.0 ≤ length u
  unfolding onto bytes_at so_many end_of
  buf-ends p t h = let e : p.place + p.bytes.0 ≡ end_of (onto s (bytes_at u at)) = ap end_of h in rw e (go (read_unsigned u at) refl)
    where
      ends : (b : Bool) (n e : ℕ) → ltb (length u - e) n ≡ b → e ≤ length u
          → end_of (onto s (pick b (course.not (record { number = 1; place = length u })) (course.got (record { place = e; bytes = record { 0 = n } }) (e + n)))) ≤ length u
      ends true n e l h = omega arith
      ends false n e l h = omega (arith, ltb-false (length u - e) n l, h)

      go : (r : Read) → read_unsigned u at ≡ r → end_of (onto s (so_many u r)) ≤ length u
      go (read.Refused why) q = omega arith
      go (read.Number n e) q = ends (ltb (length u - e) n) n e refl (read-ends u at n e q)

pub part-put : (k a b : ℕ) (r : List ℕ) → k + 1 < length r → part_in (set (set r k a) (k + 1) b) k ≡ record { place = a; bytes = record { 0 = b } }
unfolding part_in
part-put k a b r l = rw (row_first k a b r l, row-second k a b r l) refl

pub part_moved : (w : List ℕ) → Small w → (e k a b : ℕ) (r : List ℕ) → k + 1 < length r
    → part_given k (set w 63 e) (set (set r k a) (k + 1) b) (Some tt) ≡ course.got (record { place = a; bytes = record { 0 = b } }) (moved_to (state_in w) e)
unfolding part_given
part_moved w s e k a b r l = rw (part-put k a b r l, state-at w s e) refl

-- ---- a text in line: bytes that are checked

module _ (s : List ℕ) (c : Counted) (h : c ≡ counted_in s) where
  pub units-broken : c.whole ≡ false → well_formed s ≡ false
  unfolding counted_in
  units-broken b = sym (ap (λ (c : Counted). c.whole) h) ∙ b

  pub units-whole : c.whole ≡ true → (well_formed s ≡ true) × (c.units.0 ≡ units_of s)
  unfolding counted_in
  units-whole b =
      let w : well_formed s ≡ true = sym (ap (λ (c : Counted). c.whole) h) ∙ b in
      (w, ap (λ (c : Counted). c.units.0) h ∙ ap (λ (x : Bool). pick x (units_of s) 0) w)

module _ (u : List ℕ) (s : State) where
  abbrev bytes_of : Part → List ℕ
  bytes_of p = slice p.place (p.place + p.bytes.0) u

  unfoldable checked_on : course.Drawn State Part → course.Drawn State (Part × Units)
  checked_on (course.got p t) = pick (well_formed (bytes_of p)) (course.got (p, record { 0 = units_of (bytes_of p) }) t) (course.not (record { number = 6; place = p.place }))
  checked_on (course.not why) = course.not why

  onto-checked : (d : course.Drawn ℕ Part) → checked_on (onto s d) ≡ onto s (checked u d)
  unfolding checked_on checked onto
  onto-checked (course.got p e) = go (well_formed (bytes_of p))
    where
      go : (b : Bool) → pick {A = course.Drawn State (Part × Units)} b (course.got (p, record { 0 = units_of (bytes_of p) }) (moved_to s e)) (course.not (record { number = 6; place = p.place }))
          ≡ onto s (pick {A = course.Drawn ℕ (Part × Units)} b (course.got (p, record { 0 = units_of (bytes_of p) }) e) (course.not (record { number = 6; place = p.place })))
      go true = refl
      go false = refl
  onto-checked (course.not why) = refl

  module _ (d : course.Drawn ℕ Part) where
    pub text-missing : (why : Refusal) → course.not why ≡ onto s d → course.not why ≡ onto s (checked u d)
    unfolding checked_on
    text-missing why e = ap checked_on e ∙ onto-checked d

    pub text-broken : (p : Part) (t : State) → course.got p t ≡ onto s d → well_formed (bytes_of p) ≡ false
        → course.not (record { number = 6; place = p.place }) ≡ onto s (checked u d)
    unfolding checked_on
    text-broken p t e w =
        let h : checked_on (course.got p t) ≡ course.not (record { number = 6; place = p.place }) = rw w refl in
        sym h ∙ ap checked_on e ∙ onto-checked d

    pub text-whole : (p : Part) (t : State) → course.got p t ≡ onto s d → well_formed (bytes_of p) ≡ true
        → course.got (p, record { 0 = units_of (bytes_of p) }) t ≡ onto s (checked u d)
    unfolding checked_on
    text-whole p t e w =
        let h : checked_on (course.got p t) ≡ course.got (p, record { 0 = units_of (bytes_of p) }) t = rw w refl in
        sym h ∙ ap checked_on e ∙ onto-checked d

-- ---- from a column

module _ (form : ℕ) (u w v : List ℕ) (other : form ≢ 1) (r : Option ℕ) where
  abbrev From : grammar.Number → Type 0
  From n = given v r ≡ fields form u (grammar.number n) (state_in w)

  pub client-drawn : NumberDrawn u 1 w v r → From grammar.client
  unfolding columned number_in state_in
  client-drawn d = number-onto u w v 1 r (λ c. client_moved c (state_in w)) (state-client w v d.1) d ∙ sym (fields-columned form u other (grammar.number grammar.client) (state_in w))

  pub left-drawn : DifferenceDrawn u 2 w v r → From grammar.left_clock
  unfolding columned number_in state_in
  left-drawn d = difference-onto u w v 2 r (λ c. left_moved c (state_in w)) (state-left w v d.1) d ∙ sym (fields-columned form u other (grammar.number grammar.left_clock) (state_in w))

  pub right-drawn : DifferenceDrawn u 3 w v r → From grammar.right_clock
  unfolding columned number_in state_in
  right-drawn d = difference-onto u w v 3 r (λ c. right_moved c (state_in w)) (state-right w v d.1) d ∙ sym (fields-columned form u other (grammar.number grammar.right_clock) (state_in w))

  -- the clock whose column is k
  clock-drawn : (k : ℕ) → Narrow k → DifferenceDrawn u k w v r → From (clock_at k)
  unfolding clock_at
  clock-drawn k n = go (eqb k 2) refl
    where
      Draws : ℕ → Type 0
      Draws k = DifferenceDrawn u k w v r → From (clock_at k)

      go : (b : Bool) → eqb k 2 ≡ b → Draws k
      go true q = subst Draws (sym (eqb-true k 2 q)) left-drawn
      go false q = let h = eqb-false k 2 q in subst Draws (let e : 3 ≡ k = omega arith in e) right-drawn

  pub info-drawn : ByteDrawn u 4 w v r → From grammar.info
  unfolding columned number_in state_in
  info-drawn d = byte-onto u w v 4 r (λ c. info_moved c (state_in w)) (state-info w v d.1) d ∙ sym (fields-columned form u other (grammar.number grammar.info) (state_in w))

  pub parent-drawn : ByteDrawn u 6 w v r → From grammar.parent_info
  unfolding columned number_in state_in
  parent-drawn d = byte-onto u w v 6 r (λ c. parent_moved c (state_in w)) (state-parent w v d.1) d ∙ sym (fields-columned form u other (grammar.number grammar.parent_info) (state_in w))

  -- a length is a clock
  pub len-drawn : NumberDrawn u 8 w v r → bounded max_clock (given v r) ≡ fields form u (grammar.number grammar.len) (state_in w)
  unfolding columned number_in state_in
  len-drawn d =
      ap (bounded max_clock) (number-onto u w v 8 r (λ c. len_moved c (state_in w)) (state-len w v d.1) d)
      ∙ sym (fields-columned form u other (grammar.number grammar.len) (state_in w))

  module _ (k : ℕ) (before q : List ℕ) where
    texts-given : (f : Texts → State) (d : Option ℕ) → state_in v ≡ f (texts_in v 5) → text_given k v q d ≡ mapped f (texts_given v q k d)
    unfolding mapped text_given texts_given
    texts-given f (Some n) e = ap (course.got (part_in q k, record { 0 = n })) e
    texts-given f None e = refl

    pub text-drawn : TextDrawn u k w v before q r → text_given k v q r ≡ fields form u grammar.text (state_in w)
    unfolding columned state_in
    text-drawn d =
        let c = texts_in w 5 in
        let f : Texts → State = λ c. text_moved c (state_in w) in
        texts-given f r (state-text w v d.1) ∙ ap (mapped f) d.3 ∙ text-mapped c.to f (next_text (take c.to u) c.place)
        ∙ sym (fields-columned form u other grammar.text (state_in w))

-- ---- a clock of either form

pub clock-read : (form : ℕ) (u w v : List ℕ) (r : Option ℕ) (k : ℕ) → Narrow k → Rising form u k w v r
    → Given w v r (fields form u (grammar.number (clock_at k)) (state_in w))
clock-read form u w v r k n d = go (eqb form 1) refl
  where
    go : (b : Bool) → eqb form 1 ≡ b → Given w v r (fields form u (grammar.number (clock_at k)) (state_in w))
    go true q =
        let one = eqb-true form 1 q in
        let g = d.0 one in
        (g.0, g.1 ∙ ap (onto (state_in w)) (clock-line u (at_in w) k) ∙ in-line form u w one (grammar.number (clock_at k)))
    go false q =
        let other = eqb-false form 1 q in
        let g = d.1 other in
        (g.0, clock-drawn form u w v other r k n g)
