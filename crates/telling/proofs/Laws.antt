-- A draw told: what the words, the row and the sheet have of it is what was drawn.
use Rattle.std.specs.Prelude.{Option, Some, None}
use Prim.Native.Nat.{ℕ, ◌≤◌}
use mathlib.Core.Path.{◌≡◌, refl, sym, ap, subst, ◌∙◌}
use mathlib.Core.Logic.{◌≢◌}
use mathlib.Core.List.{List, [], ◌∷◌}
use mathlib.Core.Bool.{Bool, true, false}
use native.Mathlib.Omega.{arith}
use lib.Dec.{eqb}
use lib.ListN.{length, length-set}
use borrow.Author.Tests.{eq-eqb, ne_eqb}
use Rattle.numbers.specs.Number.{pick}
use Rattle.grammar.specs.Grammar as grammar
use Rattle.grammar.specs.Grammar.{Field, Answer, Number}
use Rattle.decoder.specs.ColumnedInner.{fields}
use Rattle.cells.specs.Cells.{at_in, key_count, place_in, why_in, state_in, part_in, given, Beside, differences_in, cell}
use Rattle.cells.proofs.Keys.{keys_length}
use Rattle.fields.specs.Fields.{part_given, text_given}
use Rattle.origins.specs.declared.Line.{Line}
use Rattle.origins.specs.Origins.{plain_line, stored_line, line_at, number_line, base_of, text_line, key_lines, lines_in}
use Rattle.origins.specs.Sheets.{line_in, lines_from, Above}
use Rattle.telling.specs.declared.Stored.{Stored}
use Rattle.telling.specs.declared.Stored.TheVariants as stored-as
use Rattle.telling.specs.Asked.{stored, stored_in}
use Rattle.telling.specs.Telling.{heard}
use Rattle.telling.specs.TellingInner.{lines_of, Says, Tells}

pub above-none : (i : ℕ) (sh : List ℕ) → Above i sh sh
above-none i sh = record { size = refl; same = λ j l. refl }

pub beside-size : (k : ℕ) (r q : List ℕ) → Beside k r q → length q ≡ length r
beside-size k r q b = ap length b ∙ simp length-set refl

-- the same in either form
either : {A : Type 0} {x : A} (b : Bool) → x ≡ pick b x x
either true = refl
either false = refl

-- ---- the lines of an answer

module _ (form : ℕ) (u : List ℕ) (code : ℕ) (w v : List ℕ) where
  abbrev Lines : (f : Field) → Answer f → List Line
  Lines f a = lines_of form u code f a (state_in w) (state_in v)

  pub lines-in-line : form ≡ 1 → (f : Field) (a : Answer f) → line_at code f a (at_in w) (at_in v) ∷ [] ≡ Lines f a
  unfolding lines_of state_in
  lines-in-line h f a = rw (eq-eqb form 1 h) refl

  pub lines-columned : form ≢ 1 → (f : Field) (a : Answer f) → lines_in u code f a (state_in w) (state_in v) ≡ Lines f a
  unfolding lines_of
  lines-columned h f a = rw (ne_eqb form 1 h) refl

  -- ---- what was drawn, at line i of the sheet

  module _ (sh : List ℕ) (i : ℕ) where
    abbrev Told : Field → ℕ → ℕ → ℕ → Type 0
    Told f x place n = Says form u code f w v sh i (Some (x, place, n))

    one : {l : Line} → line_in sh i ≡ l → lines_from sh i 1 ≡ l ∷ []
    unfolding lines_from
    one e = ap (λ (l : Line). l ∷ []) e

    -- a number
    module _ (n : Number) (x : ℕ) (h : given v (Some x) ≡ fields form u (grammar.number n) (state_in w)) where
      number-tells : lines_from sh i 1 ≡ Lines (grammar.number n) (x, place_in v) → Told (grammar.number n) x (place_in v) 1
      unfolding Says heard given
      number-tells e = record { answer = (x, place_in v); drawn = sym h; hears = refl; lines = e; few = (omega arith, omega arith) }

      pub number-in-line : form ≡ 1 → line_in sh i ≡ plain_line code x (at_in w) (at_in v) → Told (grammar.number n) x (place_in v) 1
      unfolding line_at
      number-in-line q e = number-tells (one e ∙ lines-in-line q (grammar.number n) (x, place_in v))

      pub number-in-column : form ≢ 1 → line_in sh i ≡ number_line u code n x (at_in w) (base_of n (state_in w)) (state_in v) → Told (grammar.number n) x (place_in v) 1
      unfolding lines_in state_in
      number-in-column q e = number-tells (one e ∙ lines-columned q (grammar.number n) (x, place_in v))

    -- a text
    module _ (q : List ℕ) (x : ℕ) (h : text_given 0 v q (Some x) ≡ fields form u grammar.text (state_in w)) where
      abbrev text : Answer grammar.text
      text = (part_in q 0, record { 0 = x })

      text-tells : lines_from sh i 1 ≡ Lines grammar.text text → Told grammar.text x 0 1
      unfolding Says heard text_given
      text-tells e = record { answer = text; drawn = sym h; hears = refl; lines = e; few = (omega arith, omega arith) }

      pub text_in-line : form ≡ 1 → line_in sh i ≡ stored_line code x (part_in q 0) (at_in w) → Told grammar.text x 0 1
      unfolding line_at
      text_in-line o e = text-tells (one e ∙ lines-in-line o grammar.text text)

      pub text_in-column : form ≢ 1 → line_in sh i ≡ text_line u code (part_in q 0) (state_in v) → Told grammar.text x 0 1
      unfolding lines_in
      text_in-column o e = text-tells (one e ∙ lines-columned o grammar.text text)

    -- a key
    module _ (q : List ℕ) (h : part_given 0 v q (Some tt) ≡ fields form u grammar.key (state_in w)) where
      key-tells : (n : ℕ) → 1 ≤ n → n ≤ 2 → lines_from sh i n ≡ Lines grammar.key (part_in q 0) → Told grammar.key 0 0 n
      unfolding Says heard part_given
      key-tells n a b e = record { answer = part_in q 0; drawn = sym h; hears = refl; lines = e; few = (a, b) }

      pub key-in-line : form ≡ 1 → line_in sh i ≡ stored_line code (part_in q 0).bytes.0 (part_in q 0) (at_in w) → Told grammar.key 0 0 1
      unfolding line_at
      key-in-line o e = key-tells 1 (omega arith) (omega arith) (one e ∙ lines-in-line o grammar.key (part_in q 0))

      pub key-in-column : form ≢ 1 → (n : ℕ) → 1 ≤ n → n ≤ 2 → lines_from sh i n ≡ key_lines u code (part_in q 0) (cell w 0 2) (key_count w) (state_in v) → Told grammar.key 0 0 n
      unfolding lines_in state_in differences_in
      key-in-column o n a b e =
          key-tells n a b
          (e ∙ ap (λ k. key_lines u code (part_in q 0) (cell w 0 2) k (state_in v)) (sym (keys_length w)) ∙ lines-columned o grammar.key (part_in q 0))

    -- stored bytes stand in line in both forms
    module _ (q : List ℕ) where
      abbrev line_of : Line
      line_of = stored_line code (part_in q 0).bytes.0 (part_in q 0) (at_in w)

      pub stored-tells : (x : Stored) → part_given 0 v q (Some tt) ≡ stored_in form u x (state_in w) → line_in sh i ≡ line_of → Told (stored x) 0 0 1
      unfolding Says heard part_given stored_in stored lines_of line_at lines_in state_in
      stored-tells stored-as.Bytes h e =
          record { answer = part_in q 0; drawn = sym h; hears = refl; lines = one e ∙ either (eqb form 1); few = (omega arith, omega arith) }
      stored-tells (stored-as.Value blame) h e =
          record { answer = part_in q 0; drawn = sym h; hears = refl; lines = one e ∙ either (eqb form 1); few = (omega arith, omega arith) }
      stored-tells (stored-as.Values blame n) h e =
          record { answer = part_in q 0; drawn = sym h; hears = refl; lines = one e ∙ either (eqb form 1); few = (omega arith, omega arith) }

    -- ---- what was not drawn

    pub number-refused : (n : Number) → given v None ≡ fields form u (grammar.number n) (state_in w)
        → Says form u code (grammar.number n) w v sh i None
    unfolding Says given
    number-refused n h = record { why = why_in v; refused = sym h }

    pub text-refused : (q : List ℕ) → text_given 0 v q None ≡ fields form u grammar.text (state_in w) → Says form u code grammar.text w v sh i None
    unfolding Says text_given
    text-refused q h = record { why = why_in v; refused = sym h }

    pub key-refused : (q : List ℕ) → part_given 0 v q None ≡ fields form u grammar.key (state_in w) → Says form u code grammar.key w v sh i None
    unfolding Says part_given
    key-refused q h = record { why = why_in v; refused = sym h }

    pub stored_refused : (q : List ℕ) (x : Stored) → part_given 0 v q None ≡ stored_in form u x (state_in w) → Says form u code (stored x) w v sh i None
    unfolding Says part_given stored_in stored
    stored_refused q stored-as.Bytes h = record { why = why_in v; refused = sym h }
    stored_refused q (stored-as.Value blame) h = record { why = why_in v; refused = sym h }
    stored_refused q (stored-as.Values blame n) h = record { why = why_in v; refused = sym h }

-- the same field, by the same number
module _ (form : ℕ) (u w v sh sh₁ : List ℕ) (i : ℕ) (x : Option (ℕ × ℕ × ℕ)) where
  pub retold : {f g : Field} {code k : ℕ} → f ≡ g → code ≡ k → Tells form u code f w v sh sh₁ i x → Tells form u k g w v sh sh₁ i x
  retold {f} {g} {code} {k} e c t = subst (λ (h : Field). Tells form u k h w v sh sh₁ i x) e (subst (λ (n : ℕ). Tells form u n f w v sh sh₁ i x) c t)
