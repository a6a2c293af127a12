-- What a grammar reads, step by step, with `run` kept shut: a field drawn, one grammar behind another, an end.
use Rattle.std.specs.Prelude.{Option, Some, None}
use Prim.Native.Nat.{ℕ}
use mathlib.Core.Path.{◌≡◌, refl, sym, ap, ◌∙◌}
use mathlib.Core.List.{List}
use Rattle.numbers.specs.declared.Refusal.{Refusal}
use Rattle.block.specs.declared.Block.{Block}
use Rattle.block.specs.Rows.{with_mark}
use Rattle.text.specs.declared.Part.{Part}
use Rattle.text.specs.declared.Units.{Units}
use Rattle.grammar.specs.Grammar.{Number, Field, number, text, key, Answer, Grammar, stop, done, draw}
use Rattle.grammar.specs.Grammar.{◌>>=◌}
use Rattle.grammar.specs.Course.{Drawn, got, not, Reader, CourseTo, over, stopped, on_drawn, run}
use Rattle.grammar.proofs.Runs.{and_then, run_bind}
use Rattle.decoder.specs.ColumnedInner.{fields}
use Rattle.cells.specs.Cells.{state_in, place_in, why_in, part_in, given}
use Rattle.fields.specs.Fields.{part_given, text_given}
use Rattle.held.specs.Row.{row_in, onto, Reads}

module _ {S E A : Type 0} (r : Reader S) where
  pub done-is : (a : A) (s : S) → run {E = E} r (done a) s ≡ over a s
  unfolding run
  done-is a s = refl

  pub stop_is : (n p : ℕ) (s : S) → run {E = E} {A = A} r (stop n p) s ≡ stopped (record { number = n; place = p })
  unfolding run
  stop_is n p s = refl

  module _ (f : Field) (g : Answer f → Grammar E A) (s : S) where
    pub draw-got : (a : Answer f) (t : S) → r f s ≡ got a t → run r (draw f >>= g) s ≡ run r (g a) t
    unfolding run ◌>>=◌ on_drawn
    draw-got a t e = ap (λ (d : Drawn S (Answer f)). on_drawn d (λ a t. run r (g a) t)) e

    pub draw-not : (why : Refusal) → r f s ≡ not why → run r (draw f >>= g) s ≡ stopped why
    unfolding run ◌>>=◌ on_drawn
    draw-not why e = ap (λ (d : Drawn S (Answer f)). on_drawn d (λ a t. run r (g a) t)) e

module _ {S E A B : Type 0} (r : Reader S) (x : Grammar E A) (g : A → Grammar E B) (s : S) where
  pub bind-over : (a : A) (t : S) → run r x s ≡ over a t → run r (x >>= g) s ≡ run r (g a) t
  unfolding and_then
  bind-over a t e = run_bind r x g s ∙ ap (λ (c : CourseTo S E A). and_then c (λ a t. run r (g a) t)) e

  pub bind_stopped : (why : Refusal) → run r x s ≡ stopped why → run r (x >>= g) s ≡ stopped why
  unfolding and_then
  bind_stopped why e = run_bind r x g s ∙ ap (λ (c : CourseTo S E A). and_then c (λ a t. run r (g a) t)) e

-- ---- from words w to words v

module _ (form : ℕ) (u : List ℕ) where
  -- a row that is done with
  pub row_done : (v z : List ℕ) (b : Block) → row_in z ≡ b → onto v z (Some tt) ≡ Reads form u v (done b)
  unfolding onto run
  row_done v z b e = ap (λ (b : Block). over b (state_in v)) e

  module _ {A : Type 0} (w v : List ℕ) where
    -- a number
    pub number-then : (n : Number) (g : ℕ × ℕ → Grammar Block A) (x : ℕ)
        → given v (Some x) ≡ fields form u (number n) (state_in w) → Reads form u v (g (x, place_in v)) ≡ Reads form u w (draw (number n) >>= g)
    unfolding given
    number-then n g x e = sym (draw-got (fields form u) (number n) g (state_in w) (x, place_in v) (state_in v) (sym e))

    pub number-stopped : (n : Number) (g : ℕ × ℕ → Grammar Block A)
        → given v None ≡ fields form u (number n) (state_in w) → stopped (why_in v) ≡ Reads form u w (draw (number n) >>= g)
    unfolding given
    number-stopped n g e = sym (draw-not (fields form u) (number n) g (state_in w) (why_in v) (sym e))

    -- a text, in words k and k + 1 of the row q
    pub text-then : (k : ℕ) (q : List ℕ) (g : Part × Units → Grammar Block A) (n : ℕ)
        → text_given k v q (Some n) ≡ fields form u text (state_in w) → Reads form u v (g (part_in q k, record { 0 = n })) ≡ Reads form u w (draw text >>= g)
    unfolding text_given
    text-then k q g n e = sym (draw-got (fields form u) text g (state_in w) (part_in q k, record { 0 = n }) (state_in v) (sym e))

    pub text-stopped : (k : ℕ) (q : List ℕ) (g : Part × Units → Grammar Block A)
        → text_given k v q None ≡ fields form u text (state_in w) → stopped (why_in v) ≡ Reads form u w (draw text >>= g)
    unfolding text_given
    text-stopped k q g e = sym (draw-not (fields form u) text g (state_in w) (why_in v) (sym e))

    -- any field, by its answer
    pub field-then : (f : Field) (g : Answer f → Grammar Block A) (a : Answer f)
        → got a (state_in v) ≡ fields form u f (state_in w) → Reads form u v (g a) ≡ Reads form u w (draw f >>= g)
    field-then f g a e = sym (draw-got (fields form u) f g (state_in w) a (state_in v) (sym e))

    pub field-stopped : (f : Field) (g : Answer f → Grammar Block A)
        → not (why_in v) ≡ fields form u f (state_in w) → stopped (why_in v) ≡ Reads form u w (draw f >>= g)
    field-stopped f g e = sym (draw-not (fields form u) f g (state_in w) (why_in v) (sym e))

    -- a part of a row
    pub row-then : (q : List ℕ) (x : Grammar Block Block) (g : Block → Grammar Block A)
        → onto v q (Some tt) ≡ Reads form u w x → Reads form u v (g (row_in q)) ≡ Reads form u w (x >>= g)
    unfolding onto
    row-then q x g e = sym (bind-over (fields form u) x g (state_in w) (row_in q) (state_in v) (sym e))

    pub row-stopped : (q : List ℕ) (x : Grammar Block Block) (g : Block → Grammar Block A)
        → onto v q None ≡ Reads form u w x → stopped (why_in v) ≡ Reads form u w (x >>= g)
    unfolding onto
    row-stopped q x g e = sym (bind_stopped (fields form u) x g (state_in w) (why_in v) (sym e))

  -- a key that is a mark, in words 21 and 22 of the row q
  pub marked : (w v r q : List ℕ) (f : Option (Unit {0})) → row_in q ≡ with_mark (part_in q 21) (row_in r) → part_given 21 v q f ≡ fields form u key (state_in w)
      → onto v q f ≡ Reads form u w (draw key >>= λ k. done (with_mark k (row_in r)))
  unfolding part_given onto
  marked w v r q (Some tt) e h = row_done v q _ e ∙ field-then w v key (λ k. done (with_mark k (row_in r))) (part_in q 21) h
  marked w v r q None e h = field-stopped w v key (λ k. done (with_mark k (row_in r))) h
