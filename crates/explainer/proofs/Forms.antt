-- Following in either form over one state finds what each form's own reader finds.
use Rattle.std.specs.Prelude.{Option, Some, None}
use Prim.Native.Nat.{ℕ, zero, suc}
use mathlib.Core.Path.{◌≡◌, refl, sym, ap, ◌∙◌}
use mathlib.Core.Logic.{◌≢◌}
use mathlib.Core.List.{List}
use lib.ListN.{replicate}
use borrow.Author.Tests.{ne_eqb}
use Rattle.block.specs.declared.Block.{Block}
use Rattle.grammar.specs.Grammar.{Field, Answer, Grammar, ask, emit, stop, done}
use Rattle.grammar.specs.Blocks.{all_blocks}
use Rattle.grammar.specs.Course.{Drawn, got, not, CourseTo, thing, over, stopped, on_drawn, ending, run}
use Rattle.decoder.specs.Line.{line}
use Rattle.decoder.specs.States.{State, moved_to}
use Rattle.decoder.specs.Columned.{onto, columned}
use Rattle.decoder.specs.ColumnedInner.{fields}
use Rattle.decoder.specs.Opening.{opened_of}
use Rattle.decoder.specs.Update.{rest_places, in_columns, blocks_of}
use Rattle.decoder.proofs.Laws.{placed-line, fields-columned, run-columned}
use Rattle.cells.specs.Cells.{at_in, state_in}
use Rattle.opening.specs.Opening.{opened_in}
use Rattle.roles.specs.declared.Plan.{Plan}
use Rattle.roles.specs.Roles.{start, code_of, after, moved_on}
use Rattle.origins.specs.declared.Line.{Line}
use Rattle.origins.specs.Origins.{lines_in_line, lines_in}
use Rattle.origins.specs.Sheets.{lines_from}
use Rattle.telling.specs.Telling.{heard}
use Rattle.telling.specs.TellingInner.{lines_of}
use Rattle.explainer.specs.Watch.{on_seen, watch}
use Rattle.explainer.specs.Explanation.{Sheet, blank, noted, found, on_opened, explanation}
use Rattle.explainer.specs.Following.{is_whole, Readable, Reads, followed}

-- ---- form 1

module _ (u : List ℕ) where
  line-found : (x : Grammar Block (Unit {0})) (q : Plan) (h : Sheet) (n : ℕ) (s : State)
      → found (lines_of 1 u) q h n (watch (fields 1 u) x s) ≡ found lines_in_line q h n (watch (line 1 u) x s.at)
  unfolding watch on_seen found fields onto lines_of
  line-found (ask f k) q h n s = go (line 1 u f s.at) (λ a p i t. line-found (k a) p i n t)
    where
      go : (d : Drawn ℕ (Answer f)) → ((a : Answer f) (p : Plan) (i : Sheet) (t : State) → found (lines_of 1 u) p i n (watch (fields 1 u) (k a) t) ≡ found lines_in_line p i n (watch (line 1 u) (k a) t.at))
          → found (lines_of 1 u) q h n (on_seen f s (onto s d) (λ a t. watch (fields 1 u) (k a) t)) ≡ found lines_in_line q h n (on_seen f s.at d (λ a e. watch (line 1 u) (k a) e))
      go (got a e) more = more a _ _ (moved_to s e)
      go (not why) more = refl
  line-found (emit e p x) q h zero s = refl
  line-found (emit e p x) q h (suc n) s = line-found x q h n s
  line-found (stop c p) q h n s = refl
  line-found (done a) q h n s = refl

-- ---- any other

module _ (form : ℕ) (u : List ℕ) (other : form ≢ 1) where
  lines-columned : (code : ℕ) (f : Field) (a : Answer f) (s t : State) → lines_of form u code f a s t ≡ lines_in u code f a s t
  unfolding lines_of
  lines-columned code f a s t = rw (ne_eqb form 1 other) refl

  pub column-found : (x : Grammar Block (Unit {0})) (q : Plan) (h : Sheet) (n : ℕ) (s : State)
      → found (lines_of form u) q h n (watch (fields form u) x s) ≡ found (lines_in u) q h n (watch (columned u) x s)
  unfolding watch on_seen found
  column-found (ask f k) q h n s = go (fields form u f s) (columned u f s) (fields-columned form u other f s) (λ a p i t. column-found (k a) p i n t)
    where
      from-columns : Drawn State (Answer f) → List Line
      from-columns d = found (lines_in u) q h n (on_seen f s d (λ a t. watch (columned u) (k a) t))

      go : (d d₁ : Drawn State (Answer f)) → d ≡ d₁ → ((a : Answer f) (p : Plan) (i : Sheet) (t : State) → found (lines_of form u) p i n (watch (fields form u) (k a) t) ≡ found (lines_in u) p i n (watch (columned u) (k a) t))
          → found (lines_of form u) q h n (on_seen f s d (λ a t. watch (fields form u) (k a) t)) ≡ found (lines_in u) q h n (on_seen f s d₁ (λ a t. watch (columned u) (k a) t))
      go (got a t) d₁ e more =
          more a _ _ t
          ∙ ap (λ (ls : List Line). found (lines_in u) (after (moved_on q) (heard f a).0 (heard f a).1) (noted (code_of (moved_on q).role) ls h) n (watch (columned u) (k a) t)) (lines-columned (code_of (moved_on q).role) f a s t)
          ∙ ap from-columns e
      go (not why) d₁ e more = ap from-columns e
  column-found (emit e p x) q h zero s = refl
  column-found (emit e p x) q h (suc n) s = column-found x q h n s
  column-found (stop c p) q h n s = refl
  column-found (done a) q h n s = refl

-- ---- whole

whole-placed : {E A : Type 0} (c : CourseTo State E A) → is_whole (rest_places c) ≡ is_whole c
unfolding is_whole ending rest_places
whole-placed (thing e p c) = whole-placed c
whole-placed (over a s) = refl
whole-placed (stopped why) = refl

-- ---- all of an update

-- form 1, from words whose place is its first byte
module _ (form : ℕ) (u w : List ℕ) (one : form ≡ 1) (at : at_in w ≡ 0) where
  pub first_byte : blocks_of form u ≡ rest_places (run (fields form u) all_blocks (state_in w))
  unfolding blocks_of state_in
  first_byte = rw (one) (sym (placed-line u all_blocks (state_in w) ∙ ap (λ (x : ℕ). run (line 1 u) all_blocks x) at))

  pub line_reads : Readable form u → Reads form u (state_in w)
  line_reads r = sym (whole-placed (run (fields form u) all_blocks (state_in w))) ∙ sym (ap is_whole first_byte) ∙ r

  pub line-explains : (n : ℕ) → followed form u n (state_in w) ≡ explanation form u n
  unfolding followed explanation state_in
  line-explains n = rw (one) (line-found u all_blocks start blank n (state_in w) ∙ ap (λ (x : ℕ). found lines_in_line start blank n (watch (line 1 u) all_blocks x)) at)

-- what opening a form gave
pub opened-as : (u w : List ℕ) (x y : Option ℕ) → opened_in w x ≡ opened_of u → x ≡ y → opened_in w y ≡ opened_of u
opened-as u w x y o e = ap (opened_in w) (sym e) ∙ o

module _ (form : ℕ) (u w : List ℕ) (other : form ≢ 1) where
  -- form 2, from words that it was opened into
  module _ (k : ℕ) (opened : opened_in w (Some k) ≡ opened_of u) where
    behind-columns : in_columns u ≡ run (fields form u) all_blocks (state_in w)
    unfolding in_columns on_drawn opened_in
    behind-columns = rw (← opened) (sym (run-columned form u other all_blocks (state_in w)))

    all-columned : blocks_of form u ≡ rest_places (run (fields form u) all_blocks (state_in w))
    unfolding blocks_of
    all-columned = rw (ne_eqb form 1 other) (ap rest_places behind-columns)

    pub column-reads : Readable form u → Reads form u (state_in w)
    column-reads r = sym (whole-placed (run (fields form u) all_blocks (state_in w))) ∙ sym (ap is_whole all-columned) ∙ r

    pub column-explains : (n : ℕ) → followed form u n (state_in w) ≡ explanation form u n
    unfolding followed explanation on_opened opened_in
    column-explains n = column-found form u other all_blocks start blank n (state_in w) ∙ sym (rw (ne_eqb form 1 other, ← opened) refl)

  -- or not
  pub unopened-explains : (sh : List ℕ) (n : ℕ) → opened_in w None ≡ opened_of u → lines_from sh 0 0 ≡ explanation form u n
  unfolding lines_from explanation on_opened opened_in
  unopened-explains sh n e = sym (rw (ne_eqb form 1 other, ← e) refl)

-- words of which none is stored yet
pub fresh_at : at_in (replicate 580 0) ≡ 0
unfolding at_in
fresh_at = refl
