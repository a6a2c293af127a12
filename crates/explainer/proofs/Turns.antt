-- A turn of following: what is found from here is what is found from the start.
use Rattle.std.specs.Prelude.{Option, Some, None}
use Prim.Native.Nat.{ℕ, zero, suc, ◌+◌, ◌*◌, ◌-◌, ◌<◌, ◌≤◌}
use native.Mathlib.Omega.{arith}
use mathlib.Core.Path.{◌≡◌, refl, sym, ap, subst, ◌∙◌}
use mathlib.Core.Logic.{◌≢◌}
use mathlib.Core.Bool.{Bool, true, false}
use mathlib.Core.List.{List, [], ◌∷◌, ◌++◌}
use lib.Dec.{eqb, ltb}
use lib.ListN.{length}
use borrow.Author.Tests.{ltb-false, eqb-true, eqb-false}
use Rattle.numbers.specs.Number.{pick}
use Rattle.numbers.specs.Limits.{max_clock}
use Rattle.block.specs.declared.Block.{Block}
use Rattle.block.specs.Row.{no_block}
use Rattle.grammar.specs.Grammar as grammar
use Rattle.grammar.specs.Grammar.{Field, Answer, Grammar, ask, emit, stop, done}
use Rattle.grammar.specs.Course.{Drawn, got, not, on_drawn, ending, run}
use Rattle.grammar.specs.Blocks.{all_blocks}
use Rattle.decoder.specs.Line.{bounded, var_at, up_to}
use Rattle.decoder.specs.States.{State}
use Rattle.decoder.specs.Columned.{onto}
use Rattle.decoder.specs.ColumnedInner.{fields}
use Rattle.decoder.proofs.Laws.{fields-up-to}
use Rattle.cells.specs.Cells.{state_in, Small}
use Rattle.roles.specs.declared.Role.TheVariants as role
use Rattle.roles.specs.declared.Plan.{Plan}
use Rattle.roles.specs.Roles.{start, code_of, after, onward, moved_on, is_ended}
use Rattle.roles.specs.RolesInner.{is_over, is_kept}
use Rattle.origins.specs.declared.Line.{Line}
use Rattle.origins.specs.Sheets.{lines_from}
use Rattle.telling.specs.Telling.{heard}
use Rattle.telling.specs.TellingInner.{field_at, lines_of, Draws, Draws-not, Says, Tells}
use Rattle.explainer.specs.Watch.{Seen, kept, on_seen, watch}
use Rattle.explainer.specs.Explanation.{Sheet, blank, noted, clock_line, found}
use Rattle.explainer.specs.Following.{is_whole, Reads, Placed, is_found, ahead_of, followed}
use Rattle.explainer.proofs.Fits.{Within, Meets, told, Fits, not-both, never, onward-goes, settled_here, settled-ended, fits-onward}
use Rattle.explainer.proofs.Labels.{Final, all_fit}
use Rattle.explainer.proofs.Going.{left, most}
use Rattle.explainer.proofs.Sheets.{few-told}
use Rattle.explainer.proofs.Holding.{Holds, Held, draw-holds, ended_held, ended-weight, onward-holds, all_lines, line_low}
use Rattle.explainer.proofs.Measure.{onward-less, draw-less}
use Rattle.explainer.proofs.Seeking.{not_first}

-- ---- a number that was drawn is within its limit

module _ (form : ℕ) (u : List ℕ) where
  abbrev is-got : {X : Type 0} → Drawn State X → Bool
  is-got (got x s) = true
  is-got (not why) = false

  up-to-meets : (most : ℕ) (s : State) (a : ℕ × ℕ) (t : State) → onto s (up_to most u s.at) ≡ got a t → a.0 ≤ most
  unfolding up_to bounded onto
  up-to-meets most s a t e = go (var_at u s.at) e
    where
      value : Drawn State (ℕ × ℕ) → ℕ
      value (got b x) = b.0
      value (not why) = 0

      by : (x : Bool) (b : ℕ × ℕ) (n : ℕ) → ltb most b.0 ≡ x → onto s (pick x (not (record { number = 3; place = b.1 })) (got b n)) ≡ got a t → a.0 ≤ most
      by true b n ex h = absurd (not-both (sym (ap is-got h)))
      by false b n ex h = omega (arith, ap value h, ltb-false most b.0 ex)

      go : (d : Drawn ℕ (ℕ × ℕ)) → onto s (bounded most d) ≡ got a t → a.0 ≤ most
      go (got b n) h = by (ltb most b.0) b n refl h
      go (not why) h = absurd (not-both (sym (ap is-got h)))

  number-meets : (n : grammar.Number) (s : State) (a : ℕ × ℕ) (t : State) → fields form u (grammar.number n) s ≡ got a t → Within n a.0
  unfolding Within
  number-meets (grammar.up_to most) s a t e = up-to-meets most s a t (sym (fields-up-to form u most s) ∙ e)
  number-meets grammar.byte s a t e = tt
  number-meets grammar.any s a t e = tt
  number-meets grammar.client s a t e = tt
  number-meets grammar.left_clock s a t e = tt
  number-meets grammar.right_clock s a t e = tt
  number-meets grammar.info s a t e = tt
  number-meets grammar.parent_info s a t e = tt
  number-meets grammar.len s a t e = tt
  number-meets (grammar.delete_clock end) s a t e = tt
  number-meets grammar.delete_len s a t e = tt
  number-meets grammar.type_number s a t e = tt

  pub meets : (f : Field) (s : State) (a : Answer f) (t : State) → fields form u f s ≡ got a t → Meets f a
  unfolding Meets
  meets (grammar.number n) s a t e = number-meets n s a t e
  meets grammar.text s a t e = tt
  meets grammar.bytes s a t e = tt
  meets grammar.key s a t e = tt
  meets (grammar.value blame) s a t e = tt
  meets (grammar.values blame n) s a t e = tt

-- ---- what is found

module _ {S : Type 0} (tell : ℕ → (f : Field) → Answer f → S → S → List Line) (reader : (f : Field) → S → Drawn S (Answer f)) where
  -- from a block's end and from onward, the same
  pub found-onward : (q : Plan) (r : Block) (h : Sheet) (n : ℕ) (x : Grammar Block (Unit {0})) (s : S) → is_ended q ≡ true → Fits Final (onward q) r x
      → found tell q h n (watch reader x s) ≡ found tell (onward q) h n (watch reader x s)
  unfolding watch on_seen found Fits
  found-onward q r h n (ask f k) s e fit = go (reader f s)
    where
      same : moved_on q ≡ moved_on (onward q)
      same = settled-ended q e ∙ sym (settled_here (onward q) (onward-goes q))

      go : (d : Drawn S (Answer f)) → found tell q h n (on_seen f s d (λ a t. watch reader (k a) t)) ≡ found tell (onward q) h n (on_seen f s d (λ a t. watch reader (k a) t))
      go (got a t) = ap (λ (p : Plan). found tell (after p (heard f a).0 (heard f a).1) (noted (code_of p.role) (tell (code_of p.role) f a s t) h) n (watch reader (k a) t)) same
      go (not why) = refl
  found-onward q r h n (emit b p x) s e fit = absurd (not-both (sym fit.0 ∙ onward-goes q))
  found-onward q r h n (stop c p) s e fit = refl
  found-onward q r h n (done a) s e fit = refl

  -- behind a kept block that is not the one sought
  found-next : (q : Plan) (h : Sheet) (n : ℕ) (b : Block) (seen : List (Seen S Block)) → 1 ≤ n → found tell q h n (kept b ∷ seen) ≡ found tell q h (n - 1) seen
  unfolding found
  found-next q h zero b seen some = absurd (omega (arith, some))
  found-next q h (suc n) b seen some = ap (λ (j : ℕ). found tell q h j seen) (let e : n ≡ suc n - 1 = omega arith in e)

-- ---- the loop

-- what is left to read from the words w on, and what the sheet sh holds
pub record Follows (form : ℕ) (u : List ℕ) (goal : List Line) (w sh : List ℕ) (q : Plan) (ahead own : ℕ) : Type 0 where
  pub rest : Grammar Block (Unit {0})
  pub row : Block
  pub sheet : Sheet
  pub fits : Fits Final q row rest
  pub same : found (lines_of form u) q sheet ahead (watch (fields form u) rest (state_in w)) ≡ goal
  pub whole : is_whole (run (fields form u) rest (state_in w)) ≡ true
  pub small : Small w
  pub size : length sh ≡ 192
  pub holds : Holds q.role q sheet sh own

-- before the first draw
pub starts : (form : ℕ) (u : List ℕ) (n : ℕ) (w sh : List ℕ) → Small w → length sh ≡ 192 → Reads form u (state_in w) → Follows form u (followed form u n (state_in w)) w sh start n 4
unfolding followed Holds
starts form u n w sh small size reads = record { rest = all_blocks; row = no_block; sheet = blank; fits = all_fit no_block; same = refl; whole = reads; small = small; size = size; holds = tt }

module _ (form : ℕ) (u : List ℕ) (goal : List Line) (w sh : List ℕ) (q : Plan) (ahead own : ℕ) (inv : Follows form u goal w sh q ahead own) where
  -- ---- where a block has ended
  module _ (ended : is_ended q ≡ true) where
    -- its end is a clock
    pub end_low : q.clock + q.length ≤ max_clock
    unfolding Fits is_whole ending run
    end_low = go inv.rest inv.fits inv.whole
      where
        go : (x : Grammar Block (Unit {0})) → Fits Final q inv.row x → is_whole (run (fields form u) x (state_in w)) ≡ true → q.clock + q.length ≤ max_clock
        go (ask f k) fit whole = (fit.0 ended).1
        go (emit e p x) fit whole = fit.2
        go (stop n p) fit whole = never whole
        go (done a) fit whole = (fit.0 ended).1

    -- the block sought
    pub here_found : is_found q ahead ≡ true → goal ≡ inv.sheet.head ++ (clock_line q ∷ inv.sheet.own)
    unfolding Fits is_whole ending run watch found is_found
    here_found f = go inv.rest inv.fits inv.whole (subst (λ (n : ℕ). found (lines_of form u) q inv.sheet n (watch (fields form u) inv.rest (state_in w)) ≡ goal) first.0 inv.same)
      where
        by : (x : Bool) → eqb ahead 0 ≡ x → pick x (is_kept q) false ≡ true → (ahead ≡ 0) × (is_kept q ≡ true)
        by true e h = (eqb-true ahead 0 e, h)
        by false e h = never h

        first : (ahead ≡ 0) × (is_kept q ≡ true)
        first = by (eqb ahead 0) refl f

        go : (x : Grammar Block (Unit {0})) → Fits Final q inv.row x → is_whole (run (fields form u) x (state_in w)) ≡ true
            → found (lines_of form u) q inv.sheet 0 (watch (fields form u) x (state_in w)) ≡ goal → goal ≡ inv.sheet.head ++ (clock_line q ∷ inv.sheet.own)
        go (ask f k) fit whole same = absurd (not-both (sym first.1 ∙ (fit.0 ended).0))
        go (emit e p x) fit whole same = sym same
        go (stop n p) fit whole same = never whole
        go (done a) fit whole same = absurd (not-both (sym first.1 ∙ (fit.0 ended).0))

    -- or another
    module _ (other : is_found q ahead ≡ false) (holds : Holds (onward q).role (onward q) inv.sheet sh own) where
      goes_with : (n : ℕ) (x : Grammar Block (Unit {0})) → n ≡ ahead_of q ahead → Fits Final (onward q) inv.row x
          → found (lines_of form u) q inv.sheet n (watch (fields form u) x (state_in w)) ≡ goal → is_whole (run (fields form u) x (state_in w)) ≡ true
          → Follows form u goal w sh (onward q) (ahead_of q ahead) own
      goes_with n x e fit same whole = subst (λ (m : ℕ). Follows form u goal w sh (onward q) m own) e (record {
        rest = x;
        row = inv.row;
        sheet = inv.sheet;
        fits = fit;
        same = sym (found-onward (lines_of form u) (fields form u) q inv.row inv.sheet n x (state_in w) ended fit) ∙ same;
        whole = whole;
        small = inv.small;
        size = inv.size;
        holds = holds;
      })

      ahead-kept : is_kept q ≡ true → ahead - 1 ≡ ahead_of q ahead
      unfolding ahead_of
      ahead-kept k = rw k refl

      ahead-dropped : is_kept q ≡ false → ahead ≡ ahead_of q ahead
      unfolding ahead_of
      ahead-dropped k = rw k refl

      over-onward : is_over (moved_on q) ≡ true → Final (onward q) inv.row tt
      over-onward o = ((λ x. absurd (not-both (sym x ∙ onward-goes q))), ap is_over (settled_here (onward q) (onward-goes q) ∙ sym (settled-ended q ended)) ∙ o)

      pub onward-follows : Follows form u goal w sh (onward q) (ahead_of q ahead) own
      unfolding Fits is_whole ending run watch
      onward-follows = go inv.rest inv.fits inv.whole inv.same
        where
          go : (x : Grammar Block (Unit {0})) → Fits Final q inv.row x → is_whole (run (fields form u) x (state_in w)) ≡ true
              → found (lines_of form u) q inv.sheet ahead (watch (fields form u) x (state_in w)) ≡ goal → Follows form u goal w sh (onward q) (ahead_of q ahead) own
          go (ask f k) fit whole same = goes_with ahead (ask f k) (ahead-dropped (fit.0 ended).0) (fits-onward Final q inv.row f k ended fit) same whole
          go (emit e p x) fit whole same = goes_with (ahead - 1) x (ahead-kept fit.1) fit.5 (sym (found-next (lines_of form u) (fields form u) q inv.sheet ahead e _ (not_first q ahead other fit.1)) ∙ same) whole
          go (stop n p) fit whole same = never whole
          go (done a) fit whole same = goes_with ahead (done a) (ahead-dropped (fit.0 ended).0) (over-onward fit.1) same whole

    abbrev held : Held role.Ended q inv.sheet sh own
    held = ended_held q inv.sheet sh own ended inv.holds

    pub end_fits : q.clock + q.length ≤ 18446744073709551615
    end_fits = omega (arith, end_low)

    pub found-lines : is_found q ahead ≡ true → lines_from sh 0 own ≡ goal
    found-lines f = all_lines q inv.sheet sh own held ∙ sym (here_found f)

    -- a block has no more lines than the sheet has room for
    pub few-lines : own ≤ 16
    few-lines = omega (arith, held.room)

    pub onward-turn : is_found q ahead ≡ false → Follows form u goal w sh (onward q) (ahead_of q ahead) own
    onward-turn f = onward-follows f (onward-holds q inv.sheet sh own held)

    pub end-less : left (onward q) < left q
    end-less = onward-less q (ended-weight q ended)

  -- ---- where nothing more is drawn
  pub over-found : is_ended q ≡ false → is_over q ≡ true → lines_from sh 0 0 ≡ goal
  unfolding Fits is_whole ending run watch found lines_from
  over-found going over = go inv.rest inv.fits inv.whole inv.same
    where
      go : (x : Grammar Block (Unit {0})) → Fits Final q inv.row x → is_whole (run (fields form u) x (state_in w)) ≡ true
          → found (lines_of form u) q inv.sheet ahead (watch (fields form u) x (state_in w)) ≡ goal → [] ≡ goal
      go (ask f k) fit whole same = absurd (not-both (sym over ∙ ap is_over (sym (settled_here q going)) ∙ fit.1))
      go (emit e p x) fit whole same = absurd (not-both (sym fit.0 ∙ going))
      go (stop n p) fit whole same = never whole
      go (done a) fit whole same = same

  -- ---- where a field is drawn
  pub record Asks : Type 0 where
    pub then : Answer (field_at q) → Grammar Block (Unit {0})
    pub goes : (a : Answer (field_at q)) → Meets (field_at q) a → Fits Final (after q (heard (field_at q) a).0 (heard (field_at q) a).1) (told q (field_at q) a inv.row) (then a)
    pub seen : found (lines_of form u) q inv.sheet ahead (on_seen (field_at q) (state_in w) (fields form u (field_at q) (state_in w)) (λ a t. watch (fields form u) (then a) t)) ≡ goal
    pub reads : is_whole (on_drawn (fields form u (field_at q) (state_in w)) (λ a t. run (fields form u) (then a) t)) ≡ true

  -- of a field f that is the one the plan draws
  abbrev Asking : Field → Type 0
  Asking f =
      (k : Answer f → Grammar Block (Unit {0})) → ((a : Answer f) → Meets f a → Fits Final (after q (heard f a).0 (heard f a).1) (told q f a inv.row) (k a))
      → found (lines_of form u) q inv.sheet ahead (on_seen f (state_in w) (fields form u f (state_in w)) (λ a t. watch (fields form u) (k a) t)) ≡ goal
      → is_whole (on_drawn (fields form u f (state_in w)) (λ a t. run (fields form u) (k a) t)) ≡ true → Asks

  asking : (f : Field) → field_at q ≡ f → Asking f
  asking f e = subst Asking e (λ k goes seen reads. record { then = k; goes = goes; seen = seen; reads = reads })

  module _ (going : is_ended q ≡ false) (more : is_over q ≡ false) where
    not-over : code_of q.role ≢ 28
    unfolding is_over
    not-over = eqb-false (code_of q.role) 28 more

    asks : Asks
    unfolding Fits is_whole ending run watch
    asks = go inv.rest inv.fits inv.whole inv.same
      where
        go : (x : Grammar Block (Unit {0})) → Fits Final q inv.row x → is_whole (run (fields form u) x (state_in w)) ≡ true
            → found (lines_of form u) q inv.sheet ahead (watch (fields form u) x (state_in w)) ≡ goal → Asks
        go (ask f k) fit whole same =
            asking f (ap (λ (p : Plan). field_at p) (sym (settled_here q going)) ∙ fit.2) k
            (λ a m. subst (λ (p : Plan). Fits Final (after p (heard f a).0 (heard f a).1) (told p f a inv.row) (k a)) (settled_here q going) (fit.3 a m)) same whole
        go (emit e p x) fit whole same = absurd (not-both (sym fit.0 ∙ going))
        go (stop n p) fit whole same = never whole
        go (done a) fit whole same = absurd (not-both (sym fit.1 ∙ ap is_over (settled_here q going) ∙ more))

    -- a line of the sheet that has room
    module _ (sh₁ : List ℕ) (i : ℕ) (placed : Placed q own sh sh₁ i) where
      low : i ≤ 14
      low = omega (arith, placed.line, line_low q.role q inv.sheet sh own (not-over) inv.holds)

      pub tell-low : 12 * (i + 2) ≤ length sh₁
      tell-low = omega (arith, low, placed.above.size, inv.size)

    -- told from line i on
    module _ (w₁ sh₁ sh₂ : List ℕ) (i : ℕ) (placed : Placed q own sh sh₁ i) (x : Option (ℕ × ℕ × ℕ)) (tells : Tells form u (code_of q.role) (field_at q) w w₁ sh₁ sh₂ i x) where
      -- a field is not refused, since all blocks can be read
      pub not-refused : x ≡ None → ⊥
      unfolding Says is_whole ending on_drawn
      not-refused e = not-both (sym asks.reads ∙ ap (λ (d : Drawn State (Answer (field_at q))). is_whole (on_drawn d (λ a t. run (fields form u) (asks.then a) t))) no.refused)
        where
          no : Draws-not form u (field_at q) w
          no = subst (λ (y : Option (ℕ × ℕ × ℕ)). Says form u (code_of q.role) (field_at q) w w₁ sh₂ i y) e tells.2

      module _ (v p k : ℕ) (e : x ≡ Some (v, p, k)) where
        says : Draws form u (code_of q.role) (field_at q) w w₁ sh₂ i v p k
        unfolding Says
        says = subst (λ (y : Option (ℕ × ℕ × ℕ)). Says form u (code_of q.role) (field_at q) w w₁ sh₂ i y) e tells.2

        met : Meets (field_at q) says.answer
        met = meets form u (field_at q) (state_in w) says.answer (state_in w₁) says.drawn

        some-role : (code_of q.role ≢ 0) × (code_of q.role ≢ 28)
        unfolding is_ended is_over
        some-role = (eqb-false (code_of q.role) 0 going, eqb-false (code_of q.role) 28 more)

        few : k ≤ most (field_at q)
        few = few-told form u (code_of q.role) (field_at q) says.answer (state_in w) (state_in w₁) sh₂ i k says.lines

        abbrev ls : List Line
        ls = lines_of form u (code_of q.role) (field_at q) says.answer (state_in w) (state_in w₁)

        abbrev then : Grammar Block (Unit {0})
        then = asks.then says.answer

        seen-behind : found (lines_of form u) (after q v p) (noted (code_of q.role) ls inv.sheet) ahead (watch (fields form u) then (state_in w₁)) ≡ goal
        unfolding found on_seen
        seen-behind =
            subst (λ (y : ℕ × ℕ). found (lines_of form u) (after q y.0 y.1) (noted (code_of q.role) ls inv.sheet) ahead (watch (fields form u) then (state_in w₁)) ≡ goal) says.hears
            (subst (λ (b : Plan). found (lines_of form u) (after b (heard (field_at q) says.answer).0 (heard (field_at q) says.answer).1) (noted (code_of b.role) (lines_of form u (code_of b.role) (field_at q) says.answer (state_in w) (state_in w₁)) inv.sheet) ahead (watch (fields form u) then (state_in w₁)) ≡ goal) (settled_here q going)
            (subst (λ (d : Drawn State (Answer (field_at q))). found (lines_of form u) q inv.sheet ahead (on_seen (field_at q) (state_in w) d (λ a t. watch (fields form u) (asks.then a) t)) ≡ goal) says.drawn asks.seen))

        reads-behind : is_whole (run (fields form u) then (state_in w₁)) ≡ true
        unfolding on_drawn
        reads-behind = subst (λ (d : Drawn State (Answer (field_at q))). is_whole (on_drawn d (λ a t. run (fields form u) (asks.then a) t)) ≡ true) says.drawn asks.reads

        pub own-fits : i + k ≤ 18446744073709551615
        own-fits = omega (arith, low sh₁ i placed, says.few.1)

        pub drawn-follows : Follows form u goal w₁ sh₂ (after q v p) ahead (i + k)
        unfolding after
        drawn-follows = record {
          rest = then;
          row = told q (field_at q) says.answer inv.row;
          sheet = noted (code_of q.role) ls inv.sheet;
          fits = subst (λ (y : ℕ × ℕ). Fits Final (after q y.0 y.1) (told q (field_at q) says.answer inv.row) then) says.hears (asks.goes says.answer met);
          same = seen-behind;
          whole = reads-behind;
          small = tells.0;
          size = tells.1.size ∙ placed.above.size ∙ inv.size;
          holds = draw-holds q inv.sheet own sh sh₁ sh₂ i k ls placed tells.1 says.lines says.few.0 v p q.role refl some-role.0 some-role.1 inv.holds few;
        }

        pub drawn-less : left (after q v p) < left q
        unfolding after
        drawn-less = subst (λ (y : ℕ × ℕ). left (after q y.0 y.1) < left q) says.hears (draw-less q.role q says.answer inv.sheet sh own met refl some-role.0 some-role.1 inv.holds)
