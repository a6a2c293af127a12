-- One step of the grammar, with no machine: what is to come before a section's head, a block or the end is what reading it gives, and then what is to come.
use Rattle.std.specs.Prelude.{Option, Some, None}
use Rattle.std.specs.Prelude.{Result, Ok, Err}
use Prim.Native.Nat.{ℕ, suc, ◌+◌, ◌-◌, ◌<◌, ◌≤◌}
use native.Mathlib.Omega.{arith}
use native.Mathlib.Numerals.{add-one}
use mathlib.Core.Path.{◌≡◌, refl, sym, ap, ◌∙◌}
use mathlib.Core.Logic.{◌≢◌}
use mathlib.Core.Bool.{Bool, true, false}
use mathlib.Core.List.{List, [], ◌∷◌, ◌++◌}
use lib.Dec.{ltb}
use lib.ListN.{length, get_or, take, set, replicate, length-set, length-replicate, get_or-replicate}
use lib.Seq.{take-suc-set}
use borrow.Author.Tests.{lt-ltb, le-ltb, ltb-false, ne_eqb}
use Rattle.numbers.specs.declared.Refusal.{Refusal}
use Rattle.numbers.specs.Number.{pick}
use Rattle.numbers.specs.Words.{among}
use Rattle.numbers.specs.Limits.{max_clock, max_clients, max_blocks}
use Rattle.block.specs.declared.Block as row
use Rattle.grammar.specs.Grammar as grammar
use Rattle.grammar.specs.Grammar.{Number, Grammar, ask, stop, draw}
use Rattle.grammar.specs.Grammar.{◌>>=◌}
use Rattle.grammar.specs.Course.{Drawn, got, not, CourseTo, thing, stopped, on_drawn, run}
use Rattle.grammar.specs.Blocks.{block, dropped, unless_dropped, blocks, sections, all_blocks}
use Rattle.grammar.proofs.Runs.{and_then, run_bind}
use Rattle.decoder.specs.Line.{bounded, var_at, up_to, line}
use Rattle.decoder.specs.States.{State}
use Rattle.decoder.specs.Columned.{onto}
use Rattle.decoder.specs.ColumnedInner.{fields}
use Rattle.decoder.specs.Opening.{opened_of}
use Rattle.decoder.specs.Update.{rest_places, in_columns, blocks_of}
use Rattle.decoder.proofs.Laws.{placed-line, run-columned, fields-up-to}
use Rattle.cells.specs.Cells.{cell, at_in, place_in, why_in, state_in, Small, Enough, given, key_count}
use Rattle.opening.specs.Opening.{opened_in}
use Rattle.item.specs.Row.{row_in, Narrow, block_onto}
use Rattle.update.specs.declared.Spot.{Spot}
use Rattle.update.specs.declared.Step.TheVariants.{Block, On, Done}
use Rattle.update.specs.Steps.{to_come, reads, after, begins, Fine, left, Steady, Stepped, First, Counted, Starts}

-- ---- a number drawn

-- what is in line, as the form has it
pub in-line : (form : ℕ) (u : List ℕ) (most : ℕ) (w v : List ℕ) (r : Option ℕ) → given v r ≡ onto (state_in w) (up_to most u (at_in w))
    → given v r ≡ fields form u (grammar.number (grammar.up_to most)) (state_in w)
unfolding state_in
in-line form u most w v r e = e ∙ sym (fields-up-to form u most (state_in w))

-- and is no more than its limit
pub within : (most : ℕ) (u : List ℕ) (at : ℕ) (s : State) (v : List ℕ) (x : ℕ) → given v (Some x) ≡ onto s (up_to most u at) → x ≤ most
unfolding up_to bounded given onto
within most u at s v x e = go (var_at u at) e
  where
    value : Drawn State (ℕ × ℕ) → ℕ
    value (got a t) = a.0
    value (not why) = 0

    is-not : Drawn State (ℕ × ℕ) → ℕ
    is-not (got a t) = 0
    is-not (not why) = 1

    by : (b : Bool) (a : ℕ × ℕ) (e : ℕ) → ltb most a.0 ≡ b → got (x, place_in v) (state_in v) ≡ onto s (pick b (not (record { number = 3; place = a.1 })) (got a e)) → x ≤ most
    by true a e t h = absurd (let z : ◌≡◌ {A = ℕ} 0 1 = ap is-not h in omega (arith, z))
    by false a e t h = omega (arith, ap value h, ltb-false most a.0 t)

    go : (d : Drawn ℕ (ℕ × ℕ)) → got (x, place_in v) (state_in v) ≡ onto s (bounded most d) → x ≤ most
    go (got a e) h = by (ltb most a.0) a e refl h
    go (not why) h = absurd (let z : ◌≡◌ {A = ℕ} 0 1 = ap is-not h in omega (arith, z))

module _ {E A : Type 0} (form : ℕ) (u : List ℕ) (n : Number) (k : ℕ × ℕ → Grammar E A) (w v : List ℕ) where
  -- what comes of a number: the rest, read from the words that it leaves
  pub asked : (x : ℕ) → given v (Some x) ≡ fields form u (grammar.number n) (state_in w)
      → run (fields form u) (ask (grammar.number n) k) (state_in w) ≡ run (fields form u) (k (x, place_in v)) (state_in v)
  unfolding run on_drawn given
  asked x e = rw (← e) refl

  pub refused : given v None ≡ fields form u (grammar.number n) (state_in w) → run (fields form u) (ask (grammar.number n) k) (state_in w) ≡ stopped (why_in v)
  unfolding run on_drawn given
  refused e = rw (← e) refl

-- ---- ways out

module _ (form : ℕ) (u m w r : List ℕ) (s : Spot) (m₁ w₁ r₁ : List ℕ) (small : Small w₁) (memory : length m₁ ≡ length m) (row-length : length r₁ ≡ length r) where
  pub refuses : (why : Refusal) → reads form u m w s ≡ stopped why → Stepped form u m w r s m₁ w₁ r₁ (Err why)
  unfolding after Steady
  refuses why e = record { told = e; steady = tt; small = small; memory = memory; row = row-length }

  pub goes_on : (t : Spot) → reads form u m w s ≡ reads form u m₁ w₁ t → Fine m₁ t → left t < left s → Stepped form u m w r s m₁ w₁ r₁ (Ok (On t))
  unfolding after Steady
  goes_on t e fine less = record { told = e; steady = (fine, less); small = small; memory = memory; row = row-length }

  pub keeps : (p : ℕ) (t : Spot) → reads form u m w s ≡ thing (row_in r₁) p (reads form u m₁ w₁ t) → Fine m₁ t → Narrow r₁ → left t < left s
      → Stepped form u m w r s m₁ w₁ r₁ (Ok (Block p t))
  unfolding after Steady
  keeps p t e fine narrow less = record { told = e; steady = (fine, narrow, less); small = small; memory = memory; row = row-length }

-- ---- the end

pub ends : (form : ℕ) (u m w r : List ℕ) (s : Spot) → s.blocks ≡ 0 → s.sections ≡ 0 → Small w → Stepped form u m w r s m w r (Ok (Done (at_in w)))
unfolding reads to_come after Steady run blocks sections ◌>>=◌ state_in
ends form u m w r s b n small = record { told = rw (b, n) refl; steady = tt; small = small; memory = refl; row = refl }

-- ---- a section's head

-- the rest of a section behind its client
abbrev after_client : ℕ → List ℕ → ℕ → ℕ → ℕ × ℕ → Grammar row.Block (Unit {0})
after_client n seen room k c = pick (among c.0 seen) (stop 4 c.1) (draw (grammar.number (grammar.up_to max_clock)) >>= λ a. blocks k c.0 a.0 >>= λ _. sections n (seen ++ (c.0 ∷ [])) (room - k))

module _ (form : ℕ) (u m w : List ℕ) (s : Spot) (none : s.blocks ≡ 0) (some : 1 ≤ s.sections) where
  abbrev rest : ℕ → ℕ × ℕ → Grammar row.Block (Unit {0})
  rest = after_client (s.sections - 1) (take s.seen m) s.room

  abbrev start : Grammar row.Block (Unit {0})
  start = ask (grammar.number (grammar.up_to s.room)) (λ a. ask (grammar.number grammar.client) (rest a.0))

  at-section : to_come m s ≡ start
  unfolding to_come blocks sections ◌>>=◌
  at-section = rw none (ap (λ (j : ℕ). sections j (take s.seen m) s.room) one_more)
    where
      one_more : s.sections ≡ suc (s.sections - 1)
      one_more = omega (arith, some)

  from-here : {x : CourseTo State row.Block (Unit {0})} → run (fields form u) start (state_in w) ≡ x → reads form u m w s ≡ x
  unfolding reads
  from-here e = ap (λ (x : Grammar row.Block (Unit {0})). run (fields form u) x (state_in w)) at-section ∙ e

  pub no-count : (v : List ℕ) → given v None ≡ fields form u (grammar.number (grammar.up_to s.room)) (state_in w) → reads form u m w s ≡ stopped (why_in v)
  no-count v e = from-here (refused form u _ _ w v e)

  module _ (w₁ : List ℕ) (k : ℕ) (ek : given w₁ (Some k) ≡ fields form u (grammar.number (grammar.up_to s.room)) (state_in w)) where
    counted : reads form u m w s ≡ run (fields form u) (ask (grammar.number grammar.client) (rest k)) (state_in w₁)
    counted = from-here (asked form u _ _ w w₁ k ek)

    pub no-client : (v : List ℕ) → given v None ≡ fields form u (grammar.number grammar.client) (state_in w₁) → reads form u m w s ≡ stopped (why_in v)
    no-client v e = counted ∙ refused form u _ _ w₁ v e

    module _ (w₂ : List ℕ) (c : ℕ) (ec : given w₂ (Some c) ≡ fields form u (grammar.number grammar.client) (state_in w₁)) where
      named : reads form u m w s ≡ run (fields form u) (rest k (c, place_in w₂)) (state_in w₂)
      named = counted ∙ asked form u _ _ w₁ w₂ c ec

      pub again : among c (take s.seen m) ≡ true → reads form u m w s ≡ stopped (record { number = 4; place = place_in w₂ })
      unfolding run
      again h = named ∙ rw h refl

      module _ (new : among c (take s.seen m) ≡ false) where
        clocked : reads form u m w s ≡ run (fields form u) (ask (grammar.number (grammar.up_to max_clock)) (λ a. blocks k c a.0 >>= λ _. sections (s.sections - 1) (take s.seen m ++ (c ∷ [])) (s.room - k))) (state_in w₂)
        unfolding ◌>>=◌
        clocked = named ∙ rw new refl

        pub no-clock : (v : List ℕ) → given v None ≡ fields form u (grammar.number (grammar.up_to max_clock)) (state_in w₂) → reads form u m w s ≡ stopped (why_in v)
        no-clock v e = clocked ∙ refused form u _ _ w₂ v e

        module _ (w₃ : List ℕ) (clock : ℕ) (el : given w₃ (Some clock) ≡ fields form u (grammar.number (grammar.up_to max_clock)) (state_in w₂)) (fine : Fine m s) where
          abbrev head : Spot
          head = record { sections = s.sections - 1; blocks = k; room = s.room - k; seen = s.seen + 1; client = c; clock = clock }

          pub headed : reads form u m w s ≡ reads form u (set m s.seen c) w₃ head
          unfolding reads to_come
          headed =
              clocked ∙ asked form u _ _ w₂ w₃ clock el
              ∙ ap (λ (cs : List ℕ). run (fields form u) (blocks k c clock >>= λ _. sections (s.sections - 1) cs (s.room - k)) (state_in w₃)) seen-now
            where
              seen-now : take s.seen m ++ (c ∷ []) ≡ take (s.seen + 1) (set m s.seen c)
              seen-now = sym (ap (λ (j : ℕ). take j (set m s.seen c)) (add-one s.seen) ∙ take-suc-set m s.seen c (omega (arith, fine.seen, some)))

          module _ (few : k ≤ s.room) (low : clock ≤ max_clock) where
            pub head-fine : Fine (set m s.seen c) head
            head-fine = record {
              seen = omega (arith, fine.seen, some, length-set m s.seen c);
              room = omega (arith, fine.room);
              blocks = omega (arith, fine.room, few);
              clock = low;
            }

            pub head-less : left head < left s
            unfolding left
            head-less = omega (arith, some, none, fine.room, few)

-- ---- a block

module _ (form : ℕ) (u m w : List ℕ) (s : Spot) (some : 1 ≤ s.blocks) where
  -- what follows the blocks of the section
  abbrev behind : Unit {0} → Grammar row.Block (Unit {0})
  behind x = sections s.sections (take s.seen m) s.room

  abbrev Behind : Unit {0} → State → CourseTo State row.Block (Unit {0})
  Behind x t = run (fields form u) (behind x) t

  -- what follows a block
  abbrev next : row.Block × ℕ → Grammar row.Block (Unit {0})
  next b = pick (ltb max_clock (s.clock + b.0.length.0)) (stop 3 b.1) (unless_dropped b.0 b.1 (blocks (s.blocks - 1) s.client (s.clock + b.0.length.0)))

  at_block : reads form u m w s ≡ and_then (and_then (run (fields form u) (block s.client s.clock) (state_in w)) (λ b t. run (fields form u) (next b) t)) Behind
  unfolding reads to_come blocks
  at_block =
      ap (λ (j : ℕ). run (fields form u) (blocks j s.client s.clock >>= behind) (state_in w)) one_more
      ∙ run_bind (fields form u) (blocks (suc (s.blocks - 1)) s.client s.clock) behind (state_in w)
      ∙ ap (λ (x : CourseTo State row.Block (Unit {0})). and_then x Behind) (run_bind (fields form u) (block s.client s.clock) next (state_in w))
    where
      one_more : s.blocks ≡ suc (s.blocks - 1)
      one_more = omega (arith, some)

  module _ (v q : List ℕ) where
    pub no_block : block_onto v q None ≡ run (fields form u) (block s.client s.clock) (state_in w) → reads form u m w s ≡ stopped (why_in v)
    unfolding block_onto and_then
    no_block e = at_block ∙ rw (← e) refl

    module _ (p : ℕ) (e : block_onto v q (Some p) ≡ run (fields form u) (block s.client s.clock) (state_in w)) where
      had : reads form u m w s ≡ and_then (run (fields form u) (next (row_in q, p)) (state_in v)) Behind
      unfolding block_onto and_then
      had = at_block ∙ rw (← e) refl

      pub too_far : max_clock < s.clock + (row_in q).length.0 → reads form u m w s ≡ stopped (record { number = 3; place = p })
      unfolding run and_then
      too_far h = had ∙ rw (lt-ltb max_clock (s.clock + (row_in q).length.0) h) refl

      module _ (near : s.clock + (row_in q).length.0 ≤ max_clock) where
        abbrev ended : Spot
        ended = record { sections = s.sections; blocks = s.blocks - 1; room = s.room; seen = s.seen; client = s.client; clock = s.clock + (row_in q).length.0 }

        then-comes : and_then (run (fields form u) (blocks (s.blocks - 1) s.client (s.clock + (row_in q).length.0)) (state_in v)) Behind ≡ reads form u m v ended
        unfolding reads to_come
        then-comes = sym (run_bind (fields form u) (blocks (s.blocks - 1) s.client (s.clock + (row_in q).length.0)) behind (state_in v))

        short : reads form u m w s ≡ and_then (run (fields form u) (unless_dropped (row_in q) p (blocks (s.blocks - 1) s.client (s.clock + (row_in q).length.0))) (state_in v)) Behind
        short = had ∙ rw (le-ltb max_clock (s.clock + (row_in q).length.0) near) refl

        pub drops : dropped (row_in q) ≡ true → reads form u m w s ≡ reads form u m v ended
        unfolding unless_dropped
        drops d = short ∙ rw d then-comes

        pub has : dropped (row_in q) ≡ false → reads form u m w s ≡ thing (row_in q) p (reads form u m v ended)
        unfolding unless_dropped run and_then
        has d = short ∙ rw d (ap (thing (row_in q) p) then-comes)

        pub end-fine : Fine m s → Fine m ended
        end-fine fine = record { seen = fine.seen; room = fine.room; blocks = omega (arith, fine.blocks); clock = near }

        pub end-less : left ended < left s
        unfolding left
        end-less = omega (arith, some)

-- ---- the beginning

-- words of which none is stored yet
zeros : (n : ℕ) → 68 ≤ n → Small (replicate n 0)
unfolding cell key_count
zeros n l =
    let z : (i : ℕ) → i < 68 → ◌≡◌ {A = ℕ} (get_or (replicate n 0) i 0) 0 = λ i m. get_or-replicate n i 0 0 (omega arith) in
    record {
      size = rw (length-replicate {A = ℕ} n 0) l;
      room = λ _. (z 3 (omega arith), omega (arith, z 4 (omega arith)));
      keys = omega (arith, z 67 (omega arith));
      key = record { last = omega (arith, z 2 (omega arith)); key = omega (arith, z 5 (omega arith)) };
      left = record { last = omega (arith, z 16 (omega arith)); key = omega (arith, z 19 (omega arith)) };
      right = record { last = omega (arith, z 23 (omega arith)); key = omega (arith, z 26 (omega arith)) };
      why = omega (arith, z 65 (omega arith));
    }

pub fresh : Small (replicate 580 0)
fresh = zeros 580 (omega arith)

pub fresh-enough : (u : List ℕ) → Enough u (replicate 580 0)
fresh-enough u l = absurd (omega arith)

-- without words for keys
pub fresh-few : Small (replicate 68 0)
fresh-few = zeros 68 (omega arith)

abbrev first : ℕ → Spot
first n = record { sections = n; blocks = 0; room = max_blocks; seen = 0; client = 0; clock = 0 }

module _ (form : ℕ) (u w v : List ℕ) (small : Small v) where
  pub uncounted : given v None ≡ fields form u (grammar.number (grammar.up_to max_clients)) (state_in w) → Counted form u w v (Err (why_in v))
  unfolding begins First all_blocks ◌>>=◌
  uncounted e = record { told = λ m. refused form u _ _ w v e; first = λ m l. tt; small = small }

  pub count : (n : ℕ) → n ≤ max_clients → given v (Some n) ≡ fields form u (grammar.number (grammar.up_to max_clients)) (state_in w) → Counted form u w v (Ok (first n))
  unfolding begins First reads to_come blocks all_blocks ◌>>=◌
  count n few e = record {
    told = λ m. asked form u _ _ w v n e;
    first = λ m l. record { seen = omega (arith, few, l); room = omega arith; blocks = omega arith; clock = omega arith };
    small = small;
  }

-- form 1 is read from its first byte on
pub starts-line : (form : ℕ) (u w v : List ℕ) (x : Result Spot Refusal) → form ≡ 1 → at_in w ≡ 0 → Counted form u w v x → Starts form u v x
unfolding blocks_of state_in
starts-line form u w v x f z c = record { told = λ m. first_byte ∙ ap rest_places (c.told m); columns = λ m other. absurd (other f); first = c.first; small = c.small }
  where
    first_byte : blocks_of form u ≡ rest_places (run (fields form u) all_blocks (state_in w))
    first_byte = rw (f) (sym (placed-line u all_blocks (state_in w) ∙ ap (λ (at : ℕ). run (line 1 u) all_blocks at) z))

module _ (form : ℕ) (u v : List ℕ) (other : form ≢ 1) where
  pub unopened : Small v → opened_in v None ≡ opened_of u → Starts form u v (Err (why_in v))
  unfolding blocks_of in_columns on_drawn rest_places opened_in begins First
  unopened small e = record { told = λ m. rw (ne_eqb form 1 other, ← e) refl; columns = λ m o. rw (← e) refl; first = λ m l. tt; small = small }

  pub starts-columned : (n : ℕ) (w : List ℕ) (x : Result Spot Refusal) → opened_in v (Some n) ≡ opened_of u → Counted form u v w x → Starts form u w x
  unfolding blocks_of in_columns on_drawn opened_in
  starts-columned n w x e c =
      record {
        told = λ m. rw (ne_eqb form 1 other) (ap rest_places (behind-columns ∙ c.told m));
        columns = λ m o. behind-columns ∙ c.told m;
        first = c.first;
        small = c.small;
      }
    where
      behind-columns : in_columns u ≡ run (fields form u) all_blocks (state_in v)
      behind-columns = rw (← e) (sym (run-columned form u other all_blocks (state_in v)))
