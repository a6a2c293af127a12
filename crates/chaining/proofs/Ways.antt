-- The ways out of the functions, as the code tests them.
use mathlib.Core.Path.{◌≡◌, refl, sym, ◌∙◌}
use mathlib.Core.Logic.{◌≢◌}
use mathlib.Core.Bool.{Bool, true, false}
use mathlib.Core.List.{List}
use Prim.Native.Nat.{ℕ, ◌+◌, ◌-◌, ◌*◌, ◌/◌, ◌≤◌, ◌<◌, min}
use lib.Dec.{ltb, leb}
use lib.ListN.{length, get_or, set}
use borrow.Author.Tests.{lt-ltb, le-ltb, le-leb, lt-leb, eq-eqb, ne_eqb}
use Rattle.numbers.specs.Number.{pick}
use Rattle.numbers.specs.Limits.{max_clock}
use Rattle.block.specs.declared.Block.{Block}
use Rattle.slots.specs.Slots.{Slot, slot, slot_at, slots_from, rank, is_named}
use Rattle.slots.proofs.Words.{slot-at}
use Rattle.picker.specs.Waits.{no_dependency}
use Rattle.picker.specs.Picker.{met_at, is_met}
use Rattle.placing.specs.declared.Span.{Span}
use Rattle.placing.specs.Placing.{span_at, capped, on_number}
use Rattle.placing.proofs.Places.{named-below, min-pick}
use Rattle.chaining.specs.declared.Chain.{Chain}
use Rattle.chaining.specs.declared.Stand.{Stand}
use Rattle.chaining.specs.Chaining.{no_chain, skipped, linked, put_chain, no_stand, stand_in, stand_at, stand_of, is_seen, is_clear, seen_next, seen, id_of, unmet_word, on_word}

-- ---- a chain

module _ (c : Chain) (clock end : ℕ) where
  pub skip-least : record { end = end; clear = min c.clear (clock + 1); resume = end - 1 } ≡ skipped c clock end
  unfolding skipped
  skip-least = rw (min-pick c.clear (clock + 1)) refl

module _ (c : Chain) (b : Block) where
  pub link-off : c.end ≢ b.clock + 1 → no_chain ≡ linked c b
  unfolding linked
  link-off e = rw (ne_eqb c.end (b.clock + 1) e) refl

  module _ (here : c.end ≡ b.clock + 1) where
    pub link-long : max_clock < b.length.0 → no_chain ≡ linked c b
    unfolding linked
    link-long l = rw (eq-eqb c.end (b.clock + 1) here, lt-ltb max_clock b.length.0 l) refl

    module _ (short : b.length.0 ≤ max_clock) where
      pub link-skip : b.kind ≡ 2 → skipped c b.clock (c.end + b.length.0) ≡ linked c b
      unfolding linked
      link-skip e = rw (eq-eqb c.end (b.clock + 1) here, le-ltb max_clock b.length.0 short, eq-eqb b.kind 2 e) refl

      pub link_on : b.kind ≢ 2 → record { end = c.end + b.length.0; clear = c.clear; resume = c.resume } ≡ linked c b
      unfolding linked
      link_on e = rw (eq-eqb c.end (b.clock + 1) here, le-ltb max_clock b.length.0 short, ne_eqb b.kind 2 e) refl

module _ (w : List ℕ) (p : ℕ) (c : Chain) where
  pub put-out : length w / 2 ≤ p → w ≡ put_chain w p c
  unfolding put_chain
  put-out l = rw (le-ltb p (length w / 2) l) refl

  pub put_in : p < length w / 2 → set (set w (2 * p) c.clear) (2 * p + 1) c.resume ≡ put_chain w p c
  unfolding put_chain
  put_in l = rw (lt-ltb p (length w / 2) l) refl

-- ---- where a queue stands

module _ (s : Span) (taken clear resume : ℕ) where
  pub stand-all : s.hi - s.lo ≤ taken
      → stand_in s taken clear resume ≡ record { first = s.lo; next = s.hi - 1; taken = taken; all = 1; clear = clear; resume = resume }
  unfolding stand_in
  stand-all l = rw (le-leb (s.hi - s.lo) taken l) refl

  pub stand-last : (n : ℕ) → n ≡ s.hi - 1 → s.hi - s.lo ≤ taken
      → record { first = s.lo; next = n; taken = taken; all = 1; clear = clear; resume = resume } ≡ stand_in s taken clear resume
  stand-last n e l = rw e (sym (stand-all l))

  pub stand-some : taken < s.hi - s.lo
      → stand_in s taken clear resume ≡ record { first = s.lo; next = s.lo + taken; taken = taken; all = 0; clear = clear; resume = resume }
  unfolding stand_in
  stand-some l = rw (lt-leb (s.hi - s.lo) taken l) refl

module _ (ss : List Slot) (chains reach : List ℕ) (c : ℕ) where
  pub stand-unnamed : is_named c ss ≡ false → no_stand ≡ stand_of ss chains reach c
  unfolding stand_of
  stand-unnamed e = rw e refl

  module _ (named : is_named c ss ≡ true) where
    pub stand-unchained : length chains / 2 ≤ rank c ss → no_stand ≡ stand_of ss chains reach c
    unfolding stand_of stand_at
    stand-unchained l = rw (named, le-ltb (rank c ss) (length chains / 2) l) refl

    module _ (chained : rank c ss < length chains / 2) where
      pub stand-unreached : length reach ≤ rank c ss → no_stand ≡ stand_of ss chains reach c
      unfolding stand_of stand_at
      stand-unreached l = rw (named, lt-ltb (rank c ss) (length chains / 2) chained, le-ltb (rank c ss) (length reach) l) refl

      pub stand-there : rank c ss < length reach
          → stand_of ss chains reach c ≡ stand_in (span_at (get_or ss (rank c ss) (slot 0 0 0))) (get_or reach (rank c ss) 0) (get_or chains (2 * rank c ss) 0) (get_or chains (2 * rank c ss + 1) 0)
      unfolding stand_of stand_at
      stand-there l = rw (named, lt-ltb (rank c ss) (length chains / 2) chained, lt-ltb (rank c ss) (length reach) l) refl

module _ (w : List ℕ) (n c p : ℕ) (is : p ≡ rank c (slots_from w 0 n)) (chains reach : List ℕ) (named : is_named c (slots_from w 0 n) ≡ true)
    (chained : p < length chains / 2) (reached : p < length reach) where
  abbrev ss : List Slot
  ss = slots_from w 0 n

  pub stand-found : stand_in (span_at (slot_at w p)) (get_or reach p 0) (get_or chains (2 * p) 0) (get_or chains (2 * p + 1) 0) ≡ stand_of ss chains reach c
  stand-found =
      sym (stand-there ss chains reach c named (rw (← is) chained) (rw (← is) reached) ∙ rw (← is) (rw (slot-at w n p (named-below w n c p is named)) refl))

-- ---- what is seen from there

module _ (t : Stand) (n : ℕ) where
  pub unseen : t.clear ≡ 0 → false ≡ is_seen t n
  unfolding is_seen
  unseen e = rw (eq-eqb t.clear 0 e) refl

  module _ (chained : t.clear ≢ 0) where
    pub unseen-first : n ≤ t.first → false ≡ is_seen t n
    unfolding is_seen
    unseen-first l = rw (ne_eqb t.clear 0 chained, le-ltb t.first n l) refl

    pub seen_next_lem : t.first < n → ltb t.next n ≡ is_seen t n
    unfolding is_seen
    seen_next_lem l = rw (ne_eqb t.clear 0 chained, lt-ltb t.first n l) refl

module _ (t : Stand) (k : ℕ) where
  pub clear-before : k + 1 < t.clear → true ≡ is_clear t k
  unfolding is_clear
  clear-before l = rw (lt-ltb (k + 1) t.clear l) refl

  pub clear_behind : t.clear ≤ k + 1 → leb t.resume k ≡ is_clear t k
  unfolding is_clear
  clear_behind l = rw (le-ltb (k + 1) t.clear l) refl

module _ (t : Stand) (b : Block) (k : ℕ) where
  pub next-skip : b.kind ≡ 2 → 0 ≡ seen_next t b k
  unfolding seen_next
  next-skip e = rw (eq-eqb b.kind 2 e) refl

  module _ (item : b.kind ≢ 2) where
    pub next-out : b.length.0 ≤ k - b.clock → 0 ≡ seen_next t b k
    unfolding seen_next
    next-out l = rw (ne_eqb b.kind 2 item, le-leb b.length.0 (k - b.clock) l) refl

    module _ (inside : k - b.clock < b.length.0) where
      pub next-all : t.all ≡ 1 → 1 ≡ seen_next t b k
      unfolding seen_next
      next-all e = rw (ne_eqb b.kind 2 item, lt-leb b.length.0 (k - b.clock) inside, eq-eqb t.all 1 e) refl

      pub next-some : t.all ≢ 1 → 2 ≡ seen_next t b k
      unfolding seen_next
      next-some e = rw (ne_eqb b.kind 2 item, lt-leb b.length.0 (k - b.clock) inside, ne_eqb t.all 1 e) refl

module _ (t : Stand) (a b : Block) (k : ℕ) where
  pub see-before : k < a.clock → 0 ≡ seen t a b k
  unfolding seen
  see-before l = rw (lt-ltb k a.clock l) refl

  module _ (from : a.clock ≤ k) where
    pub see-below : (x : Bool) → k < b.clock → is_clear t k ≡ x → pick x 1 0 ≡ seen t a b k
    unfolding seen
    see-below x l e = rw (le-ltb k a.clock from, lt-ltb k b.clock l, e) refl

    pub see-from : b.clock ≤ k → seen_next t b k ≡ seen t a b k
    unfolding seen
    see-from l = rw (le-ltb k a.clock from, le-ltb k b.clock l) refl

-- ---- one word

module _ (ss : List Slot) (reach : List ℕ) (c k : ℕ) where
  pub met_by : (p : ℕ) (named : Bool) → p ≡ rank c ss → named ≡ is_named c ss → met_at reach p named (id_of c k) ≡ is_met ss reach (id_of c k)
  unfolding is_met
  met_by p named e f = rw (e, f) refl

  pub word-met : is_met ss reach (id_of c k) ≡ true → 0 ≡ unmet_word ss reach c k
  unfolding unmet_word
  word-met e = rw e refl

  pub word-unmet : is_met ss reach (id_of c k) ≡ false → k + 1 ≡ unmet_word ss reach c k
  unfolding unmet_word
  word-unmet e = rw e refl

module _ (c word : ℕ) where
  pub on_none : word ≡ 0 → no_dependency ≡ on_word c word
  unfolding on_word
  on_none e = rw (eq-eqb word 0 e) refl

  pub on_some : word ≢ 0 → on_number c (capped (word - 1)) ≡ on_word c word
  unfolding on_word
  on_some e = rw (ne_eqb word 0 e) refl
