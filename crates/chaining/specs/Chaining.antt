-- The rows of a client that follow on each other are a chain. In a chain the rows at which a queue stands tell of many an id whether a taken block
-- holds it, so that it need not be sought: of each that lies before all Skips or behind them. And a row by number need not hang on what is met.
use Rattle.std.specs.Prelude.{ℕ, zero, suc, ◌+◌, ◌-◌, ◌*◌, ◌/◌, ◌<◌, ◌≡◌, Bool, true, false, List, [], ◌∷◌, ltb, leb, eqb, length, get_or, set}
use Rattle.numbers.specs.Number.{pick}
use Rattle.numbers.specs.Limits.{max_clock}
use Rattle.block.specs.declared.Id.{Id}
use Rattle.block.specs.declared.Block.{Block}
use Rattle.block.specs.Row.{no_block}
use Rattle.block.specs.Kinds.{SKIP}
use Rattle.slots.specs.Slots.{Slot, slot, rank, is_named}
use Rattle.picker.specs.declared.stages.Dependency.{Dependency}
use Rattle.picker.specs.Waits.{no_dependency}
use Rattle.picker.specs.Stages.{stage_at}
use Rattle.picker.specs.Picker.{is_met}
use Rattle.placing.specs.declared.Span.{Span}
use Rattle.placing.specs.Placing.{is_held, span_at, span_of, capped, held_by, on_number, numbered_block}
use Rattle.chaining.specs.declared.Ask.{Ask}
use Rattle.chaining.specs.declared.Chain.{Chain}
use Rattle.chaining.specs.declared.Stand.{Stand}

-- ---- a chain

-- rows that do not follow on each other
abbrev pub no_chain : Chain
no_chain = record { end = 0; clear = 0; resume = 0 }

-- before the first row; no clock comes to 2^32
abbrev pub unlinked : Block → Chain
unlinked b = record { end = b.clock + 1; clear = 4294967296; resume = 0 }

-- a Skip from this clock on
unfoldable pub skipped : Chain → ℕ → ℕ → Chain
skipped c clock end = record { end = end; clear = pick (ltb (clock + 1) c.clear) (clock + 1) c.clear; resume = end - 1 }

-- one row more
unfoldable pub linked : Chain → Block → Chain
linked c b =
    pick (eqb c.end (b.clock + 1))
    (pick (ltb max_clock b.length.0) no_chain
    (pick (eqb b.kind SKIP) (skipped c b.clock (c.end + b.length.0))
    (record { end = c.end + b.length.0; clear = c.clear; resume = c.resume }))) no_chain

-- m rows from row i on
unfoldable pub chain_from : List Block → ℕ → ℕ → Chain → Chain
chain_from rows i zero c = c
chain_from rows i (suc m) c = chain_from rows (i + 1) m (linked c (get_or rows i no_block))

-- all rows of a span
unfoldable pub chain_of : List Block → Span → Chain
chain_of rows s =
    pick (ltb s.lo s.hi)
    (pick (ltb (length rows) s.hi) no_chain (chain_from rows s.lo (s.hi - s.lo) (unlinked (get_or rows s.lo no_block)))) no_chain

-- what is kept of a slot's chain, two words
unfoldable pub put_chain : List ℕ → ℕ → Chain → List ℕ
put_chain w p c = pick (ltb p (length w / 2)) (set (set w (2 * p) c.clear) (2 * p + 1) c.resume) w

-- of each slot, the first of which is slot i
unfoldable pub chains_from : ℕ → List Slot → List Block → List ℕ → List ℕ
chains_from i [] rows w = w
chains_from i (s ∷ ss) rows w = chains_from (suc i) ss rows (put_chain w i (chain_of rows (span_at s)))

-- these words are kept of the chains of these slots
unfoldable pub Chains : List Slot → List Block → List ℕ → Type 0
Chains ss rows w = (p : ℕ) → p < length ss → p < length w / 2
    → (get_or w (2 * p) 0 ≡ (chain_of rows (span_at (get_or ss p (slot 0 0 0)))).clear)
    × (get_or w (2 * p + 1) 0 ≡ (chain_of rows (span_at (get_or ss p (slot 0 0 0)))).resume)

-- ---- where a client's queue stands

abbrev pub no_stand : Stand
no_stand = record { first = 0; next = 0; taken = 0; all = 0; clear = 0; resume = 0 }

-- so many of a span's rows being taken, and this being kept of its chain
unfoldable pub stand_in : Span → ℕ → ℕ → ℕ → Stand
stand_in s taken clear resume =
    pick (leb (s.hi - s.lo) taken) (record { first = s.lo; next = s.hi - 1; taken = taken; all = 1; clear = clear; resume = resume })
    (record { first = s.lo; next = s.lo + taken; taken = taken; all = 0; clear = clear; resume = resume })

unfoldable pub stand_at : List Slot → List ℕ → List ℕ → ℕ → Stand
stand_at ss chains reach p =
    pick (ltb p (length chains / 2))
    (pick (ltb p (length reach)) (stand_in (span_at (get_or ss p (slot 0 0 0))) (get_or reach p 0) (get_or chains (2 * p) 0) (get_or chains (2 * p + 1) 0))
    no_stand) no_stand

unfoldable pub stand_of : List Slot → List ℕ → List ℕ → ℕ → Stand
stand_of ss chains reach c = pick (is_named c ss) (stand_at ss chains reach (rank c ss)) no_stand

-- ---- what is seen of a clock: 1, a taken row holds it; 2, the next row holds it; 0, neither is known

unfoldable pub is_seen : Stand → ℕ → Bool
is_seen t n = pick (eqb t.clear 0) false (pick (ltb t.first n) (ltb t.next n) false)

-- it lies before all Skips or behind them
unfoldable pub is_clear : Stand → ℕ → Bool
is_clear t k = pick (ltb (k + 1) t.clear) true (leb t.resume k)

-- it does not lie before the next row, which may be the last of all that are taken
unfoldable pub seen_next : Stand → Block → ℕ → ℕ
seen_next t next k =
    pick (eqb next.kind SKIP) 0 (pick (leb next.length.0 (k - next.clock)) 0 (pick (eqb t.all 1) 1 2))

unfoldable pub seen : Stand → Block → Block → ℕ → ℕ
seen t first next k = pick (ltb k first.clock) 0 (pick (ltb k next.clock) (pick (is_clear t k) 1 0) (seen_next t next k))

unfoldable pub near_of : List Block → Stand → ℕ → ℕ
near_of rows t k = pick (is_seen t (length rows)) (seen t (get_or rows t.first no_block) (get_or rows t.next no_block) k) 0

-- ---- what an id waits for, in one word: one more than a number, or 0

abbrev pub ask_of : Dependency → Ask
ask_of a = record { there = a.there; client = a.id.client; clock = a.id.clock }

abbrev pub id_of : ℕ → ℕ → Id
id_of c k = record { client = c; clock = k }

unfoldable pub unmet_word : List Slot → List ℕ → ℕ → ℕ → ℕ
unmet_word ss reach c number = pick (is_met ss reach (id_of c number)) 0 (number + 1)

-- nothing, if it is not there, is held at first, or is met
unfoldable pub settled : List ℕ → ℕ → List Slot → List Block → List ℕ → Bool → ℕ → ℕ → ℕ
settled w h ss rows reach there c k = pick there (pick (is_held w h (id_of c k)) 0 (unmet_word ss reach c (held_by rows (span_of ss c) k))) 0

-- ---- a row by number, hanging only on what is not met

unfoldable pub on_word : ℕ → ℕ → Dependency
on_word c word = pick (eqb word 0) no_dependency (on_number c (capped (word - 1)))

unfoldable pub light_block : List Slot → ℕ → Block → ℕ → ℕ → ℕ → Block
light_block ss i b left right parent =
    numbered_block ss i b (on_word b.left_client left) (on_word b.right_client right) (on_word b.parent_client parent)

-- what this stage of a block waits for
abbrev pub waits_for : List ℕ → ℕ → List Slot → List Block → List ℕ → Dependency → ℕ
waits_for w h ss rows reach a = settled w h ss rows reach a.there a.id.client a.id.clock

unfoldable pub looked_by : List ℕ → ℕ → List Slot → List Block → List ℕ → ℕ → Block → Block
looked_by w h ss rows reach i b =
    light_block ss i b (waits_for w h ss rows reach (stage_at 28 b 0)) (waits_for w h ss rows reach (stage_at 28 b 1))
    (waits_for w h ss rows reach (stage_at 28 b 2))
