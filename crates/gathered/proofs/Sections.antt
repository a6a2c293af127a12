-- All sections as a walk: those read have a row each, and a word in the order of their clients; those to come are all others.
use Rattle.std.specs.Prelude.{Result, Ok, Err}
use Prim.Native.Nat.{ℕ, zero, suc, ◌+◌, ◌-◌, ◌*◌, ◌/◌, ◌%◌, ◌≤◌, ◌<◌}
use mathlib.Core.Path.{◌≡◌, refl, sym, ap, ap₂, ◌∙◌, subst}
use mathlib.Core.Bool.{Bool, true, false}
use mathlib.Core.List.{List, [], ◌∷◌, ◌++◌, map, append_assoc, append-nil}
use native.Mathlib.Omega.{arith}
use lib.Dec.{ltb, leb, eqb}
use lib.ListN.{length, take, drop, get_or, length-append, length-map}
use lib.Seq.{sets, length-sets, drop-drop}
use borrow.Author.Tests.{leb-true, leb-false, lt-ltb, le-ltb, eqb-false}
use Rattle.numbers.specs.declared.Refusal.{Refusal}
use Rattle.numbers.specs.Number.{pick}
use Rattle.numbers.specs.Words.{among}
use Rattle.numbers.specs.Limits.{max_blocks}
use Rattle.numbers.proofs.Output.{take-sets}
use Rattle.block.specs.declared.Block.{Block}
use Rattle.grammar.specs.Course as course
use Rattle.grammar.specs.Course.{CourseTo, thing, over, stopped, run, things, ending}
use Rattle.grammar.specs.Blocks.{blocks, sections}
use Rattle.grammar.proofs.Runs.{and_then, run_bind}
use Rattle.decoder.specs.States.{State}
use Rattle.decoder.specs.ColumnedInner.{fields}
use Rattle.cells.specs.Cells.{at_in, state_in, Small}
use Rattle.readings.specs.Sound.{All}
use Rattle.readings.proofs.Columns.{clash}
use Rattle.summary.specs.Rows.{Row}
use Rattle.summary.specs.Words.{summary_row, words_in}
use Rattle.summary.specs.WordsInner.{row_in, rows_in}
use Rattle.summary.proofs.Laws.{rows_are, length-words, words_append}
use Rattle.tally.specs.Tally.{Descends, clients_in, place_of, inserted_in, rows_by, kept}
use Rattle.gathered.specs.RowsOf.{of_client, first_clock, last_end, row_of, insert_client, rows_of}
use Rattle.gathered.specs.Gathered.{Ends, sections_from, blocks_from, outcome, end_of, Same, Opens, Headed, Tallies, Scans}
use Rattle.gathered.proofs.Owners.{all_of}
use Rattle.gathered.proofs.Clients.{or, descends-put, among-put, of-append, of-own, of_others, rows-by}

-- ---- one run, and then another

module _ (F : Unit {0} → State → CourseTo State Block (Unit {0})) where
  items-then : (c : CourseTo State Block (Unit {0})) → things (and_then c F) ≡ things c ++ ending c (λ s. things (F tt s)) (λ _. [])
  unfolding things and_then ending
  items-then (thing b p c) = ap (λ (l : List Block). b ∷ l) (items-then c)
  items-then (over a s) = refl
  items-then (stopped why) = refl

  ending-then : {X : Type 0} (f : State → X) (g : Refusal → X) (c : CourseTo State Block (Unit {0})) → ending (and_then c F) f g ≡ ending c (λ s. ending (F tt s) f g) g
  unfolding and_then ending
  ending-then f g (thing b p c) = ending-then f g c
  ending-then f g (over a s) = refl
  ending-then f g (stopped why) = refl

-- by how it ends
module _ {X : Type 0} (f : State → X) (g : Refusal → X) where
  ends-got : (c : CourseTo State Block (Unit {0})) (s : State) → outcome c ≡ course.got tt s → ending c f g ≡ f s
  unfolding outcome ending
  ends-got (thing b p c) s e = ends-got c s e
  ends-got (over a t) s e = ap f (let z : t ≡ s = cc in z)
  ends-got (stopped why) s e = absurd (let z : ◌≡◌ {A = ℕ} 0 1 = cc in omega arith)

  ends-not : (c : CourseTo State Block (Unit {0})) (why : Refusal) → outcome c ≡ course.not why → ending c f g ≡ g why
  unfolding outcome ending
  ends-not (thing b p c) why e = ends-not c why e
  ends-not (over a t) why e = absurd (let z : ◌≡◌ {A = ℕ} 0 1 = cc in omega arith)
  ends-not (stopped w) why e = ap g (let z : w ≡ why = cc in z)

ends-front : (ds bs : List Block) → Ends (ds ++ bs) → Ends ds
unfolding Ends
ends-front [] bs h = tt
ends-front (d ∷ ds) bs h = (h.0, ends-front ds bs h.1)

ends-back : (ds bs : List Block) → Ends (ds ++ bs) → Ends bs
unfolding Ends
ends-back [] bs h = h
ends-back (d ∷ ds) bs h = ends-back ds bs h.1

-- ---- words in the order of clients

-- a word names a client of cs
abbrev pub Names : List ℕ → ℕ → Type 0
Names cs o = (o % 64 < length cs) × (get_or cs (o % 64) 0 ≡ o / 64)

get_d_front : (cs : List ℕ) (c i : ℕ) → i < length cs → get_or (cs ++ (c ∷ [])) i 0 ≡ get_or cs i 0
get_d_front [] c i h = absurd (omega (arith, h))
get_d_front (d ∷ cs) c zero h = refl
get_d_front (d ∷ cs) c (suc i) h = get_d_front cs c i (omega (arith, h))

get_d-last : (cs : List ℕ) (c : ℕ) → get_or (cs ++ (c ∷ [])) (length cs) 0 ≡ c
get_d-last [] c = refl
get_d-last (d ∷ cs) c = get_d-last cs c

names_more : (cs : List ℕ) (c : ℕ) (os : List ℕ) → All (Names cs) os → All (Names (cs ++ (c ∷ []))) os
names_more cs c [] h = tt
names_more cs c (o ∷ os) h =
    ((omega (arith, h.0.0, length-append cs (c ∷ [])), get_d_front cs c (o % 64) h.0.0 ∙ h.0.1), names_more cs c os h.1)

name_new : (cs : List ℕ) (c : ℕ) → length cs < 64 → Names (cs ++ (c ∷ [])) (c * 64 + length cs)
name_new cs c l =
    let number : (c * 64 + length cs) % 64 ≡ length cs = omega (arith, l) in
    let client : c ≡ (c * 64 + length cs) / 64 = omega (arith, l) in
    (omega (arith, number, length-append cs (c ∷ [])), ap (λ (i : ℕ). get_or (cs ++ (c ∷ [])) i 0) number ∙ get_d-last cs c ∙ client)

all_inserted : (P : ℕ → Type 0) (p v : ℕ) (os : List ℕ) → All P os → P v → All P (take p os ++ (v ∷ drop p os))
all_inserted P zero v os h k = (k, h)
all_inserted P (suc p) v [] h k = (k, tt)
all_inserted P (suc p) v (o ∷ os) h k = (h.0, all_inserted P p v os h.1 k)

clients-inserted : (c n : ℕ) (os : List ℕ) → n < 64 → among c (clients_in os) ≡ false → clients_in (inserted_in c n os) ≡ insert_client c (clients_in os)
unfolding clients_in inserted_in place_of insert_client among
clients-inserted c n [] l e = ap (λ (d : ℕ). d ∷ []) (omega (arith, l))
clients-inserted c n (o ∷ os) l e = go (leb (o / 64) c) refl (eqb (o / 64) c) refl e (clients-inserted c n os l)
  where
    go : (x : Bool) → leb (o / 64) c ≡ x → (y : Bool) → eqb (o / 64) c ≡ y → pick y true (among c (clients_in os)) ≡ false
        → (among c (clients_in os) ≡ false → clients_in (take (place_of c os) os ++ ((c * 64 + n) ∷ drop (place_of c os) os)) ≡ insert_client c (clients_in os))
        → clients_in (take (pick x 0 (suc (place_of c os))) (o ∷ os) ++ ((c * 64 + n) ∷ drop (pick x 0 (suc (place_of c os))) (o ∷ os)))
        ≡ pick (ltb (o / 64) c) (c ∷ (o / 64 ∷ clients_in os)) (pick y (o / 64 ∷ clients_in os) (o / 64 ∷ insert_client c (clients_in os)))
    go x h true q e rest = clash e
    go true h false q e rest =
        ap (λ (d : ℕ). d ∷ (o / 64 ∷ clients_in os)) (omega (arith, l))
        ∙ sym (ap (λ (t : Bool). pick t (c ∷ (o / 64 ∷ clients_in os)) (o / 64 ∷ insert_client c (clients_in os))) (lt-ltb (o / 64) c (omega (arith, leb-true (o / 64) c h, eqb-false (o / 64) c q))))
    go false h false q e rest =
        ap (λ (ds : List ℕ). o / 64 ∷ ds) (rest e)
        ∙ sym (ap (λ (t : Bool). pick t (c ∷ (o / 64 ∷ clients_in os)) (o / 64 ∷ insert_client c (clients_in os))) (le-ltb (o / 64) c (omega (arith, leb-false (o / 64) c h))))

among-snoc : (x c : ℕ) (cs : List ℕ) → among x (cs ++ (c ∷ [])) ≡ or (eqb c x) (among x cs)
unfolding among or
among-snoc x c [] = go (eqb c x)
  where
    go : (t : Bool) → pick t true false ≡ or t false
    go true = refl
    go false = refl
among-snoc x c (d ∷ cs) = ap (λ (t : Bool). pick (eqb d x) true t) (among-snoc x c cs) ∙ go (eqb d x) (eqb c x) (among x cs)
  where
    go : (a t y : Bool) → pick a true (or t y) ≡ or t (pick a true y)
    go true true y = refl
    go true false y = refl
    go false true y = refl
    go false false y = refl

-- what is not among more is not among fewer, and is not the one more
not_more : (x c : ℕ) (cs : List ℕ) → among x (cs ++ (c ∷ [])) ≡ false → (c ≡ x → ⊥) × (among x cs ≡ false)
unfolding or
not_more x c cs e = go (eqb c x) refl (sym (among-snoc x c cs) ∙ e)
  where
    go : (t : Bool) → eqb c x ≡ t → or t (among x cs) ≡ false → (c ≡ x → ⊥) × (among x cs ≡ false)
    go true q h = clash h
    go false q h = (λ z. eqb-false c x q z, h)

-- ---- rows in the order of sections

row_first : List Row → Row
row_first [] = summary_row 0 0 0 0
row_first (r ∷ rs) = r

row-rest : List Row → List Row
row-rest [] = []
row-rest (r ∷ rs) = rs

row-at : (f : ℕ → Row) (cs w : List ℕ) → rows_in (length cs) w ≡ map f cs → (i : ℕ) → i < length cs → row_in (drop (4 * i) w) ≡ f (get_or cs i 0)
unfolding rows_in row_first row-rest
row-at f [] w e i h = absurd (omega (arith, h))
row-at f (c ∷ cs) w e zero h = ap row_first e
row-at f (c ∷ cs) w e (suc i) h =
    ap row_in (sym (drop-drop (4 * i) 4 w ∙ ap (λ (j : ℕ). drop j w) (let z : 4 + 4 * i ≡ 4 * suc i = omega arith in z))) ∙ row-at f cs (drop 4 w) (ap row-rest e) i (omega (arith, h))

rows_named : (f : ℕ → Row) (cs w : List ℕ) → rows_in (length cs) w ≡ map f cs → (os : List ℕ) → All (Names cs) os → rows_by w os ≡ map f (clients_in os)
unfolding rows_by clients_in
rows_named f cs w e [] h = refl
rows_named f cs w e (o ∷ os) h = ap₂ (λ (r : Row) (rs : List Row). r ∷ rs) (row-at f cs w e (o % 64) h.0.0 ∙ ap f h.0.1) (rows_named f cs w e os h.1)

map_snoc : (f : ℕ → Row) (cs : List ℕ) (c : ℕ) → map f (cs ++ (c ∷ [])) ≡ map f cs ++ (f c ∷ [])
map_snoc f [] c = refl
map_snoc f (d ∷ cs) c = ap (λ (l : List Row). f d ∷ l) (map_snoc f cs c)

-- blocks more, all of client c
module _ (c : ℕ) (ds bs : List Block) (own : All (λ (b : Block). b.client ≡ c) bs) where
  other_row : (d : ℕ) → (c ≡ d → ⊥) → row_of (ds ++ bs) d ≡ row_of ds d
  unfolding row_of
  other_row d n = rw (of-append d ds bs, of_others c d bs n own, append-nil (of_client d ds)) refl

  other-rows : (cs : List ℕ) → among c cs ≡ false → map (row_of (ds ++ bs)) cs ≡ map (row_of ds) cs
  unfolding among
  other-rows [] e = refl
  other-rows (d ∷ cs) e = go (eqb d c) refl e (other-rows cs)
    where
      go : (t : Bool) → eqb d c ≡ t → pick t true (among c cs) ≡ false → (among c cs ≡ false → map (row_of (ds ++ bs)) cs ≡ map (row_of ds) cs)
          → row_of (ds ++ bs) d ∷ map (row_of (ds ++ bs)) cs ≡ row_of ds d ∷ map (row_of ds) cs
      go true q e rest = clash e
      go false q e rest = ap₂ (λ (r : Row) (rs : List Row). r ∷ rs) (other_row d (λ z. eqb-false d c q (sym z))) (rest e)

  own_row : of_client c ds ≡ [] → row_of (ds ++ bs) c ≡ summary_row c (first_clock bs) (last_end bs) (length bs)
  unfolding row_of
  own_row e = rw (of-append c ds bs, e, of-own c bs own) refl

-- ---- a head that is read

pub opens : (form : ℕ) (u w o : List ℕ) (seen room : ℕ) (w₁ o₁ : List ℕ) (x : Result (ℕ × ℕ × ℕ) Refusal) (k c t : ℕ) → Headed form u w o seen room w₁ o₁ x → x ≡ Ok (k, c, t)
    → Opens form u w o seen room w₁ o₁ k c t
unfolding Headed
opens form u w o seen room w₁ o₁ x k c t h e = subst (Headed form u w o seen room w₁ o₁) e h

-- ---- the walk: c is what was to come at first

pub record Walked (form : ℕ) (u : List ℕ) (c : CourseTo State Block (Unit {0})) (w rows order : List ℕ) (left room seen : ℕ) : Type 0 where
  pub blocks : List Block
  pub clients : List ℕ
  pub all : things c ≡ blocks ++ things (sections_from form u left clients room w)
  pub ends : outcome c ≡ outcome (sections_from form u left clients room w)
  pub can : Ends (things c)
  pub small : Small w
  pub size : length rows ≡ 256
  pub words : length order ≡ 64
  pub count : length clients ≡ seen
  pub few : seen + left ≤ 64
  pub limit : room ≤ max_blocks
  pub table : take (4 * seen) rows ≡ words_in (map (row_of blocks) clients)
  pub owned : (x : ℕ) → among x clients ≡ false → of_client x blocks ≡ []
  pub falls : Descends (clients_in (take seen order))
  pub same : Same clients (clients_in (take seen order))
  pub names : All (Names clients) (take seen order)

pub walk_begins : (form : ℕ) (u w rows order : List ℕ) (n : ℕ) → Small w → n ≤ 64 → length rows ≡ 256 → length order ≡ 64 → Ends (things (sections_from form u n [] max_blocks w))
    → Walked form u (sections_from form u n [] max_blocks w) w rows order n max_blocks 0
unfolding words_in clients_in Descends of_client
walk_begins form u w rows order n small few size words can =
    record {
      blocks = [];
      clients = [];
      all = refl;
      ends = refl;
      can = can;
      small = small;
      size = size;
      words = words;
      count = refl;
      few = omega (arith, few);
      limit = omega arith;
      table = refl;
      owned = λ x e. refl;
      falls = tt;
      same = λ x. refl;
      names = tt;
    }

module _ (form : ℕ) (u : List ℕ) (c₀ : CourseTo State Block (Unit {0})) (w rows order : List ℕ) (left room seen : ℕ) (i : Walked form u c₀ w rows order left room seen) where
  refused-by : (why : Refusal) → outcome c₀ ≡ course.not why → Scans c₀ rows order (Err why)
  unfolding Scans end_of
  refused-by why e = ends-not (λ s. Ok s.at) Err c₀ why e

  -- no section is left
  pub at-end : left ≤ 0 → Scans c₀ rows order (Ok (seen, at_in w))
  unfolding Scans end_of sections_from sections run outcome ending things state_in
  at-end z =
      let none : sections_from form u left i.clients room w ≡ over tt (state_in w) = ap (λ (n : ℕ). sections_from form u n i.clients room w) (let y : left ≡ 0 = omega (arith, z) in y) in
      let all : things c₀ ≡ i.blocks = i.all ∙ ap (λ (d : CourseTo State Block (Unit {0})). i.blocks ++ things d) none ∙ append-nil i.blocks in
      let rows-are-in : rows_in (length i.clients) rows ≡ map (row_of i.blocks) i.clients =
      rows_are (length i.clients) rows (map (row_of i.blocks) i.clients) (length-map i.clients (row_of i.blocks)) (ap (λ (n : ℕ). take (4 * n) rows) i.count ∙ i.table) in (
        omega (arith, i.few),
        ap kept (rows_named (row_of i.blocks) i.clients rows rows-are-in (take seen order) i.names)
            ∙ rows-by i.blocks (clients_in (take seen order)) i.falls (λ x e. i.owned x (i.same x ∙ e)) ∙ ap rows_of (sym all),
        ends-got (λ s. Ok s.at) Err c₀ (state_in w) (i.ends ∙ ap outcome none),
      )

  module _ (some : 0 < left) where
    one_more : left ≡ suc (left - 1)
    one_more = omega (arith, some)

    at_head : {x : CourseTo State Block (Unit {0})} → sections_from form u (suc (left - 1)) i.clients room w ≡ x → sections_from form u left i.clients room w ≡ x
    at_head e = ap (λ (n : ℕ). sections_from form u n i.clients room w) one_more ∙ e

    pub no-head : (w₁ o₁ : List ℕ) (x : Result (ℕ × ℕ × ℕ) Refusal) (why : Refusal) → Headed form u w order seen room w₁ o₁ x → x ≡ Err why → Scans c₀ rows o₁ (Err why)
    unfolding Headed outcome ending Scans end_of
    no-head w₁ o₁ x why h e =
        refused-by why (i.ends ∙ ap outcome (at_head (subst (Headed form u w order seen room w₁ o₁) e h (left - 1) i.clients i.same)))

    module _ (w₁ o₁ : List ℕ) (k c t : ℕ) (o : Opens form u w order seen room w₁ o₁ k c t) where
      then-come : Unit {0} → State → CourseTo State Block (Unit {0})
      then-come _ s = run (fields form u) (sections (left - 1) (i.clients ++ (c ∷ [])) (room - k)) s

      here : sections_from form u left i.clients room w ≡ and_then (blocks_from form u k c t w₁) then-come
      unfolding blocks_from then-come
      here = at_head (o.told (left - 1) i.clients i.same) ∙ run_bind (fields form u) (blocks k c t) (λ _. sections (left - 1) (i.clients ++ (c ∷ [])) (room - k)) (state_in w₁)

      pub few-blocks : k ≤ max_blocks
      few-blocks = omega (arith, o.few, i.limit)

      split : things c₀ ≡ i.blocks ++ (things (blocks_from form u k c t w₁) ++ ending (blocks_from form u k c t w₁) (λ s. things (then-come tt s)) (λ _. []))
      split = i.all ∙ ap (λ (l : List Block). i.blocks ++ l) (ap things here ∙ items-then then-come (blocks_from form u k c t w₁))

      pub can-here : Ends (things (blocks_from form u k c t w₁))
      can-here = ends-front (things (blocks_from form u k c t w₁)) _ (ends-back i.blocks _ (subst Ends split i.can))

      outcome-here : outcome c₀ ≡ ending (blocks_from form u k c t w₁) (λ s. outcome (then-come tt s)) (λ why. course.not why)
      unfolding outcome
      outcome-here = i.ends ∙ ap outcome here ∙ ending-then then-come (λ s. course.got tt s) (λ why. course.not why) (blocks_from form u k c t w₁)

      pub no_blocks : (w₂ : List ℕ) (x : Result (ℕ × ℕ × ℕ) Refusal) (why : Refusal) → Tallies (blocks_from form u k c t w₁) w₂ x → x ≡ Err why → Scans c₀ rows o₁ (Err why)
      unfolding Tallies Scans end_of
      no_blocks w₂ x why h e =
          refused-by why (outcome-here ∙ ends-not (λ s. outcome (then-come tt s)) (λ w. course.not w) (blocks_from form u k c t w₁) why (subst (Tallies (blocks_from form u k c t w₁) w₂) e h))

      module _ (w₂ rows₁ : List ℕ) (x : Result (ℕ × ℕ × ℕ) Refusal) (f e n : ℕ) (s₂ : Small w₂) (h : Tallies (blocks_from form u k c t w₁) w₂ x) (is : x ≡ Ok (f, e, n))
          (put_in : rows₁ ≡ sets rows (4 * seen) (words_in (summary_row c f e n ∷ []))) where
        abbrev bs : List Block
        bs = things (blocks_from form u k c t w₁)

        tallies : (f ≡ first_clock bs) × (e ≡ last_end bs) × (n ≡ length bs) × (outcome (blocks_from form u k c t w₁) ≡ course.got tt (state_in w₂))
        unfolding Tallies
        tallies = subst (Tallies (blocks_from form u k c t w₁) w₂) is h

        own : All (λ (b : Block). b.client ≡ c) bs
        unfolding blocks_from
        own = all_of c (fields form u) k t (state_in w₁)

        abbrev cs : List ℕ
        cs = i.clients ++ (c ∷ [])

        new : among c i.clients ≡ false
        new = i.same c ∙ o.new

        all-now : things c₀ ≡ (i.blocks ++ bs) ++ things (sections_from form u (left - 1) cs (room - k) w₂)
        unfolding then-come sections_from
        all-now =
            split ∙ ap (λ (l : List Block). i.blocks ++ (bs ++ l)) (ends-got (λ s. things (then-come tt s)) (λ _. []) (blocks_from form u k c t w₁) (state_in w₂) tallies.3)
            ∙ sym (append_assoc i.blocks bs (things (sections_from form u (left - 1) cs (room - k) w₂)))

        ends_now : outcome c₀ ≡ outcome (sections_from form u (left - 1) cs (room - k) w₂)
        unfolding then-come sections_from
        ends_now = outcome-here ∙ ends-got (λ s. outcome (then-come tt s)) (λ why. course.not why) (blocks_from form u k c t w₁) (state_in w₂) tallies.3

        the_row : summary_row c f e n ≡ row_of (i.blocks ++ bs) c
        the_row = rw (tallies.0, tallies.1, tallies.2) (sym (own_row c i.blocks bs own (i.owned c new)))

        table-now : take (4 * (seen + 1)) rows₁ ≡ words_in (map (row_of (i.blocks ++ bs)) cs)
        table-now =
            let vs = words_in (summary_row c f e n ∷ []) in
            let lv : length vs ≡ 4 = length-words (summary_row c f e n ∷ []) in
            ap₂ take (let z : 4 * (seen + 1) ≡ 4 * seen + length vs = omega (arith, lv) in z) put_in ∙ take-sets rows vs (4 * seen) (omega (arith, lv, i.size, i.few, some))
            ∙ ap₂ (λ (l m : List ℕ). l ++ m) (i.table ∙ ap words_in (sym (other-rows c i.blocks bs own i.clients new))) (ap (λ (r : Row). words_in (r ∷ [])) the_row)
            ∙ sym (ap words_in (map_snoc (row_of (i.blocks ++ bs)) i.clients c) ∙ words_append (map (row_of (i.blocks ++ bs)) i.clients) (row_of (i.blocks ++ bs) c ∷ []))

        owned-now : (x : ℕ) → among x cs ≡ false → of_client x (i.blocks ++ bs) ≡ []
        owned-now x q =
            let out = not_more x c i.clients q in
            of-append x i.blocks bs ∙ ap₂ (λ (l m : List Block). l ++ m) (i.owned x out.1) (of_others c x bs out.0 own)

        clients-now : clients_in (take (seen + 1) o₁) ≡ insert_client c (clients_in (take seen order))
        clients-now = ap clients_in o.order ∙ clients-inserted c seen (take seen order) (omega (arith, i.few, some)) o.new

        names-now : All (Names cs) (take (seen + 1) o₁)
        unfolding inserted_in
        names-now =
            subst (All (Names cs)) (sym o.order) (all_inserted (Names cs) (place_of c (take seen order)) (c * 64 + seen) (take seen order) (names_more i.clients c (take seen order) i.names)
            (subst (λ (j : ℕ). Names cs (c * 64 + j)) i.count (name_new i.clients c (omega (arith, i.count, i.few, some)))))

        pub section-read : length o₁ ≡ length order → Walked form u c₀ w₂ rows₁ o₁ (left - 1) (room - k) (seen + 1)
        section-read words =
            record {
              blocks = i.blocks ++ bs;
              clients = cs;
              all = all-now;
              ends = ends_now;
              can = i.can;
              small = s₂;
              size = ap length put_in ∙ length-sets rows (4 * seen) (words_in (summary_row c f e n ∷ [])) ∙ i.size;
              words = words ∙ i.words;
              count = omega (arith, length-append i.clients (c ∷ []), i.count);
              few = omega (arith, i.few, some);
              limit = omega (arith, i.limit);
              table = table-now;
              owned = owned-now;
              falls = subst Descends (sym clients-now) (descends-put c (clients_in (take seen order)) i.falls);
              same = λ x. among-snoc x c i.clients ∙ ap (or (eqb c x)) (i.same x) ∙ sym (ap (among x) clients-now ∙ among-put x c (clients_in (take seen order)));
              names = names-now;
            }
