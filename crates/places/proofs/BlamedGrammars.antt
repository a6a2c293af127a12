-- Where grammars blame: if each number drawn has a byte of the update for its place, then each thing that the grammars of an update keep has one, and
-- each refusal of their own, and each place that a field is given to blame. So with a reader that draws such numbers and blames the update, the run blames
-- it: one induction.
use Prim.Native.Nat.{ℕ, zero, suc, ◌+◌, ◌-◌, ◌%◌, ◌<◌}
use mathlib.Core.Logic.{inl}
use mathlib.Core.List.{List, [], ◌∷◌, ◌++◌}
use lib.Dec.{ltb, eqb}
use lib.ListN.{length}
use Rattle.numbers.specs.Words.{among}
use Rattle.numbers.specs.Limits.{max_clock, max_blocks}
use Rattle.text.specs.declared.Part.{Part}
use Rattle.block.specs.declared.Block.{Block}
use Rattle.block.specs.Rows.{plain}
use Rattle.block.specs.Kinds.{max_type, is_named}
use Rattle.grammar.specs.Grammar as fields
use Rattle.grammar.specs.Grammar.{Number, Field, Answer, Grammar, ask, emit, stop, done}
use Rattle.grammar.specs.Grammar.{◌>>=◌}
use Rattle.grammar.specs.Course.{Drawn, got, not, Reader, on_drawn, run}
use Rattle.grammar.specs.Blocks as grammar
use Rattle.grammar.specs.Deletes as deletes
use Rattle.decoder.specs.Opening as opening
use Rattle.pieces.proofs.Forgets.{chosen}
use Rattle.places.specs.Places.{Blames, BlamesIn}

abbrev pub Any : {X : Type 0} → X → Type 0
Any x = Unit {0}

module _ (u : List ℕ) where
  -- a number's place is a byte of u
  abbrev pub Byte : ℕ × ℕ → Type 0
  Byte a = a.1 < length u

  unfoldable pub AtByte : (f : Field) → Answer f → Type 0
  AtByte (fields.number n) a = Byte a
  AtByte fields.text a = Unit {0}
  AtByte fields.bytes a = Unit {0}
  AtByte fields.key a = Unit {0}
  AtByte (fields.value blame) a = Unit {0}
  AtByte (fields.values blame n) a = Unit {0}

  -- the place that a field is given to blame is a byte of u
  abbrev pub Fair : Field → Type 0
  Fair (fields.number n) = Unit {0}
  Fair fields.text = Unit {0}
  Fair fields.bytes = Unit {0}
  Fair fields.key = Unit {0}
  Fair (fields.value blame) = blame < length u
  Fair (fields.values blame n) = blame < length u

  -- what is drawn has P and the state after it Inv, or a refusal blames u
  unfoldable pub Gives : {S X : Type 0} → (X → Type 0) → (S → Type 0) → Drawn S X → Type 0
  Gives P Inv (got a s) = P a × Inv s
  Gives P Inv (not why) = Blames u why

  -- a grammar keeps and refuses at bytes of u, and comes to what has P
  unfoldable pub Points : {E A : Type 0} → (A → Type 0) → Grammar E A → Type 0
  Points P (ask f k) = Fair f × ((a : Answer f) → AtByte f a → Points P (k a))
  Points P (emit e p x) = (p < length u) × Points P x
  Points P (stop n p) = p < length u
  Points P (done a) = P a

  pub run-blames : {S E A : Type 0} (Inv : S → Type 0) (r : Reader S) → ((f : Field) (s : S) → Fair f → Inv s → Gives (AtByte f) Inv (r f s))
      → (P : A → Type 0) (x : Grammar E A) → Points P x → (s : S) → Inv s → BlamesIn u (run r x s)
  unfolding run on_drawn BlamesIn Blames Gives Points
  run-blames Inv r h P (ask f k) o s i = go (r f s) (h f s o.0 i) (λ a t q j. run-blames Inv r h P (k a) (o.1 a q) t j)
    where
      go : (d : Drawn _ (Answer f)) → Gives (AtByte f) Inv d → ((a : Answer f) (t : _) → AtByte f a → Inv t → BlamesIn u (run r (k a) t))
          → BlamesIn u (on_drawn d (λ a t. run r (k a) t))
      go (got a t) q more = more a t q.0 q.1
      go (not why) q more = q
  run-blames Inv r h P (emit e p x) o s i = (o.0, run-blames Inv r h P x o.1 s i)
  run-blames Inv r h P (stop n p) o s i = inl o
  run-blames Inv r h P (done a) o s i = tt

  bind : {E A B : Type 0} (P : A → Type 0) (Q : B → Type 0) (x : Grammar E A) (g : A → Grammar E B) → Points P x → ((a : A) → P a → Points Q (g a))
      → Points Q (x >>= g)
  unfolding Points ◌>>=◌
  bind P Q (ask f k) g o then = (o.0, λ a q. bind P Q (k a) g (o.1 a q) then)
  bind P Q (emit e p x) g o then = (o.0, bind P Q x g o.1 then)
  bind P Q (stop n p) g o then = o
  bind P Q (done a) g o then = then a o

  -- ---- the blocks

  row-points : (n : Number) (f : _ → Block) → Points {E = Block} Any (grammar.an_id n >>= λ i. done (f i))
  unfolding Points ◌>>=◌ grammar.an_id
  row-points n f = (tt, λ a _. (tt, λ b _. tt))

  left-points : (i : ℕ) (b : Block) → Points {E = Block} Any (grammar.left i b)
  unfolding Points grammar.left
  left-points i b = chosen (Points Any) (ltb i 128) tt (row-points _ _)

  right-points : (i : ℕ) (b : Block) → Points {E = Block} Any (grammar.right i b)
  unfolding Points grammar.right
  right-points i b = chosen (Points Any) (ltb (i % 128) 64) tt (row-points _ _)

  parent-points : (b : Block) → Points {E = Block} Any (grammar.parent b)
  unfolding Points ◌>>=◌ grammar.parent grammar.parent_after
  parent-points b = (tt, λ a _. chosen (Points Any) (eqb a.0 1) (tt, λ t _. tt) (row-points _ _))

  key-points : (i : ℕ) (b : Block) → Points {E = Block} Any (grammar.key i b)
  unfolding Points ◌>>=◌ grammar.key
  key-points i b = chosen (Points Any) (ltb i 32) tt (tt, λ t _. tt)

  place-points : (i : ℕ) (b : Block) → Points {E = Block} Any (grammar.place i b)
  unfolding grammar.place
  place-points i b =
      chosen (Points Any) (ltb i 64) (bind Any Any (grammar.parent b) (grammar.key i) (parent-points b) (λ c _. key-points i c))
      (bind Any Any (grammar.left i b) (grammar.right i) (left-points i b) (λ c _. right-points i c))

  module _ (i at : ℕ) (l : at < length u) where
    node-points : (n : ℕ) (b : Block) → Points {E = Block} Any (grammar.node n b)
    unfolding Points ◌>>=◌ grammar.node
    node-points n b = chosen (Points Any) (is_named n) (tt, λ k _. tt) tt

    type-points : (b : Block) → Points {E = Block} Any (grammar.type at b)
    unfolding Points ◌>>=◌ grammar.type
    type-points b = (tt, λ a _. chosen (Points Any) (ltb max_type a.0) l (node-points a.0 _))

    -- a value of an unknown kind is blamed at the info byte too
    content-points : (b : Block) → Points {E = Block} Any (grammar.content i at b)
    unfolding Points ◌>>=◌ grammar.content grammar.content_of grammar.deleted grammar.binary grammar.string grammar.format grammar.any_list
    content-points b =
        chosen (Points Any) (eqb (i % 32) 1) (tt, λ a _. tt)
        (chosen (Points Any) (eqb (i % 32) 3) (tt, λ a _. tt)
        (chosen (Points Any) (eqb (i % 32) 4) (tt, λ a _. tt)
        (chosen (Points Any) (eqb (i % 32) 6) (tt, λ k _. (l, λ v _. tt))
        (chosen (Points Any) (eqb (i % 32) 7) (type-points b) (chosen (Points Any) (eqb (i % 32) 8) (tt, λ a _. (l, λ v _. tt)) l)))))

    body-points : (c clock : ℕ) → Points {E = Block} Any (grammar.body c clock i at)
    unfolding Points ◌>>=◌ grammar.body grammar.bare grammar.an_item
    body-points c clock =
        chosen (Points Any) (eqb i 10) (tt, λ a _. tt)
        (chosen (Points Any) (eqb i 0) (tt, λ a _. tt)
        (bind Any Any (grammar.place i (plain c clock 0 0)) (grammar.content i at) (place-points i (plain c clock 0 0)) (λ b _. content-points b)))

  -- the info byte's place comes with the block
  abbrev Info : Block × ℕ → Type 0
  Info a = a.1 < length u

  block-points : (c clock : ℕ) → Points {E = Block} Info (grammar.block c clock)
  unfolding Points AtByte ◌>>=◌ grammar.block
  block-points c clock = (tt, λ a l. bind Any Info (grammar.body c clock a.0 a.1) _ (body-points a.0 a.1 l c clock) (λ b _. l))

  blocks-point : (k c clock : ℕ) → Points Any (grammar.blocks k c clock)
  unfolding Points grammar.blocks grammar.unless_dropped
  blocks-point zero c clock = tt
  blocks-point (suc k) c clock =
      bind Info Any (grammar.block c clock) _ (block-points c clock) (λ a l.
      let more = blocks-point k c (clock + a.0.length.0) in
      chosen (Points Any) (ltb max_clock (clock + a.0.length.0)) l (chosen (Points Any) (grammar.dropped a.0) more (l, more)))

  sections-point : (n : ℕ) (seen : List ℕ) (room : ℕ) → Points Any (grammar.sections n seen room)
  unfolding Points AtByte ◌>>=◌ grammar.sections
  sections-point zero seen room = tt
  sections-point (suc n) seen room = (
    tt,
    λ k _. (
      tt,
      λ c l.
          chosen (Points Any) (among c.0 seen) l (
            tt,
            λ clock _.
                bind Any Any (grammar.blocks k.0 c.0 clock.0) _ (blocks-point k.0 c.0 clock.0)
                (λ _ _. sections-point n (seen ++ (c.0 ∷ [])) (room - k.0)),
          ),
    ),
  )

  pub all-blocks-point : Points Any grammar.all_blocks
  unfolding Points ◌>>=◌ grammar.all_blocks
  all-blocks-point = (tt, λ n _. sections-point n.0 [] max_blocks)

  -- ---- the delete ranges

  ranges-point : (k client end : ℕ) → Points Any (deletes.ranges k client end)
  unfolding Points AtByte ◌>>=◌ deletes.ranges
  ranges-point zero client end = tt
  ranges-point (suc k) client end = (
    tt,
    λ c l. (
      tt,
      λ n _.
          let more = ranges-point k client (c.0 + n.0) in
          chosen (Points Any) (ltb max_clock (c.0 + n.0)) l (chosen (Points Any) (eqb n.0 0) more (l, more)),
    ),
  )

  clients-point : (n : ℕ) → Points Any (deletes.deleted_clients n)
  unfolding Points ◌>>=◌ deletes.deleted_clients
  clients-point zero = tt
  clients-point (suc n) =
      (tt, λ c _. (tt, λ k _. bind Any Any (deletes.ranges k.0 c.0 0) _ (ranges-point k.0 c.0 0) (λ _ _. clients-point n)))

  pub all-ranges-point : Points Any deletes.all_ranges
  unfolding Points ◌>>=◌ deletes.all_ranges
  all-ranges-point = (tt, λ n _. clients-point n.0)

  -- ---- the columns of form 2

  cut-points : (n : ℕ) (ps : List Part) → Points Any (opening.cut n ps)
  unfolding Points ◌>>=◌ opening.cut
  cut-points zero ps = tt
  cut-points (suc n) ps = (tt, λ p _. cut-points n (ps ++ (p ∷ [])))

  pub heads-point : Points Any opening.heads
  unfolding Points ◌>>=◌ opening.heads
  heads-point = (tt, λ a _. cut-points 9 [])
