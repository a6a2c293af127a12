-- The blocks of a section are its client's, whatever reads them.
use Prim.Native.Nat.{ℕ, zero, suc, ◌+◌, ◌%◌}
use mathlib.Core.Path.{◌≡◌, refl}
use mathlib.Core.List.{◌∷◌}
use lib.Dec.{ltb, eqb}
use Rattle.numbers.specs.Number.{pick}
use Rattle.numbers.specs.Limits.{max_clock}
use Rattle.block.specs.declared.Block.{Block}
use Rattle.block.specs.Rows.{plain}
use Rattle.block.specs.Kinds.{max_type, is_named}
use Rattle.grammar.specs.Grammar as answers
use Rattle.grammar.specs.Grammar.{Field, Answer, Number, Grammar, stop}
use Rattle.grammar.specs.Grammar.{◌>>=◌}
use Rattle.grammar.specs.Course.{Drawn, got, not, Reader, run, things}
use Rattle.grammar.specs.Blocks as grammar
use Rattle.readings.specs.Sound.{All}
use Rattle.readings.proofs.Walks as walks
use Rattle.readings.proofs.Walks.{Gives}
use Rattle.readings.proofs.Columns.{chosen}

-- nothing is asked of answers
Any : (f : Field) → Answer f → Type 0
Any f a = Unit {0}

abbrev Comes : {A : Type 0} → (A → Type 0) → Grammar Block A → Type 0
Comes P x = walks.Comes Any P x

bind : {A B : Type 0} (P : A → Type 0) (Q : B → Type 0) (x : Grammar Block A) (g : A → Grammar Block B) → Comes P x → ((a : A) → P a → Comes Q (g a)) → Comes Q (x >>= g)
bind P Q x g h then = walks.comes-bind Any P Q x g h then

module _ (c : ℕ) where
  abbrev pub Of : Block → Type 0
  Of b = b.client ≡ c

  -- ---- where an item stands

  module _ (n : Number) (g : _ → Grammar Block Block) (then : (i : _) → Comes Of (g i)) where
    behind-id : Comes Of (grammar.an_id n >>= g)
    unfolding walks.Comes ◌>>=◌ grammar.an_id
    behind-id = λ a _ k _. then _

  left-of : (i : ℕ) (b : Block) → Of b → Comes Of (grammar.left i b)
  unfolding walks.Comes grammar.left
  left-of i b h = chosen (Comes Of) (ltb i 128) (λ _. h) (λ _. behind-id answers.left_clock _ (λ _. h))

  right_of : (i : ℕ) (b : Block) → Of b → Comes Of (grammar.right i b)
  unfolding walks.Comes grammar.right
  right_of i b h = chosen (Comes Of) (ltb (i % 128) 64) (λ _. h) (λ _. behind-id answers.right_clock _ (λ _. h))

  parent_of : (b : Block) → Of b → Comes Of (grammar.parent b)
  unfolding walks.Comes ◌>>=◌ grammar.parent grammar.parent_after
  parent_of b h = λ v _. chosen (Comes Of) (eqb v.0 1) (λ _ a _. h) (λ _. behind-id answers.left_clock _ (λ _. h))

  key_of : (i : ℕ) (b : Block) → Of b → Comes Of (grammar.key i b)
  unfolding walks.Comes ◌>>=◌ grammar.key
  key_of i b h = chosen (Comes Of) (ltb i 32) (λ _. h) (λ _ a _. h)

  place_of : (i : ℕ) (b : Block) → Of b → Comes Of (grammar.place i b)
  unfolding grammar.place
  place_of i b h =
      chosen (Comes Of) (ltb i 64) (λ _. bind Of Of (grammar.parent b) (grammar.key i) (parent_of b h) (key_of i)) (λ _. bind Of Of (grammar.left i b) (grammar.right i) (left-of i b h) (right_of i))

  -- ---- what it holds

  type-of : (at : ℕ) (b : Block) → Of b → Comes Of (grammar.type at b)
  unfolding walks.Comes ◌>>=◌ grammar.type grammar.node
  type-of at b h = λ n _. chosen (Comes Of) (ltb max_type n.0) (λ _. tt) (λ _. chosen (Comes Of) (is_named n.0) (λ _ k _. h) (λ _. h))

  content-of : (i at : ℕ) (b : Block) → Of b → Comes Of (grammar.content i at b)
  unfolding walks.Comes ◌>>=◌ grammar.content grammar.content_of grammar.deleted grammar.binary grammar.string grammar.format grammar.any_list
  content-of i at b h =
      chosen (Comes Of) (eqb (i % 32) 1) (λ _ v _. h)
      (λ _. chosen (Comes Of) (eqb (i % 32) 3) (λ _ p _. h)
      (λ _. chosen (Comes Of) (eqb (i % 32) 4) (λ _ a _. h)
      (λ _. chosen (Comes Of) (eqb (i % 32) 6) (λ _ k _ v _. h)
      (λ _. chosen (Comes Of) (eqb (i % 32) 7) (λ _. type-of at b h)
      (λ _. chosen (Comes Of) (eqb (i % 32) 8) (λ _ n _ v _. h) (λ _. tt))))))

  -- ---- a block, and blocks

  body_of : (k i at : ℕ) → Comes Of (grammar.body c k i at)
  unfolding walks.Comes ◌>>=◌ grammar.body grammar.bare grammar.an_item
  body_of k i at =
      chosen (Comes Of) (eqb i 10) (λ _ v _. refl)
      (λ _. chosen (Comes Of) (eqb i 0) (λ _ v _. refl) (λ _. bind Of Of (grammar.place i (plain c k 0 0)) (grammar.content i at) (place_of i (plain c k 0 0) refl) (content-of i at)))

  block_of : (k : ℕ) → Comes (λ (a : Block × ℕ). Of a.0) (grammar.block c k)
  unfolding walks.Comes ◌>>=◌ grammar.block
  block_of k = λ i _. bind Of (λ (a : Block × ℕ). Of a.0) (grammar.body c k i.0 i.1) _ (body_of k i.0 i.1) (λ b h. h)

  abbrev Keeps : Grammar Block (Unit {0}) → Type 0
  Keeps x = walks.Keeps Any (All Of) x

  -- a grammar that keeps nothing, and then one that does
  then_keeps : (x : Grammar Block (Block × ℕ)) (g : Block × ℕ → Grammar Block (Unit {0})) → Comes (λ (a : Block × ℕ). Of a.0) x → ((a : Block × ℕ) → Of a.0 → Keeps (g a)) → Keeps (x >>= g)
  unfolding walks.Comes walks.Keeps ◌>>=◌
  then_keeps (answers.ask f k) g h then = (tt, λ a i. then_keeps (k a) g (h a i) then)
  then_keeps (answers.emit e p x) g h then = absurd h
  then_keeps (answers.stop n p) g h then = tt
  then_keeps (answers.done a) g h then = then a h

  block-keeps : (n k : ℕ) (a : Block × ℕ) → Of a.0 → Keeps (grammar.blocks n c (k + a.0.length.0))
      → Keeps (pick (ltb max_clock (k + a.0.length.0)) (stop 3 a.1) (grammar.unless_dropped a.0 a.1 (grammar.blocks n c (k + a.0.length.0))))
  unfolding walks.Keeps grammar.unless_dropped
  block-keeps n k a h rest =
      chosen Keeps (ltb max_clock (k + a.0.length.0)) (λ _. tt)
      (λ _. chosen Keeps (grammar.dropped a.0) (λ _. rest) (λ _. walks.keeps-map Any (All Of) (λ l. All Of (a.0 ∷ l)) (grammar.blocks n c (k + a.0.length.0)) (λ l more. (h, more)) rest))

  blocks-of : (n k : ℕ) → Keeps (grammar.blocks n c k)
  unfolding walks.Keeps grammar.blocks
  blocks-of zero k = tt
  blocks-of (suc n) k = then_keeps (grammar.block c k) _ (block_of k) (λ a h. block-keeps n k a h (blocks-of n (k + a.0.length.0)))

  -- so those of any reader are
  anything : (S : Type 0) → S → Type 0
  anything S s = Unit {0}

  faithful : {S : Type 0} (r : Reader S) → walks.Faithful Any (anything S) r
  unfolding Gives Any anything
  faithful {S} r f s i = go (r f s)
    where
      go : (d : Drawn S (Answer f)) → Gives (Any f) (anything S) d
      go (got a t) = (tt, tt)
      go (not why) = tt

  pub all_of : {S : Type 0} (r : Reader S) (n k : ℕ) (s : S) → All Of (things (run r (grammar.blocks n c k) s))
  unfolding anything
  all_of {S} r n k s = walks.kept-has Any (anything S) r (faithful r) (All Of) (grammar.blocks n c k) (blocks-of n k) s tt
