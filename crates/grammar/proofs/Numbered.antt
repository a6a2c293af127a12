-- A refusal has a number of the reader's or of the grammar's: one induction. The grammars of an update refuse with 3, 4 and 5 of their own.
use Prim.Native.Nat.{ℕ, zero, suc, ◌+◌, ◌-◌, ◌%◌}
use mathlib.Core.Bool.{Bool, true, false}
use mathlib.Core.List.{List, [], ◌∷◌, ◌++◌}
use native.Mathlib.Omega.{arith}
use lib.Dec.{ltb, eqb}
use Rattle.numbers.specs.Number.{pick}
use Rattle.numbers.specs.Words.{among}
use Rattle.numbers.specs.Limits.{max_clock, max_blocks}
use Rattle.block.specs.declared.Block.{Block}
use Rattle.block.specs.Rows.{plain}
use Rattle.block.specs.Kinds.{max_type, is_named}
use Rattle.grammar.specs.Grammar.{Number, Field, Answer, Grammar, ask, emit, stop, done}
use Rattle.grammar.specs.Grammar.{◌>>=◌}
use Rattle.grammar.specs.Course.{Drawn, got, not, Reader, CourseTo, on_drawn, run}
use Rattle.grammar.specs.Blocks as grammar
use Rattle.grammar.specs.Deletes as deletes
use Rattle.grammar.specs.Numbered.{Low, Stops, Refuses, Owns}

module _ (P : ℕ → Type 0) where
  pub stops : {S E A : Type 0} (r : Reader S) → ((f : Field) (s : S) → Refuses P (r f s)) → (x : Grammar E A) → Owns P x → (s : S) → Stops P (run r x s)
  unfolding run on_drawn Stops Refuses Owns
  stops r h (ask f k) o s = go (r f s) (h f s) (λ a t. stops r h (k a) (o a) t)
    where
      go : (d : Drawn _ (Answer f)) → Refuses P d → ((a : Answer f) (t : _) → Stops P (run r (k a) t)) → Stops P (on_drawn d (λ a t. run r (k a) t))
      go (got a t) q more = more a t
      go (not why) q more = q
  stops r h (emit e p x) o s = stops r h x o s
  stops r h (stop n p) o s = o
  stops r h (done a) o s = tt

  owns-bind : {E A B : Type 0} (x : Grammar E A) (g : A → Grammar E B) → Owns P x → ((a : A) → Owns P (g a)) → Owns P (x >>= g)
  unfolding Owns ◌>>=◌
  owns-bind (ask f k) g o h = λ a. owns-bind (k a) g (o a) h
  owns-bind (emit e p x) g o h = owns-bind x g o h
  owns-bind (stop n p) g o h = o
  owns-bind (done a) g o h = h a

  owns-either : {E A : Type 0} (b : Bool) (x y : Grammar E A) → Owns P x → Owns P y → Owns P (pick b x y)
  owns-either true x y p q = p
  owns-either false x y p q = q

-- ---- the grammars of an update

low3 : Low 3
low3 = (omega arith, omega arith)

low4 : Low 4
low4 = (omega arith, omega arith)

low5 : Low 5
low5 = (omega arith, omega arith)

id-owns : (n : Number) → Owns Low {E = Block} (grammar.an_id n)
unfolding Owns ◌>>=◌ grammar.an_id
id-owns n = λ a b. tt

row-owns : (n : Number) (f : _ → Block) → Owns Low {E = Block} (grammar.an_id n >>= λ i. done (f i))
unfolding Owns
row-owns n f = owns-bind Low (grammar.an_id n) _ (id-owns n) (λ i. tt)

left-owns : (i : ℕ) (b : Block) → Owns Low {E = Block} (grammar.left i b)
unfolding Owns grammar.left
left-owns i b = owns-either Low (ltb i 128) _ _ tt (row-owns _ _)

right-owns : (i : ℕ) (b : Block) → Owns Low {E = Block} (grammar.right i b)
unfolding Owns grammar.right
right-owns i b = owns-either Low (ltb (i % 128) 64) _ _ tt (row-owns _ _)

parent-owns : (b : Block) → Owns Low {E = Block} (grammar.parent b)
unfolding Owns ◌>>=◌ grammar.parent grammar.parent_after
parent-owns b = λ a. owns-either Low (eqb a.0 1) _ _ (λ t. tt) (row-owns _ _)

key-owns : (i : ℕ) (b : Block) → Owns Low {E = Block} (grammar.key i b)
unfolding Owns ◌>>=◌ grammar.key
key-owns i b = owns-either Low (ltb i 32) _ _ tt (λ t. tt)

place-owns : (i : ℕ) (b : Block) → Owns Low {E = Block} (grammar.place i b)
unfolding grammar.place
place-owns i b =
    owns-either Low (ltb i 64) _ _ (owns-bind Low (grammar.parent b) (grammar.key i) (parent-owns b) (key-owns i))
    (owns-bind Low (grammar.left i b) (grammar.right i) (left-owns i b) (right-owns i))

node-owns : (n : ℕ) (b : Block) → Owns Low {E = Block} (grammar.node n b)
unfolding Owns ◌>>=◌ grammar.node
node-owns n b = owns-either Low (is_named n) _ _ (λ a. tt) tt

type-owns : (at : ℕ) (b : Block) → Owns Low {E = Block} (grammar.type at b)
unfolding Owns ◌>>=◌ grammar.type
type-owns at b = λ a. owns-either Low (ltb max_type a.0) _ _ low5 (node-owns a.0 _)

content-owns : (i at : ℕ) (b : Block) → Owns Low {E = Block} (grammar.content i at b)
unfolding Owns ◌>>=◌ grammar.content grammar.content_of grammar.deleted grammar.binary grammar.string grammar.format grammar.any_list
content-owns i at b =
    owns-either Low (eqb (i % 32) 1) _ _ (λ a. tt)
    (owns-either Low (eqb (i % 32) 3) _ _ (λ a. tt)
    (owns-either Low (eqb (i % 32) 4) _ _ (λ a. tt)
    (owns-either Low (eqb (i % 32) 6) _ _ (λ a v. tt)
    (owns-either Low (eqb (i % 32) 7) _ _ (type-owns at b) (owns-either Low (eqb (i % 32) 8) _ _ (λ a v. tt) low5)))))

body-owns : (c clock i at : ℕ) → Owns Low {E = Block} (grammar.body c clock i at)
unfolding Owns ◌>>=◌ grammar.body grammar.bare grammar.an_item
body-owns c clock i at =
    owns-either Low (eqb i 10) _ _ (λ a. tt)
    (owns-either Low (eqb i 0) _ _ (λ a. tt) (owns-bind Low (grammar.place i (plain c clock 0 0)) (grammar.content i at) (place-owns i (plain c clock 0 0)) (content-owns i at)))

block-owns : (c clock : ℕ) → Owns Low {E = Block} (grammar.block c clock)
unfolding Owns ◌>>=◌ grammar.block
block-owns c clock = λ a. owns-bind Low (grammar.body c clock a.0 a.1) _ (body-owns c clock a.0 a.1) (λ b. tt)

blocks-own : (k c clock : ℕ) → Owns Low (grammar.blocks k c clock)
unfolding Owns grammar.blocks grammar.unless_dropped
blocks-own zero c clock = tt
blocks-own (suc k) c clock =
    owns-bind Low (grammar.block c clock) _ (block-owns c clock) (λ a.
    let more = blocks-own k c (clock + a.0.length.0) in
    owns-either Low (ltb max_clock (clock + a.0.length.0)) _ _ low3 (owns-either Low (grammar.dropped a.0) _ _ more more))

sections-own : (n : ℕ) (seen : List ℕ) (room : ℕ) → Owns Low (grammar.sections n seen room)
unfolding Owns ◌>>=◌ grammar.sections
sections-own zero seen room = tt
sections-own (suc n) seen room = λ k c.
    owns-either Low (among c.0 seen) _ _ low4 (λ clock.
    owns-bind Low (grammar.blocks k.0 c.0 clock.0) _ (blocks-own k.0 c.0 clock.0) (λ x. sections-own n (seen ++ (c.0 ∷ [])) (room - k.0)))

pub all-blocks-own : Owns Low grammar.all_blocks
unfolding Owns ◌>>=◌ grammar.all_blocks
all-blocks-own = λ n. sections-own n.0 [] max_blocks

ranges-own : (k client end : ℕ) → Owns Low (deletes.ranges k client end)
unfolding Owns ◌>>=◌ deletes.ranges
ranges-own zero client end = tt
ranges-own (suc k) client end = λ c l.
    let more = ranges-own k client (c.0 + l.0) in
    owns-either Low (ltb max_clock (c.0 + l.0)) _ _ low3 (owns-either Low (eqb l.0 0) _ _ more more)

clients-own : (n : ℕ) → Owns Low (deletes.deleted_clients n)
unfolding Owns ◌>>=◌ deletes.deleted_clients
clients-own zero = tt
clients-own (suc n) = λ c k. owns-bind Low (deletes.ranges k.0 c.0 0) _ (ranges-own k.0 c.0 0) (λ x. clients-own n)

pub all-ranges-own : Owns Low deletes.all_ranges
unfolding Owns ◌>>=◌ deletes.all_ranges
all-ranges-own = λ n. clients-own n.0
