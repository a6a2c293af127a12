-- What is shown of an update's blocks, section by section: it holds of no block, and each head and each block more keeps it up. One walk over the grammar
-- for all facts and both forms.
use Prim.Native.Nat.{ℕ, zero, suc, ◌+◌, ◌-◌, ◌≤◌}
use mathlib.Core.Path.{◌≡◌, refl, sym, ap, subst}
use mathlib.Core.Bool.{Bool, true, false}
use mathlib.Core.List.{List, [], ◌∷◌, ◌++◌}
use native.Mathlib.Omega.{arith}
use lib.Dec.{ltb, eqb}
use borrow.Author.Tests.{ltb-false}
use Rattle.numbers.specs.Words.{among}
use Rattle.numbers.specs.Number.{pick}
use Rattle.numbers.specs.Limits.{max_value, max_clock, max_clients, max_blocks}
use Rattle.block.specs.declared.Block.{Block}
use Rattle.grammar.specs.Grammar.{Grammar, stop}
use Rattle.grammar.specs.Grammar.{◌>>=◌}
use Rattle.grammar.specs.Course.{Drawn, got, not, CourseTo, thing, over, stopped, on_drawn, run, things}
use Rattle.grammar.specs.Blocks as grammar
use Rattle.decoder.specs.Line.{line}
use Rattle.decoder.specs.States.{State}
use Rattle.decoder.specs.Columned.{columned}
use Rattle.decoder.specs.Opening.{opened_of}
use Rattle.decoder.specs.Update.{rest_places, in_columns, blocks_of}
use Rattle.readings.specs.SoundInner.{Sound, Valued}
use Rattle.readings.proofs.Walks as walks
use Rattle.readings.proofs.Walks.{Gives}
use Rattle.readings.proofs.Columns.{chosen}
use Rattle.readings.proofs.Fields.{GoodNumber, Good, line-faithful, Inside, columned-faithful, opened-gives}
use Rattle.readings.proofs.Blocks.{dropped-empty, Body, block-comes}

-- what is said of n sections, and of the rest of one with n after it
abbrev pub OfSections : Type 1
OfSections = ℕ → List ℕ → ℕ → List Block → Type 0

abbrev pub OfPart : Type 1
OfPart = ℕ → List ℕ → ℕ → ℕ → ℕ → ℕ → List Block → Type 0

-- `Whole n seen room`: of n sections, with these clients seen and room for so many blocks;
-- `Part n seen room k client clock`: of k blocks of a client from a clock on, and then n sections
pub record Holds (form : ℕ) (u : List ℕ) (Whole : OfSections) (Part : OfPart) : Type 0 where
  pub none : (n : ℕ) (seen : List ℕ) (room : ℕ) → Whole n seen room []
  pub stopped : (n : ℕ) (seen : List ℕ) (room k client clock : ℕ) → Part n seen room k client clock []
  pub head : (n : ℕ) (seen : List ℕ) (room k client clock : ℕ) (bs : List Block) → k ≤ room → among client seen ≡ false
      → Part n seen (room - k) k client clock bs → Whole (suc n) seen room bs
  pub end : (n : ℕ) (seen : List ℕ) (room client clock : ℕ) (bs : List Block) → among client seen ≡ false
      → Whole n (seen ++ (client ∷ [])) room bs → Part n seen room 0 client clock bs
  pub drop : (n : ℕ) (seen : List ℕ) (room k client clock : ℕ) (bs : List Block) → Part n seen room k client clock bs → Part n seen room (suc k) client clock bs
  pub block : (n : ℕ) (seen : List ℕ) (room k client clock : ℕ) (b : Block) (bs : List Block) → among client seen ≡ false → Sound u b × Valued form u b
      → b.client ≡ client → b.clock ≡ clock → Part n seen room k client (clock + b.length.0) bs → Part n seen room (suc k) client clock (b ∷ bs)

-- the place alone is other
items-placed : (c : CourseTo State Block (Unit {0})) → things (rest_places c) ≡ things c
unfolding things rest_places
items-placed (thing e p c) = ap (λ (l : List Block). e ∷ l) (items-placed c)
items-placed (over a s) = refl
items-placed (stopped why) = refl

module _ (form : ℕ) (u : List ℕ) (Whole : OfSections) (Part : OfPart) (hold : Holds form u Whole Part) where
  abbrev Keeps : (List Block → Type 0) → Grammar Block (Unit {0}) → Type 0
  Keeps N x = walks.Keeps (Good u (eqb form 1)) N x

  module _ (n : ℕ) (seen : List ℕ) (room client : ℕ) (most : client ≤ max_value) (new : among client seen ≡ false) (then : Unit {0} → Grammar Block (Unit {0})) where
    -- k blocks of the client from a clock on, and what is then read
    abbrev from : ℕ → ℕ → Grammar Block (Unit {0})
    from k clock = grammar.blocks k client clock >>= then

    abbrev Here : ℕ → ℕ → List Block → Type 0
    Here k clock = Part n seen room k client clock

    ended : (k clock : ℕ) (b : Block) (at : ℕ) → Body form u client clock most b → Keeps (Here k (clock + b.length.0)) (from k (clock + b.length.0))
        → Keeps (Here (suc k) clock)
        (pick (ltb max_clock (clock + b.length.0)) (stop 3 at) (grammar.unless_dropped b at (grammar.blocks k client (clock + b.length.0))) >>= then)
    unfolding walks.Keeps ◌>>=◌ grammar.unless_dropped
    ended k clock b at h on =
        let end : ℕ = clock + b.length.0 in
        let R : Grammar Block (Unit {0}) → Type 0 = λ x. Keeps (Here (suc k) clock) (x >>= then) in
        chosen R (ltb max_clock end) (λ _. hold.stopped n seen room (suc k) client clock)
        (λ l. chosen R (grammar.dropped b)
        (λ d. walks.keeps-map (Good u (eqb form 1)) _ _ (from k end) (λ bs i. hold.drop n seen room k client clock bs
        (subst (λ (e : ℕ). Here k e bs) (omega (arith, dropped-empty b d)) i)) on)
        (λ d. walks.keeps-map (Good u (eqb form 1)) _ _ (from k end)
        (λ bs i. hold.block n seen room k client clock b bs new (h.sound (ltb-false max_clock end l) d) h.client h.clock i) on))

    blocks-keep : Keeps (Whole n (seen ++ (client ∷ [])) room) (then tt) → (k clock : ℕ) → Keeps (Here k clock) (from k clock)
    unfolding walks.Keeps ◌>>=◌ grammar.blocks
    blocks-keep rest zero clock = walks.keeps-map (Good u (eqb form 1)) _ _ (then tt) (λ bs h. hold.end n seen room client clock bs new h) rest
    blocks-keep rest (suc k) clock =
        walks.comes-then (Good u (eqb form 1)) (λ (a : Block × ℕ). Body form u client clock most a.0) (Here (suc k) clock) (grammar.block client clock) _ then
        (hold.stopped n seen room (suc k) client clock) (block-comes form u client clock most)
        (λ a h. ended k clock a.0 a.1 h (blocks-keep rest k (clock + a.0.length.0)))

  sections-keep : (n : ℕ) (seen : List ℕ) (room : ℕ) → Keeps (Whole n seen room) (grammar.sections n seen room)
  unfolding walks.Keeps ◌>>=◌ grammar.sections Good GoodNumber
  sections-keep zero seen room = hold.none zero seen room
  sections-keep (suc n) seen room =
      let none = hold.none (suc n) seen room in (
        none,
        λ k l. (
          none,
          λ c most. chosen (Keeps (Whole (suc n) seen room)) (among c.0 seen) (λ _. none) (λ new. (
            none,
            λ t _.
                walks.keeps-map (Good u (eqb form 1)) _ _ (grammar.blocks k.0 c.0 t.0 >>= λ _. grammar.sections n (seen ++ (c.0 ∷ [])) (room - k.0))
                (λ bs h. hold.head n seen room k.0 c.0 t.0 bs l new h)
                (blocks-keep n seen (room - k.0) c.0 most new _ (sections-keep n (seen ++ (c.0 ∷ [])) (room - k.0)) k.0 t.0),
          )),
        ),
      )

  -- so it holds of the blocks of any update, however they end
  pub record AllBlocks (bs : List Block) : Type 0 where
    pub count : ℕ
    pub fits : count ≤ max_clients
    pub holds : Whole count [] max_blocks bs

  no_blocks : AllBlocks []
  no_blocks = record { count = 0; fits = omega arith; holds = hold.none 0 [] max_blocks }

  all_keep : Keeps AllBlocks grammar.all_blocks
  unfolding walks.Keeps ◌>>=◌ grammar.all_blocks Good GoodNumber
  all_keep = (
    no_blocks,
    λ n l. walks.keeps-map (Good u (eqb form 1)) _ _ (grammar.sections n.0 [] max_blocks) (λ bs h. record { count = n.0; fits = l; holds = h }) (sections-keep n.0 [] max_blocks),
  )

  in-columns : eqb form 1 ≡ false → AllBlocks (things (in_columns u))
  unfolding in_columns on_drawn things Gives
  in-columns e = go (opened_of u) (opened-gives u)
    where
      go : (d : Drawn State (Unit {0})) → Gives (λ x. Unit {0}) (Inside u) d → AllBlocks (things (on_drawn d (λ x s. run (columned u) grammar.all_blocks s)))
      go (got x s) h =
          walks.kept-has (Good u (eqb form 1)) (Inside u) (columned u)
          (subst (λ (one : Bool). walks.Faithful (Good u one) (Inside u) (columned u)) (sym e) (columned-faithful u)) AllBlocks grammar.all_blocks all_keep s h.1
      go (not why) h = no_blocks

  in-line : eqb form 1 ≡ true → AllBlocks (things (run (line 1 u) grammar.all_blocks 0))
  in-line e =
      walks.kept-has (Good u (eqb form 1)) (λ (at : ℕ). Unit {0}) (line 1 u)
      (subst (λ (one : Bool). walks.Faithful (Good u one) (λ (at : ℕ). Unit {0}) (line 1 u)) (sym e) (line-faithful u 1)) AllBlocks grammar.all_blocks all_keep 0 tt

  pub blocks-by : AllBlocks (things (blocks_of form u))
  unfolding blocks_of
  blocks-by =
      chosen (λ (c : CourseTo ℕ Block (Unit {0})). AllBlocks (things c)) (eqb form 1) in-line
      (λ e. subst AllBlocks (sym (items-placed (in_columns u))) (in-columns e))
