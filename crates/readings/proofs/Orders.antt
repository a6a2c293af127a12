-- The blocks of an update are in order: a client's blocks stand together, each starting where the one before ended.
use Prim.Native.Nat.{ℕ, ◌+◌}
use mathlib.Core.Path.{◌≡◌, refl, sym, ap, ◌∙◌}
use mathlib.Core.Logic.{◌⊎◌, inl, inr, ◌≢◌, ⊎_elim}
use mathlib.Core.Bool.{Bool, true, false}
use mathlib.Core.List.{List, [], ◌∷◌, ◌++◌}
use native.Mathlib.Omega.{arith}
use lib.Dec.{eqb}
use borrow.Author.Tests.{eqb-false}
use Rattle.numbers.specs.Words.{among}
use Rattle.numbers.specs.Number.{pick}
use Rattle.block.specs.declared.Block.{Block}
use Rattle.grammar.specs.Course.{things}
use Rattle.decoder.specs.Update.{blocks_of}
use Rattle.readings.specs.Sound.{All}
use Rattle.readings.specs.SoundInner.{Follows, Stays, Ordered}
use Rattle.readings.proofs.Groups.{all_map}
use Rattle.readings.proofs.Sections.{OfSections, OfPart, Holds, blocks-by}

-- a client that is not among these and one more
not-among : (c : ℕ) (seen : List ℕ) (client : ℕ) → among c (seen ++ (client ∷ [])) ≡ false → (among c seen ≡ false) × (c ≢ client)
unfolding among
not-among c [] client h = (refl, λ e. go (eqb client c) refl h e)
  where
    go : (t : Bool) → eqb client c ≡ t → pick t true false ≡ false → c ≡ client → ⊥
    go true q h e = let z : ◌≡◌ {A = ℕ} 0 1 = cc in omega arith
    go false q h e = eqb-false client c q (sym e)
not-among c (x ∷ seen) client h = go (eqb x c) h (not-among c seen client)
  where
    go : (t : Bool) → pick t true (among c (seen ++ (client ∷ []))) ≡ false → (among c (seen ++ (client ∷ [])) ≡ false → (among c seen ≡ false) × (c ≢ client))
        → (pick t true (among c seen) ≡ false) × (c ≢ client)
    go true h on = let z : ◌≡◌ {A = ℕ} 0 1 = cc in absurd (omega arith)
    go false h on = on h

-- ---- before blocks of a client from a clock on

abbrev New : List ℕ → Block → Type 0
New seen b = among b.client seen ≡ false

abbrev First : ℕ → ℕ → List Block → Type 0
First client clock [] = Unit {0}
First client clock (b ∷ bs) = b.client ≡ client → b.clock ≡ clock

abbrev Together : ℕ → List Block → Type 0
Together client [] = Unit {0}
Together client (b ∷ bs) = (b.client ≡ client) ⊎ All (λ (d : Block). d.client ≢ client) (b ∷ bs)

-- the blocks of later sections
later : (client clock : ℕ) (bs : List Block) → All (λ (d : Block). d.client ≢ client) bs → First client clock bs × Together client bs
later client clock [] h = (tt, tt)
later client clock (b ∷ bs) h = (λ e. absurd (h.0 e), inr h)

module _ (b : Block) (client clock : ℕ) (c : b.client ≡ client) (k : b.clock ≡ clock) where
  follows : (bs : List Block) → First client (clock + b.length.0) bs → Follows b bs
  unfolding Follows
  follows [] h = tt
  follows (d ∷ bs) h = λ e. h (e ∙ c) ∙ ap (λ (x : ℕ). x + b.length.0) (sym k)

  stays : (bs : List Block) → Together client bs → Stays b bs
  unfolding Stays
  stays [] h = tt
  stays (d ∷ bs) h = ⊎_elim (λ e. inl (e ∙ sym c)) (λ all. inr (all_map _ _ (λ x n e. n (e ∙ c)) (d ∷ bs) all)) h

abbrev Whole : OfSections
Whole n seen room bs = Ordered bs × All (New seen) bs

abbrev Part : OfPart
Part n seen room k client clock bs = Ordered bs × First client clock bs × Together client bs × All (New seen) bs

hold : (form : ℕ) (u : List ℕ) → Holds form u Whole Part
unfolding Ordered
hold form u =
    record {
      none = λ n seen room. (tt, tt);
      stopped = λ n seen room k client clock. (tt, tt, tt, tt);
      head = λ n seen room k client clock bs l new h. (h.0, h.3);
      end = λ n seen room client clock bs new h.
          let one = later client clock bs (all_map _ _ (λ b e. (not-among b.client seen client e).1) bs h.1) in
          (h.0, one.0, one.1, all_map _ _ (λ b e. (not-among b.client seen client e).0) bs h.1);
      drop = λ n seen room k client clock bs h. h;
      block = λ n seen room k client clock b bs new sound c t h.
          ((follows b client clock c t bs h.1, stays b client clock c t bs h.2, h.0), (λ _. t), inl c, (ap (λ (x : ℕ). among x seen) c ∙ new, h.3));
    }

pub blocks-ordered : (form : ℕ) (u : List ℕ) → Ordered (things (blocks_of form u))
blocks-ordered form u = (blocks-by form u Whole Part (hold form u)).holds.0
