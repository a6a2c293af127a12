-- The rows of an update have room in their bits, stand in order, and are at most 64.
use Prim.Native.Nat.{ℕ, ◌+◌, ◌^◌, ◌≤◌, ◌<◌}
use mathlib.Core.Path.{◌≡◌, refl, sym, ◌∙◌, subst}
use mathlib.Core.Logic.{inl, inr, ◌≢◌}
use mathlib.Core.Bool.{Bool, true, false}
use mathlib.Core.List.{List, [], ◌∷◌, map}
use native.Mathlib.Omega.{arith}
use lib.Dec.{eqb}
use lib.ListN.{length}
use borrow.Author.Tests.{lt-ltb, le-leb, eqb-true, eq-eqb, ne_eqb}
use Rattle.numbers.specs.Number.{pick}
use Rattle.numbers.specs.Words.{among}
use Rattle.numbers.specs.Limits.{max_blocks}
use Rattle.block.specs.declared.Block.{Block}
use Rattle.grammar.specs.Course.{things}
use Rattle.decoder.specs.Update.{blocks_of}
use Rattle.readings.specs.Sound.{All}
use Rattle.readings.specs.SoundInner.{Sound, Follows, Stays, Ordered}
use Rattle.readings.proofs.Sounds.{blocks-sound}
use Rattle.readings.proofs.Orders.{blocks-ordered}
use Rattle.readings.proofs.Counts.{blocks-count}
use Rattle.summary.specs.Rows.{Row}
use Rattle.summary.specs.RowsInner.{AllFit}
use Rattle.summary.specs.Summary.{in_order, legal}
use Rattle.gathered.specs.RowsOf.{of_client, first_clock, last_end, row_of, clients_after, rows_of}
use Rattle.tally.specs.Tally.{Under, Descends}
use Rattle.gathered.proofs.Clients.{descends-after, of-few, some_of}
use Rattle.gathered.proofs.Gathers.{gatherable}

-- ---- the blocks of one client

-- each starts where the one before ended
unfoldable Rising : List Block → Type 0
Rising [] = Unit {0}
Rising (b ∷ []) = Unit {0}
Rising (b ∷ (d ∷ bs)) = (d.clock ≡ b.clock + b.length.0) × Rising (d ∷ bs)

none_of : (c : ℕ) (bs : List Block) → All (λ (d : Block). d.client ≢ c) bs → of_client c bs ≡ []
unfolding of_client
none_of c [] h = refl
none_of c (b ∷ bs) h = rw (ne_eqb b.client c h.0) (none_of c bs h.1)

rising-of : (c : ℕ) (bs : List Block) → Ordered bs → Rising (of_client c bs)
unfolding of_client Ordered Rising Follows Stays
rising-of c [] h = tt
rising-of c (b ∷ []) h = go (eqb b.client c)
  where
    go : (t : Bool) → Rising (pick t (b ∷ []) [])
    go true = tt
    go false = tt
rising-of c (b ∷ (d ∷ bs)) h = go (eqb b.client c) refl h.1 (rising-of c (d ∷ bs) h.2)
  where
    go : (t : Bool) → eqb b.client c ≡ t → Stays b (d ∷ bs) → Rising (of_client c (d ∷ bs)) → Rising (pick t (b ∷ of_client c (d ∷ bs)) (of_client c (d ∷ bs)))
    go false e s r = r
    go true e (inl s) r =
        let next : of_client c (d ∷ bs) ≡ d ∷ of_client c bs = rw (eq-eqb d.client c (s ∙ eqb-true b.client c e)) in
        subst (λ (l : List Block). Rising (b ∷ l)) (sym next) (h.0 s, subst Rising next r)
    go true e (inr s) r =
        let none = none_of c (d ∷ bs) (subst (λ (n : ℕ). All (λ (x : Block). x.client ≢ n) (d ∷ bs)) (eqb-true b.client c e) s) in
        subst (λ (l : List Block). Rising (b ∷ l)) (sym none) tt

first-last : (bs : List Block) → Rising bs → first_clock bs ≤ last_end bs
unfolding Rising first_clock last_end
first-last [] h = omega arith
first-last (b ∷ []) h = omega arith
first-last (b ∷ (d ∷ bs)) h = omega (arith, h.0, first-last (d ∷ bs) h.1)

-- of sound blocks, those of a client: their first clock and last end are clocks
all_of : (u : List ℕ) (c : ℕ) (bs : List Block) → All (Sound u) bs → All (Sound u) (of_client c bs)
unfolding of_client
all_of u c [] h = tt
all_of u c (b ∷ bs) h = go (eqb b.client c) (all_of u c bs h.1)
  where
    go : (t : Bool) → All (Sound u) (of_client c bs) → All (Sound u) (pick t (b ∷ of_client c bs) (of_client c bs))
    go true r = (h.0, r)
    go false r = r

first_small : (u : List ℕ) (bs : List Block) → All (Sound u) bs → first_clock bs < 2 ^ 31
unfolding first_clock
first_small u [] h = omega arith
first_small u (b ∷ bs) h = omega (arith, h.0.end)

last-small : (u : List ℕ) (bs : List Block) → All (Sound u) bs → last_end bs < 2 ^ 31
unfolding last_end
last-small u [] h = omega arith
last-small u (b ∷ []) h = omega (arith, h.0.end)
last-small u (b ∷ (d ∷ bs)) h = last-small u (d ∷ bs) h.1

-- ---- their rows

-- a client of sound blocks is below 2^53
client-small : (u : List ℕ) (c : ℕ) (bs : List Block) → All (Sound u) bs → 0 < length (of_client c bs) → c < 2 ^ 53
unfolding of_client
client-small u c [] h l = absurd (omega (arith, l))
client-small u c (b ∷ bs) h l = go (eqb b.client c) refl l (λ m. client-small u c bs h.1 m)
  where
    go : (t : Bool) → eqb b.client c ≡ t → 0 < length (pick t (b ∷ of_client c bs) (of_client c bs)) → (0 < length (of_client c bs) → c < 2 ^ 53) → c < 2 ^ 53
    go true e l more = omega (arith, h.0.client, eqb-true b.client c e)
    go false e l more = more l

-- clients ds, all of them with blocks
unfoldable Have : List Block → List ℕ → Type 0
Have bs [] = Unit {0}
Have bs (d ∷ ds) = (0 < length (of_client d bs)) × Have bs ds

have-these : (bs : List Block) (ds : List ℕ) → ((x : ℕ) → among x ds ≡ true → 0 < length (of_client x bs)) → Have bs ds
unfolding Have among
have-these bs [] h = tt
have-these bs (d ∷ ds) h = (h d (rw (eq-eqb d d refl)), have-these bs ds (λ x e. h x (go (eqb d x) (among x ds) e)))
  where
    go : (t y : Bool) → y ≡ true → pick t true y ≡ true
    go true y e = refl
    go false y e = e

module _ (u : List ℕ) (bs : List Block) (sound : All (Sound u) bs) (ordered : Ordered bs) (few : length bs ≤ max_blocks) where
  rows_fit : (ds : List ℕ) → Have bs ds → AllFit (map (row_of bs) ds)
  unfolding Have row_of
  rows_fit [] h = tt
  rows_fit (d ∷ ds) h =
      let mine = all_of u d bs sound in (
        record {
          client = client-small u d bs sound h.0;
          first = first_small u (of_client d bs) mine;
          end = last-small u (of_client d bs) mine;
          blocks = omega (arith, of-few d bs, few);
        },
        rows_fit ds h.1,
      )

  rows-in-order : (above : ℕ) (ds : List ℕ) → Have bs ds → Under above ds → Descends ds → in_order above (map (row_of bs) ds) ≡ true
  unfolding Have row_of Under Descends in_order
  rows-in-order above [] h b f = refl
  rows-in-order above (d ∷ ds) h b f =
      rw (lt-ltb d above b.0, lt-ltb 0 (length (of_client d bs)) h.0, le-leb (first_clock (of_client d bs)) (last_end (of_client d bs)) (first-last (of_client d bs) (rising-of d bs ordered)))
      (rows-in-order d ds h.1 f.0 f.1)

  have-all : Have bs (clients_after [] bs)
  have-all = have-these bs (clients_after [] bs) (λ x e. some_of x bs e)

  all_under : (ds : List ℕ) → Have bs ds → Under (2 ^ 53) ds
  unfolding Have Under
  all_under [] h = tt
  all_under (d ∷ ds) h = (client-small u d bs sound h.0, all_under ds h.1)

  pub all_fit : AllFit (rows_of bs)
  unfolding rows_of
  all_fit = rows_fit (clients_after [] bs) have-all

  pub all-legal : legal (rows_of bs) ≡ true
  unfolding rows_of legal Descends
  all-legal = rows-in-order (2 ^ 53) (clients_after [] bs) have-all (all_under (clients_after [] bs) have-all) (descends-after [] bs tt)

-- ---- of an update

pub record Legal (rows : List Row) : Type 0 where
  pub fit : AllFit rows
  pub order : legal rows ≡ true
  pub few : length rows ≤ 64

pub update-legal : (form : ℕ) (u : List ℕ) → Legal (rows_of (things (blocks_of form u)))
update-legal form u =
    let bs = things (blocks_of form u) in
    record {
      fit = all_fit u bs (blocks-sound form u) (blocks-ordered form u) (blocks-count form u);
      order = all-legal u bs (blocks-sound form u) (blocks-ordered form u) (blocks-count form u);
      few = (gatherable form u).few;
    }
