-- The clients of blocks, highest first, and the rows of blocks by them.
use Prim.Native.Nat.{ℕ, suc, ◌+◌, ◌≤◌, ◌<◌}
use mathlib.Core.Path.{◌≡◌, refl, sym, ap, ap₂, ◌∙◌}
use mathlib.Core.Bool.{Bool, true, false}
use mathlib.Core.List.{List, [], ◌∷◌, ◌++◌, map}
use native.Mathlib.Omega.{arith}
use lib.Arith.{lt_of_le-ne}
use lib.Dec.{ltb, eqb}
use lib.ListN.{length, length-map}
use borrow.Author.Tests.{ltb-true, ltb-false, eqb-true, eqb-false, eq-eqb, ne_eqb, le-ltb}
use Rattle.numbers.specs.Number.{pick}
use Rattle.numbers.specs.Words.{among}
use Rattle.block.specs.declared.Block.{Block}
use Rattle.readings.specs.Sound.{All, owner}
use Rattle.readings.specs.Groups.{groups, join}
use Rattle.readings.proofs.Columns.{clash}
use Rattle.readings.proofs.Groups.{two}
use Rattle.summary.specs.Rows.{Row}
use Rattle.tally.specs.Tally.{Under, Descends, kept}
use Rattle.gathered.specs.RowsOf.{of_client, row_of, insert_client, clients_after, rows_of}

-- ---- clients stand highest first

under_up : (c d : ℕ) (ds : List ℕ) → d ≤ c → Under d ds → Under c ds
unfolding Under
under_up c d [] h u = tt
under_up c d (x ∷ ds) h u = (omega (arith, u.0), under_up c d ds h u.1)

-- by how c stands to d
by_order : (P : List ℕ → Type 0) (c d : ℕ) (ds : List ℕ) → (d < c → P (c ∷ (d ∷ ds))) → (d ≡ c → P (d ∷ ds)) → (c < d → P (d ∷ insert_client c ds)) → P (insert_client c (d ∷ ds))
unfolding insert_client
by_order P c d ds less same more = go (ltb d c) refl (eqb d c) refl
  where
    go : (x : Bool) → ltb d c ≡ x → (y : Bool) → eqb d c ≡ y → P (pick x (c ∷ (d ∷ ds)) (pick y (d ∷ ds) (d ∷ insert_client c ds)))
    go true l y e = less (ltb-true d c l)
    go false l true e = same (eqb-true d c e)
    go false l false e = more (lt_of_le-ne (ltb-false d c l) (λ z. eqb-false d c e (sym z)))

under-put : (e c : ℕ) (ds : List ℕ) → c < e → Under e ds → Under e (insert_client c ds)
unfolding Under insert_client
under-put e c [] h u = (h, tt)
under-put e c (d ∷ ds) h u = by_order (Under e) c d ds (λ l. (h, u)) (λ s. u) (λ m. (u.0, under-put e c ds h u.1))

pub descends-put : (c : ℕ) (ds : List ℕ) → Descends ds → Descends (insert_client c ds)
unfolding Under Descends insert_client
descends-put c [] f = (tt, tt)
descends-put c (d ∷ ds) f =
    by_order Descends c d ds (λ l. ((l, under_up c d ds (omega (arith, l)) f.0), f)) (λ s. f) (λ m. (under-put d c ds m f.0, descends-put c ds f.1))

pub descends-after : (cs : List ℕ) (bs : List Block) → Descends cs → Descends (clients_after cs bs)
unfolding clients_after
descends-after cs [] f = f
descends-after cs (b ∷ bs) f = descends-after (insert_client b.client cs) bs (descends-put b.client cs f)

-- ---- which they are

unfoldable pub some : List Block → Bool
some [] = false
some (b ∷ bs) = true

unfoldable pub or : Bool → Bool → Bool
or true y = true
or false y = y

pub among-put : (x c : ℕ) (ds : List ℕ) → among x (insert_client c ds) ≡ or (eqb c x) (among x ds)
unfolding among insert_client or
among-put x c [] = go (eqb c x)
  where
    go : (t : Bool) → pick t true false ≡ or t false
    go true = refl
    go false = refl
among-put x c (d ∷ ds) =
    by_order (λ (l : List ℕ). among x l ≡ or (eqb c x) (among x (d ∷ ds))) c d ds
    (λ l. first (eqb c x) (among x (d ∷ ds)))
    (λ s. ap (λ (n : ℕ). pick (eqb n x) true (among x ds)) s ∙ same (eqb c x) (among x ds) ∙ ap (λ (n : ℕ). or (eqb c x) (pick (eqb n x) true (among x ds))) (sym s))
    (λ m. ap (λ (t : Bool). pick (eqb d x) true t) (among-put x c ds) ∙ later (eqb d x) (eqb c x) (among x ds))
  where
    first : (t y : Bool) → pick t true y ≡ or t y
    first true y = refl
    first false y = refl

    same : (t y : Bool) → pick t true y ≡ or t (pick t true y)
    same true y = refl
    same false y = refl

    later : (a t y : Bool) → pick a true (or t y) ≡ or t (pick a true y)
    later true true y = refl
    later true false y = refl
    later false true y = refl
    later false false y = refl

among-after : (x : ℕ) (cs : List ℕ) (bs : List Block) → among x (clients_after cs bs) ≡ or (among x cs) (some (of_client x bs))
unfolding clients_after or some of_client
among-after x cs [] = go (among x cs)
  where
    go : (t : Bool) → t ≡ or t false
    go true = refl
    go false = refl
among-after x cs (b ∷ bs) = among-after x (insert_client b.client cs) bs ∙ ap (λ (t : Bool). or t (some (of_client x bs))) (among-put x b.client cs) ∙ go (eqb b.client x) (among x cs)
  where
    go : (t y : Bool) → or (or t y) (some (of_client x bs)) ≡ or y (some (pick t (b ∷ of_client x bs) (of_client x bs)))
    go true true = refl
    go true false = refl
    go false true = refl
    go false false = refl

none_of : (bs : List Block) → some bs ≡ false → bs ≡ []
unfolding some
none_of [] e = refl
none_of (b ∷ bs) e = absurd (let z : ◌≡◌ {A = ℕ} 0 1 = cc in omega arith)

-- a client of blocks has some
pub some_of : (x : ℕ) (bs : List Block) → among x (clients_after [] bs) ≡ true → 0 < length (of_client x bs)
unfolding or among some
some_of x bs e = go (of_client x bs) (sym (among-after x [] bs) ∙ e)
  where
    go : (l : List Block) → some l ≡ true → 0 < length l
    go [] z = absurd (let y : ◌≡◌ {A = ℕ} 0 1 = cc in omega arith)
    go (b ∷ l) z = omega arith

-- ---- and so there is one list of them

among-under : (c : ℕ) (ds : List ℕ) → Under c ds → among c ds ≡ false
unfolding Under among
among-under c [] u = refl
among-under c (d ∷ ds) u = rw (ne_eqb d c (λ e. omega (arith, u.0, e))) (among-under c ds u.1)

under-among : (c x : ℕ) (ds : List ℕ) → Under c ds → among x ds ≡ true → x < c
unfolding Under among
under-among c x [] u e = absurd (let z : ◌≡◌ {A = ℕ} 0 1 = cc in omega arith)
under-among c x (d ∷ ds) u e = go (eqb d x) refl e (under-among c x ds u.1)
  where
    go : (t : Bool) → eqb d x ≡ t → pick t true (among x ds) ≡ true → (among x ds ≡ true → x < c) → x < c
    go true l q rest = omega (arith, u.0, eqb-true d x l)
    go false l q rest = rest q

-- the first of a list is there, and what is there is no higher
first-there : (d : ℕ) (ds : List ℕ) → among d (d ∷ ds) ≡ true
unfolding among
first-there d ds = rw (eq-eqb d d refl)

no-higher : (x d : ℕ) (ds : List ℕ) → Under d ds → among x (d ∷ ds) ≡ true → x ≤ d
unfolding among
no-higher x d ds u e = go (eqb d x) refl e
  where
    go : (t : Bool) → eqb d x ≡ t → pick t true (among x ds) ≡ true → x ≤ d
    go true l q = omega (arith, eqb-true d x l)
    go false l q = omega (arith, under-among d x ds u q)

rest-same : (x d e : ℕ) (ds es : List ℕ) → d ≡ e → Under d ds → Under e es → among x (d ∷ ds) ≡ among x (e ∷ es) → among x ds ≡ among x es
unfolding among
rest-same x d e ds es q u v h = go (eqb d x) refl
  where
    go : (t : Bool) → eqb d x ≡ t → among x ds ≡ among x es
    go true l =
        let is = eqb-true d x l in
        ap (λ (n : ℕ). among n ds) (sym is) ∙ among-under d ds u ∙ sym (ap (λ (n : ℕ). among n es) (sym is ∙ q) ∙ among-under e es v)
    go false l =
        sym (ap (λ (t : Bool). pick t true (among x ds)) l) ∙ h ∙ ap (λ (n : ℕ). pick (eqb n x) true (among x es)) (sym q) ∙ ap (λ (t : Bool). pick t true (among x es)) l

empty-none : (d : ℕ) (ds : List ℕ) → among d [] ≡ among d (d ∷ ds) → ⊥
unfolding among
empty-none d ds e =
    let z : false ≡ true = e ∙ first-there d ds in
    clash (sym z)

pub one-order : (ds es : List ℕ) → Descends ds → Descends es → ((x : ℕ) → among x ds ≡ among x es) → ds ≡ es
unfolding Descends
one-order [] [] f g h = refl
one-order [] (e ∷ es) f g h = absurd (empty-none e es (h e))
one-order (d ∷ ds) [] f g h = absurd (empty-none d ds (sym (h d)))
one-order (d ∷ ds) (e ∷ es) f g h =
    let low : d ≤ e = no-higher d e es g.0 (sym (h d) ∙ first-there d ds) in
    let high : e ≤ d = no-higher e d ds f.0 (h e ∙ first-there e es) in
    let q : d ≡ e = omega (arith, low, high) in
    ap₂ (λ (n : ℕ) (l : List ℕ). n ∷ l) q (one-order ds es f.1 g.1 (λ x. rest-same x d e ds es q f.0 g.0 (h x)))

-- ---- blocks by their clients

pub of-append : (c : ℕ) (ds bs : List Block) → of_client c (ds ++ bs) ≡ of_client c ds ++ of_client c bs
unfolding of_client
of-append c [] bs = refl
of-append c (d ∷ ds) bs = go (eqb d.client c) (of-append c ds bs)
  where
    go : (t : Bool) → of_client c (ds ++ bs) ≡ of_client c ds ++ of_client c bs → pick t (d ∷ of_client c (ds ++ bs)) (of_client c (ds ++ bs)) ≡ pick t (d ∷ of_client c ds) (of_client c ds) ++ of_client c bs
    go true e = ap (λ (l : List Block). d ∷ l) e
    go false e = e

pub of-own : (c : ℕ) (bs : List Block) → All (λ (b : Block). b.client ≡ c) bs → of_client c bs ≡ bs
unfolding of_client
of-own c [] h = refl
of-own c (b ∷ bs) h = rw (eq-eqb b.client c h.0) (ap (λ (l : List Block). b ∷ l) (of-own c bs h.1))

pub of_others : (c x : ℕ) (bs : List Block) → (c ≡ x → ⊥) → All (λ (b : Block). b.client ≡ c) bs → of_client x bs ≡ []
unfolding of_client
of_others c x [] n h = refl
of_others c x (b ∷ bs) n h = rw (ne_eqb b.client x (λ e. n (sym h.0 ∙ e))) (of_others c x bs n h.1)

-- ---- the rows of clients that have blocks

module _ (bs : List Block) where
  -- those of clients that have some
  unfoldable having : List ℕ → List ℕ
  having [] = []
  having (d ∷ ds) = pick (eqb (length (of_client d bs)) 0) (having ds) (d ∷ having ds)

  kept-rows : (ds : List ℕ) → kept (map (row_of bs) ds) ≡ map (row_of bs) (having ds)
  unfolding kept having row_of
  kept-rows [] = refl
  kept-rows (d ∷ ds) = go (eqb (length (of_client d bs)) 0) (kept-rows ds)
    where
      go : (t : Bool) → kept (map (row_of bs) ds) ≡ map (row_of bs) (having ds) → pick t (kept (map (row_of bs) ds)) (row_of bs d ∷ kept (map (row_of bs) ds)) ≡ map (row_of bs) (pick t (having ds) (d ∷ having ds))
      go true e = e
      go false e = ap (λ (l : List Row). row_of bs d ∷ l) e

  under-having : (c : ℕ) (ds : List ℕ) → Under c ds → Under c (having ds)
  unfolding Under having
  under-having c [] u = tt
  under-having c (d ∷ ds) u = go (eqb (length (of_client d bs)) 0) (under-having c ds u.1)
    where
      go : (t : Bool) → Under c (having ds) → Under c (pick t (having ds) (d ∷ having ds))
      go true h = h
      go false h = (u.0, h)

  descends-having : (ds : List ℕ) → Descends ds → Descends (having ds)
  unfolding Descends having
  descends-having [] f = tt
  descends-having (d ∷ ds) f = go (eqb (length (of_client d bs)) 0) (descends-having ds f.1)
    where
      go : (t : Bool) → Descends (having ds) → Descends (pick t (having ds) (d ∷ having ds))
      go true h = h
      go false h = (under-having d ds f.0, h)

  some-has : (x : ℕ) → some (of_client x bs) ≡ pick (eqb (length (of_client x bs)) 0) false true
  unfolding some
  some-has x = go (of_client x bs)
    where
      go : (l : List Block) → some l ≡ pick (eqb (length l) 0) false true
      go [] = refl
      go (b ∷ l) = sym (ap (λ (t : Bool). pick t false true) (ne_eqb (suc (length l)) 0 (λ e. omega (arith, e))))

  among-having : (x : ℕ) (ds : List ℕ) → among x (having ds) ≡ pick (eqb (length (of_client x bs)) 0) false (among x ds)
  unfolding among having
  among-having x [] = go (eqb (length (of_client x bs)) 0)
    where
      go : (t : Bool) → false ≡ pick t false false
      go true = refl
      go false = refl
  among-having x (d ∷ ds) = go (eqb (length (of_client d bs)) 0) refl (eqb d x) refl (among-having x ds)
    where
      here : (e : Bool) → eqb d x ≡ true → eqb (length (of_client d bs)) 0 ≡ e → eqb (length (of_client x bs)) 0 ≡ e
      here e q l = ap (λ (n : ℕ). eqb (length (of_client n bs)) 0) (sym (eqb-true d x q)) ∙ l

      go : (t : Bool) → eqb (length (of_client d bs)) 0 ≡ t → (y : Bool) → eqb d x ≡ y → among x (having ds) ≡ pick (eqb (length (of_client x bs)) 0) false (among x ds)
          → among x (pick t (having ds) (d ∷ having ds)) ≡ pick (eqb (length (of_client x bs)) 0) false (pick y true (among x ds))
      go true l true q rest = rest ∙ ap (λ (z : Bool). pick z false (among x ds)) (here true q l) ∙ sym (ap (λ (z : Bool). pick z false true) (here true q l))
      go true l false q rest = rest
      go false l true q rest = ap (λ (z : Bool). pick z true (among x (having ds))) q ∙ sym (ap (λ (z : Bool). pick z false true) (here false q l))
      go false l false q rest = ap (λ (z : Bool). pick z true (among x (having ds))) q ∙ rest

  -- clients in falling order, all that have blocks among them
  pub rows-by : (ds : List ℕ) → Descends ds → ((x : ℕ) → among x ds ≡ false → of_client x bs ≡ []) → kept (map (row_of bs) ds) ≡ rows_of bs
  unfolding rows_of or among Descends
  rows-by ds f none = kept-rows ds ∙ ap (map (row_of bs)) (one-order (having ds) (clients_after [] bs) (descends-having ds f) (descends-after [] bs tt) same)
    where
      by : (x : ℕ) (t : Bool) → among x ds ≡ t → pick (eqb (length (of_client x bs)) 0) false t ≡ pick (eqb (length (of_client x bs)) 0) false true
      by x true e = refl
      by x false e = ap (λ (l : List Block). pick (eqb (length l) 0) false false) (none x e) ∙ sym (ap (λ (l : List Block). pick (eqb (length l) 0) false true) (none x e))

      same : (x : ℕ) → among x (having ds) ≡ among x (clients_after [] bs)
      same x = among-having x ds ∙ by x (among x ds) refl ∙ sym (some-has x) ∙ sym (among-after x [] bs)

-- ---- how many there are

pub of-few : (c : ℕ) (bs : List Block) → length (of_client c bs) ≤ length bs
unfolding of_client
of-few c [] = omega arith
of-few c (b ∷ bs) = go (eqb b.client c) (of-few c bs)
  where
    go : (t : Bool) → length (of_client c bs) ≤ length bs → length (pick t (b ∷ of_client c bs) (of_client c bs)) ≤ suc (length bs)
    go true h = omega arith
    go false h = omega arith

put-length : (c : ℕ) (ds : List ℕ) → (length ds ≤ length (insert_client c ds)) × (length (insert_client c ds) ≤ suc (length ds))
unfolding insert_client
put-length c [] = (omega arith, omega arith)
put-length c (d ∷ ds) =
    by_order (λ (l : List ℕ). (length (d ∷ ds) ≤ length l) × (length l ≤ suc (length (d ∷ ds)))) c d ds (λ l. (omega arith, omega arith)) (λ s. (omega arith, omega arith))
    (λ m. let h = put-length c ds in (omega (arith, h.0), omega (arith, h.1)))

length-rows-of : (bs : List Block) → length (rows_of bs) ≡ length (clients_after [] bs)
unfolding rows_of
length-rows-of bs = length-map (clients_after [] bs) (row_of bs)

-- a client twice is a client once
put-twice : (c : ℕ) (ds : List ℕ) → insert_client c (insert_client c ds) ≡ insert_client c ds
unfolding insert_client
put-twice c [] = rw (le-ltb c c (omega arith), eq-eqb c c refl)
put-twice c (d ∷ ds) =
    by_order (λ (l : List ℕ). insert_client c l ≡ l) c d ds
    (λ l. rw (le-ltb c c (omega arith), eq-eqb c c refl))
    (λ s. rw (le-ltb d c (omega (arith, s)), eq-eqb d c s))
    (λ m. rw (le-ltb d c (omega arith), ne_eqb d c (λ e. omega (arith, e, m))) (ap (λ (l : List ℕ). d ∷ l) (put-twice c ds)))

-- a group adds one client at most
after-groups : (cs : List ℕ) (bs : List Block) → length (clients_after cs bs) ≤ length cs + length (groups owner bs)
unfolding clients_after groups join
after-groups cs [] = omega arith
after-groups cs (b ∷ []) = omega (arith, (put-length b.client cs).1)
after-groups cs (b ∷ (d ∷ bs)) =
    two owner (λ (gs : List (List Block)). length (clients_after cs (b ∷ (d ∷ bs))) ≤ length cs + length gs) b d bs
    (λ g gs is same.
    let once : insert_client d.client (insert_client b.client cs) ≡ insert_client d.client cs = ap (λ (n : ℕ). insert_client d.client (insert_client n cs)) same ∙ put-twice d.client cs in
    omega (arith, after-groups cs (d ∷ bs), ap length is, ap (λ (l : List ℕ). length (clients_after l bs)) once))
    (λ other. omega (arith, after-groups (insert_client b.client cs) (d ∷ bs), (put-length b.client cs).1))

-- so blocks have no more rows than groups
pub rows-groups : (bs : List Block) → length (rows_of bs) ≤ length (groups owner bs)
rows-groups bs = omega (arith, length-rows-of bs, after-groups [] bs)
