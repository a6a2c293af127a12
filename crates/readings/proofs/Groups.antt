-- A list in groups: joined again they are the list, each has one client, and those of an update's blocks have clients that differ and blocks that adjoin.
use Prim.Native.Nat.{ℕ, zero, suc, ◌≤◌, ◌<◌}
use mathlib.Core.Path.{◌≡◌, refl, sym, ap, subst, ◌∙◌}
use mathlib.Core.Logic.{◌≢◌, ⊎_elim}
use mathlib.Core.Bool.{Bool, true, false}
use mathlib.Core.List.{List, [], ◌∷◌, ◌++◌}
use native.Mathlib.Omega.{arith}
use lib.Dec.{eqb}
use lib.ListN.{length, get_or}
use borrow.Author.Tests.{eqb-true, eqb-false}
use Rattle.numbers.specs.Number.{pick}
use Rattle.block.specs.declared.Block.{Block}
use Rattle.readings.specs.Sound.{owner, All}
use Rattle.readings.specs.SoundInner.{Follows, Stays, Ordered, Adjoins, Chain}
use Rattle.readings.specs.Groups.{join, groups, Distinct}
use Rattle.readings.specs.GroupsInner.{joined, Single, clients}

-- what makes Q of P makes all Q of all P
pub all_map : {A : Type 0} (P Q : A → Type 0) → ((a : A) → P a → Q a) → (l : List A) → All P l → All Q l
all_map P Q f [] h = tt
all_map P Q f (a ∷ l) h = (f a h.0, all_map P Q f l h.1)

-- what all have, the one at a place has
pub all-at : {A : Type 0} (P : A → Type 0) (l : List A) (k : ℕ) (d : A) → All P l → k < length l → P (get_or l k d)
all-at P [] k d h b = absurd (omega arith)
all-at P (a ∷ l) zero d h b = h.0
all-at P (a ∷ l) (suc k) d h b = all-at P l k d h.1 (omega arith)

-- and all have it where one that has it comes behind them
pub all_more : {A : Type 0} (P : A → Type 0) (l : List A) (a : A) → All P l → P a → All P (l ++ (a ∷ []))
all_more P [] a h p = (p, tt)
all_more P (b ∷ l) a h p = (h.0, all_more P l a h.1 p)

module _ {A : Type 0} (client : A → ℕ) where
  -- ---- one element more

  -- what a makes of groups whose first is b's: it joins that one, or stands before it
  pub join-cases : (P : List (List A) → Type 0) (a b : A) (g : List A) (gs : List (List A)) → (client a ≡ client b → P ((a ∷ (b ∷ g)) ∷ gs))
      → (client a ≢ client b → P ((a ∷ []) ∷ ((b ∷ g) ∷ gs))) → P (join client a ((b ∷ g) ∷ gs))
  unfolding join
  join-cases P a b g gs same other = go (eqb (client a) (client b)) refl
    where
      go : (t : Bool) → eqb (client a) (client b) ≡ t → P (pick t ((a ∷ (b ∷ g)) ∷ gs) ((a ∷ []) ∷ ((b ∷ g) ∷ gs)))
      go true e = same (eqb-true (client a) (client b) e)
      go false e = other (eqb-false (client a) (client b) e)

  -- the first group begins with the first element
  record Begun (a : A) (gs : List (List A)) : Type 0 where
    group : List A
    others : List (List A)
    is : gs ≡ (a ∷ group) ∷ others

  join-begun : (a : A) (gs : List (List A)) → Begun a (join client a gs)
  unfolding join
  join-begun a [] = record { group = []; others = []; is = refl }
  join-begun a ([] ∷ gs) = record { group = []; others = gs; is = refl }
  join-begun a ((b ∷ g) ∷ gs) =
      join-cases (Begun a) a b g gs (λ e. record { group = b ∷ g; others = gs; is = refl }) (λ e. record { group = []; others = (b ∷ g) ∷ gs; is = refl })

  -- so of two elements the first joins the other's group, or stands before all groups
  pub two : (P : List (List A) → Type 0) (a b : A) (xs : List A)
      → ((g : List A) (gs : List (List A)) → groups client (b ∷ xs) ≡ (b ∷ g) ∷ gs → client a ≡ client b → P ((a ∷ (b ∷ g)) ∷ gs))
      → (client a ≢ client b → P ((a ∷ []) ∷ groups client (b ∷ xs))) → P (groups client (a ∷ (b ∷ xs)))
  unfolding groups
  two P a b xs same other =
      let begun = join-begun b (groups client xs) in
      let is = begun.is in
      subst (λ (gs : List (List A)). P (join client a gs)) (sym is)
      (join-cases P a b begun.group begun.others (same begun.group begun.others is)
      (λ e. subst (λ (gs : List (List A)). P ((a ∷ []) ∷ gs)) is (other e)))

  -- ---- the groups joined

  join-joined : (a : A) (gs : List (List A)) → joined (join client a gs) ≡ a ∷ joined gs
  unfolding join joined
  join-joined a [] = refl
  join-joined a ([] ∷ gs) = refl
  join-joined a ((b ∷ g) ∷ gs) = join-cases (λ (hs : List (List A)). joined hs ≡ a ∷ joined ((b ∷ g) ∷ gs)) a b g gs (λ e. refl) (λ e. refl)

  pub groups-joined : (xs : List A) → joined (groups client xs) ≡ xs
  unfolding groups joined
  groups-joined [] = refl
  groups-joined (a ∷ xs) = join-joined a (groups client xs) ∙ ap (λ (l : List A). a ∷ l) (groups-joined xs)

  -- ---- one client each

  join-single : (a : A) (gs : List (List A)) → All (Single client) gs → All (Single client) (join client a gs)
  unfolding join Single
  join-single a [] h = (tt, tt)
  join-single a ([] ∷ gs) h = absurd h.0
  join-single a ((b ∷ g) ∷ gs) h =
      join-cases (All (Single client)) a b g gs (λ e. ((sym e, subst (λ (n : ℕ). All (λ (c : A). client c ≡ n) g) (sym e) h.0), h.1)) (λ e. (tt, h))

  pub groups-single : (xs : List A) → All (Single client) (groups client xs)
  unfolding groups
  groups-single [] = tt
  groups-single (a ∷ xs) = join-single a (groups client xs) (groups-single xs)

  -- ---- what all elements have, all have in their groups

  join-all : (P : A → Type 0) (a : A) (gs : List (List A)) → P a → All (All P) gs → All (All P) (join client a gs)
  unfolding join
  join-all P a [] p h = ((p, tt), tt)
  join-all P a ([] ∷ gs) p h = ((p, tt), h.1)
  join-all P a ((b ∷ g) ∷ gs) p h = join-cases (All (All P)) a b g gs (λ e. ((p, h.0), h.1)) (λ e. ((p, tt), h))

  pub groups-all : (P : A → Type 0) (xs : List A) → All P xs → All (All P) (groups client xs)
  unfolding groups
  groups-all P [] h = tt
  groups-all P (a ∷ xs) h = join-all P a (groups client xs) h.0 (groups-all P xs h.1)

  -- ---- their clients are clients of the list

  join-clients : (P : ℕ → Type 0) (a : A) (gs : List (List A)) → P (client a) → All P (clients client gs) → All P (clients client (join client a gs))
  unfolding join clients
  join-clients P a [] p h = (p, tt)
  join-clients P a ([] ∷ gs) p h = (p, h)
  join-clients P a ((b ∷ g) ∷ gs) p h = join-cases (λ (hs : List (List A)). All P (clients client hs)) a b g gs (λ e. (p, h.1)) (λ e. (p, h))

  pub groups-clients : (P : ℕ → Type 0) (xs : List A) → All (λ (a : A). P (client a)) xs → All P (clients client (groups client xs))
  unfolding groups clients
  groups-clients P [] h = tt
  groups-clients P (a ∷ xs) h = join-clients P a (groups client xs) h.0 (groups-clients P xs h.1)

  -- ---- how many there are

  -- one element adds one group at most
  pub join-length : (a : A) (gs : List (List A)) → length (join client a gs) ≤ suc (length gs)
  unfolding join
  join-length a [] = omega arith
  join-length a ([] ∷ gs) = omega arith
  join-length a ((b ∷ g) ∷ gs) = join-cases (λ (hs : List (List A)). length hs ≤ suc (suc (length gs))) a b g gs (λ e. omega arith) (λ e. omega arith)

  pub groups-length : (xs : List A) → length (groups client xs) ≤ length xs
  unfolding groups
  groups-length [] = omega arith
  groups-length (a ∷ xs) = omega (arith, join-length a (groups client xs), groups-length xs)

  -- and none before one of its client
  pub same_length : (a b : A) (xs : List A) → client a ≡ client b → length (groups client (a ∷ (b ∷ xs))) ≡ length (groups client (b ∷ xs))
  same_length a b xs e =
      two (λ (hs : List (List A)). length hs ≡ length (groups client (b ∷ xs))) a b xs (λ g gs is _. sym (ap length is)) (λ n. absurd (n e))

-- ---- the groups of an update's blocks

pub ordered-distinct : (bs : List Block) → Ordered bs → Distinct (clients owner (groups owner bs))
unfolding Ordered Stays Distinct groups join clients
ordered-distinct [] h = tt
ordered-distinct (b ∷ []) h = (tt, tt)
ordered-distinct (b ∷ c ∷ cs) h = go (ordered-distinct (c ∷ cs) h.2)
  where
    go : Distinct (clients owner (groups owner (c ∷ cs))) → Distinct (clients owner (groups owner (b ∷ (c ∷ cs))))
    go d =
        two owner (λ (hs : List (List Block)). Distinct (clients owner hs)) b c cs
        (λ g gs is e. subst (λ (n : ℕ). Distinct (n ∷ clients owner gs)) (sym e) (subst (λ (hs : List (List Block)). Distinct (clients owner hs)) is d))
        (λ n. (groups-clients owner (λ (x : ℕ). x ≢ b.client) (c ∷ cs) (⊎_elim (λ e. absurd (n (sym e))) (λ all. all) h.1), d))

pub ordered-chains : (bs : List Block) → Ordered bs → All Chain (groups owner bs)
unfolding Ordered Follows Chain Adjoins groups join
ordered-chains [] h = tt
ordered-chains (b ∷ []) h = ((tt, tt), tt)
ordered-chains (b ∷ c ∷ cs) h = go (ordered-chains (c ∷ cs) h.2)
  where
    go : All Chain (groups owner (c ∷ cs)) → All Chain (groups owner (b ∷ (c ∷ cs)))
    go d =
        two owner (All Chain) b c cs
        (λ g gs is e.
        let k = subst (All Chain) is d in
        (((sym e, h.0 (sym e)), k.0), k.1))
        (λ n. ((tt, tt), d))
