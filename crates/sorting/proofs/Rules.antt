-- What holds of every rule: more knowledge holds no block back if what is met stays met, as by reaches it does; and what is waited for is not met.
use mathlib.Core.Path.{◌≡◌, refl, sym}
use mathlib.Core.Bool.{Bool, true, false, ◌||◌}
use mathlib.Core.List.{List, [], ◌∷◌, map}
use mathlib.Core.Logic.{◌⊎◌, inl, inr, ◌≢◌, ◌↔◌}
use mathlib.Core.Option.{none, some}
use Prim.Native.Nat.{ℕ, ◌≤◌, ◌<◌}
use native.Mathlib.Omega.{arith}
use lib.Dec.{T, ltb, eqb, ltb→lt, lt→ltb}
use lib.ListN.{length, get_or}
use borrow.Author.Tests.{eqb-true, eqb-false}
use Rattle.numbers.specs.Number.{pick}
use Rattle.block.specs.declared.Id.{Id}
use Rattle.block.specs.declared.Block.{Block}
use Rattle.block.specs.Row.{no_block}
use Rattle.readings.specs.Sound.{owner, All}
use Rattle.sorting.specs.Steps.{State}
use Rattle.sorting.specs.StepsInner.{Monotone}
use Rattle.sorting.specs.Quick.{Listed}
use Rattle.sorting.specs.Rules.{queue, is_skip, others, Rule, unmet, waits, free, system, report, below, by_reaches}

pub or_map : (a b c d : Bool) → (T a → T c) → (T b → T d) → T (a || b) → T (c || d)
or_map true b true d f g t = tt
or_map true b false d f g t = absurd (f tt)
or_map false b true d f g t = tt
or_map false b false d f g t = g t

-- what is met stays met when more is known
unfoldable pub RuleMonotone : {A : Type 0} → Rule A → Type 0
RuleMonotone {A} R = (κ κ' : A → ℕ) → ((a : A) → κ a ≤ κ' a) → (d : Id) → T (R.met κ d) → T (R.met κ' d)

pub unmet-mono : (f g : Id → Bool) → ((d : Id) → T (f d) → T (g d)) → (ds : List Id) → T (free (unmet f ds)) → T (free (unmet g ds))
unfolding unmet
unmet-mono f g up [] t = tt
unmet-mono f g up (d ∷ ds) t = go (f d) (g d) (up d) t (unmet-mono f g up ds)
  where
    go : (x y : Bool) → (T x → T y) → T (free (pick x (unmet f ds) (some d)))
        → (T (free (unmet f ds)) → T (free (unmet g ds))) → T (free (pick y (unmet g ds) (some d)))
    go true true h t rec = rec t
    go true false h t rec = absurd (h tt)
    go false y h t rec = absurd t

pub system-monotone : {A : Type 0} (R : Rule A) (q : ℕ → List Block) → RuleMonotone R → Monotone (system R q)
unfolding Monotone system RuleMonotone waits
system-monotone R q mono κ κ' up c k t =
    let b = get_or (q c) k no_block in
    or_map (is_skip b) (free (unmet (R.met κ) (R.asks c b))) (is_skip b) (free (unmet (R.met κ') (R.asks c b))) (λ x. x)
    (unmet-mono (R.met κ) (R.met κ') (mono κ κ' up) (R.asks c b)) t

none-some : (d : Id) → none ≡ some d → ⊥
none-some d p = let z : ◌≡◌ {A = ℕ} 0 1 = cc in omega arith

-- what is waited for is not met, and has what all that is asked for have
pub unmet-is : (P : Id → Type 0) (met : Id → Bool) (ds : List Id) (d : Id) → All P ds → unmet met ds ≡ some d → P d × (met d ≡ false)
unfolding unmet
unmet-is P met [] d all p = absurd (none-some d p)
unmet-is P met (e ∷ ds) d all p = go (met e) refl p (unmet-is P met ds d all.1)
  where
    go : (x : Bool) → met e ≡ x → pick x (unmet met ds) (some e) ≡ some d → (unmet met ds ≡ some d → P d × (met d ≡ false)) → P d × (met d ≡ false)
    go true f p rec = rec p
    go false f p rec = let q : e ≡ d = cc in rw (← q) (all.0, f)

pub all_any : (ds : List Id) → All (λ (d : Id). Unit {0}) ds
all_any [] = tt
all_any (d ∷ ds) = (tt, all_any ds)

-- what is reported is what the front waits for
pub report-waits : {A : Type 0} (R : Rule A) (q : ℕ → List Block) (s : State A) (c : ℕ) (d : Id) → report R q s c ≡ some d
    → waits R s.known c (get_or (q c) (s.taken c) no_block) ≡ some d
unfolding report
report-waits R q s c d p = go (ltb (s.taken c) (length (q c))) p
  where
    go : (x : Bool) → pick x (waits R s.known c (get_or (q c) (s.taken c) no_block)) none ≡ some d
        → waits R s.known c (get_or (q c) (s.taken c) no_block) ≡ some d
    go true p = p
    go false p = absurd (none-some d p)

-- ---- ids of other clients

pub others-are : (c : ℕ) (ds : List Id) → All (λ (d : Id). d.client ≢ c) (others c ds)
unfolding others
others-are c [] = tt
others-are c (d ∷ ds) = go (eqb d.client c) refl (others-are c ds)
  where
    go : (x : Bool) → eqb d.client c ≡ x → All (λ (e : Id). e.client ≢ c) (others c ds)
        → All (λ (e : Id). e.client ≢ c) (pick x (others c ds) (d ∷ others c ds))
    go true e rest = rest
    go false e rest = (eqb-false d.client c e, rest)

-- nothing of them is waited for exactly when each id is the own client's or met
module _ (met : Id → Bool) (Met : Id → Type 0) (yes : (d : Id) → met d ≡ true → Met d) (no : (d : Id) → met d ≡ false → Met d → ⊥) (c : ℕ) where
  pub others-free : (ds : List Id) → T (free (unmet met (others c ds))) ↔ All (λ (d : Id). (d.client ≡ c) ⊎ Met d) ds
  unfolding others unmet
  others-free [] = ((λ t. tt), (λ t. tt))
  others-free (d ∷ ds) = go (eqb d.client c) refl (met d) refl (others-free ds)
    where
      go : (x : Bool) → eqb d.client c ≡ x → (y : Bool) → met d ≡ y
          → (T (free (unmet met (others c ds))) ↔ All (λ (e : Id). (e.client ≡ c) ⊎ Met e) ds)
          → T (free (unmet met (pick x (others c ds) (d ∷ others c ds)))) ↔ (((d.client ≡ c) ⊎ Met d) × All (λ (e : Id). (e.client ≡ c) ⊎ Met e) ds)
      go true e y f rec = ((λ t. (inl (eqb-true d.client c e), rec.0 t)), (λ m. rec.1 m.1))
      go false e true f rec = rw f ((λ t. (inr (yes d f), rec.0 t)), (λ m. rec.1 m.1))
      go false e false f rec = rw f (
        (λ t. absurd t),
        (λ m. elim m.0 [ inl p ↦ absurd (eqb-false d.client c e p) | inr h ↦ absurd (no d f h) ]),
      )

-- a rule by reaches
pub below-mono : (κ κ' : ℕ → ℕ) → ((a : ℕ) → κ a ≤ κ' a) → (d : Id) → T (below κ d) → T (below κ' d)
below-mono κ κ' up d t = lt→ltb d.clock (κ' d.client) (omega (arith, ltb→lt d.clock (κ d.client) t, up d.client))

pub reaches-mono : (asks : ℕ → Block → List Id) → RuleMonotone (by_reaches asks)
unfolding RuleMonotone by_reaches
reaches-mono asks = below-mono

-- the blocks' clients are all that have blocks
pub listed : (bs : List Block) (c : ℕ) → 0 < length (queue bs c) → Listed c (map owner bs)
unfolding queue
listed [] c h = absurd (omega arith)
listed (b ∷ bs) c h = go (eqb b.client c) refl h (listed bs c)
  where
    go : (x : Bool) → eqb b.client c ≡ x → 0 < length (pick x (b ∷ queue bs c) (queue bs c))
        → (0 < length (queue bs c) → Listed c (map owner bs)) → Listed c (map owner (b ∷ bs))
    go true e h rec = inl (let p : b.client ≡ c = eqb-true b.client c e in rw p)
    go false e h rec = inr (rec h)

-- and each of them has some
pub has_some : (bs : List Block) (c : ℕ) → Listed c (map owner bs) → 0 < length (queue bs c)
unfolding queue
has_some [] c l = absurd l
has_some (b ∷ bs) c l = go (eqb b.client c) refl l (has_some bs c)
  where
    go : (x : Bool) → eqb b.client c ≡ x → Listed c (map owner (b ∷ bs)) → (Listed c (map owner bs) → 0 < length (queue bs c))
        → 0 < length (pick x (b ∷ queue bs c) (queue bs c))
    go true e l rec = omega arith
    go false e (inl p) rec = absurd (eqb-false b.client c e (sym p))
    go false e (inr m) rec = rec m
