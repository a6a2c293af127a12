-- Rule 13 in the paper's words: rule 28, and the block's clock at or below its own client's reach; other clients are reported first.
use mathlib.Core.Path.{◌≡◌, refl}
use mathlib.Core.Bool.{Bool, true, false}
use mathlib.Core.List.{List, [], ◌∷◌, ◌++◌}
use mathlib.Core.Logic.{◌⊎◌, inl, inr, ◌↔◌}
use mathlib.Core.Option.{Option, none, some}
use Prim.Native.Nat.{ℕ, zero, suc, ◌≤◌, ◌<◌}
use native.Mathlib.Omega.{arith}
use lib.Dec.{T, ltb}
use lib.ListN.{get_or}
use borrow.Author.Tests.{ltb-true, ltb-false}
use Rattle.numbers.specs.Number.{pick}
use Rattle.block.specs.declared.Id.{Id}
use Rattle.block.specs.declared.Block.{Block}
use Rattle.block.specs.Row.{no_block}
use Rattle.sorting.specs.Steps.{State}
use Rattle.sorting.specs.Rules.{deps, others, unmet, waits, free, report, below, by_reaches}
use Rattle.sorting.specs.Rule28.{asks28}
use Rattle.sorting.specs.Rule28Inner.{rule28}
use Rattle.sorting.specs.Rule13.{id_before, asks13}
use Rattle.sorting.specs.Rule13Inner.{rule13}
use Rattle.sorting.proofs.Rules.{report-waits}

abbrev pub or_else : Option Id → Option Id → Option Id
or_else none o = o
or_else (some d) o = some d

unmet-append : (met : Id → Bool) (ds es : List Id) → unmet met (ds ++ es) ≡ or_else (unmet met ds) (unmet met es)
unfolding unmet
unmet-append met [] es = refl
unmet-append met (d ∷ ds) es = go (met d) (unmet-append met ds es)
  where
    go : (x : Bool) → unmet met (ds ++ es) ≡ or_else (unmet met ds) (unmet met es)
        → pick x (unmet met (ds ++ es)) (some d) ≡ or_else (pick x (unmet met ds) (some d)) (unmet met es)
    go true rec = rec
    go false rec = refl

module _ (reach : ℕ → ℕ) (c : ℕ) where
  -- the own client, at clock k: it is below or at the reach, or the id before it is waited for
  pub record Gap (k : ℕ) (d : Id) : Type 0 where
    pub own : d.client ≡ c
    pub at : suc d.clock ≡ k
    pub gap : reach c < k

  own-client : (k : ℕ) (P : Option Id → Type 0) → (k ≤ reach c → P none) → ((d : Id) → Gap k d → P (some d)) → P (unmet (below reach) (id_before c k))
  unfolding unmet id_before
  own-client zero P met gap = met (omega arith)
  own-client (suc k) P met gap = go (ltb k (reach c)) refl
    where
      go : (x : Bool) → ltb k (reach c) ≡ x → P (pick x none (some (record { client = c; clock = k })))
      go true e = met (omega (arith, ltb-true k (reach c) e))
      go false e = gap (record { client = c; clock = k }) (record { own = refl; at = refl; gap = omega (arith, ltb-false k (reach c) e) })

  module _ (b : Block) where
    waits-split : waits rule13 reach c b ≡ or_else (waits rule28 reach c b) (unmet (below reach) (id_before c b.clock))
    unfolding waits by_reaches asks13 asks28
    waits-split = unmet-append (below reach) (others c (deps b)) (id_before c b.clock)

    -- a block is ready exactly when rule 28 has it ready and its clock is at or below its own client's reach
    pub ready-13 : T (free (waits rule13 reach c b)) ↔ (T (free (waits rule28 reach c b)) × (b.clock ≤ reach c))
    ready-13 = rw waits-split (own-client b.clock
        (λ o. T (free (or_else (waits rule28 reach c b) o)) ↔ (T (free (waits rule28 reach c b)) × (b.clock ≤ reach c)))
        (λ h. met (waits rule28 reach c b) h) (λ d g. gap (waits rule28 reach c b) d g))
      where
        met : (o : Option Id) → b.clock ≤ reach c → T (free (or_else o none)) ↔ (T (free o) × (b.clock ≤ reach c))
        met none h = ((λ t. (tt, h)), (λ t. tt))
        met (some d) h = ((λ t. absurd t), (λ t. absurd t.0))

        gap : (o : Option Id) (d : Id) → Gap b.clock d → T (free (or_else o (some d))) ↔ (T (free o) × (b.clock ≤ reach c))
        gap none d g = ((λ t. absurd t), (λ t. absurd (omega (arith, t.1, g.gap))))
        gap (some e) d g = ((λ t. absurd t), (λ t. absurd t.0))

    -- what is waited for is what rule 28 waits for; or that waits for nothing, and the own client's reach is below the block's clock
    pub waits-13 : (d : Id) → waits rule13 reach c b ≡ some d
        → (waits rule28 reach c b ≡ some d) ⊎ ((waits rule28 reach c b ≡ none) × Gap b.clock d)
    waits-13 d p = own-client b.clock
        (λ o. or_else (waits rule28 reach c b) o ≡ some d → (waits rule28 reach c b ≡ some d) ⊎ ((waits rule28 reach c b ≡ none) × Gap b.clock d))
        (λ h. met (waits rule28 reach c b)) (λ e g. gap (waits rule28 reach c b) e g) (rw waits-split at p)
      where
        met : (o : Option Id) → or_else o none ≡ some d → (o ≡ some d) ⊎ ((o ≡ none) × Gap b.clock d)
        met none p = absurd (let z : ◌≡◌ {A = ℕ} 0 1 = cc in omega arith)
        met (some e) p = inl p

        gap : (o : Option Id) (e : Id) → Gap b.clock e → or_else o (some e) ≡ some d → (o ≡ some d) ⊎ ((o ≡ none) × Gap b.clock d)
        gap none e g p = let q : e ≡ d = cc in inr (refl, rw (← q) g)
        gap (some a) e g p = inl p

-- so of what is reported of a front
abbrev pub Behind : (ℕ → ℕ) → ℕ → Block → Id → Type 0
Behind reach c b d = (waits rule28 reach c b ≡ some d) ⊎ ((waits rule28 reach c b ≡ none) × Gap reach c b.clock d)

pub reported-13 : (q : ℕ → List Block) (s : State ℕ) (c : ℕ) (d : Id) → report rule13 q s c ≡ some d
    → Behind s.known c (get_or (q c) (s.taken c) no_block) d
reported-13 q s c d p = waits-13 s.known c (get_or (q c) (s.taken c) no_block) d (report-waits rule13 q s c d p)
