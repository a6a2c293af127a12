-- What an update means: its blocks, then its delete set.
use Rattle.std.specs.Prelude.{ℕ, zero, suc, ◌+◌, ◌-◌, List, [], ◌∷◌, ◌++◌, ltb, eqb, length, get_or, take, set}
use Rattle.block.specs.declared.Block.{Block}
use Rattle.ranges.specs.Ranges.{Range}
use Rattle.ranges.specs.Table.{range}
use Rattle.meaning.specs.Reads.{when◌then◌else◌, Got, got, Reads, on, ◌>>=◌, done, refuse, here}
use Rattle.meaning.specs.Line.{byte, unsigned, raised, up_to, stored, word}
use Rattle.meaning.specs.Columns.{Coding, numbers, differences, octets, Lane, fresh}
use Rattle.meaning.specs.Fields.{Standing, stand, fields}
use Rattle.meaning.specs.Blocks.{all_blocks}

-- ---- the delete set, which is in line in either form

module _ (form : ℕ) (u : List ℕ) where
  -- form 2 has a clock less the end before it, and a length less one
  unfoldable pub less : ℕ → Reads ℕ ℕ
  less by = raised u (when eqb form 1 then 0 else by) 2147483647

  -- k ranges of a client, the range before them ended at `end`; an empty range is none, but has an end, which is a clock
  unfoldable pub ranges : ℕ → ℕ → ℕ → ℕ → Reads ℕ (List Range)
  ranges zero c end rows = done []
  ranges (suc k) c end rows = do
    at ← here
    clock ← less end
    n ← less 1
    when ltb 2147483647 (clock + n) then refuse 3 at else
        when eqb n 0 then ranges k c (clock + n) rows else
        when eqb rows 0 then refuse 8 at else (ranges k c (clock + n) (rows - 1) >>= λ rs. done (range c clock n ∷ rs))

  unfoldable pub owners : ℕ → ℕ → Reads ℕ (List Range)
  owners zero rows = done []
  owners (suc n) rows = do
    c ← up_to u 9007199254740991
    k ← unsigned u
    rs ← ranges k c 0 rows
    more ← owners n (rows - length rs)
    done (rs ++ more)

  unfoldable pub delete_set : ℕ → Reads ℕ (List Range)
  delete_set rows = up_to u 64 >>= λ n. owners n rows

-- ---- where blocks begin: in form 2 behind a flag of any value and nine columns

unfoldable pub cut_lanes : List ℕ → List Coding → Reads ℕ (List Lane)
cut_lanes u [] = done []
cut_lanes u (kind ∷ kinds) = do
  p ← stored u
  cs ← cut_lanes u kinds
  done (fresh kind p.place (p.place + p.bytes.0) ∷ cs)

-- columns 0 to 8: keys, clients, left and right clocks, infos, texts, parent infos, type numbers, lengths; that of texts has all of them, led by
-- their length, and behind them the units of each
unfoldable pub columned : List ℕ → Got Standing (Unit {0})
columned u =
    let kinds = differences ∷ numbers ∷ differences ∷ differences ∷ octets ∷ numbers ∷ octets ∷ numbers ∷ numbers ∷ [] in
    on ((byte u >>= λ _. cut_lanes u kinds) 0) λ cs at.
    let t = get_or cs 5 (fresh numbers 0 0) in
    on (word (take t.to u) t.at) λ p end. got tt (stand at (set cs 5 (fresh numbers end t.to)) p.place end [])

unfoldable pub begun : ℕ → List ℕ → Got Standing (Unit {0})
begun form u = when eqb form 1 then got tt (stand 0 [] 0 0 []) else columned u

-- ---- all of it

-- the blocks, then the ranges, and where reading stands after both
unfoldable pub whole : ℕ → List ℕ → ℕ → ℕ → Got (Standing × ℕ) (List Block × List Range)
whole form u block_rows range_rows =
    on (begun form u) λ _ s. on (all_blocks (fields form u) block_rows s) λ bs t.
    on (delete_set form u range_rows t.at) λ rs end. got (bs, rs) (t, end)
