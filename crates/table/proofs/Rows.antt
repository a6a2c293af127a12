-- Laws of filling: a row more, no row left, and the rows from one on. Assumes nothing.
use Rattle.std.proofs.Common.{◌≡◌, ◌∙◌, ap, ℕ, suc, ◌+◌, ◌-◌, ◌<◌, ◌≤◌, arith, add-one, List, [], ◌∷◌, ◌++◌, append_assoc, append-nil, length, set, replicate, take, drop, length-set, take-suc-set, take_all, length-drop, length-take-le}
use Rattle.std.proofs.lemmas.List.{drop_all}
use Rattle.block.specs.declared.Block.{Block}
use Rattle.table.specs.Rows.{filled_from}
use borrow.Rule.Slice.PartMut.{put_mid}

-- row i is b, and so are those after it
pub filled_more : (b : Block) (rows : List Block) (i : ℕ) → i < length rows → filled_from (i + 1) b (set rows i b) ≡ filled_from i b rows
unfolding filled_from
filled_more b rows i l =
    ap (λ (n : ℕ). take n (set rows i b) ++ replicate (length (set rows i b) - n) b) (add-one i)
    ∙ ap (λ (front : List Block). front ++ replicate (length (set rows i b) - suc i) b) (take-suc-set rows i b l)
    ∙ append_assoc (take i rows) (b ∷ []) (replicate (length (set rows i b) - suc i) b)
    ∙ ap (λ (n : ℕ). take i rows ++ replicate n b) left
  where
    left : suc (length (set rows i b) - suc i) ≡ length rows - i
    left = omega (arith, l, length-set rows i b)

-- from the end on there is nothing to fill
pub filled_none : (b : Block) (rows : List Block) (i : ℕ) → length rows ≤ i → filled_from i b rows ≡ rows
unfolding filled_from
filled_none b rows i l = ap (λ (n : ℕ). take i rows ++ replicate n b) left ∙ append-nil (take i rows) ∙ take_all i rows l
  where
    left : length rows - i ≡ 0
    left = omega (arith, l)

-- what is left of the rows when those from one on have been given to `fill`
pub filled_rest : (from : ℕ) (b : Block) (rows rest : List Block)
    → rest ≡ replicate (length (take (length rows - from) (drop from rows))) b → put_mid from (length rows - from) rows rest ≡ filled_from from b rows
unfolding filled_from
filled_rest from b rows rest e =
    let k = length rows - from in
    let all : length (drop from rows) ≡ k = length-drop from rows in
    ap (λ (x : List Block). take from rows ++ (rest ++ x)) (drop_all k (drop from rows) (omega arith)) ∙ ap (λ (x : List Block). take from rows ++ x) (append-nil rest ∙ e)
    ∙ ap (λ (n : ℕ). take from rows ++ replicate n b) (length-take-le k (drop from rows) (omega arith))
