-- That an input is listed as `list` promises.
use Prim.Native.Nat.{ℕ}
use Prim.Native.String.{String}
use mathlib.Core.Path.{◌≡◌, refl, sym, ap, ◌∙◌}
use mathlib.Core.Bool.{Bool, true, false, cond, ◌&&◌, ◌||◌, and-true, and-false}
use mathlib.Core.List.{List, [], ◌∷◌, ◌++◌, append_assoc}
use lib.Dec.{ltb, eqb}
use lib.ListN.{length}
use Rattle.numbers.specs.declared.Refusal.{Refusal}
use Rattle.numbers.specs.Number.{pick, nowhere}
use Rattle.block.specs.declared.Block.{Block}
use Rattle.ranges.specs.Ranges.{Range}
use Rattle.updates.specs.Promises.{Reading}
use Rattle.updates.specs.Promises as promises
use Rattle.lines.specs.Lines.{decimal}
use Rattle.listing_text.specs.Words.{word_form, word_blocks, word_ranges}
use Rattle.listing_text.specs.Listing as text
use Rattle.listed.specs.Listed as old
use Rattle.meaning.specs.Reads.{when◌then◌else◌}
use Rattle.meaning_calls.proofs.Reading.{reading-same}
use Rattle.meaning_written.specs.Diff.{each, same}
use Rattle.meaning_list.specs.Lines.{ascii, number_then, kind_name, block_line, range_line, refused_line, lines_of, listed_update, listed}

pick-if : {A : Type 0} (b : Bool) {x y p q : A} → x ≡ p → y ≡ q → pick b x y ≡ (when b then p else q)
unfolding when◌then◌else◌
pick-if true e f = e
pick-if false e f = f

-- ---- the lines

-- the bytes of one of two words
word_same : (b : Bool) (s t : String) {x y : List ℕ} → x ≡ ascii s → y ≡ ascii t → cond b x y ≡ ascii (when b then s else t)
unfolding when◌then◌else◌
word_same true s t e f = e
word_same false s t e f = f

kind-same : (kind : ℕ) → text.kind_name kind ≡ ascii (kind_name kind)
unfolding text.kind_name kind_name ascii
kind-same kind =
    word_same (eqb kind 1) "gc" _ refl
    (word_same (eqb kind 2) "skip" _ refl
    (word_same (eqb kind 3) "deleted" _ refl
    (word_same (eqb kind 4) "binary" _ refl
    (word_same (eqb kind 5) "text" _ refl
    (word_same (eqb kind 6) "format" _ refl (word_same (eqb kind 7) "type" _ refl (word_same (eqb kind 8) "any" "" refl refl)))))))

block_same : (b : Block) → text.block_line b ≡ block_line b
unfolding text.block_line text.number_then block_line number_then ascii
block_same b = rw (kind-same b.kind) (simp append_assoc)

range_same : (r : Range) → text.range_line r ≡ range_line r
unfolding text.range_line text.number_then range_line number_then ascii
range_same r = simp append_assoc

refused-same : (why : Refusal) → text.refused_line why ≡ refused_line why.number why.place
unfolding text.refused_line text.named text.number_then refused_line number_then ascii
refused-same why = simp append_assoc

blocks-same : (bs : List Block) → text.block_lines bs ≡ each block_line bs
unfolding text.block_lines each
blocks-same [] = refl
blocks-same (b ∷ bs) = rw (block_same b, blocks-same bs)

ranges-same : (rs : List Range) → text.range_lines rs ≡ each range_line rs
unfolding text.range_lines each
ranges-same [] = refl
ranges-same (r ∷ rs) = rw (range_same r, ranges-same rs)

-- the space that follows a number goes to the word behind it
listing-same : (form : ℕ) (bs : List Block) (rs : List Range) → text.listing form bs rs ≡ ascii "update form "
    ++ (number_then form " blocks " ++ (number_then (length bs) " ranges " ++ (number_then (length rs) "\n"
    ++ (each block_line bs ++ (each range_line rs ++ ascii "end\n")))))
unfolding text.listing text.header text.named text.number_then text.end_line number_then ascii
listing-same form bs rs =
    rw (blocks-same bs, ranges-same rs)
    (moved word_form (decimal form) word_blocks (decimal (length bs)) word_ranges (decimal (length rs)) (each block_line bs) (each range_line rs) (ascii "end\n"))
  where
    moved : (f a g b h c x y z : List ℕ) → f ++ (a ++ (32 ∷ [])) ++ (g ++ (b ++ (32 ∷ []))) ++ (h ++ (c ++ (10 ∷ []))) ++ x ++ y ++ z
        ≡ f ++ (a ++ (32 ∷ g) ++ (b ++ (32 ∷ h) ++ (c ++ (10 ∷ []) ++ (x ++ (y ++ z)))))
    moved f a g b h c x y z = simp append_assoc

-- what was read, or why not
lines_same : (form : ℕ) (r : Reading) → old.lines_of form r ≡ lines_of form r
unfolding old.lines_of lines_of
lines_same form r = pick-if (eqb r.refusal.number 0) (listing-same form r.blocks r.ranges) (refused-same r.refusal)

-- ---- the empty update

pick-and : (a b : Bool) → pick a b false ≡ (a && b)
pick-and true b = refl
pick-and false b = refl

bytes_same : (u v : List ℕ) → old.same u v ≡ same u v
unfolding old.same same
bytes_same [] [] = refl
bytes_same [] (y ∷ ys) = refl
bytes_same (x ∷ xs) [] = refl
bytes_same (x ∷ xs) (y ∷ ys) = rw (bytes_same xs ys) (pick-and (eqb x y) (same xs ys))

empty-same : (form : ℕ) (u : List ℕ)
    → old.is_empty form u ≡ (same u (when eqb form 1 then old.empty_v1 else old.empty_v2) && (eqb form 1 || eqb form 2))
unfolding old.is_empty when◌then◌else◌
empty-same form u = go (eqb form 1) (eqb form 2)
  where
    go : (a b : Bool) → pick a (old.same u old.empty_v1) (pick b (old.same u old.empty_v2) false)
        ≡ (same u (when a then old.empty_v1 else old.empty_v2) && (a || b))
    go true b = bytes_same u old.empty_v1 ∙ sym (and-true (same u old.empty_v1))
    go false true = bytes_same u old.empty_v2 ∙ sym (and-true (same u old.empty_v2))
    go false false = sym (and-false (same u old.empty_v2))

-- ---- an update, and an input

empty-line : text.empty_line ≡ ascii "empty\n"
unfolding text.empty_line ascii
empty-line = refl

update_same : (form : ℕ) (u : List ℕ) → old.listed_update form u ≡ listed_update form u
unfolding old.listed_update old.listed_reading listed_update
update_same form u =
    rw (empty-same form u)
    (pick-if (same u (when eqb form 1 then old.empty_v1 else old.empty_v2) && (eqb form 1 || eqb form 2)) empty-line
    (lines_same form (promises.reading form u 512 1024) ∙ ap (lines_of form) (reading-same form u 512 1024)))

pub listed_same : (input : List ℕ) → old.listed input ≡ listed input
unfolding old.listed old.listed_parts listed
listed_same [] = refused-same (nowhere 1)
listed_same (form ∷ u) = pick-if (ltb 65536 (length (form ∷ u))) (refused-same (nowhere 3)) (update_same form u)
