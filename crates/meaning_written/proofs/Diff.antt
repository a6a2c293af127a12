-- That a diff, as it is said in short, has the bytes and the refusals of the long-standing one.
use Prim.Native.Nat.{ℕ}
use mathlib.Core.Path.{◌≡◌, refl, ap, ◌∙◌}
use mathlib.Core.Bool.{Bool, true, false, ◌&&◌, ◌||◌}
use mathlib.Core.List.{List, []}
use lib.Dec.{eqb}
use Rattle.numbers.specs.Number.{pick}
use Rattle.block.specs.declared.Block.{Block}
use Rattle.ranges.specs.Ranges.{Range}
use Rattle.vector.specs.Vector.{Entry}
use Rattle.readings.specs.Groups.{groups}
use Rattle.tokens.specs.Tokens as tokens
use Rattle.tokens.specs.Tokens.{Token}
use Rattle.tokens.specs.Keys.{many_keys}
use Rattle.tokens.specs.Bytes as tokens-bytes
use Rattle.kept.specs.Kept.{sections_of}
use Rattle.kept.specs.Cut.{any_torn, any_format}
use Rattle.writing.specs.Diff as writing
use Rattle.writing.specs.Diff.{diff_tokens, turned_format}
use Rattle.meaning.specs.Reads.{when◌then◌else◌}
use Rattle.meaning.specs.Columns.{differences}
use Rattle.meaning_written.specs.Columns.{every, near, rises}
use Rattle.meaning_written.specs.Diff.{each, one_of, torn, Put, sections, crowded, values_in, puts, diff_bytes, diff_why}
use Rattle.meaning_written.proofs.Columns.{near_same}
use Rattle.meaning_written.proofs.Kept.{alike, sections-same}
use Rattle.meaning_written.proofs.Cut.{all_pieces, is_format, any-torn, any-format}
use Rattle.meaning_written.proofs.Puts.{lane_of, Are, values_same, form1-same, form2-same}
use Rattle.meaning_written.proofs.Keys.{numbered-same, crowded-same}
use Rattle.meaning_written.proofs.Records.{update_same}

-- the sections kept
abbrev kept : List Entry → List Block → List (ℕ × List (Block × ℕ))
kept v bs = sections v (groups (λ (b : Block). b.client) bs)

puts-same : (form : ℕ) (u : List ℕ) (v : List Entry) (bs : List Block) (rs : List Range) → Are (diff_tokens form u v bs rs) (puts form u v bs rs)
unfolding diff_tokens
puts-same form u v bs rs = rw (sections-same v bs) (update_same form u (kept v bs) rs)

pub bytes_same : (form : ℕ) (u : List ℕ) (v : List Entry) (bs : List Block) (rs : List Range)
    → writing.diff_bytes form u v bs rs ≡ diff_bytes form u v bs rs
unfolding writing.diff_bytes tokens-bytes.bytes_of diff_bytes
bytes_same form u v bs rs =
    let are = puts-same form u v bs rs in
    alike (eqb form 1) (form1-same are) (form2-same (numbered-same [] are))

-- ---- the refusals

many-same : (form : ℕ) {ts : List Token} {ps : List Put} → Are ts ps → many_keys form ts ≡ (when eqb form 1 then false else crowded [] ps)
unfolding many_keys
many-same form r = alike (eqb form 1) refl (crowded-same [] r)

torn-same : (u : List ℕ) (v : List Entry) (bs : List Block) → any_torn u (sections_of v bs) ≡ one_of (torn u) (all_pieces (kept v bs))
torn-same u v bs = ap (any_torn u) (sections-same v bs) ∙ any-torn u (kept v bs)

turned_same : (from form : ℕ) (v : List Entry) (bs : List Block)
    → turned_format from form (sections_of v bs) ≡ (when eqb from form then false else one_of is_format (all_pieces (kept v bs)))
unfolding turned_format
turned_same from form v bs = alike (eqb from form) refl (ap any_format (sections-same v bs) ∙ any-format (kept v bs))

abbrev spelled : ℕ → List Put → Bool
spelled k ps = every (near differences) (rises 0 (each (values_in k) ps))

near-in : {ts : List Token} {ps : List Put} → Are ts ps → (k : ℕ) → tokens-bytes.near_in (lane_of k) ts ≡ spelled k ps
unfolding tokens-bytes.near_in
near-in {ts} r k = near_same (tokens.taken_all (lane_of k) ts) ∙ ap (λ vs. every (near differences) (rises 0 vs)) (values_same k r)

near-all : (form : ℕ) {ts : List Token} {ps : List Put} → Are ts ps → tokens-bytes.near form ts ≡ (eqb form 1 || (spelled 2 ps && spelled 3 ps))
unfolding tokens-bytes.near lane_of
near-all form {ps} r = rw (near-in r 2, near-in r 3) (go (eqb form 1) (spelled 2 ps) (spelled 3 ps))
  where
    go : (a b c : Bool) → pick a true (pick b c false) ≡ (a || (b && c))
    go true b c = refl
    go false true c = refl
    go false false c = refl

pub why-diff-same : (from form : ℕ) (u : List ℕ) (v : List Entry) (bs : List Block) (rs : List Range)
    → writing.diff_why from form u v bs rs ≡ diff_why from form u v bs rs
unfolding writing.diff_why diff_why
why-diff-same from form u v bs rs =
    let ps = puts form u v bs rs in
    let are = puts-same form u v bs rs in
    let pieces = all_pieces (kept v bs) in
    rw (many-same form are, torn-same u v bs, turned_same from form v bs, near-all form are)
    (alike (when eqb form 1 then false else crowded [] ps) refl
    (alike (one_of (torn u) pieces) refl
    (alike (when eqb from form then false else one_of is_format pieces) refl (alike (eqb form 1 || (spelled 2 ps && spelled 3 ps)) refl refl))))
