-- That a block's stored part is where `look` promises.
use Rattle.std.specs.Prelude.{Err}
use Prim.Native.Nat.{ℕ, zero, suc}
use mathlib.Core.Path.{◌≡◌, refl, sym}
use mathlib.Core.Bool.{Bool, true, false, ◌||◌}
use mathlib.Core.List.{List}
use lib.Dec.{eqb}
use lib.ListN.{get_or}
use Rattle.block.specs.declared.Block.{Block}
use Rattle.block.specs.Row.{no_block}
use Rattle.grammar.specs.Course.{Course, thing, over, stopped, things}
use Rattle.decoder.specs.Update.{blocks_of}
use Rattle.content.specs.Content as content
use Rattle.content.specs.Content.{nth, is_given, content_at}
use Rattle.contents.specs.Promises as contents
use Rattle.contents.specs.Promises.{refused_where, where_found}
use Rattle.meaning.specs.Reads.{when◌then◌else◌}
use Rattle.meaning.specs.Blocks.{row}
use Rattle.meaning_calls.specs.Reading.{part_in, where_of}
use Rattle.meaning_calls.proofs.Enough.{ended-then, all-is}

nth-thing : (n : ℕ) (c : Course Block) → nth n c ≡ get_or (things c) n no_block
unfolding nth things
nth-thing zero (thing b p c) = refl
nth-thing (suc n) (thing b p c) = nth-thing n c
nth-thing n (over a s) = refl
nth-thing n (stopped why) = refl

stored_same : (b : Block) → where_found (content.stored b) ≡ part_in b
unfolding where_found content.stored is_given part_in when◌then◌else◌ refused_where
stored_same b = go (eqb b.kind 4 || eqb b.kind 5) refl
  where
    go : (x : Bool) → (eqb b.kind 4 || eqb b.kind 5) ≡ x → where_found (content.stored b) ≡ part_in b
    go true e = rw e
    go false e = rw e

pub where-same : (form : ℕ) (u : List ℕ) (n : ℕ) → contents.where_of form u n ≡ where_of form u n
unfolding contents.where_of content_at where_found where_of row refused_where
where-same form u n =
    let b = nth n (blocks_of form u) in
    rw (ended-then form u where_found (content.stored b) Err, stored_same b, nth-thing n (blocks_of form u))
    (sym (all-is form u (λ bs. part_in (get_or bs n no_block)) refused_where))
