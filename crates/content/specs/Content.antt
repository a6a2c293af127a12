-- The stored part of block n: a part of the update itself, once the whole update reads.
use Rattle.text.specs.declared.Part.{Part}
use Rattle.numbers.specs.declared.Refusal.{Refusal}
use Rattle.std.specs.Prelude.{ℕ, zero, suc, Bool, ◌||◌, List, Result, Ok, Err}
use Rattle.numbers.specs.Number.{pick}
use Rattle.block.specs.declared.Block.{Block}
use Rattle.block.specs.Row.{no_block}
use Rattle.block.specs.Kinds.{is_binary, is_text}
use Rattle.grammar.specs.Course.{Course, thing, over, stopped, ending}
use Rattle.decoder.specs.Update.{blocks_of, delete_set}

-- block n, from 0; the row that has none where there are not so many
unfoldable pub nth : ℕ → Course Block → Block
nth zero (thing b p c) = b
nth (suc n) (thing b p c) = nth n c
nth n (over a s) = no_block
nth n (stopped why) = no_block

-- of a binary or a text; what a format, a type and a list have is in the record alone
unfoldable pub is_given : ℕ → Bool
is_given kind = is_binary kind || is_text kind

unfoldable pub stored : Block → Result Part Refusal
stored b = pick (is_given b.kind) (Ok b.part) (Err (record { number = 11; place = 0 }))

unfoldable pub content_at : ℕ → List ℕ → ℕ → Result Part Refusal
content_at form u n =
    ending (blocks_of form u)
    (λ at. ending (delete_set form u at) (λ e. stored (nth n (blocks_of form u))) (λ why. Err why))
    (λ why. Err why)
