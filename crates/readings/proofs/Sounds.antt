-- Every block of an update is sound, and has its value as its form has it, whatever the update and however its blocks end.
use Prim.Native.Nat.{ℕ}
use mathlib.Core.List.{List}
use Rattle.block.specs.declared.Block.{Block}
use Rattle.grammar.specs.Course.{things}
use Rattle.decoder.specs.Update.{blocks_of}
use Rattle.readings.specs.Sound.{All}
use Rattle.readings.specs.SoundInner.{Sound, Valued}
use Rattle.readings.proofs.Groups.{all_map}
use Rattle.readings.proofs.Sections.{OfSections, OfPart, Holds, blocks-by}

module _ (form : ℕ) (u : List ℕ) where
  abbrev Has : Block → Type 0
  Has b = Sound u b × Valued form u b

  abbrev Whole : OfSections
  Whole n seen room bs = All Has bs

  abbrev Part : OfPart
  Part n seen room k client clock bs = All Has bs

  hold : Holds form u Whole Part
  hold =
      record {
        none = λ n seen room. tt;
        stopped = λ n seen room k client clock. tt;
        head = λ n seen room k client clock bs l new h. h;
        end = λ n seen room client clock bs new h. h;
        drop = λ n seen room k client clock bs h. h;
        block = λ n seen room k client clock b bs new has c t h. (has, h);
      }

  all-has : All Has (things (blocks_of form u))
  all-has = (blocks-by form u Whole Part hold).holds

  pub blocks-sound : All (Sound u) (things (blocks_of form u))
  blocks-sound = all_map Has (Sound u) (λ b h. h.0) (things (blocks_of form u)) all-has

  pub blocks-valued : All (Valued form u) (things (blocks_of form u))
  blocks-valued = all_map Has (Valued form u) (λ b h. h.1) (things (blocks_of form u)) all-has
