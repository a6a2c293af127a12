-- What a record has beside its place, whether or not its key is spelled: an end, a mark, and what is stored.
use Prim.Native.Nat.{ℕ, ◌+◌, ◌≤◌}
use mathlib.Core.List.{List}
use Rattle.numbers.specs.Limits.{max_clock}
use Rattle.block.specs.declared.Block.{Block}
use Rattle.block.specs.KindsInner.{is_marked}
use Rattle.readings.specs.Sound.{linked}
use Rattle.readings.specs.SoundInner.{SoundText, Stored, Sound}
use Rattle.readings.proofs.Columns.{chosen}
use Rattle.written.specs.Written.{keyless, reread}

pub record Holding (u : List ℕ) (b : Block) : Type 0 where
  pub end : b.clock + b.length.0 ≤ max_clock
  pub mark : SoundText u (is_marked b.kind b.type_number) b.mark
  pub stored : Stored u b

module _ (u : List ℕ) (b : Block) where
  pub sound-holds : Sound u b → Holding u b
  sound-holds s = record { end = s.end; mark = s.mark; stored = s.stored }

  -- where it is sound without its key
  pub keyless-holds : Sound u (keyless b) → Holding u b
  keyless-holds s =
      let x = s.stored in
      record {
        end = s.end;
        mark = s.mark;
        stored = record {
          lies = x.lies;
          nothing = x.nothing;
          binary = x.binary;
          format = x.format;
          type = x.type;
          untyped = x.untyped;
          any = x.any;
          text = x.text;
          some = x.some;
        };
      }

  -- where it is sound as it is read again
  pub reread-holds : Sound u (reread b) → Holding u b
  unfolding reread
  reread-holds = chosen (λ (c : Block). Sound u c → Holding u b) (linked b) (λ _. keyless-holds) (λ _. sound-holds)
