-- The tokens of rows that a plan names, as long as the rows are in the table.
use Prim.Native.Nat.{ℕ, ◌≤◌, ◌<◌}
use mathlib.Core.Path.{◌≡◌, refl, sym, ap, ◌∙◌}
use mathlib.Core.List.{List, [], ◌∷◌, ◌++◌, append_assoc}
use lib.ListN.{get_or}
use borrow.Author.Tests.{lt-ltb, le-ltb}
use Rattle.block.specs.declared.Block.{Block}
use Rattle.block.specs.Row.{no_block}
use Rattle.readings.specs.Sound.{All}
use Rattle.tokens.specs.Tokens.{Token}
use Rattle.kept.specs.Plan.{Stop, ends_of}
use Rattle.records.specs.Stops.{row_tokens, stops_tokens}

module _ (u : List ℕ) (rows : List Block) (n : ℕ) where
  abbrev pub stop_tokens : Stop → List Token
  stop_tokens s = row_tokens u s.head (ends_of s) (get_or rows s.row no_block)

  pub stops-none : stops_tokens u rows n [] ≡ []
  unfolding stops_tokens
  stops-none = refl

  pub stops-in : (s : Stop) (ss : List Stop) → s.row < n → stops_tokens u rows n (s ∷ ss) ≡ stop_tokens s ++ stops_tokens u rows n ss
  unfolding stops_tokens
  stops-in s ss h = rw (lt-ltb s.row n h)

  pub stops-out : (s : Stop) (ss : List Stop) → n ≤ s.row → stops_tokens u rows n (s ∷ ss) ≡ []
  unfolding stops_tokens
  stops-out s ss h = rw (le-ltb s.row n h)

  pub stops-append : (a b : List Stop) → All (λ (s : Stop). s.row < n) a → stops_tokens u rows n (a ++ b) ≡ stops_tokens u rows n a ++ stops_tokens u rows n b
  stops-append [] b h = rw stops-none
  stops-append (s ∷ a) b h =
      stops-in s (a ++ b) h.0
      ∙ ap (λ (ts : List Token). stop_tokens s ++ ts) (stops-append a b h.1)
      ∙ sym (append_assoc (stop_tokens s) (stops_tokens u rows n a) (stops_tokens u rows n b))
      ∙ ap (λ (ts : List Token). ts ++ stops_tokens u rows n b) (sym (stops-in s a h.0))
