-- The loop that looks for keys: if there are none before the cursor, there are none at all.
use Prim.Native.Nat.{ℕ, ◌-◌, ◌*◌, ◌≤◌, ◌<◌}
use mathlib.Core.Path.{◌≡◌, sym, ap, ◌∙◌}
use mathlib.Core.Bool.{true, false}
use mathlib.Core.List.{List}
use native.Mathlib.Omega.{arith}
use lib.ListN.{length, get_or}
use Rattle.block.specs.declared.Block.{Block}
use Rattle.block.specs.Row.{no_block}
use Rattle.block.specs.KindsInner.{is_marked}
use Rattle.tokens.specs.Tokens.{Token}
use Rattle.tokens.specs.KeysInner.{keyless}
use Rattle.tokens.proofs.Keys.{keyless-append}
use Rattle.tokens.proofs.Rooms.{room-keyless}
use Rattle.kept.specs.declared.cursor.Cursor.{Cursor}
use Rattle.kept.specs.Plan.{nowhere, opened_at, advanced, planned_from, rest_of, stops_of}
use Rattle.records.specs.Stops.{row_tokens, stops_tokens}
use Rattle.records.proofs.Keyless.{row_keyless}
use Rattle.encoder.specs.Passes.{planned_tokens, Plain}
use Rattle.encoder.proofs.Cursors.{stops_at, opens, goes, ends}

module _ (rows : List Block) (w : List ℕ) (n : ℕ) where
  abbrev before : List ℕ → Cursor → List Token
  before u c = stops_tokens u rows (length rows) (stops_at rows w n c)

  abbrev pub Seen : Cursor → Type 0
  Seen c = (u : List ℕ) → keyless (before u c) ≡ true → keyless (planned_tokens u rows w n) ≡ true

  module _ (most : length rows ≤ nowhere) (room : 5 * n ≤ length w) where
    pub begins : Seen (opened_at w n 0)
    unfolding planned_tokens
    begins u h =
        let q : n - 0 ≡ n = omega arith in
        ap keyless
        (sym (opens u rows (length rows) most w n 0 room ∙ ap (λ (m : ℕ). stops_tokens u rows (length rows) (stops_of rows (planned_from w 0 m))) q)) ∙ h

    pub turns : (c : Cursor) → Seen c → c.row < length rows
        → is_marked (get_or rows c.row no_block).kind (get_or rows c.row no_block).type_number ≡ false → Seen (advanced w n c)
    turns c s l h u k =
        let b = get_or rows c.row no_block in
        let r = rest_of b c.from.0 c.skip.0 in
        s u
        (ap keyless (goes u rows (length rows) most w n c room l)
        ∙ keyless-append (row_tokens u c.head r b) (before u (advanced w n c)) (row_keyless u b h c.head r) k)

    pub plain : (form : ℕ) (c : Cursor) → Seen c → length rows ≤ c.row → Plain form rows w n
    unfolding keyless
    plain form c s l u lanes = room-keyless (s u (ap keyless (ends u rows (length rows) most w n c l)))
