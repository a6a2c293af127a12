-- The loop that puts the planned rows: what is written and what is before the cursor make up the plan.
use Prim.Native.Nat.{ℕ, ◌-◌, ◌*◌, ◌≤◌, ◌<◌}
use mathlib.Core.Path.{◌≡◌, sym, ap, ◌∙◌}
use mathlib.Core.List.{List, [], ◌++◌, append-nil, append_assoc}
use native.Mathlib.Omega.{arith}
use lib.ListN.{length, get_or}
use Rattle.block.specs.declared.Block.{Block}
use Rattle.block.specs.Row.{no_block}
use Rattle.tokens.specs.Tokens.{Token}
use Rattle.tokens.specs.Desk.{Tidy, Room, WroteKeys}
use Rattle.tokens.proofs.Rooms.{room-same, room-first, room-later, room-is}
use Rattle.tokens.proofs.Keyed.{wrote-keys-none, wrote-keys-then, wrote-keys-is}
use Rattle.kept.specs.declared.cursor.Cursor.{Cursor}
use Rattle.kept.specs.Plan.{nowhere, opened_at, advanced, planned_from, rest_of, stops_of}
use Rattle.records.specs.Stops.{row_tokens, stops_tokens}
use Rattle.encoder.specs.Passes.{planned_tokens}
use Rattle.encoder.proofs.Cursors.{stops_at, opens, goes, ends}

module _ (form : ℕ) (out₀ lanes₀ : List ℕ) (at₀ : ℕ) (u : List ℕ) (rows : List Block) (w : List ℕ) (n : ℕ) where
  abbrev before : Cursor → List Token
  before c = stops_tokens u rows (length rows) (stops_at rows w n c)

  abbrev own : Cursor → List Token
  own c = let b = get_or rows c.row no_block in row_tokens u c.head (rest_of b c.from.0 c.skip.0) b

  pub record Going (c : Cursor) (out lanes : List ℕ) (at : ℕ) : Type 0 where
    pub done : List Token
    pub wrote : WroteKeys u form done out₀ lanes₀ at₀ out lanes at
    pub all : done ++ before c ≡ planned_tokens u rows w n

  module _ (most : length rows ≤ nowhere) (room : 5 * n ≤ length w) where
    pub begins : Tidy lanes₀ → Going (opened_at w n 0) out₀ lanes₀ at₀
    unfolding planned_tokens
    begins tidy =
        let q : n - 0 ≡ n = omega arith in
        record {
          done = [];
          wrote = wrote-keys-none tidy;
          all = opens u rows (length rows) most w n 0 room ∙ ap (λ (m : ℕ). stops_tokens u rows (length rows) (stops_of rows (planned_from w 0 m))) q;
        }

    -- words for keys, where the next row has one
    pub holds : (c : Cursor) (out lanes : List ℕ) (at : ℕ) → Going c out lanes at → c.row < length rows → length lanes ≡ length lanes₀
        → Room form (planned_tokens u rows w n) lanes₀ → Room form (own c) lanes
    holds c out lanes at g l s r =
        room-same s
        (room-first (own c) (before (advanced w n c))
        (room-later g.done (own c ++ before (advanced w n c))
        (room-is (sym g.all ∙ ap (λ (ts : List Token). g.done ++ ts) (goes u rows (length rows) most w n c room l)) r)))

    pub turns : (c : Cursor) (out lanes : List ℕ) (at : ℕ) → Going c out lanes at → c.row < length rows
        → (out₁ lanes₁ : List ℕ) (at₁ : ℕ) → WroteKeys u form (own c) out lanes at out₁ lanes₁ at₁ → Going (advanced w n c) out₁ lanes₁ at₁
    turns c out lanes at g l out₁ lanes₁ at₁ more = record {
      done = g.done ++ own c;
      wrote = wrote-keys-then g.wrote more;
      all = append_assoc g.done (own c) (before (advanced w n c)) ∙ ap (λ (ts : List Token). g.done ++ ts) (sym (goes u rows (length rows) most w n c room l)) ∙ g.all;
    }

    pub written : (c : Cursor) (out lanes : List ℕ) (at : ℕ) → Going c out lanes at → length rows ≤ c.row
        → WroteKeys u form (planned_tokens u rows w n) out₀ lanes₀ at₀ out lanes at
    written c out lanes at g l =
        wrote-keys-is (sym g.all ∙ ap (λ (ts : List Token). g.done ++ ts) (ends u rows (length rows) most w n c l) ∙ append-nil g.done) g.wrote
