-- The tokens of an update that a diff keeps can be written and read again.
use Prim.Native.Nat.{ℕ, suc, ◌+◌, ◌≤◌, ◌<◌, ◌^◌}
use mathlib.Core.Path.{◌≡◌, refl}
use mathlib.Core.List.{List, [], ◌∷◌}
use native.Mathlib.Omega.{arith}
use lib.Dec.{eqb}
use lib.ListN.{length}
use Rattle.numbers.specs.Limits.{max_clock, max_blocks, max_value, max_update}
use Rattle.ranges.specs.Ranges.{Range}
use Rattle.ranges.specs.TableInner.{Fine}
use Rattle.readings.specs.Sound.{All}
use Rattle.readings.specs.Groups.{groups}
use Rattle.readings.proofs.Columns.{chosen}
use Rattle.readings.proofs.Groups.{groups-all}
use Rattle.readings.proofs.RangeGroups.{Rising, Grouped, grouped}
use Rattle.tokens.specs.Tokens.{Token, client, var}
use Rattle.draws.specs.Draws.{most, is_field, Legal, AllLegal}
use Rattle.kept.specs.Kept.{Piece, Section}
use Rattle.kept.specs.KeptInner.{piece_count}
use Rattle.kept.specs.Cut.{cut_row}
use Rattle.records.specs.Records.{block_tokens, pieces_tokens, section_start, section_tokens, sections_tokens, clock_from, length_of, ranges_tokens, client_tokens, owner_of, delete_tokens, update_tokens}
use Rattle.written.specs.Kept.{KeptPiece, KeptSection, Kept, KeptRanges}
use Rattle.written.proofs.Cuts.{cut_out}
use Rattle.written.proofs.Sections.{start_fits}
use Rattle.written.proofs.Legals.{legal-append, none-legal, block-legal}

module _ (form : ℕ) where
  var-legal : (v : ℕ) (ts : List Token) → v < 2 ^ 63 → AllLegal form ts → AllLegal form (var v ∷ ts)
  unfolding AllLegal Legal
  var-legal v ts l h = (l, h)

  client-legal : (c : ℕ) (ts : List Token) → c ≤ max_value → AllLegal form ts → AllLegal form (client c ∷ ts)
  unfolding AllLegal Legal is_field most
  client-legal c ts l h = ((refl, l), h)

-- ---- sections

module _ (form : ℕ) (u : List ℕ) (few : length u ≤ max_update) where
  pieces-legal : (ps : List Piece) → All (KeptPiece form u) ps → AllLegal form (pieces_tokens u ps)
  unfolding pieces_tokens
  pieces-legal [] k = none-legal form
  pieces-legal (p ∷ ps) k =
      let out = cut_out form u p k.0 in
      legal-append form (block_tokens u (cut_row u p)) (pieces_tokens u ps) (block-legal form u few (cut_row u p) out.writable) (pieces-legal ps k.1)

  client-fits : (c : ℕ) (ps : List Piece) → 0 < length ps → All (KeptPiece form u) ps → All (λ (p : Piece). p.row.client ≡ c) ps → c ≤ max_value
  client-fits c [] some k e = absurd (omega arith)
  client-fits c (p ∷ ps) some k e = omega (arith, k.0.sound.client, e.0)

  section-legal : (s : Section) → KeptSection form u s → length s.pieces ≤ max_blocks → AllLegal form (section_tokens u s)
  unfolding section_tokens
  section-legal s k l =
      var-legal form (length s.pieces) _ (omega arith)
      (client-legal form s.client _ (client-fits s.client s.pieces k.some k.each k.client)
      (var-legal form (section_start s.pieces) _ (omega (arith, start_fits form u s.pieces k.each)) (pieces-legal s.pieces k.each)))

  sections-legal : (ss : List Section) → All (KeptSection form u) ss → piece_count ss ≤ max_blocks → AllLegal form (sections_tokens u ss)
  unfolding sections_tokens piece_count
  sections-legal [] k l = none-legal form
  sections-legal (s ∷ ss) k l =
      legal-append form (section_tokens u s) (sections_tokens u ss) (section-legal s k.0 (omega arith)) (sections-legal ss k.1 (omega arith))

-- ---- the delete set

abbrev Clock : ℕ → Type 0
Clock v = v ≤ max_clock

module _ (form : ℕ) where
  clock-small : (end : ℕ) (r : Range) → Fine r → clock_from form end r ≤ max_clock
  unfolding clock_from
  clock-small end r f = chosen Clock (eqb form 1) (λ _. omega (arith, f.end)) (λ _. omega (arith, f.end))

  length-small : (r : Range) → Fine r → length_of form r ≤ max_clock
  unfolding length_of
  length-small r f = chosen Clock (eqb form 1) (λ _. omega (arith, f.end)) (λ _. omega (arith, f.end))

  ranges-legal : (rs : List Range) (end : ℕ) → All Fine rs → AllLegal form (ranges_tokens form end rs)
  unfolding ranges_tokens
  ranges-legal [] end f = none-legal form
  ranges-legal (r ∷ rs) end f =
      var-legal form (clock_from form end r) _ (omega (arith, clock-small end r f.0))
      (var-legal form (length_of form r) _ (omega (arith, length-small r f.0)) (ranges-legal rs (r.clock + r.len) f.1))

  -- clocks rise, so ranges are not more than clocks
  rising-count : (rs : List Range) (c low : ℕ) → Rising c low rs → All Fine rs → low ≤ max_clock + 2 → low + length rs ≤ max_clock + 2
  rising-count [] c low rise f l = omega arith
  rising-count (r ∷ rs) c low rise f l =
      omega (arith, rising-count rs c (suc (r.clock + r.len)) rise.3 f.1 (omega (arith, f.0.end)), rise.1, rise.2)

  clients-legal : (gs : List (List Range)) → Grouped gs → All (All Fine) gs → AllLegal form (client_tokens form gs)
  unfolding client_tokens
  clients-legal [] g f = none-legal form
  clients-legal ([] ∷ gs) g f = absurd g
  clients-legal ((r ∷ rs) ∷ gs) g f =
      var-legal form r.client _ (omega (arith, f.0.0.client))
      (var-legal form (length (r ∷ rs)) _ (omega (arith, rising-count (r ∷ rs) r.client 0 g.0 f.0 (omega arith)))
      (legal-append form (ranges_tokens form 0 (r ∷ rs)) (client_tokens form gs) (ranges-legal (r ∷ rs) 0 f.0) (clients-legal gs g.2 f.1)))

  deletes-legal : (rs : List Range) → KeptRanges rs → AllLegal form (delete_tokens form rs)
  unfolding delete_tokens
  deletes-legal rs k =
      var-legal form (length (groups owner_of rs)) _ (omega (arith, k.clients))
      (clients-legal (groups owner_of rs) (grouped rs k.normal) (groups-all owner_of Fine rs k.fine))

  -- ---- all of it

  pub update-legal : (u : List ℕ) (ss : List Section) (rs : List Range) → length u ≤ max_update → Kept form u ss → KeptRanges rs
      → AllLegal form (update_tokens form u ss rs)
  unfolding update_tokens
  update-legal u ss rs few k r =
      var-legal form (length ss) _ (omega (arith, k.count))
      (legal-append form (sections_tokens u ss) (delete_tokens form rs) (sections-legal form u few ss k.each k.pieces) (deletes-legal rs r))
