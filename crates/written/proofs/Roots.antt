-- A parent and a key read again, of a block without ids.
use Prim.Native.Nat.{ℕ}
use mathlib.Core.Path.{◌≡◌, refl, ap, ◌∙◌}
use mathlib.Core.Bool.{Bool, true, false}
use mathlib.Core.List.{List, [], ◌∷◌}
use native.Mathlib.Omega.{arith}
use lib.Dec.{ltb}
use Rattle.numbers.specs.Number.{pick}
use Rattle.text.specs.declared.Part.{Part}
use Rattle.block.specs.declared.Id.{Id}
use Rattle.block.specs.declared.Block.{Block}
use Rattle.block.specs.Row.{no_id, no_part}
use Rattle.block.specs.Rows.{root_is, plain}
use Rattle.grammar.specs.Grammar as grammar
use Rattle.grammar.specs.Course.{Reader, over, run}
use Rattle.grammar.specs.Blocks.{parent_after, parent, key}
use Rattle.readings.specs.Sound.{bytes_in}
use Rattle.tokens.specs.Tokens.{client, left, parent_info}
use Rattle.draws.specs.Draws.{lane_field, Draws}
use Rattle.records.specs.Records.{name}
use Rattle.written.proofs.Infos.{not}
use Rattle.written.proofs.Courses.{draw-on, then-on}
use Rattle.written.proofs.Ids.{Finds, id-read}

-- a block with a parent, by id or by name, and perhaps a key
abbrev pub rooted : ℕ → ℕ → Bool → Id → Bool → Part → Bool → Part → Block
rooted c k hp i hn p hk q = root_is hp i hn p hk q (plain c k 0 0)

pub nothing-in : (d u : List ℕ) → bytes_in d no_part ≡ bytes_in u no_part
unfolding bytes_in
nothing-in d u = refl

module _ {S : Type 0} (r : Reader S) (d u : List ℕ) (c k : ℕ) where
  pub parent-read : (hp : Bool) (i : Id) (hn : Bool) (n : Part) → hn ≡ pick hp false true → (hp ≡ false → i ≡ no_id) → (hn ≡ false → n ≡ no_part) → (s m : S)
      → Draws r d s (pick hn (parent_info 1 ∷ (name u n ∷ [])) (parent_info 0 ∷ (client i.client ∷ (left i.clock ∷ [])))) m
      → (p : Part) × Finds r (parent (plain c k 0 0)) s (rooted c k hp i hn p false no_part) m × (bytes_in d p ≡ bytes_in u n)
  unfolding parent parent_after Draws lane_field run
  parent-read true i true n one absent none s m h = absurd (let z : ◌≡◌ {A = ℕ} 0 1 = cc in omega arith)
  parent-read false i false n one absent none s m h = absurd (let z : ◌≡◌ {A = ℕ} 0 1 = cc in omega arith)
  parent-read true i false n one absent none s m h =
      let a = h.3 in
      let b = a.3 in (
        no_part,
        draw-on r (grammar.number grammar.parent_info) (0, h.0) s h.1 _ h.2
            ∙ then-on r _ i h.1 b.1 _ (id-read r grammar.left_clock i a.0 b.0 h.1 a.1 b.1 a.2 b.2)
            ∙ ap (over (rooted c k true i false no_part false no_part)) b.3,
        rw (none refl) (nothing-in d u),
      )
  parent-read false i true n one absent none s m h =
      let a = h.3 in (
        a.0,
        draw-on r (grammar.number grammar.parent_info) (1, h.0) s h.1 _ h.2 ∙ draw-on r grammar.text (a.0, _) h.1 a.1 _ a.2
            ∙ rw (absent refl) (ap (over (rooted c k false no_id true a.0 false no_part)) a.4),
        a.3,
      )

  pub key-read : (info : ℕ) (hp : Bool) (i : Id) (hn : Bool) (p : Part) (there : Bool) (n : Part) → (there ≡ false → n ≡ no_part) → ltb info 32 ≡ not there
      → (s m : S) → Draws r d s (pick there (name u n ∷ []) []) m
      → (q : Part) × Finds r (key info (rooted c k hp i hn p false no_part)) s (rooted c k hp i hn p there q) m × (bytes_in d q ≡ bytes_in u n)
  unfolding key Draws run
  key-read info hp i hn p true n none e s m h =
      (h.0, rw e (draw-on r grammar.text (h.0, _) s h.1 _ h.2 ∙ ap (over (rooted c k hp i hn p true h.0)) h.4), h.3)
  key-read info hp i hn p false n none e s m h = (no_part, rw e (ap (over (rooted c k hp i hn p false no_part)) h), rw (none refl) (nothing-in d u))
