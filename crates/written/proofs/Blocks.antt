-- A block read again: from the tokens of a writable record, reading finds that record as `reread` has it.
use Prim.Native.Nat.{ℕ}
use mathlib.Core.Path.{◌≡◌, refl, subst, ◌∙◌}
use mathlib.Core.Bool.{Bool, true, false}
use mathlib.Core.Logic.{◌⊎◌, inl, inr}
use mathlib.Core.List.{List, [], ◌∷◌, ◌++◌}
use native.Mathlib.Omega.{arith}
use Rattle.numbers.specs.Number.{pick}
use Rattle.numbers.specs.Limits.{max_clock}
use Rattle.block.specs.declared.Block.{Block}
use Rattle.block.specs.Rows.{plain}
use Rattle.block.specs.Kinds.{GC, SKIP, is_item}
use Rattle.block.proofs.OfKinds.{bare-kinds, block-bare, item-bare, bare-gc, bare-skip}
use Rattle.grammar.specs.Grammar as grammar
use Rattle.grammar.specs.Course.{got, Reader, over, run}
use Rattle.grammar.specs.Blocks as blocks
use Rattle.grammar.specs.Blocks.{an_item, body}
use Rattle.readings.specs.Sound.{linked}
use Rattle.readings.specs.SoundInner.{Sound}
use Rattle.tokens.specs.Tokens.{Token, info, len, var}
use Rattle.draws.specs.Draws.{lane_field, Draws, Lined}
use Rattle.draws.proofs.Splits.{split}
use Rattle.records.specs.Records.{info_byte, place_tokens, content_tokens, block_tokens}
use Rattle.written.specs.Written.{Alike, keyless, reread, Writable}
use Rattle.written.proofs.Infos.{info-says}
use Rattle.written.proofs.Courses.{draw-on, then-on, within_on}
use Rattle.written.proofs.Ids.{Finds}
use Rattle.written.proofs.Holdings.{Holding, sound-holds, keyless-holds}
use Rattle.written.proofs.Contents.{filled, content-read}
use Rattle.written.proofs.Places.{Placed, linked-place, rooted-place, bare_alike}

module _ {S : Type 0} {form : ℕ} {r : Reader S} {at : S → ℕ} {d : List ℕ} (lined : Lined form d r at) (u : List ℕ) (b : Block) where
  -- from s to t: c is found, in d
  pub record BlockRead (s t : S) (c : Block) : Type 0 where
    pub block : Block
    pub place : ℕ
    pub is : run {E = Block} r (blocks.block b.client b.clock) s ≡ over (block, place) t
    pub alike : Alike d block u c

  -- behind its info byte
  record Body (v : ℕ) (place : ℕ) (s t : S) (c : Block) : Type 0 where
    block : Block
    is : Finds r (body b.client b.clock v place) s block t
    alike : Alike d block u c

  body-block : (v place : ℕ) (s m t : S) (c : Block) → r (grammar.number grammar.info) s ≡ got (v, place) m → Body v place m t c → BlockRead s t c
  unfolding blocks.block run
  body-block v place s m t c e x =
      record {
        block = x.block;
        place = place;
        is = draw-on r (grammar.number grammar.info) (v, place) s m _ e ∙ then-on r _ x.block m t _ x.is;
        alike = x.alike;
      }

  module _ (s t : S) where
    item-tokens : is_item b.kind ≡ true → block_tokens u b ≡ info (info_byte b) ∷ (place_tokens u b ++ content_tokens u b)
    unfolding block_tokens
    item-tokens l =
        let none = item-bare b.kind l in
        rw (bare-gc b.kind none, bare-skip b.kind none, l)

    -- an item is its place and its content
    item-read : (c : Block) → is_item b.kind ≡ true → Holding u b → ((m x : S) → Draws r d m (place_tokens u b) x → Placed r d u b c m x)
        → Draws r d s (block_tokens u b) t → BlockRead s t c
    unfolding body an_item Draws lane_field
    item-read c l holds place h =
        let k = subst (λ (ts : List Token). Draws r d s ts t) (item-tokens l) h in
        let two = split r d (place_tokens u b) (content_tokens u b) k.1 t k.3 in
        let m = two.between in
        let x = place k.1 m two.first in
        let found = content-read r d u b (info_byte b) k.0 x.block m t (info-says b l).low holds x.new l two.then in
        body-block (info_byte b) k.0 s k.1 t c k.2
        (record {
          block = filled b found.part found.mark x.block;
          is = rw ((info-says b l).skip, (info-says b l).gc) (then-on r _ x.block k.1 m _ x.is ∙ found.is);
          alike = x.alike found.part found.mark found.same found.marked;
        })

    linked-read : linked b ≡ true → Sound u (keyless b) → is_item b.kind ≡ true → Draws r d s (block_tokens u b) t → BlockRead s t (keyless b)
    linked-read some sound l h = item-read (keyless b) l (keyless-holds u b sound) (linked-place r d u b some sound l) h

    rooted-read : linked b ≡ false → Sound u b → is_item b.kind ≡ true → Draws r d s (block_tokens u b) t → BlockRead s t b
    rooted-read none sound l h = item-read b l (sound-holds u b sound) (rooted-place r d u b none sound l) h

    -- GC is 0 and its length a field; Skip is 10 and its length in line
    bare-read : (kind n : ℕ) (x : grammar.Number) → b.kind ≡ kind → is_item b.kind ≡ false → linked b ≡ false → Sound u b
        → ((place : ℕ) → body {E = Block} b.client b.clock n place ≡ blocks.bare b.client b.clock kind x)
        → (place p : ℕ) (m : S) → r (grammar.number grammar.info) s ≡ got (n, place) m → r (grammar.number x) m ≡ got (b.length.0, p) t → BlockRead s t b
    unfolding blocks.bare run
    bare-read kind n x e l none sound is place p m h k =
        body-block n place s m t b h
        (record {
          block = plain b.client b.clock b.length.0 b.kind;
          is = rw (is place, e) (draw-on r (grammar.number x) (b.length.0, p) m t _ k);
          alike = bare_alike r d u b none sound l;
        })

    gc-read : linked b ≡ false → Sound u b → b.kind ≡ GC → Draws r d s (block_tokens u b) t → BlockRead s t b
    unfolding block_tokens body is_item Draws lane_field
    gc-read none sound e h =
        let k : Draws r d s (info 0 ∷ (len b.length.0 ∷ [])) t = rw e at h in
        let a = k.3 in
        bare-read GC 0 grammar.len e (rw e) none sound (λ place. refl) k.0 a.0 k.1 k.2 (rw a.3 at a.2)

    skip_read : linked b ≡ false → Sound u b → b.kind ≡ SKIP → Draws r d s (block_tokens u b) t → BlockRead s t b
    unfolding block_tokens body is_item Draws lane_field
    skip_read none sound e h =
        let k : Draws r d s (info 10 ∷ (var b.length.0 ∷ [])) t = rw e at h in
        let a = k.3 in
        let clock = within_on r lined max_clock b.length.0 a.0 k.1 t (rw a.3 at a.2) (omega (arith, sound.end)) in
        bare-read SKIP 10 (grammar.up_to max_clock) e (rw e) none sound (λ place. refl) k.0 a.0 k.1 k.2 clock

    plain-read : linked b ≡ false → Sound u b → Draws r d s (block_tokens u b) t → BlockRead s t b
    plain-read none sound h = go (is_item b.kind) refl
      where
        bare : (b.kind ≡ GC) ⊎ (b.kind ≡ SKIP) → BlockRead s t b
        bare (inl e) = gc-read none sound e h
        bare (inr e) = skip_read none sound e h

        go : (x : Bool) → is_item b.kind ≡ x → BlockRead s t b
        go true e = rooted-read none sound e h
        go false e = bare (bare-kinds b.kind (block-bare b.kind sound.kind e))

    -- nothing beside GC and Skip, so what is linked is an item
    linked-item : linked b ≡ true → Sound u (keyless b) → is_item b.kind ≡ true
    unfolding linked
    linked-item some sound = go (is_item b.kind) refl
      where
        go : (x : Bool) → is_item b.kind ≡ x → is_item b.kind ≡ true
        go true e = e
        go false e =
            let none : linked b ≡ false = (sound.shape.bare e).0 in
            absurd (let z : ◌≡◌ {A = ℕ} 0 1 = cc in omega arith)

    pub block_read : Writable form u b → Draws r d s (block_tokens u b) t → BlockRead s t (reread b)
    unfolding reread
    block_read w h = go (linked b) refl w.0
      where
        go : (x : Bool) → linked b ≡ x → Sound u (pick x (keyless b) b) → BlockRead s t (pick x (keyless b) b)
        go true e sound = linked-read e sound (linked-item e sound) h
        go false e sound = plain-read e sound h
