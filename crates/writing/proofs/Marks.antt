-- The keys of the planned rows are the keys of what is kept, also where a cut would be inside a pair: however a row is cut, its keys are the same, and a text
-- has none.
use Prim.Native.Nat.{ℕ, suc, ◌+◌, ◌-◌, ◌*◌, ◌≤◌, ◌<◌}
use mathlib.Core.Path.{◌≡◌, refl, sym, ap, ap₂, subst, ◌∙◌}
use mathlib.Core.Bool.{Bool, true, false}
use mathlib.Core.List.{List, [], ◌∷◌, ◌++◌, append_assoc, map}
use native.Mathlib.Omega.{arith}
use lib.Dec.{ltb, eqb}
use lib.ListN.{length, get_or, take, drop, length-drop}
use lib.Seq.{get_or-drop, drop-drop, drop-append_seam}
use borrow.Author.Tests.{eqb-true}
use Rattle.numbers.specs.Number.{pick}
use Rattle.text.specs.declared.Part.{Part}
use Rattle.block.specs.declared.Block.{Block}
use Rattle.block.specs.Row.{no_block}
use Rattle.block.specs.Kinds.{TEXT, is_gc, is_skip, is_deleted, is_binary, is_text, is_format, is_type, is_any, is_item, is_named}
use Rattle.vector.specs.Vector.{Entry}
use Rattle.readings.specs.Sound.{bytes_in, linked, All}
use Rattle.readings.specs.SoundInner.{Sound, Ordered}
use Rattle.readings.proofs.Columns.{chosen}
use Rattle.readings.specs.Groups.{groups}
use Rattle.readings.specs.GroupsInner.{joined}
use Rattle.readings.proofs.Groups.{groups-joined, groups-all, ordered-distinct}
use Rattle.parts.specs.Brim.{brim}
use Rattle.tokens.specs.Tokens.{Token, field, text, var, buf, key, value, values, info, len, keys, taken, taken_all}
use Rattle.tokens.specs.TokensInner.{type_number}
use Rattle.tokens.specs.Keys.{is_known, is_full, remembered, crowded, many_keys}
use Rattle.tokens.specs.KeysInner.{is_key, keyless}
use Rattle.tokens.proofs.Keys.{by_key, not_key}
use Rattle.tokens.proofs.Fitting.{taken-append}
use Rattle.kept.specs.declared.cursor.Ends.{Ends}
use Rattle.kept.specs.Kept.{Piece, Section, remote, falls, piece, whole_piece, keep_from, with_pieces, keep_each, put_section, falling, client_of, sections_of}
use Rattle.kept.specs.Cut.{broken, is_whole, front, behind, part_of, cut_row}
use Rattle.kept.specs.Plan.{Planned, planned_from, placed, cut_in, cuts, skip_for, Stop, stop, onward, stops_of, unplanned, ended_words, ended_count, plan_all, plan_all_words, sane, part_at, cut_at, rest_of}
use Rattle.kept.proofs.SectionsPlaced.{alone, before, behind as behind-it, into, into-falling}
use Rattle.kept.proofs.SectionsKept.{Stays, not-fallen, each-distinct}
use Rattle.kept.proofs.Words.{placed_first, placed-before, placed-behind}
use Rattle.kept.proofs.SectionsRun.{torn_at, planned_at, plan_one}
use Rattle.kept.proofs.SectionsPlan.{plan_each, inserted, rows-come}
use Rattle.kept.proofs.SectionsCut.{first-sane}
use Rattle.kept.proofs.SectionsGoes.{row_is}
use Rattle.records.specs.Records.{info_byte, left_tokens, right_tokens, parent_tokens, key_tokens, place_tokens, mark, format_tokens, type_tokens, marked_tokens, content_tokens, block_tokens, pieces_tokens, section_tokens, sections_tokens}
use Rattle.records.specs.Stops.{head_tokens, row_tokens, stops_tokens}
use Rattle.records.proofs.Keyless.{place-keyless, head-keyless}
use Rattle.records.proofs.Stops.{stop_tokens, stops-none, stops-in}
use Rattle.encoder.specs.Passes.{outcome_of, outcome_for, words_for, planned_tokens}

-- ---- the keys among tokens

unfoldable pub key_of : Token → List (List ℕ)
key_of (key b n) = b ∷ []
key_of (field j v) = []
key_of (text b n) = []
key_of (var v) = []
key_of (buf b) = []
key_of (value b) = []
key_of (values b) = []

unfoldable pub keys_in : List Token → List (List ℕ)
keys_in [] = []
keys_in (t ∷ ts) = key_of t ++ keys_in ts

keys-empty : keys_in [] ≡ []
unfolding keys_in
keys-empty = refl

keys-append : (a b : List Token) → keys_in (a ++ b) ≡ keys_in a ++ keys_in b
unfolding keys_in
keys-append [] b = refl
keys-append (t ∷ a) b = rw (keys-append a b) (sym (append_assoc (key_of t) (keys_in a) (keys_in b)))

no_key : (t : Token) → is_key t ≡ false → key_of t ≡ []
unfolding is_key key_of
no_key (key b n) h = absurd (let z : ◌≡◌ {A = ℕ} 0 1 = cc in omega arith)
no_key (field j v) h = refl
no_key (text b n) h = refl
no_key (var v) h = refl
no_key (buf b) h = refl
no_key (value b) h = refl
no_key (values b) h = refl

keys_none : (ts : List Token) → keyless ts ≡ true → keys_in ts ≡ []
unfolding keys_in keyless
keys_none [] h = refl
keys_none (t ∷ ts) h = go (is_key t) refl h (λ p. keys_none ts p)
  where
    go : (x : Bool) → is_key t ≡ x → pick x false (keyless ts) ≡ true → (keyless ts ≡ true → keys_in ts ≡ []) → key_of t ++ keys_in ts ≡ []
    go true e p more = absurd (let z : ◌≡◌ {A = ℕ} 0 1 = cc in omega arith)
    go false e p more = rw (no_key t e) (more p)

keys-pick : (x : Bool) (a b : List Token) → keys_in (pick x a b) ≡ pick x (keys_in a) (keys_in b)
keys-pick true a b = refl
keys-pick false a b = refl

-- they alone crowd
unfoldable crowded_by : List (List ℕ) → List (List ℕ) → Bool
crowded_by ks [] = false
crowded_by ks (b ∷ bs) = pick (is_known b ks) (crowded_by ks bs) (pick (is_full ks) true (crowded_by (remembered ks b) bs))

crowded-by : (ks : List (List ℕ)) (ts : List Token) → crowded ks ts ≡ crowded_by ks (keys_in ts)
unfolding crowded crowded_by keys_in key_of
crowded-by ks [] = refl
crowded-by ks (t ∷ ts) =
    by_key (λ (t : Token). crowded ks (t ∷ ts) ≡ crowded_by ks (keys_in (t ∷ ts))) (λ b n. rw (crowded-by ks ts, crowded-by (remembered ks b) ts))
    (λ t h. (not_key ks ts t h).2 ∙ crowded-by ks ts ∙ ap (λ (l : List (List ℕ)). crowded_by ks (l ++ keys_in ts)) (sym (no_key t h))) t

pub many-same : (form : ℕ) (a b : List Token) → keys_in a ≡ keys_in b → many_keys form a ≡ many_keys form b
unfolding many_keys
many-same form a b h = ap (λ (x : Bool). pick (eqb form 1) false x) (crowded-by [] a ∙ ap (crowded_by []) h ∙ sym (crowded-by [] b))

-- ---- a record: its keys are by its kind, its mark and its type number

unfoldable mark_keys : List ℕ → ℕ → Part → ℕ → List (List ℕ)
mark_keys u kind m n =
    pick (is_format kind) (bytes_in u m ∷ []) (pick (is_type kind) (pick (is_named n) (bytes_in u m ∷ []) []) [])

unfoldable block_keys : List ℕ → ℕ → Part → ℕ → List (List ℕ)
block_keys u kind m n =
    pick (is_gc kind) []
    (pick (is_skip kind) []
    (pick (is_item kind) (pick (is_deleted kind) [] (pick (is_binary kind) [] (pick (is_text kind) [] (mark_keys u kind m n)))) []))

module _ (u : List ℕ) (b : Block) where
  marked-keys : keys_in (marked_tokens u b) ≡ mark_keys u b.kind b.mark b.type_number
  unfolding marked_tokens format_tokens type_tokens mark_keys keys_in key_of
  marked-keys = go (is_format b.kind) (is_type b.kind) (is_named b.type_number) (is_any b.kind)
    where
      go : (f t n a : Bool)
          → keys_in (pick f (format_tokens u b) (pick t (type_number b.type_number ∷ pick n (mark u b.mark ∷ []) []) (pick a (len b.length.0 ∷ (values (bytes_in u b.part) ∷ [])) [])))
          ≡ pick f (bytes_in u b.mark ∷ []) (pick t (pick n (bytes_in u b.mark ∷ []) []) [])
      go true t n a = refl
      go false true true a = refl
      go false true false a = refl
      go false false n true = refl
      go false false n false = refl

  content-keys : keys_in (content_tokens u b)
      ≡ pick (is_deleted b.kind) [] (pick (is_binary b.kind) [] (pick (is_text b.kind) [] (mark_keys u b.kind b.mark b.type_number)))
  unfolding content_tokens keys_in key_of
  content-keys = go (is_deleted b.kind) (is_binary b.kind) (is_text b.kind)
    where
      go : (d i t : Bool)
          → keys_in (pick d (len b.length.0 ∷ []) (pick i (buf (bytes_in u b.part) ∷ []) (pick t (text (bytes_in u b.part) b.length.0 ∷ []) (marked_tokens u b))))
          ≡ pick d [] (pick i [] (pick t [] (mark_keys u b.kind b.mark b.type_number)))
      go true i t = refl
      go false true t = refl
      go false false true = refl
      go false false false = marked-keys

  block-keys : keys_in (block_tokens u b) ≡ block_keys u b.kind b.mark b.type_number
  unfolding block_tokens block_keys keys_in key_of
  block-keys = go (is_gc b.kind) (is_skip b.kind) (is_item b.kind)
    where
      content : List (List ℕ)
      content = pick (is_deleted b.kind) [] (pick (is_binary b.kind) [] (pick (is_text b.kind) [] (mark_keys u b.kind b.mark b.type_number)))

      go : (g s i : Bool)
          → keys_in (pick g (info 0 ∷ (len b.length.0 ∷ [])) (pick s (info 10 ∷ (var b.length.0 ∷ [])) (pick i (info (info_byte b) ∷ (place_tokens u b ++ content_tokens u b)) [])))
          ≡ pick g [] (pick s [] (pick i content []))
      go true s i = refl
      go false true i = refl
      go false false true =
          keys-append (place_tokens u b) (content_tokens u b) ∙ ap₂ (λ (x y : List (List ℕ)). x ++ y) (keys_none (place_tokens u b) (place-keyless u b)) content-keys
      go false false false = refl

  -- a text has none
  text-keys : is_text b.kind ≡ true → keys_in (block_tokens u b) ≡ []
  unfolding block_keys is_item
  text-keys h = block-keys ∙ rw (eqb-true b.kind TEXT h)

-- only texts are torn
torn-text : (u : List ℕ) (b : Block) (n : ℕ) → torn_at u b n ≡ true → is_text b.kind ≡ true
unfolding torn_at cuts
torn-text u b n e = go (eqb n 0) (is_text b.kind) (broken (cut_in u b n)) e
  where
    go : (x y z : Bool) → pick (pick x false y) z false ≡ true → y ≡ true
    go true y z e = absurd (let i : ◌≡◌ {A = ℕ} 0 1 = cc in omega arith)
    go false true z e = refl
    go false false z e = absurd (let i : ◌≡◌ {A = ℕ} 0 1 = cc in omega arith)

-- however it is cut
module _ (u : List ℕ) (b : Block) where
  abbrev Same : Block → Type 0
  Same c = keys_in (block_tokens u c) ≡ keys_in (block_tokens u b)

  cut-same : (x y : Bool) (from to : ℕ) (part : Part) → Same (pick x b (pick y (front to part b) (behind from to part b)))
  cut-same true y from to part = refl
  cut-same false true from to part = block-keys u (front to part b) ∙ sym (block-keys u b)
  cut-same false false from to part = block-keys u (behind from to part b) ∙ sym (block-keys u b)

  at_same : (e : Ends) → Same (cut_at b e)
  unfolding cut_at
  at_same e = cut-same (is_whole (piece b e.from.0 e.to.0)) (eqb e.from.0 0) e.from.0 e.to.0 (part_at b e)

  row_same : (from to : ℕ) → Same (cut_row u (piece b from to))
  unfolding cut_row
  row_same from to = cut-same (is_whole (piece b from to)) (eqb from 0) from to (part_of u (piece b from to))

  -- a row that is written where so many units fall away
  row-keys : Sound u b → length u < brim → (count n : ℕ) → n ≤ b.length.0 → keys_in (row_tokens u count (rest_of b n (skip_for u b n)) b) ≡ keys_in (block_tokens u b)
  unfolding row_tokens
  row-keys sound short count n inside = go (sane b (rest_of b n (skip_for u b n))) refl
    where
      torn-none : (x : Bool) → torn_at u b n ≡ x → sane b (rest_of b n (skip_for u b n)) ≡ false → [] ≡ keys_in (block_tokens u b)
      torn-none true e h = sym (text-keys u b (torn-text u b n e))
      torn-none false e h = absurd (let z : true ≡ false = sym (first-sane u b sound n inside e short) ∙ h in let y : ◌≡◌ {A = ℕ} 0 1 = cc in omega arith)

      go : (x : Bool) → sane b (rest_of b n (skip_for u b n)) ≡ x
          → keys_in (pick x (head_tokens count n b ++ block_tokens u (cut_at b (rest_of b n (skip_for u b n)))) []) ≡ keys_in (block_tokens u b)
      go true e =
          keys-append (head_tokens count n b) (block_tokens u (cut_at b (rest_of b n (skip_for u b n))))
          ∙ ap₂ (λ (x y : List (List ℕ)). x ++ y) (keys_none (head_tokens count n b) (head-keyless count n b)) (at_same (rest_of b n (skip_for u b n)))
      go false e = keys-empty ∙ torn-none (torn_at u b n) refl e

-- ---- the rows that a plan names

record Row (all : List Block) (i : ℕ) (b : Block) (rest : List Block) : Type 0 where
  within : i < length all
  is : get_or all i no_block ≡ b
  later : drop (i + 1) all ≡ rest

row-at : (all : List Block) (i : ℕ) (b : Block) (rest : List Block) → drop i all ≡ b ∷ rest → Row all i b rest
row-at all i b rest e =
    record {
      within = omega (arith, length-drop i all, ap length e);
      is = ap (λ (n : ℕ). get_or all n no_block) none ∙ sym (get_or-drop i all 0 no_block) ∙ ap (λ (l : List Block). get_or l 0 no_block) e;
      later = sym (drop-drop 1 i all) ∙ ap (drop 1) e;
    }
  where
    none : i ≡ i + 0
    none = omega arith

module _ (u : List ℕ) (all rows : List Block) (same : take (length all) rows ≡ all) (fits : length all ≤ length rows) (short : length u < brim) where
  abbrev written : List Stop → List Token
  written sts = stops_tokens u rows (length rows) sts

  abbrev stops_one : Planned → List Stop → List Stop
  stops_one p sts = stop rows p.first p.from p.skip p.count ∷ (onward rows (p.first + 1) (p.count - 1) ++ sts)

  abbrev own : Block → List (List ℕ)
  own b = keys_in (block_tokens u b)

  -- a row, cut where n units fall away
  stop-keys : (i n count : ℕ) (sts : List Stop) (b : Block) (rest : List Block) → Row all i b rest → Sound u b → n ≤ b.length.0
      → keys_in (written (stop rows i n (skip_for u b n) count ∷ sts)) ≡ own b ++ keys_in (written sts)
  stop-keys i n count sts b rest row sound inside =
      let st = stop rows i n (skip_for u b n) count in
      let is : get_or rows i no_block ≡ b = row_is all rows same i row.within ∙ row.is in
      ap keys_in (stops-in u rows (length rows) st sts (omega (arith, row.within, fits)))
      ∙ keys-append (stop_tokens u rows (length rows) st) (written sts)
      ∙ ap (λ (l : List (List ℕ)). l ++ keys_in (written sts))
      (ap (λ (c : Block). keys_in (row_tokens u count (rest_of c n (skip_for u b n)) c)) is ∙ row-keys u b sound short count n inside)

  skip-none : (b : Block) → skip_for u b 0 ≡ 0
  unfolding skip_for
  skip-none b = refl

  -- pieces
  cut-keys : (b : Block) (from to : ℕ) (ps : List Piece) → keys_in (pieces_tokens u (piece b from to ∷ ps)) ≡ own b ++ keys_in (pieces_tokens u ps)
  unfolding pieces_tokens
  cut-keys b from to ps =
      keys-append (block_tokens u (cut_row u (piece b from to))) (pieces_tokens u ps)
      ∙ ap (λ (l : List (List ℕ)). l ++ keys_in (pieces_tokens u ps)) (row_same u b from to)

  no_pieces : keys_in (pieces_tokens u []) ≡ []
  unfolding pieces_tokens
  no_pieces = keys-empty

  further-keys : (i : ℕ) (g rest : List Block) (sts : List Stop) → All (Sound u) g → drop i all ≡ g ++ rest
      → keys_in (written (onward rows i (length g) ++ sts)) ≡ keys_in (pieces_tokens u (map whole_piece g)) ++ keys_in (written sts)
  unfolding onward
  further-keys i [] rest sts sound e = ap (λ (l : List (List ℕ)). l ++ keys_in (written sts)) (sym no_pieces)
  further-keys i (b ∷ g) rest sts sound e =
      let row = row-at all i b (g ++ rest) e in
      let more = onward rows (i + 1) (length g) ++ sts in
      let ps = keys_in (pieces_tokens u (map whole_piece g)) in
      ap (λ (k : ℕ). keys_in (written (stop rows i 0 k 0 ∷ more))) (sym (skip-none b))
      ∙ stop-keys i 0 0 more b (g ++ rest) row sound.0 (omega arith)
      ∙ ap (λ (l : List (List ℕ)). own b ++ l) (further-keys (i + 1) g rest sts sound.1 row.later)
      ∙ sym (append_assoc (own b) ps (keys_in (written sts)))
      ∙ ap (λ (l : List (List ℕ)). l ++ keys_in (written sts)) (sym (cut-keys b 0 b.length.0 (map whole_piece g)))

  section-keys : (c : ℕ) (ps : List Piece) → keys_in (section_tokens u (record { client = c; pieces = ps })) ≡ keys_in (pieces_tokens u ps)
  unfolding section_tokens keys_in key_of
  section-keys c ps = refl

  -- ---- a planned section has the keys of this one

  record Plans (p : Planned) (s : Section) : Type 0 where
    client : p.client ≡ s.client
    keys : (sts : List Stop) → keys_in (written (stops_one p sts)) ≡ keys_in (section_tokens u s) ++ keys_in (written sts)

  Each : List Planned → List Section → Type 0
  Each [] [] = Unit {0}
  Each [] (s ∷ ss) = ⊥
  Each (p ∷ ps) [] = ⊥
  Each (p ∷ ps) (s ∷ ss) = Plans p s × Each ps ss

  each_none : Each [] []
  unfolding Each
  each_none = tt

  first-plans : (c k i : ℕ) (b : Block) (g rest : List Block) → Sound u b → All (Sound u) g → drop i all ≡ b ∷ (g ++ rest) → Stays k b
      → Plans (planned_at u c k i b g) (record { client = c; pieces = piece b (k - b.clock) b.length.0 ∷ map whole_piece g })
  first-plans c k i b g rest sound sounds e stays =
      record {
        client = refl;
        keys = λ sts.
            let n = k - b.clock in
            let row = row-at all i b (g ++ rest) e in
            let ps = map whole_piece g in
            let more : keys_in (written (onward rows (i + 1) (suc (length g) - 1) ++ sts)) ≡ keys_in (pieces_tokens u ps) ++ keys_in (written sts) =
            subst (λ (m : ℕ). keys_in (written (onward rows (i + 1) m ++ sts)) ≡ keys_in (pieces_tokens u ps) ++ keys_in (written sts)) one_less
            (further-keys (i + 1) g rest sts sounds row.later)
            in
            stop-keys i n (suc (length g)) (onward rows (i + 1) (suc (length g) - 1) ++ sts) b (g ++ rest) row sound (omega (arith, stays.end))
            ∙ ap (λ (l : List (List ℕ)). own b ++ l) more
            ∙ sym (append_assoc (own b) (keys_in (pieces_tokens u ps)) (keys_in (written sts)))
            ∙ ap (λ (l : List (List ℕ)). l ++ keys_in (written sts))
            (sym (section-keys c (piece b n b.length.0 ∷ ps) ∙ cut-keys b n b.length.0 ps));
      }
    where
      one_less : length g ≡ suc (length g) - 1
      one_less = omega arith

  each-one : (c k i : ℕ) (g rest : List Block) (ps : List Planned) (ss : List Section) → All (Sound u) g → drop i all ≡ g ++ rest → Each ps ss
      → Each (plan_one u c k i g ++ ps) (with_pieces c (keep_from k g) ss)
  unfolding plan_one keep_from with_pieces Each
  each-one c k i [] rest ps ss sound e h = h
  each-one c k i (b ∷ g) rest ps ss sound e h =
      go (each-one c k (i + 1) g rest ps ss sound.1 (row-at all i b (g ++ rest) e).later h) (falls k b) refl
    where
      go : Each (plan_one u c k (i + 1) g ++ ps) (with_pieces c (keep_from k g) ss) → (t : Bool) → falls k b ≡ t
          → Each (pick t (plan_one u c k (i + 1) g) (planned_at u c k i b g ∷ []) ++ ps)
          (with_pieces c (pick t (keep_from k g) (piece b (k - b.clock) b.length.0 ∷ map whole_piece g)) ss)
      go on true q = on
      go on false q = (first-plans c k i b g rest sound.0 sound.1 e (not-fallen k b q), h)

  each-plans : (v : List Entry) (i : ℕ) (gs : List (List Block)) → All (All (Sound u)) gs → drop i all ≡ joined gs → Each (plan_each u v i gs) (keep_each v gs)
  unfolding plan_each keep_each joined
  each-plans v i [] sound e = each_none
  each-plans v i ([] ∷ gs) sound e = each-plans v i gs sound.1 e
  each-plans v i ((b ∷ g) ∷ gs) sound e =
      let j = i + suc (length g) in
      let on : drop j all ≡ joined gs = sym (drop-drop (suc (length g)) i all) ∙ ap (drop (suc (length g))) e ∙ drop-append_seam g (joined gs) in
      each-one b.client (remote v b.client) i (b ∷ g) (joined gs) (plan_each u v j gs) (keep_each v gs) sound.0 e (each-plans v j gs sound.1 on)

  -- in their places
  each-place : (p : Planned) (s : Section) (ps : List Planned) (ss : List Section) → Plans p s → Each ps ss → Each (placed p ps) (put_section s ss)
  unfolding Each
  each-place p s [] [] one h = rw (placed_first p, alone s) (one, tt)
  each-place p s [] (t ∷ ss) one h = absurd h
  each-place p s (q ∷ ps) [] one h = absurd h
  each-place p s (q ∷ ps) (t ∷ ss) one h = go (each-place p s ps ss one h.1) (ltb s.client t.client) refl
    where
      clients-same : ltb p.client q.client ≡ ltb s.client t.client
      clients-same = ap₂ ltb one.client h.0.client

      go : Each (placed p ps) (put_section s ss) → (x : Bool) → ltb s.client t.client ≡ x → Each (placed p (q ∷ ps)) (put_section s (t ∷ ss))
      go on true e = rw (placed-behind p q ps (clients-same ∙ e), behind-it s t ss e) (h.0, on)
      go on false e = rw (placed-before p q ps (clients-same ∙ e), before s t ss e) (one, h)

  each-inserted : (ps l : List Planned) (ss m : List Section) → Each ps ss → Each l m → Each (inserted ps l) (into ss m)
  unfolding Each inserted into
  each-inserted [] l [] m h k = k
  each-inserted [] l (s ∷ ss) m h k = absurd h
  each-inserted (p ∷ ps) l [] m h k = absurd h
  each-inserted (p ∷ ps) l (s ∷ ss) m h k = each-inserted ps (placed p l) ss (put_section s m) h.1 (each-place p s l m h.0 k)

  each-keys : (ps : List Planned) (ss : List Section) → Each ps ss → keys_in (written (stops_of rows ps)) ≡ keys_in (sections_tokens u ss)
  unfolding Each stops_of sections_tokens
  each-keys [] [] h = ap keys_in (stops-none u rows (length rows))
  each-keys [] (s ∷ ss) h = absurd h
  each-keys (p ∷ ps) [] h = absurd h
  each-keys (p ∷ ps) (s ∷ ss) h =
      h.0.keys (stops_of rows ps) ∙ ap (λ (l : List (List ℕ)). keys_in (section_tokens u s) ++ l) (each-keys ps ss h.1)
      ∙ sym (keys-append (section_tokens u s) (sections_tokens u ss))

-- ---- the plan of blocks that were read

module _ (u : List ℕ) (v : List Entry) (w : List ℕ) (bs : List Block) (short : length u < brim) (ordered : Ordered bs) (sound : All (Sound u) bs)
    (brimmed : length bs ≤ brim) (room : 5 * length (groups client_of bs) ≤ length w) (rows : List Block) (same : take (length bs) rows ≡ bs)
    (fits : length bs ≤ length rows) where
  abbrev gs : List (List Block)
  gs = groups client_of bs

  sections-each : Each u bs rows same fits short (inserted (plan_each u v 0 gs) []) (sections_of v bs)
  unfolding sections_of
  sections-each =
      let ss = keep_each v gs in
      let sorted : into ss [] ≡ falling ss = into-falling ss (each-distinct v gs (ordered-distinct bs ordered)) in
      subst (Each u bs rows same fits short (inserted (plan_each u v 0 gs) [])) sorted
      (each-inserted u bs rows same fits short (plan_each u v 0 gs) [] ss []
      (each-plans u bs rows same fits short v 0 gs (groups-all client_of (Sound u) bs sound) (sym (groups-joined client_of bs))) (each_none u bs rows same fits short))

  pub keys-are : keys_in (planned_tokens u rows (words_for u v w bs) (outcome_for u v w bs).sections) ≡ keys_in (sections_tokens u (sections_of v bs))
  unfolding planned_tokens outcome_for outcome_of words_for
  keys-are =
      let s = plan_all u v w unplanned 0 bs in
      let words = plan_all_words u v w unplanned 0 bs in
      let ends = (rows-come u v w bs ordered brimmed room).ends in
      let is : planned_from (ended_words words s) 0 (ended_count words s) ≡ inserted (plan_each u v 0 gs) [] =
      ap (planned_from (ended_words words s) 0) ends.count ∙ ends.list in
      ap (λ (l : List Planned). keys_in (stops_tokens u rows (length rows) (stops_of rows l))) is
      ∙ each-keys u bs rows same fits short (inserted (plan_each u v 0 gs) []) (sections_of v bs) sections-each

-- ---- the lane of keys takes numbers alone, and none of these is a key's number

abbrev Bare : List Token → Type 0
Bare ts = taken_all keys ts ≡ []

bare-append : (a b : List Token) → Bare a → Bare b → Bare (a ++ b)
bare-append a b p q = taken-append keys a b ∙ rw (p, q)

module _ (u : List ℕ) (b : Block) where
  place-bare : Bare (place_tokens u b)
  unfolding place_tokens left_tokens right_tokens parent_tokens key_tokens taken_all taken
  place-bare =
      chosen Bare (linked b)
      (λ _. bare-append (left_tokens b) (right_tokens b) (chosen Bare b.has_left (λ _. refl) (λ _. refl)) (chosen Bare b.has_right (λ _. refl) (λ _. refl)))
      (λ _. bare-append (parent_tokens u b) (key_tokens u b) (chosen Bare b.has_name (λ _. refl) (λ _. refl)) (chosen Bare b.has_key (λ _. refl) (λ _. refl)))

  content-bare : Bare (content_tokens u b)
  unfolding content_tokens marked_tokens format_tokens type_tokens taken_all taken
  content-bare =
      chosen Bare (is_deleted b.kind) (λ _. refl)
      (λ _. chosen Bare (is_binary b.kind) (λ _. refl)
      (λ _. chosen Bare (is_text b.kind) (λ _. refl)
      (λ _. chosen Bare (is_format b.kind) (λ _. refl)
      (λ _. chosen Bare (is_type b.kind) (λ _. chosen Bare (is_named b.type_number) (λ _. refl) (λ _. refl))
      (λ _. chosen Bare (is_any b.kind) (λ _. refl) (λ _. refl))))))

  block-bare : Bare (block_tokens u b)
  unfolding block_tokens taken_all taken
  block-bare =
      chosen Bare (is_gc b.kind) (λ _. refl)
      (λ _. chosen Bare (is_skip b.kind) (λ _. refl)
      (λ _. chosen Bare (is_item b.kind) (λ _. bare-append (place_tokens u b) (content_tokens u b) place-bare content-bare) (λ _. refl)))

module _ (u : List ℕ) where
  pieces-bare : (ps : List Piece) → Bare (pieces_tokens u ps)
  unfolding pieces_tokens taken_all
  pieces-bare [] = refl
  pieces-bare (p ∷ ps) = bare-append (block_tokens u (cut_row u p)) (pieces_tokens u ps) (block-bare u (cut_row u p)) (pieces-bare ps)

  section-bare : (s : Section) → Bare (section_tokens u s)
  unfolding section_tokens taken_all taken
  section-bare s = pieces-bare s.pieces

  pub sections-bare : (ss : List Section) → taken_all keys (sections_tokens u ss) ≡ []
  unfolding sections_tokens taken_all
  sections-bare [] = refl
  sections-bare (s ∷ ss) = bare-append (section_tokens u s) (sections_tokens u ss) (section-bare s) (sections-bare ss)
