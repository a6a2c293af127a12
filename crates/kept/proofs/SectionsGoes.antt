-- The stops of the plan go through what is kept, piece by piece.
use Prim.Native.Nat.{ℕ, suc, ◌+◌, ◌-◌, ◌*◌, ◌≤◌, ◌<◌}
use mathlib.Core.Path.{◌≡◌, refl, sym, ap, ap₂, subst, ◌∙◌}
use mathlib.Core.Bool.{Bool, true, false}
use mathlib.Core.List.{List, [], ◌∷◌, ◌++◌, map}
use native.Mathlib.Omega.{arith}
use lib.Dec.{ltb}
use lib.ListN.{length, get_or, take, drop, length-drop, length-map}
use lib.Seq.{get_or-drop, get_or-take, take_all, drop-drop, drop-append_seam}
use Rattle.numbers.specs.Number.{pick}
use Rattle.block.specs.declared.Block.{Block}
use Rattle.block.specs.Row.{no_block}
use Rattle.vector.specs.Vector.{Entry}
use Rattle.readings.specs.Sound.{All}
use Rattle.readings.specs.SoundInner.{Sound, Ordered}
use Rattle.readings.specs.Groups.{groups}
use Rattle.readings.specs.GroupsInner.{joined}
use Rattle.readings.proofs.Groups.{groups-joined, groups-all, ordered-distinct}
use Rattle.parts.specs.Brim.{brim}
use Rattle.kept.specs.Kept.{Section, remote, falls, piece, whole_piece, keep_from, with_pieces, keep_each, put_section, falling, client_of, sections_of}
use Rattle.kept.specs.Cut.{torn, torn_pieces, any_torn}
use Rattle.kept.specs.Plan.{Planned, planned_from, placed, skip_for, Stop, stop_at, stop, rest_of, onward, stops_of, unplanned, ended_words, ended_count, plan_all, plan_all_words, Of, Opens, further, GoesOn, Goes}
use Rattle.kept.proofs.SectionsPlaced.{alone, before, behind, falling-length, into, into-falling}
use Rattle.kept.proofs.SectionsKept.{Stays, not-fallen, each-distinct, sections-length}
use Rattle.kept.proofs.Words.{placed_first, placed-before, placed-behind}
use Rattle.kept.proofs.SectionsRun.{torn_at, planned_at, plan_one, or}
use Rattle.kept.proofs.SectionsPlan.{plan_each, inserted, rows-come}
use Rattle.kept.proofs.SectionsCut.{torn-first, first-sane, first-left, whole-sane, whole-left}

-- ---- rows from row i on

record Row (all : List Block) (i : ℕ) (b : Block) (rest : List Block) : Type 0 where
  within : i < length all
  is : get_or all i no_block ≡ b
  later : drop (i + 1) all ≡ rest

row-at : (all : List Block) (i : ℕ) (b : Block) (rest : List Block) → drop i all ≡ b ∷ rest → Row all i b rest
row-at all i b rest e =
    record {
      within = omega (arith, length-drop i all, ap length e);
      is = ap (λ (n : ℕ). get_or all n no_block) none ∙ sym (get_or-drop i all 0 no_block) ∙ ap (λ (l : List Block). get_or l 0 no_block) e;
      later = sym (drop-drop 1 i all) ∙ ap (drop 1) e;
    }
  where
    none : i ≡ i + 0
    none = omega arith

-- a choice that is false
neither : (a b : Bool) → or a b ≡ false → (a ≡ false) × (b ≡ false)
neither true b e = absurd (let z : ◌≡◌ {A = ℕ} 0 1 = cc in omega arith)
neither false b e = (refl, e)

-- a table that begins with these blocks has them as its rows
pub row_is : (all rows : List Block) → take (length all) rows ≡ all → (i : ℕ) → i < length all → get_or rows i no_block ≡ get_or all i no_block
row_is all rows same i h = sym (get_or-take (length all) rows i no_block h) ∙ ap (λ (l : List Block). get_or l i no_block) same

module _ (u : List ℕ) (all rows : List Block) (same : take (length all) rows ≡ all) (short : length u < brim) where
  abbrev stops_one : Planned → List Stop → List Stop
  stops_one p sts = stop rows p.first p.from p.skip p.count ∷ (onward rows (p.first + 1) (p.count - 1) ++ sts)

  row_here : (i : ℕ) (b : Block) (rest : List Block) → Row all i b rest → b ≡ get_or rows i no_block
  row_here i b rest row = sym (row_is all rows same i row.within ∙ row.is)

  -- ---- of one client

  whole_of : (i : ℕ) (b : Block) (rest : List Block) → Sound u b → Row all i b rest → Of u all (stop rows i 0 0 0) (whole_piece b)
  whole_of i b rest sound row =
      subst (λ (c : Block). Of u all (stop_at i (rest_of c 0 0) 0) (whole_piece b)) (row_here i b rest row)
      (record { source = refl; within = row.within; row = row.is; from = refl; to = refl; sound = sound; fits = whole-sane u b sound short; left = whole-left u b sound })

  further-go : (i : ℕ) (g rest : List Block) (sts : List Stop) (ss : List Section) → All (Sound u) g → drop i all ≡ g ++ rest → Goes u all sts ss
      → GoesOn u all (onward rows i (length g) ++ sts) (map whole_piece g) ss
  unfolding onward GoesOn
  further-go i [] rest sts ss sound e h = h
  further-go i (b ∷ g) rest sts ss sound e h =
      let row = row-at all i b (g ++ rest) e in
      (refl, whole_of i b (g ++ rest) sound.0 row, further-go (i + 1) g rest sts ss sound.1 row.later h)

  -- a planned section is this one
  record Plans (p : Planned) (s : Section) : Type 0 where
    client : p.client ≡ s.client
    goes : torn_pieces u s.pieces ≡ false → (sts : List Stop) (ss : List Section) → Goes u all sts ss → Goes u all (stops_one p sts) (s ∷ ss)

  Each : List Planned → List Section → Type 0
  Each [] [] = Unit {0}
  Each [] (s ∷ ss) = ⊥
  Each (p ∷ ps) [] = ⊥
  Each (p ∷ ps) (s ∷ ss) = Plans p s × Each ps ss

  each_none : Each [] []
  unfolding Each
  each_none = tt

  first-plans : (c k i : ℕ) (b : Block) (g rest : List Block) → Sound u b → All (Sound u) g → drop i all ≡ b ∷ (g ++ rest) → Stays k b
      → Plans (planned_at u c k i b g)
      (record { client = c; pieces = piece b (k - b.clock) b.length.0 ∷ map whole_piece g })
  unfolding GoesOn Opens further torn_pieces
  first-plans c k i b g rest sound sounds e stays =
      record {
        client = refl;
        goes = λ untorn sts ss h.
            let n = k - b.clock in
            let row = row-at all i b (g ++ rest) e in
            let part = neither (torn u (piece b n b.length.0)) (torn_pieces u (map whole_piece g)) untorn in
            let inside : n ≤ b.length.0 = omega (arith, stays.end) in
            let whole : torn_at u b n ≡ false = sym (torn-first u b sound n) ∙ part.0 in
            let first : Of u all (stop rows i n (skip_for u b n) (suc (length g))) (piece b n b.length.0) =
            subst (λ (c : Block). Of u all (stop_at i (rest_of c n (skip_for u b n)) (suc (length g))) (piece b n b.length.0)) (row_here i b (g ++ rest) row)
            (record {
              source = refl;
              within = row.within;
              row = row.is;
              from = refl;
              to = refl;
              sound = sound;
              fits = first-sane u b sound n inside whole short;
              left = first-left u b sound n inside whole;
            }) in (
              (ap suc (sym (length-map g whole_piece)), first),
              subst (λ (m : ℕ). GoesOn u all (onward rows (i + 1) m ++ sts) (map whole_piece g) ss) one_less (further-go (i + 1) g rest sts ss sounds row.later h),
            );
      }
    where
      one_less : length g ≡ suc (length g) - 1
      one_less = omega arith

  each-one : (c k i : ℕ) (g rest : List Block) (ps : List Planned) (ss : List Section) → All (Sound u) g → drop i all ≡ g ++ rest → Each ps ss
      → Each (plan_one u c k i g ++ ps) (with_pieces c (keep_from k g) ss)
  unfolding plan_one keep_from with_pieces Each
  each-one c k i [] rest ps ss sound e h = h
  each-one c k i (b ∷ g) rest ps ss sound e h =
      go (each-one c k (i + 1) g rest ps ss sound.1 (row-at all i b (g ++ rest) e).later h) (falls k b) refl
    where
      go : Each (plan_one u c k (i + 1) g ++ ps) (with_pieces c (keep_from k g) ss) → (t : Bool) → falls k b ≡ t
          → Each (pick t (plan_one u c k (i + 1) g) (planned_at u c k i b g ∷ []) ++ ps)
          (with_pieces c (pick t (keep_from k g) (piece b (k - b.clock) b.length.0 ∷ map whole_piece g)) ss)
      go on true q = on
      go on false q = (first-plans c k i b g rest sound.0 sound.1 e (not-fallen k b q), h)

  -- ---- of all clients

  each-plans : (v : List Entry) (i : ℕ) (gs : List (List Block)) → All (All (Sound u)) gs → drop i all ≡ joined gs → Each (plan_each u v i gs) (keep_each v gs)
  unfolding plan_each keep_each joined
  each-plans v i [] sound e = each_none
  each-plans v i ([] ∷ gs) sound e = each-plans v i gs sound.1 e
  each-plans v i ((b ∷ g) ∷ gs) sound e =
      let j = i + suc (length g) in
      let on : drop j all ≡ joined gs = sym (drop-drop (suc (length g)) i all) ∙ ap (drop (suc (length g))) e ∙ drop-append_seam g (joined gs) in
      each-one b.client (remote v b.client) i (b ∷ g) (joined gs) (plan_each u v j gs) (keep_each v gs) sound.0 e (each-plans v j gs sound.1 on)

  each-length : (ps : List Planned) (ss : List Section) → Each ps ss → length ps ≡ length ss
  unfolding Each
  each-length [] [] h = refl
  each-length [] (s ∷ ss) h = absurd h
  each-length (p ∷ ps) [] h = absurd h
  each-length (p ∷ ps) (s ∷ ss) h = ap suc (each-length ps ss h.1)

  -- ---- in their places

  each-place : (p : Planned) (s : Section) (ps : List Planned) (ss : List Section) → Plans p s → Each ps ss → Each (placed p ps) (put_section s ss)
  unfolding Each
  each-place p s [] [] one h = rw (placed_first p, alone s) (one, tt)
  each-place p s [] (t ∷ ss) one h = absurd h
  each-place p s (q ∷ ps) [] one h = absurd h
  each-place p s (q ∷ ps) (t ∷ ss) one h = go (each-place p s ps ss one h.1) (ltb s.client t.client) refl
    where
      clients-same : ltb p.client q.client ≡ ltb s.client t.client
      clients-same = ap₂ ltb one.client h.0.client

      go : Each (placed p ps) (put_section s ss) → (x : Bool) → ltb s.client t.client ≡ x → Each (placed p (q ∷ ps)) (put_section s (t ∷ ss))
      go on true e = rw (placed-behind p q ps (clients-same ∙ e), behind s t ss e) (h.0, on)
      go on false e = rw (placed-before p q ps (clients-same ∙ e), before s t ss e) (one, h)

  each-inserted : (ps l : List Planned) (ss m : List Section) → Each ps ss → Each l m → Each (inserted ps l) (into ss m)
  unfolding Each inserted into
  each-inserted [] l [] m h k = k
  each-inserted [] l (s ∷ ss) m h k = absurd h
  each-inserted (p ∷ ps) l [] m h k = absurd h
  each-inserted (p ∷ ps) l (s ∷ ss) m h k = each-inserted ps (placed p l) ss (put_section s m) h.1 (each-place p s l m h.0 k)

  each_goes : (ps : List Planned) (ss : List Section) → any_torn u ss ≡ false → Each ps ss → Goes u all (stops_of rows ps) ss
  unfolding Each stops_of any_torn GoesOn
  each_goes [] [] e h = tt
  each_goes [] (s ∷ ss) e h = absurd h
  each_goes (p ∷ ps) [] e h = absurd h
  each_goes (p ∷ ps) (s ∷ ss) e h =
      let none = neither (torn_pieces u s.pieces) (any_torn u ss) e in
      h.0.goes none.0 (stops_of rows ps) ss (each_goes ps ss none.1 h.1)

-- ---- the plan of all rows: how many sections, in how many words, and where its stops go, in any table that begins with these rows
pub record PlanOf (u : List ℕ) (v : List Entry) (bs : List Block) (w W : List ℕ) (n : ℕ) : Type 0 where
  pub count : n ≡ length (sections_of v bs)
  pub size : length W ≡ length w
  pub room : 5 * n ≤ length W
  pub goes : (rows : List Block) → take (length bs) rows ≡ bs → any_torn u (sections_of v bs) ≡ false
      → Goes u bs (stops_of rows (planned_from W 0 n)) (sections_of v bs)

module _ (u : List ℕ) (v : List Entry) (w : List ℕ) (bs : List Block) (short : length u < brim) (ordered : Ordered bs) (sound : All (Sound u) bs)
    (brimmed : length bs ≤ brim) (room : 5 * length (groups client_of bs) ≤ length w) where
  clients-each : (rows : List Block) (same : take (length bs) rows ≡ bs) → Each u bs rows same short (plan_each u v 0 (groups client_of bs)) (keep_each v (groups client_of bs))
  clients-each rows same = each-plans u bs rows same short v 0 (groups client_of bs) (groups-all client_of (Sound u) bs sound) (sym (groups-joined client_of bs))

  sections-each : (rows : List Block) (same : take (length bs) rows ≡ bs) → Each u bs rows same short (inserted (plan_each u v 0 (groups client_of bs)) []) (sections_of v bs)
  unfolding sections_of
  sections-each rows same =
      let gs = groups client_of bs in
      let ss = keep_each v gs in
      let sorted : into ss [] ≡ falling ss = into-falling ss (each-distinct v gs (ordered-distinct bs ordered)) in
      subst (Each u bs rows same short (inserted (plan_each u v 0 gs) [])) sorted
      (each-inserted u bs rows same short (plan_each u v 0 gs) [] ss [] (clients-each rows same) (each_none u bs rows same short))

  planned-count : length (plan_each u v 0 (groups client_of bs)) ≡ length (sections_of v bs)
  unfolding sections_of
  planned-count =
      let gs = groups client_of bs in
      let same = take_all (length bs) bs (omega arith) in
      each-length u bs bs same short (plan_each u v 0 gs) (keep_each v gs) (clients-each bs same) ∙ sym (falling-length (keep_each v gs))

  pub plan-kept : PlanOf u v bs w (ended_words (plan_all_words u v w unplanned 0 bs) (plan_all u v w unplanned 0 bs))
      (ended_count (plan_all_words u v w unplanned 0 bs) (plan_all u v w unplanned 0 bs))
  plan-kept =
      let s = plan_all u v w unplanned 0 bs in
      let words = plan_all_words u v w unplanned 0 bs in
      let ps = plan_each u v 0 (groups client_of bs) in
      let ends = (rows-come u v w bs ordered brimmed room).ends in
      let is : planned_from (ended_words words s) 0 (ended_count words s) ≡ inserted ps [] = ap (planned_from (ended_words words s) 0) ends.count ∙ ends.list in
      record {
        count = ends.count ∙ planned-count;
        size = ends.size;
        room = omega (arith, ends.count, planned-count, sections-length v bs, ends.size);
        goes = λ rows same untorn. subst (λ (l : List Planned). Goes u bs (stops_of rows l) (sections_of v bs)) (sym is)
            (each_goes u bs rows same short (inserted ps []) (sections_of v bs) untorn (sections-each rows same));
      }
