-- A client's blocks in a diff, as it is read again: what is left of those in the update.
use Prim.Native.Nat.{ℕ, ◌+◌, ◌-◌, ◌≤◌, ◌<◌, max}
use mathlib.Core.Path.{◌≡◌, refl, sym, ap, subst, ◌∙◌}
use mathlib.Core.Logic.{◌⊎◌, inl, inr, ◌≢◌, ◌↔◌}
use mathlib.Core.Bool.{Bool, true, false}
use mathlib.Core.List.{List, [], ◌∷◌, ◌++◌, map, append-nil}
use native.Mathlib.Omega.{arith}
use lib.Dec.{T, ltb, eqb}
use borrow.Author.Tests.{ltb-true, eqb-true, eqb-false, eq-eqb, ne_eqb}
use Rattle.numbers.specs.Number.{pick}
use Rattle.block.specs.declared.Id.{Id}
use Rattle.block.specs.declared.Block.{Block}
use Rattle.block.specs.Row.{no_id, left_id, right_id, parent_id}
use Rattle.block.specs.Kinds.{is_item}
use Rattle.vector.specs.Vector.{Entry}
use Rattle.readings.specs.Sound.{All, owner, linked}
use Rattle.readings.specs.SoundInner.{Sound, Ordered}
use Rattle.readings.specs.Groups.{groups, Distinct}
use Rattle.readings.specs.GroupsInner.{joined, Single, clients}
use Rattle.readings.proofs.Groups.{groups-joined, groups-single, ordered-distinct}
use Rattle.kept.specs.Kept.{Piece, piece, Section, remote, falls, whole_piece, keep_from, with_pieces, keep_each, put_section, falling, client_of, sections_of}
use Rattle.kept.specs.KeptInner.{rows_of, SoundSection}
use Rattle.kept.specs.Cut.{is_whole, cut_row, shortened, begun_later}
use Rattle.kept.proofs.SectionsKept.{not-fallen, sections-sound}
use Rattle.written.specs.Written.{Alike, AllAlike, keyless, reread, pieces_read, sections_read}
use Rattle.sorting.specs.Rules.{queue, also, deps, others, unmet, free}
use Rattle.sorting.proofs.Numbers.{queue-owner}
use Rattle.knowledge.specs.Rests.{Rest, Rests, Remains}

-- ---- queues

abbrev Client : ℕ → List Block → Type 0
Client c bs = All (λ (b : Block). b.client ≡ c) bs

module _ (c : ℕ) where
  queue-append : (xs ys : List Block) → queue (xs ++ ys) c ≡ queue xs c ++ queue ys c
  unfolding queue
  queue-append [] ys = refl
  queue-append (b ∷ xs) ys = go (eqb b.client c) (queue-append xs ys)
    where
      go : (x : Bool) → queue (xs ++ ys) c ≡ queue xs c ++ queue ys c
          → pick x (b ∷ queue (xs ++ ys) c) (queue (xs ++ ys) c) ≡ pick x (b ∷ queue xs c) (queue xs c) ++ queue ys c
      go true rec = ap (λ (l : List Block). b ∷ l) rec
      go false rec = rec

  queue-own : (xs : List Block) → Client c xs → queue xs c ≡ xs
  unfolding queue
  queue-own [] h = refl
  queue-own (b ∷ xs) h = rw (eq-eqb b.client c h.0) (ap (λ (l : List Block). b ∷ l) (queue-own xs h.1))

  queue-other : (d : ℕ) → d ≢ c → (xs : List Block) → Client d xs → queue xs c ≡ []
  unfolding queue
  queue-other d n [] h = refl
  queue-other d n (b ∷ xs) h = rw (ne_eqb b.client c (λ p. n (sym h.0 ∙ p))) (queue-other d n xs h.1)

  queue-none : queue [] c ≡ []
  unfolding queue
  queue-none = refl

  -- blocks of one client
  queue-one : (d : ℕ) (xs : List Block) → Client d xs → queue xs c ≡ pick (eqb d c) xs []
  queue-one d xs h = go (eqb d c) refl
    where
      go : (x : Bool) → eqb d c ≡ x → queue xs c ≡ pick x xs []
      go true e = let p = eqb-true d c e in queue-own xs (subst (λ (x : ℕ). Client x xs) p h)
      go false e = queue-other d (eqb-false d c e) xs h

-- ---- a client's pieces among sections

unfoldable pieces_for : ℕ → List Section → List Piece
pieces_for c [] = []
pieces_for c (s ∷ ss) = pick (eqb s.client c) (s.pieces ++ pieces_for c ss) (pieces_for c ss)

module _ (c : ℕ) where
  -- a section passes only sections of other clients
  place-for : (s : Section) (ts : List Section) → pieces_for c (put_section s ts) ≡ pieces_for c (s ∷ ts)
  unfolding put_section pieces_for
  place-for s [] = refl
  place-for s (t ∷ ts) = go (ltb s.client t.client) refl (place-for s ts)
    where
      swap : (x : Bool) → eqb s.client c ≡ x → (y : Bool) → eqb t.client c ≡ y → s.client < t.client → (ps : List Piece)
          → pick y (t.pieces ++ pick x (s.pieces ++ ps) ps) (pick x (s.pieces ++ ps) ps)
          ≡ pick x (s.pieces ++ pick y (t.pieces ++ ps) ps) (pick y (t.pieces ++ ps) ps)
      swap true e true f l ps = absurd (omega (arith, eqb-true s.client c e, eqb-true t.client c f))
      swap true e false f l ps = refl
      swap false e true f l ps = refl
      swap false e false f l ps = refl

      go : (x : Bool) → ltb s.client t.client ≡ x → pieces_for c (put_section s ts) ≡ pieces_for c (s ∷ ts)
          → pieces_for c (pick x (t ∷ put_section s ts) (s ∷ (t ∷ ts))) ≡ pieces_for c (s ∷ (t ∷ ts))
      go true e rec =
          ap (λ (ps : List Piece). pick (eqb t.client c) (t.pieces ++ ps) ps) rec
          ∙ swap (eqb s.client c) refl (eqb t.client c) refl (ltb-true s.client t.client e) (pieces_for c ts)
      go false e rec = refl

  falling-for : (ss : List Section) → pieces_for c (falling ss) ≡ pieces_for c ss
  unfolding falling pieces_for
  falling-for [] = refl
  falling-for (s ∷ ss) =
      place-for s (falling ss) ∙ ap (λ (ps : List Piece). pick (eqb s.client c) (s.pieces ++ ps) ps) (falling-for ss)

  with-for : (d : ℕ) (ps : List Piece) (ss : List Section) → pieces_for c (with_pieces d ps ss) ≡ pick (eqb d c) (ps ++ pieces_for c ss) (pieces_for c ss)
  unfolding with_pieces pieces_for
  with-for d [] ss = go (eqb d c)
    where
      go : (x : Bool) → pieces_for c ss ≡ pick x (pieces_for c ss) (pieces_for c ss)
      go true = refl
      go false = refl
  with-for d (p ∷ ps) ss = refl

  none-joined : (gs : List (List Block)) → All (Single owner) gs → All (λ (d : ℕ). d ≢ c) (clients owner gs) → queue (joined gs) c ≡ queue [] c
  unfolding joined Single clients queue
  none-joined [] one new = refl
  none-joined ([] ∷ gs) one new = absurd one.0
  none-joined ((b ∷ g) ∷ gs) one new =
      queue-append c (b ∷ g) (joined gs) ∙ rw (queue-other c b.client new.0 (b ∷ g) (refl, one.0)) (none-joined gs one.1 new.1)

  kept-none : (k : ℕ) → keep_from k (queue [] c) ≡ []
  unfolding keep_from queue
  kept-none k = refl

  -- what is kept of groups, one a client
  each-for : (v : List Entry) (gs : List (List Block)) → All (Single owner) gs → Distinct (clients owner gs)
      → pieces_for c (keep_each v gs) ≡ keep_from (remote v c) (queue (joined gs) c)
  unfolding keep_each joined Single clients Distinct pieces_for
  each-for v [] one new = sym (kept-none (remote v c))
  each-for v ([] ∷ gs) one new = absurd one.0
  each-for v ((b ∷ g) ∷ gs) one new =
      with-for b.client (keep_from (remote v b.client) (b ∷ g)) (keep_each v gs)
      ∙ go (eqb b.client c) refl (each-for v gs one.1 new.1)
      ∙ ap (keep_from (remote v c)) (sym (queue-append c (b ∷ g) (joined gs) ∙ ap (λ (l : List Block). l ++ queue (joined gs) c) (queue-one c b.client (b ∷ g) (refl, one.0))))
    where
      go : (x : Bool) → eqb b.client c ≡ x → pieces_for c (keep_each v gs) ≡ keep_from (remote v c) (queue (joined gs) c)
          → pick x (keep_from (remote v b.client) (b ∷ g) ++ pieces_for c (keep_each v gs)) (pieces_for c (keep_each v gs))
          ≡ keep_from (remote v c) (pick x (b ∷ g) [] ++ queue (joined gs) c)
      go true e rec =
          let p : b.client ≡ c = eqb-true b.client c e in
          let none : queue (joined gs) c ≡ queue [] c = none-joined gs one.1 (subst (λ (x : ℕ). All (λ (d : ℕ). d ≢ x) (clients owner gs)) p new.0) in
          let fallen : pieces_for c (keep_each v gs) ≡ [] = rec ∙ ap (keep_from (remote v c)) none ∙ kept-none (remote v c) in
          ap (λ (ps : List Piece). keep_from (remote v b.client) (b ∷ g) ++ ps) fallen
          ∙ append-nil (keep_from (remote v b.client) (b ∷ g))
          ∙ ap (λ (x : ℕ). keep_from (remote v x) (b ∷ g)) p
          ∙ ap (keep_from (remote v c)) (sym (ap (λ (l : List Block). b ∷ (g ++ l)) (none ∙ queue-none c) ∙ ap (λ (l : List Block). b ∷ l) (append-nil g)))
      go false e rec = rec

-- ---- a record that is read again

module _ (c : ℕ) (met : Id → Bool) where
  abbrev Free : List Id → Type 0
  Free ds = T (free (unmet met (others c ds)))

  free_more : (d : Id) (ds : List Id) → Free (d ∷ ds) ↔ (((d.client ≡ c) ⊎ T (met d)) × Free ds)
  unfolding others unmet
  free_more d ds = go (eqb d.client c) refl (met d) refl
    where
      go : (x : Bool) → eqb d.client c ≡ x → (y : Bool) → met d ≡ y
          → T (free (unmet met (pick x (others c ds) (d ∷ others c ds)))) ↔ (((d.client ≡ c) ⊎ T (met d)) × Free ds)
      go true e y f = ((λ t. (inl (eqb-true d.client c e), t)), (λ w. w.1))
      go false e true f = rw f ((λ t. (inr tt, t)), (λ w. w.1))
      go false e false f = rw f ((λ t. absurd t), (λ w. elim w.0 [ inl p ↦ absurd (eqb-false d.client c e p) | inr h ↦ absurd h ]))

  less-free : (x : Bool) (d : Id) (ds : List Id) → Free (also x d ds) → Free ds
  less-free false d ds t = t
  less-free true d ds t = ((free_more d ds).0 t).1

  both-free : (x : Bool) (d : Id) (ds es : List Id) → (Free ds → Free es) → Free (also x d ds) → Free (also x d es)
  both-free false d ds es f t = f t
  both-free true d ds es f t = let w = (free_more d ds).0 t in (free_more d es).1 (w.0, f w.1)

  own-free : (x : Bool) (i : Id) (ds : List Id) → i.client ≡ c → Free ds → Free (also x (pick x i no_id) ds)
  own-free false i ds p t = t
  own-free true i ds p t = (free_more i ds).1 (inl p, t)

  -- a block that begins later waits for its own client and for its right id
  begun-free : (u : List ℕ) (p : Piece) → p.row.client ≡ c → Free (deps p.row) → Free (deps (begun_later u p))
  unfolding deps
  begun-free u p own t =
      let b = p.row in
      own-free (is_item b.kind) (record { client = b.client; clock = b.clock + p.from - 1 }) (also b.has_right (right_id b) []) own
      (both-free b.has_right (right_id b) (also b.has_parent (parent_id b) []) [] (less-free b.has_parent (parent_id b) [])
      (less-free b.has_left (left_id b) (also b.has_right (right_id b) (also b.has_parent (parent_id b) [])) t))

module _ (c k : ℕ) where
  itself : (b : Block) → Rest c k b b
  itself b = record { kind = refl; end = refl; start = inl refl; waits = λ met t. t }

  -- a key is nothing to a sorter
  rest-reread : (b e : Block) → Rest c k b e → Rest c k b (reread e)
  unfolding reread deps
  rest-reread b e r = go (linked e)
    where
      go : (x : Bool) → Rest c k b (pick x (keyless e) e)
      go true = record { kind = r.kind; end = r.end; start = r.start; waits = r.waits }
      go false = r

  -- nor is where names, keys, marks and parts lie
  rest-alike : (d : List ℕ) (e : Block) (u : List ℕ) (b a : Block) → Alike d e u a → Rest c k b a → Rest c k b e
  unfolding deps
  rest-alike d e u b a same r =
      let clock : e.clock ≡ a.clock = ap (λ (x : Block). x.clock) same.same in
      let size : e.length.0 ≡ a.length.0 = ap (λ (x : Block). x.length.0) same.same in
      record {
        kind = ap (λ (x : Block). x.kind) same.same ∙ r.kind;
        end = omega (arith, r.end);
        start = go clock r.start;
        waits = λ met t. subst (λ (ds : List Id). T (free (unmet met (others c ds)))) (sym (ap deps same.same)) (r.waits met t);
      }
    where
      go : e.clock ≡ a.clock → (a.clock ≡ b.clock) ⊎ (a.clock ≤ k) → (e.clock ≡ b.clock) ⊎ (e.clock ≤ k)
      go p (inl q) = inl (p ∙ q)
      go p (inr h) = inr (omega arith)

  -- what a diff keeps of a block that does not fall
  rest-cut : (u : List ℕ) (b : Block) (n : ℕ) → b.client ≡ c → b.clock + n ≤ max b.clock k → n ≤ b.length.0
      → Rest c k b (cut_row u (piece b n b.length.0))
  unfolding cut_row is_whole
  rest-cut u b n own low fits = go (eqb n 0) refl (eqb b.length.0 b.length.0) refl
    where
      go : (x : Bool) → eqb n 0 ≡ x → (y : Bool) → eqb b.length.0 b.length.0 ≡ y
          → Rest c k b (pick (pick x y false) b (pick x (shortened u (piece b n b.length.0)) (begun_later u (piece b n b.length.0))))
      go true e true f = itself b
      go true e false f = absurd (eqb-false b.length.0 b.length.0 f refl)
      go false e y f =
          let some = eqb-false n 0 e in
          record {
            kind = refl;
            end = omega arith;
            start = inr (omega (arith, some));
            waits = λ met t. begun-free c met u (piece b n b.length.0) own t;
          }

  module _ (d u : List ℕ) where
    whole-rests : (q es : List Block) → All (λ (b : Block). b.client ≡ c) q → AllAlike d es u (pieces_read u (map whole_piece q))
        → Rests c k (rows_of (map whole_piece q)) es
    unfolding AllAlike pieces_read Rests
    whole-rests [] [] own a = tt
    whole-rests [] (e ∷ es) own a = absurd a
    whole-rests (b ∷ q) [] own a = absurd a
    whole-rests (b ∷ q) (e ∷ es) own a = (
      rest-alike d e u b (reread (cut_row u (whole_piece b))) a.0
          (rest-reread b (cut_row u (whole_piece b)) (rest-cut u b 0 own.0 (omega arith) (omega arith))),
      whole-rests q es own.1 a.1,
    )

    first-rests : (b : Block) (q es : List Block) → All (λ (b : Block). b.client ≡ c) (b ∷ q) → falls k b ≡ false
        → AllAlike d es u (pieces_read u (piece b (k - b.clock) b.length.0 ∷ map whole_piece q))
        → Rests c k (rows_of (piece b (k - b.clock) b.length.0 ∷ map whole_piece q)) es
    unfolding AllAlike pieces_read Rests
    first-rests b q [] own stays a = absurd a
    first-rests b q (e ∷ es) own stays a = (
      rest-alike d e u b (reread (cut_row u (piece b (k - b.clock) b.length.0))) a.0
          (rest-reread b (cut_row u (piece b (k - b.clock) b.length.0))
          (rest-cut u b (k - b.clock) own.0 (omega arith) (omega (arith, (not-fallen k b stays).end)))),
      whole-rests q es own.1 a.1,
    )

    -- what a diff keeps of a client's blocks
    kept-rests : (q es : List Block) → All (λ (b : Block). b.client ≡ c) q → AllAlike d es u (pieces_read u (keep_from k q)) → Remains c k q es
    unfolding keep_from
    kept-rests [] es own a = whole-rests [] es own a
    kept-rests (b ∷ q) es own a = go (falls k b) refl (kept-rests q es own.1) a
      where
        go : (x : Bool) → falls k b ≡ x → (AllAlike d es u (pieces_read u (keep_from k q)) → Rests c k (rows_of (keep_from k q)) es)
            → AllAlike d es u (pieces_read u (pick x (keep_from k q) (piece b (k - b.clock) b.length.0 ∷ map whole_piece q)))
            → Rests c k (rows_of (pick x (keep_from k q) (piece b (k - b.clock) b.length.0 ∷ map whole_piece q))) es
        go true e rec a = rec a
        go false e rec a = first-rests b q es own e a

-- ---- sections as they are read again

pieces_none : (u : List ℕ) → pieces_read u [] ≡ []
unfolding pieces_read
pieces_none u = refl

pieces-append : (u : List ℕ) (ps qs : List Piece) → pieces_read u (ps ++ qs) ≡ pieces_read u ps ++ pieces_read u qs
unfolding pieces_read
pieces-append u [] qs = refl
pieces-append u (p ∷ ps) qs = ap (λ (l : List Block). reread (cut_row u p) ∷ l) (pieces-append u ps qs)

row-client : (u : List ℕ) (p : Piece) → (reread (cut_row u p)).client ≡ p.row.client
unfolding reread cut_row
row-client u p = go (is_whole p) (eqb p.from 0) (linked (cut_row u p))
  where
    go : (x y z : Bool)
        → (pick z (keyless (pick x p.row (pick y (shortened u p) (begun_later u p)))) (pick x p.row (pick y (shortened u p) (begun_later u p)))).client
        ≡ p.row.client
    go true y true = refl
    go true y false = refl
    go false true true = refl
    go false true false = refl
    go false false true = refl
    go false false false = refl

pieces-client : (u : List ℕ) (d : ℕ) (ps : List Piece) → Client d (rows_of ps) → Client d (pieces_read u ps)
unfolding pieces_read
pieces-client u d [] h = tt
pieces-client u d (p ∷ ps) h = (row-client u p ∙ h.0, pieces-client u d ps h.1)

module _ (c : ℕ) (u : List ℕ) where
  sections-queue : (ss : List Section) → All (SoundSection u) ss → queue (sections_read u ss) c ≡ pieces_read u (pieces_for c ss)
  unfolding sections_read pieces_for
  sections-queue [] h = queue-none c ∙ sym (pieces_none u)
  sections-queue (s ∷ ss) h =
      queue-append c (pieces_read u s.pieces) (sections_read u ss)
      ∙ ap (λ (l : List Block). l ++ queue (sections_read u ss) c) (queue-one c s.client (pieces_read u s.pieces) (pieces-client u s.client s.pieces h.0.client))
      ∙ go (eqb s.client c) (sections-queue ss h.1)
    where
      go : (x : Bool) → queue (sections_read u ss) c ≡ pieces_read u (pieces_for c ss)
          → pick x (pieces_read u s.pieces) [] ++ queue (sections_read u ss) c ≡ pieces_read u (pick x (s.pieces ++ pieces_for c ss) (pieces_for c ss))
      go true rec = ap (λ (l : List Block). pieces_read u s.pieces ++ l) rec ∙ sym (pieces-append u s.pieces (pieces_for c ss))
      go false rec = rec

  queue-alike : (d : List ℕ) (es rs : List Block) → AllAlike d es u rs → AllAlike d (queue es c) u (queue rs c)
  unfolding AllAlike queue
  queue-alike d [] [] a = tt
  queue-alike d [] (x ∷ rs) a = absurd a
  queue-alike d (e ∷ es) [] a = absurd a
  queue-alike d (e ∷ es) (x ∷ rs) a =
      let same : e.client ≡ x.client = ap (λ (b : Block). b.client) a.0.same in
      subst (λ (n : ℕ). AllAlike d (pick (eqb n c) (e ∷ queue es c) (queue es c)) u (pick (eqb x.client c) (x ∷ queue rs c) (queue rs c))) (sym same)
      (go (eqb x.client c) (queue-alike d es rs a.1))
    where
      go : (t : Bool) → AllAlike d (queue es c) u (queue rs c) → AllAlike d (pick t (e ∷ queue es c) (queue es c)) u (pick t (x ∷ queue rs c) (queue rs c))
      go true rec = (a.0, rec)
      go false rec = rec

  -- ---- a diff, read again

  -- es are read of the bytes d, as the records that a diff keeps of bs
  pub remains : (v : List Entry) (bs : List Block) → Ordered bs → All (Sound u) bs → (d : List ℕ) (es : List Block)
      → AllAlike d es u (sections_read u (sections_of v bs)) → Remains c (remote v c) (queue bs c) (queue es c)
  unfolding sections_of
  remains v bs ordered sound d es a =
      let same : queue (sections_read u (sections_of v bs)) c ≡ pieces_read u (keep_from (remote v c) (queue bs c)) =
      sections-queue (sections_of v bs) (sections-sound v bs ordered u sound)
      ∙ ap (pieces_read u) (falling-for c (keep_each v (groups client_of bs))
      ∙ each-for c v (groups client_of bs) (groups-single owner bs) (ordered-distinct bs ordered)
      ∙ ap (λ (l : List Block). keep_from (remote v c) (queue l c)) (groups-joined owner bs)) in
      kept-rests c (remote v c) d u (queue bs c) (queue es c) (queue-owner bs c)
      (subst (AllAlike d (queue es c) u) same (queue-alike d es (sections_read u (sections_of v bs)) a))
